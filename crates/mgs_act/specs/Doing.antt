-- What is done for the session at an index, by what was decided for it.
use Rattle.std.specs.Prelude.{◌≡◌, ◌<◌, ℕ, Bool, true, false, List, [], ◌∷◌, length, map, Option, Some, Ok, slice_get}
use Rattle.std.specs.List.{position_or_len}
use Rattle.mgs_model.specs.Access.{Directory}
use Rattle.mgs_laws.specs.Apart.{touched_by}
use Rattle.mgs_model.specs.Apply.{act, apply, change_first, outcome_in}
use Rattle.mgs_model.specs.Events.{act_effects}
use Rattle.mgs_model.specs.Outcome.{Act}
use Rattle.mgs_laws.specs.Refusals.{takes_memory}
use Rattle.mgs_model.specs.Outcome as outcomes
use Rattle.mgs_model.specs.World.{State, World}
use Rattle.mgs_model.specs.declared.entry.Entry.{Entry}
use Rattle.mgs_model.specs.declared.touched.Touched.{Touched}
use Rattle.mgs_store.specs.Stores.{IsCounted}
use Rattle.mgs_births.specs.Reports.{Did}
use Rattle.mgs_births.specs.Tapes.{Tape, tape_done}
use Rattle.mgs_births.specs.Telling.{StoreTold, Tells}
use Rattle.mgs_buffers.specs.MarkedBuffer.{MarkedBuffer, marked_at, marked_named, marked_list_set}
use Rattle.mgs_session.specs.declared.Session.{Session}
use Rattle.mgs_plan.specs.Deciding.{CanPerform, outcome_read, view_at}
use Rattle.mgs_plan.specs.Searching.{answer_act}
use Rattle.mgs_plan.specs.Tells.{touched_in}
use Rattle.mgs_plan.specs.Listed.{entries_planned}
use Rattle.mgs_plan.specs.declared.outcome.EntryPlan.{EntryPlan}
use Rattle.mgs_plan.specs.declared.outcome.Outcome.{Outcome}
use Rattle.mgs_plan.specs.declared.action.Action.{Action}
use Rattle.mgs_plan.specs.declared.outcome.Outcome.TheVariants.{Acts, Copies}
use Rattle.mgs_act.specs.declared.acts.Reply.{Reply}
use Rattle.mgs_act.specs.declared.copy.Copying.{Copying}
use Rattle.mgs_act.specs.declared.text_action.Spot.{Spot}
pub use Rattle.mgs_world.specs.Acted.{IsRefusable}
use Rattle.mgs_world.specs.Sound.{IsSound}
use Rattle.mgs_world.specs.Worlds.{idle, state_at, session_id, world_of}

-- that it can be done
abbrev pub CanDo : Directory → ℕ → List MarkedBuffer → List Session → Outcome → Type 0
CanDo directory at ks xs o = (h : Session) → slice_get xs at ≡ Some h → CanPerform directory ks h o

-- what is asked of the world: the session is at rest, and this can be done for it
pub record IsReady (directory : Directory) (at : ℕ) (ks : List MarkedBuffer) (xs : List Session) (o : Outcome) : Type 0 where
  pub sound : IsSound ks xs
  pub within : at < length xs
  pub fresh : state_at at xs ≡ idle (state_at at xs)
  pub can : CanDo directory at ks xs o

-- AN OUTCOME OF THE MODEL IS DONE, and it tells what it touched; what it saves was accepted
pub record Does (old new : World) (before after : StoreTold) (id : ℕ) (o : outcomes.Outcome) (touched : Touched) : Type 0 where
  pub world : new ≡ apply old id o
  pub touches : touched ≡ touched_by o.effect
  pub tells : Tells (Did o.effect ∷ []) before after

-- WHAT WAS DECIDED IS DONE: the store's answer to a save was a refusal only where a fault was counted
pub record IsDone (directory : Directory) (at : ℕ) (o : Outcome) (ks : List MarkedBuffer) (xs : List Session) (before : StoreTold) (ls : List MarkedBuffer) (ys : List Session) (after : StoreTold) (touched : Touched) : Type 0 where
  pub stored : Bool
  pub fault : stored ≡ false → IsCounted before.failed after.failed
  pub does : (id : ℕ) (next : Option ℕ) (h : Session) → at ≡ position_or_len (session_id id) xs → slice_get xs at ≡ Some h → Does (world_of directory ks xs next) (world_of directory ls ys next) before after id (outcome_read ks (view_at directory ks xs next h) o stored) touched

-- without a store that is asked
abbrev pub IsQuietlyDone : Directory → ℕ → Outcome → List MarkedBuffer → List Session → List MarkedBuffer → List Session → Touched → Type 0
IsQuietlyDone directory at o ks xs ls ys touched = (t : StoreTold) → IsDone directory at o ks xs t ls ys t touched

-- that the access list of the buffer of a name is as it was planned
abbrev pub IsListSet : List ℕ → EntryPlan → List MarkedBuffer → List MarkedBuffer → Type 0
IsListSet name plan ks ls =
    (entries : List Entry) → entries_planned plan (marked_at name ks).buffer.entries ≡ Ok entries → ls ≡ change_first (marked_named name) (marked_list_set entries) ks

-- and that it is on the tape
abbrev pub IsListTaped : List ℕ → EntryPlan → List MarkedBuffer → Tape → Tape → Type 0
IsListTaped name plan ks before after =
    (entries : List Entry) → entries_planned plan (marked_at name ks).buffer.entries ≡ Ok entries → after ≡ tape_done (outcomes.SetList name entries) before

-- that it takes memory
abbrev pub TakesMemory : ℕ → Outcome → List MarkedBuffer → List Session → Type 0
TakesMemory at o ks xs =
    (directory : Directory) (id : ℕ) (next : Option ℕ) (h : Session) → at ≡ position_or_len (session_id id) xs → slice_get xs at ≡ Some h → takes_memory (outcome_read ks (view_at directory ks xs next h) o true) ≡ true

-- AN ACT: the store's answer to a save was a refusal only where a fault was counted, what the act saves was accepted, and its deed is on the
-- tape. A denial is recorded by the caller
pub record ActedBy (old new : World) (before after : StoreTold) (id : ℕ) (c : Act) : Type 0 where
  pub stored : Bool
  pub world : new ≡ act old id c stored
  pub fault : stored ≡ false → IsCounted before.failed after.failed
  pub tells : Tells (map Did (act_effects old id c stored)) before after

-- and it tells what it touched
pub record DoneBy (touched : Touched) (old new : World) (before after : StoreTold) (id : ℕ) (c : Act) : Type 0 where
  pub acted : ActedBy old new before after id c
  pub tells : touched ≡ touched_in (outcome_in old id c acted.stored)

-- by the session at an index: from these buffers, sessions and store to those
abbrev pub IsActed : Directory → ℕ → Act → List MarkedBuffer → List Session → StoreTold → List MarkedBuffer → List Session → StoreTold → Touched → Type 0
IsActed directory at c ks xs before ls ys after touched =
    (id : ℕ) (next : Option ℕ) → at ≡ position_or_len (session_id id) xs → DoneBy touched (world_of directory ks xs next) (world_of directory ls ys next) before after id c

-- the act that an answer comes to, by a session that holds this
abbrev pub answered : Reply → State → Act
answered a state = answer_act a.question a.argument a.typed.now state

-- an action through a window's marks, and a copy of a text, as outcomes
abbrev pub acts_at : Spot → Action → Outcome
acts_at spot action = Acts spot.marks.now spot.at action

abbrev pub copies_of : Copying → Outcome
copies_of copying = Copies copying.marks.now copying.source.now copying.place
