-- One turn of an event: of what a session has still to do, the next is done.
use Rattle.std.specs.Prelude.{◌≡◌, ◌≤◌, ◌<◌, IsSome, ℕ, ◌+◌, Bool, true, false, not, ◌||◌, List, [], ◌∷◌, length, Option, Some, None, cond}
use Rattle.mgs_model.specs.World.{World, State, Todo, Typed, Played, Replace_all, Play, find_session}
use Rattle.mgs_model.specs.Outcome.{Act, Run}
use Rattle.mgs_model.specs.Apply.{act, outcome_in}
use Rattle.mgs_model.specs.Turns.{Turn, Keep, Do}
use Rattle.mgs_model.specs.Events.{begun_state, refused_state, settled, turn_in, with_state}
use Rattle.mgs_laws.specs.Refusals.{may_be_refused}
use Rattle.mgs_model.specs.Names.{same_name}
use Rattle.mgs_model.specs.declared.touched.Touched.{Touched}
use Rattle.mgs_model.specs.declared.touched.Touched.TheVariants.{Nowhere, In, Anywhere}
use Rattle.mgs_model.specs.declared.errors.Keyed.{Keyed}
use Rattle.mgs_model.specs.declared.errors.Keyed.TheVariants as keyed
use Rattle.mgs_model.specs.declared.session.Command.TheVariants.{Exit, SaveBuffer}
use Rattle.mgs_model.specs.declared.session.Mode.TheVariants.{Replacing}
use Rattle.mgs_store.specs.Stores.{IsCounted}
use Rattle.mgs_births.specs.Reports.{act_refusals, act_reports}
use Rattle.mgs_births.specs.Tapes.{tape_after}
use Rattle.mgs_births.specs.Telling.{StoreTold, Tells}
use Rattle.mgs_session.specs.Playing.{is_nothing}
use Rattle.mgs_act.specs.Doing.{DoneBy}
use Rattle.mgs_core.specs.Calls.{KeyedBy, closed}

-- A MEASURE of what is to be done, where so many characters are left of the text that is replaced in: a further replacement leaves fewer of
-- them, a byte of a macro may call for all further ones, of at most 1,048,576 characters, and a byte that was typed for all that can be
-- played, 100 times 512 bytes and their begin
abbrev pub weight : ℕ → List Todo → ℕ
weight n [] = 0
weight n (Typed byte ∷ todo) = 53689341958 + weight n todo
weight n (Played byte ∷ todo) = 1048579 + weight n todo
weight n (Replace_all ∷ todo) = 1 + n + weight n todo
weight n (Play ∷ todo) = 1 + weight n todo

-- further replacements are to be done
abbrev pub has_all : List Todo → Bool
has_all [] = false
has_all (Typed byte ∷ todo) = has_all todo
has_all (Played byte ∷ todo) = has_all todo
has_all (Replace_all ∷ todo) = true
has_all (Play ∷ todo) = has_all todo

-- they are those of a query-replace that replaces something
abbrev pub IsFit : State → Type 0
IsFit state = has_all state.todo ≡ true → (state.mode ≡ Replacing) × (0 < length state.old)

-- nothing of it was typed
abbrev pub is_played : List Todo → Bool
is_played [] = true
is_played (Typed byte ∷ todo) = false
is_played (Played byte ∷ todo) = is_played todo
is_played (Replace_all ∷ todo) = is_played todo
is_played (Play ∷ todo) = is_played todo

-- no more than this is to be done, and nothing of it was typed
abbrev pub IsWithin : ℕ → List Todo → Type 0
IsWithin n todo = (weight 1048576 todo ≤ n) × (is_played todo ≡ true)

-- what a turn is that goes on: the state of its session alone changes, or an act
abbrev pub turn_to : State → Option Act → Turn
turn_to state None = Keep state
turn_to state (Some c) = Do state c

-- an act saves nothing where a macro plays, and only a save saves
abbrev pub asks : Act → Bool
asks (Run SaveBuffer n typed) = true
asks _ = false

abbrev pub is_quiet : Bool → Act → Bool
is_quiet playing c = playing || not (asks c)

-- what is denied to an act is on the tape
abbrev pub denied_after : World → ℕ → Act → StoreTold → StoreTold
denied_after w id c t = record t { tape = tape_after (act_refusals w id c) t.tape }

-- AN ACT, and all that it reports is told
pub record ActReported (old new : World) (before after : StoreTold) (id : ℕ) (c : Act) : Type 0 where
  pub stored : Bool
  pub world : new ≡ act old id c stored
  pub fault : stored ≡ false → IsCounted before.failed after.failed
  pub tells : Tells (act_reports old id c stored) before after

-- it is done, and then what was denied to it is recorded
pub record DoneReported (touched : Touched) (old new : World) (before after : StoreTold) (id : ℕ) (c : Act) : Type 0 where
  pub mid : StoreTold
  pub done : DoneBy touched old new before mid id c
  pub denied : after ≡ denied_after old id c mid

-- an act of a byte that was typed leaves nothing to do
abbrev pub IsTurnDone : Bool → List Todo → State → Option Act → World → World → StoreTold → StoreTold → ℕ → Type 0
IsTurnDone playing left state None old new before after id = (new ≡ with_state id (λ was. state) old) × (after ≡ before)
IsTurnDone playing left state (Some c) old new before after id = (playing ≡ true → is_quiet state.playing c ≡ true) × (playing ≡ false → left ≡ []) × ActReported (with_state id (λ was. state) old) new before after id c

-- IT IS DONE, of a byte that was typed or that a macro plays, and this is left
pub record TurnDone (playing : Bool) (left : List Todo) (old new : World) (before after : StoreTold) (id : ℕ) : Type 0 where
  pub state : State
  pub act : Option Act
  pub turn : turn_in old id ≡ turn_to state act
  pub done : IsTurnDone playing left state act old new before after id

-- OR REFUSED for want of memory: the session is told so, and has nothing more to do
pub record TurnRefused (old new : World) (before after : StoreTold) (id : ℕ) : Type 0 where
  pub state : State
  pub act : Act
  pub turn : turn_in old id ≡ Do state act
  pub told : new ≡ with_state id refused_state old
  pub may : may_be_refused (outcome_in (with_state id (λ was. state) old) id act true) ≡ true
  pub left : after ≡ before

-- OR ITS SESSION ENDS, which is to be taken out: by a byte that was typed alone
pub record TurnEnds (playing : Bool) (old new : World) (before after : StoreTold) (id : ℕ) : Type 0 where
  pub state : State
  pub argument : Option ℕ
  pub turn : turn_in old id ≡ Do state (Run Exit argument [])
  pub typed : playing ≡ false
  pub quiet : state.playing ≡ false
  pub gone : closed new id ≡ closed old id
  pub left : after ≡ before

abbrev pub TurnedBy : Bool → List Todo → World → World → StoreTold → StoreTold → ℕ → Keyed → Type 0
TurnedBy playing left old new before after id keyed.Done = TurnDone playing left old new before after id
TurnedBy playing left old new before after id keyed.Short = TurnRefused old new before after id
TurnedBy playing left old new before after id keyed.Quit = TurnEnds playing old new before after id
TurnedBy playing left old new before after id keyed.NoSession = ⊥

-- less is left than was, and nothing that was typed, where so many characters were left and are
abbrev pub IsLess : ℕ → ℕ → List Todo → List Todo → Type 0
IsLess m n old new = (weight n new < weight m old) × (is_played new ≡ true)

-- AN EVENT whose byte was to be done first, before it settles: the world that it leads to, and what is answered. A session that ends
-- is to be taken out
abbrev pub EventBy : ℕ → World → World → StoreTold → StoreTold → Keyed → Type 0
EventBy id start now before after keyed.Quit = TurnEnds false start now before after id
EventBy id start now before after keyed.NoSession = ⊥
EventBy id start now before after result =
    (w : World) (byte : ℕ) → IsSome (find_session id w.sessions) → IsSome (find_session id (settled now).sessions) → start ≡ with_state id (begun_state byte) w → KeyedBy w (settled now) before after id byte result

-- WHAT IS TOUCHED by one turn and by the next
abbrev pub touched_both : Touched → Touched → Touched
touched_both Nowhere t = t
touched_both (In name) Nowhere = In name
touched_both (In name) (In other) = cond (same_name name other) (In name) Anywhere
touched_both (In name) Anywhere = Anywhere
touched_both Anywhere t = Anywhere

-- how much is left, where it goes on
abbrev pub left_to_do : Keyed → ℕ → List Todo → ℕ
left_to_do keyed.Done n todo = 1 + weight n todo
left_to_do _ n todo = 0

-- it goes on as long as something is left, and neither memory was refused nor the session ends
abbrev pub goes_on : Keyed → List Todo → Bool
goes_on keyed.Done todo = not (is_nothing todo)
goes_on _ todo = false
