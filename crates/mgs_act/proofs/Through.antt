-- What is done through a window's marks, and by an insertion through them.
use Rattle.std.proofs.Common.{◌≡◌, ℕ, ◌<◌, true, false, cond, List, length, Option, Some, None, get_or, refl, ap, subst, ◌∙◌}
use Rattle.std.specs.Prelude.{slice_get}
use Rattle.std.specs.List.{position_or_len}
use Rattle.mgs_model.specs.Access.{Directory}
use Rattle.mgs_model.specs.Acts.{edit_of, fails, finished, finished_state, is_too_large}
use Rattle.mgs_laws.specs.Apart.{touched_by}
use Rattle.mgs_model.specs.Apply.{apply}
use Rattle.mgs_model.specs.Outcome.{Effect, No_effect, Edit, Adjust, Keep_search}
use Rattle.mgs_model.specs.Plans as plans
use Rattle.mgs_model.specs.Text.{is_edit}
use Rattle.mgs_model.specs.World.{State}
use Rattle.mgs_model.specs.declared.echo_text.Message.TheVariants.{Says}
use Rattle.mgs_model.specs.declared.echo_text.Notice.TheVariants.{KillTooLarge}
use Rattle.mgs_model.specs.declared.touched.Touched.{Touched}
use Rattle.mgs_buffers.specs.MarkedBuffer.{MarkedBuffer, marked_at}
use Rattle.mgs_session.specs.declared.Session.{Session}
use Rattle.mgs_windows.specs.declared.WindowMarks.{WindowMarks}
use Rattle.mgs_edit.specs.Reading.{change_read, finish_read, undone_read}
use Rattle.mgs_plan.specs.Actions.{kill_at, kill_or_none, outcome_through, removed_by}
use Rattle.mgs_plan.specs.Inserting.{insertion_of, put_outcome}
use Rattle.mgs_plan.specs.declared.action.Action.{Action}
use Rattle.mgs_plan.specs.declared.action.Action.TheVariants.{Edits, Undoes, Moves}
use Rattle.mgs_plan.specs.declared.outcome.Outcome.TheVariants.{Acts, Copies}
use Rattle.mgs_births.specs.Telling.{IsSilent}
use Rattle.mgs_act.proofs.Done.{here_is, quietly}
use Rattle.mgs_act.specs.Doing.{IsQuietlyDone, TakesMemory}
use Rattle.mgs_act.specs.Performing.{MayBeShort}
use Rattle.mgs_world.specs.Worlds.{state_at, state_of, state_or_first, session_id, world_of}

-- IT IS SILENT

finished_silent : (state : State) (f : plans.Finish) (e : Effect) → IsSilent e → IsSilent (finished state f e).effect
finished_silent state f e none =
    elim (is_too_large f.kill) as (λ b. IsSilent (cond b (fails state (Says KillTooLarge)) (record { state = finished_state f state; kill = f.kill; arrange = Adjust f.point f.mark f.top None Keep_search; effect = e })).effect) [ true ↦ record { saves = refl; births = λ b. refl; tape = λ t. refl } | false ↦ none ]

edit_silent : (name : List ℕ) (c : plans.Change) → IsSilent (edit_of name c.a c.b c.put)
edit_silent name c = elim (is_edit c.a c.b c.put) as (λ b. IsSilent (cond b (Edit name c.a c.b c.put) No_effect)) [ true ↦ record { saves = refl; births = λ b. refl; tape = λ t. refl } | false ↦ record { saves = refl; births = λ b. refl; tape = λ t. refl } ]

change_silent : (state : State) (name : List ℕ) (c : plans.Change) → IsSilent (finished state c.finish (edit_of name c.a c.b c.put)).effect
change_silent state name c = finished_silent state c.finish (edit_of name c.a c.b c.put) (edit_silent name c)

through_silent : (state : State) (x : WindowMarks) (ks : List MarkedBuffer) (kill : List ℕ) (action : Action) → IsSilent (outcome_through state x ks kill action).effect
through_silent state x ks kill (Edits mask c) = change_silent state x.name (change_read (marked_at x.name ks).buffer.text kill c)
through_silent state x ks kill (Undoes u) =
    let b = (marked_at x.name ks).buffer in change_silent state x.name (undone_read b.text kill (removed_by u.serial b.items) u)
through_silent state x ks kill (Moves f) = finished_silent state (finish_read (marked_at x.name ks).buffer.text kill 0 f) No_effect (record { saves = refl; births = λ b. refl; tape = λ t. refl })
through_silent state x ks kill _ = record { saves = refl; births = λ b. refl; tape = λ t. refl }

-- AN ACTION

pub through_done : (directory : Directory) (at : ℕ) (ks ls : List MarkedBuffer) (xs ys : List Session) (x : WindowMarks) (place : ℕ) (action : Action) (touched : Touched)
    → ((id : ℕ) (next : Option ℕ) → at ≡ position_or_len (session_id id) xs → world_of directory ls ys next ≡ apply (world_of directory ks xs next) id (outcome_through (state_at at xs) x ks (kill_at at xs) action))
    → ((h : Session) → slice_get xs at ≡ Some h → touched ≡ touched_by (outcome_through (state_of h.state) x ks h.kill action).effect)
    → IsQuietlyDone directory at (Acts x place action) ks xs ls ys touched
through_done directory at ks ls xs ys x place action touched done touches = quietly directory at (Acts x place action) ks ls xs ys touched (λ id next h here found. (
  done id next here ∙ ap (λ s. apply (world_of directory ks xs next) id (outcome_through (state_or_first s) x ks (kill_or_none s) action)) found,
  touches h found,
  through_silent (state_of h.state) x ks h.kill action,
))

pub through_takes : (at : ℕ) (ks : List MarkedBuffer) (xs : List Session) (r : Session) (x : WindowMarks) (place : ℕ) (action : Action) → at < length xs → MayBeShort x ks (get_or xs at r).kill action → TakesMemory at (Acts x place action) ks xs
through_takes at ks xs r x place action within takes = λ directory id next h here found.
    subst (λ (y : Session). MayBeShort x ks y.kill action) (here_is xs at r h within found) takes (state_of h.state)

-- A COPY

pub copy_done : (directory : Directory) (at : ℕ) (ks ls : List MarkedBuffer) (xs ys : List Session) (x : WindowMarks) (source : List ℕ) (place : ℕ) (touched : Touched)
    → ((id : ℕ) (next : Option ℕ) → at ≡ position_or_len (session_id id) xs → world_of directory ls ys next ≡ apply (world_of directory ks xs next) id (put_outcome (state_at at xs) x.name place (marked_at source ks).buffer.text))
    → ((state : State) → touched ≡ touched_by (put_outcome state x.name place (marked_at source ks).buffer.text).effect)
    → IsQuietlyDone directory at (Copies x source place) ks xs ls ys touched
copy_done directory at ks ls xs ys x source place touched done touches = quietly directory at (Copies x source place) ks ls xs ys touched (λ id next h here found. (
  done id next here ∙ ap (λ s. apply (world_of directory ks xs next) id (put_outcome (state_or_first s) x.name place (marked_at source ks).buffer.text)) found,
  touches (state_of h.state),
  change_silent (state_of h.state) x.name (insertion_of place (marked_at source ks).buffer.text),
))
