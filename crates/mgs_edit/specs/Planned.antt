-- What the one planner answers: an edit or a motion, as the family of the command plans it.
use Rattle.std.specs.Prelude.{ℕ, Bool, true, false, List, length, Result, Ok, Err}
use Rattle.mgs_model.specs.Plans as model
use Rattle.mgs_model.specs.declared.echo_text.Message.{Message}
use Rattle.mgs_model.specs.declared.session.Command.{Command}
use Rattle.mgs_model.specs.declared.session.Command.TheVariants.{Insert, InsertReading, Move, Alter, Scroll}
use Rattle.mgs_edit.specs.Reading.{IsChange, IsInsertion, IsMotion}
use Rattle.mgs_edit.specs.declared.plan.Around.{Around}
use Rattle.mgs_edit.specs.declared.plan.Change.{Change}
use Rattle.mgs_edit.specs.declared.plan.Finish.{Finish}
use Rattle.mgs_edit.specs.declared.families.Plan.{Plan}
use Rattle.mgs_edit.specs.declared.families.Plan.TheVariants.{Edits, Moves}

-- the commands that act on a text, but for an undo, which goes by what was taken out
abbrev pub is_planned : Command → Bool
is_planned (Insert c) = true
is_planned (InsertReading c) = true
is_planned (Move c) = true
is_planned (Alter c) = true
is_planned (Scroll c) = true
is_planned _ = false

-- a plan that edits, and one that moves
abbrev pub AsEdit : (Result Change Message → Type 0) → Result Plan Message → Type 0
AsEdit Is (Ok (Edits change)) = Is (Ok change)
AsEdit Is (Ok (Moves finish)) = ⊥
AsEdit Is (Err message) = Is (Err message)

abbrev pub AsMotion : (Result Finish Message → Type 0) → Result Plan Message → Type 0
AsMotion Is (Ok (Edits change)) = ⊥
AsMotion Is (Ok (Moves finish)) = Is (Ok finish)
AsMotion Is (Err message) = Is (Err message)

abbrev pub IsPlan : Command → Around → List ℕ → Result Plan Message → Type 0
IsPlan (Insert c) x text answer = AsEdit (IsInsertion (model.insertion c) x (length text)) answer
IsPlan (InsertReading c) x text answer = AsEdit (IsChange (model.reading_insertion c) x text) answer
IsPlan (Move c) x text answer = AsMotion (IsMotion (model.motion c) x text) answer
IsPlan (Alter c) x text answer = AsEdit (IsChange (model.alteration c) x text) answer
IsPlan (Scroll c) x text answer = AsMotion (IsMotion (model.scrolling c) x text) answer
IsPlan _ x text answer = ⊥
