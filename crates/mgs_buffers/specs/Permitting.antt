-- What is answered where rights are judged before a buffer is changed.
use Rattle.std.specs.Prelude.{◌≡◌, ◌≢◌, ℕ, ◌∷◌, [], List, Result, Ok, Err}
use Rattle.mgs_model.specs.Access.{Directory, decider, decision, decision_by}
use Rattle.mgs_model.specs.World.{Buffer}
use Rattle.mgs_model.specs.declared.right.Right.{Right}
use Rattle.mgs_model.specs.declared.entry.Decision.{Decision}
use Rattle.mgs_model.specs.declared.entry.Decision.TheVariants.{Granted}
use Rattle.mgs_buffers.specs.declared.refusals.EditFault.{EditFault}
use Rattle.mgs_buffers.specs.declared.refusals.EditFault.TheVariants.{Denied, Short}

-- what a buffer's access list decides for a user: on one right, and on those of a mask
abbrev pub right_decision : Directory → Buffer → List ℕ → Right → Decision
right_decision directory b user right = decision_by (decider directory b.owners user b.entries) (right ∷ [])

abbrev pub mask_decision : Directory → Buffer → List ℕ → ℕ → Decision
mask_decision directory b user mask = decision directory b.owners user b.entries mask

-- done where it was granted, and else the decision, which grants not all
abbrev pub PermitAnswers : Result (Unit {0}) Decision → Decision → Type 0
PermitAnswers (Ok done) due = due ≡ Granted
PermitAnswers (Err decision) due = (due ≡ decision) × (decision ≢ Granted)

-- the same of an edit; memory is refused only where it was granted
abbrev pub EditAnswers : Result (Unit {0}) EditFault → Decision → Type 0
EditAnswers (Ok done) due = due ≡ Granted
EditAnswers (Err (Denied decision)) due = (due ≡ decision) × (decision ≢ Granted)
EditAnswers (Err Short) due = due ≡ Granted
