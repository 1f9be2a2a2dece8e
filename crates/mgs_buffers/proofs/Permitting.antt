-- What is granted whatever else is.
use Rattle.std.proofs.Common.{◌≡◌, ℕ, Bool, ◌&&◌, cond, List, ap}
use Rattle.mgs_model.specs.declared.entry.Decision.{Decision}
use Rattle.mgs_model.specs.declared.entry.Decision.TheVariants.{Granted}
use Rattle.mgs_model.specs.Access.{Directory, Nobody, Allows, decision, decision_by}
use Rattle.mgs_model.specs.Apply.{new_buffer}
use Rattle.mgs_model.specs.Rights.{has_right, rights_in}
use Rattle.mgs_model.proofs.Blind.{is_name}

-- who created a buffer is granted to kill it
pub owner_may_kill : (directory : Directory) (name owner : List ℕ) → decision directory (new_buffer name owner).owners owner (new_buffer name owner).entries 65536 ≡ Granted
owner_may_kill directory name owner =
    let by : Bool → Decision = λ same. decision_by (λ right. cond (same && has_right 983175 right) (Allows 1) Nobody) (rights_in 65536) in
    ap by (is_name owner)
