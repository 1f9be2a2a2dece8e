-- What one decision on two rights tells.
use Rattle.std.proofs.Common.{◌≡◌, ℕ, Bool, List, [], ◌∷◌, sym, ap, ◌∙◌}
use Rattle.std.specs.Prelude.{Some}
use Rattle.mgs_model.specs.Access.{Decider, Directory, decider, decision, decision_by}
use Rattle.mgs_model.specs.Rights.{rights_in}
use Rattle.mgs_model.specs.World.{Buffer}
use Rattle.mgs_model.specs.declared.entry.Decision.TheVariants.{Granted}
use Rattle.mgs_model.specs.declared.right.Right.{Right}
use Rattle.mgs_model.specs.declared.right.Right.TheVariants.{ReadAttributes, ReadData}
use Rattle.mgs_buffers.specs.MarkedBuffer.{MarkedBuffer, marked_at}
use Rattle.mgs_model.proofs.Deciding.{granted_each}
use Rattle.mgs_screen.specs.Screens.{ReadsAll, heading_to}
use Rattle.mgs_screen.specs.TextsDrawn.{told_as}

pub reads_granted : (directory : Directory) (user : List ℕ) (b : Buffer) (mask : ℕ) → mask ≡ 129 → decision directory b.owners user b.entries mask ≡ Granted → ReadsAll directory user b
reads_granted directory user b mask is granted =
    let f : Right → Decider = decider directory b.owners user b.entries in
    let each = granted_each f (ReadData ∷ ReadAttributes ∷ []) (ap (λ (m : ℕ). decision_by f (rights_in m)) (sym is) ∙ granted) in
    (each.1.0, each.0)

-- the heading of one that it was granted on
pub heading_granted : (directory : Directory) (user : List ℕ) (ks : List MarkedBuffer) (name : List ℕ) (modified : Bool) → modified ≡ (marked_at name ks).buffer.modified → ReadsAll directory user (marked_at name ks).buffer
    → told_as name (Some modified) ≡ heading_to directory user ks name
heading_granted directory user ks name modified is reads = rw (reads.0) (ap (λ (m : Bool). Some (name, m)) is)
