-- Faults of mendings.
use Rattle.std.proofs.Common.{◌≡◌, ℕ, Bool, List, Option, sym, subst}
use Rattle.std.specs.Prelude.{Result, Ok, Err, IfErr}
use Rattle.mgs_model.specs.Names.{IsName}
use Rattle.mgs_buffers.specs.MarkedBuffer.{MarkedBuffer}
use Rattle.mgs_journal.specs.Rows.{KeptRights}
use Rattle.mgs_journal.specs.Texts.{KeptText}
use Rattle.mgs_keeper.specs.declared.repair.MendFault.{MendFault}
use Rattle.mgs_keeper.specs.declared.repair.MendFault.TheVariants.{Journal}
use Rattle.mgs_keeper.specs.MendFaults.{IsForgetFault}

-- the journal failed
pub forget_failed : (rows : List KeptRights) (texts : List (Option KeptText)) (taken : List ℕ → Bool) (config : List MarkedBuffer) (may_discard : Bool) (name : List ℕ) (r : Result Unit MendFault)
    → IfErr r (λ fault. fault ≡ Journal) → IfErr r (λ fault. IsName name → IsForgetFault rows texts taken config may_discard name fault)
forget_failed rows texts taken config may_discard name (Ok x) failed = tt
forget_failed rows texts taken config may_discard name (Err fault) failed = λ is. subst (IsForgetFault rows texts taken config may_discard name) (sym failed) tt
