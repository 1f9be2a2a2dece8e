use Rattle.std.proofs.Common.{refl, sym, ap, ◌∙◌, arith}
use denote.RawPtr.{count_of}
use Rattle.std.specs.Global.{Global}
use Rattle.mgs_gap.specs.declared.cells.FreeRight.{FreeRight}
use Rattle.mgs_gap.proofs.Blocks.{all_gap}
use Rattle.mgs_gap.proofs.block.Block.with_gap.Goals as goal

pub invariant_of-result : goal.invariant_of-result
invariant_of-result c =
    let e = c.in-Some.ensures in let same = c.starts.ensures.0 in let at = ap (λ (r : FreeRight Global). r.at) same ∙ e.1 in
    (all_gap (record { cells = c.in-Some.cells; right = c.starts.new.self; alloc = c.args.alloc; before = 0; gap = c.args.gap; after = 0 })
    (at, ap (λ (r : FreeRight Global). r.len) same ∙ omega (arith, e.2), ap (λ (r : FreeRight Global). r.alloc) same ∙ e.3) (ap count_of (sym at) ∙ c.starts.ensures.1) e.0 refl refl (omega arith)).0

pub returns-in-Some : goal.returns-in-Some
returns-in-Some c =
    let e = c.in-Some.ensures in let same = c.starts.ensures.0 in let at = ap (λ (r : FreeRight Global). r.at) same ∙ e.1 in
    (all_gap (record { cells = c.in-Some.cells; right = c.starts.new.self; alloc = c.args.alloc; before = 0; gap = c.args.gap; after = 0 })
    (at, ap (λ (r : FreeRight Global). r.len) same ∙ omega (arith, e.2), ap (λ (r : FreeRight Global). r.alloc) same ∙ e.3) (ap count_of (sym at) ∙ c.starts.ensures.1) e.0 refl refl (omega arith)).1
