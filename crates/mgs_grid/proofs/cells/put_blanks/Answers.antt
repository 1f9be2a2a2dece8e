use Rattle.std.proofs.Common.{ℕ, replicate, sym, ◌∙◌, refl}
use Rattle.std.proofs.lemmas.List.{length-replicate, replicate_more}
use Rattle.mgs_grid.proofs.CellLemmas.{over_push}
use Rattle.mgs_grid.proofs.cells.put_blanks.Goals as goal

pub loop-at-preserved : goal.loop-at-preserved
loop-at-preserved c =
    let k : ℕ = c.loop-at.at in
    rw (← replicate_more {X = ℕ} k 32) (c.put.ensures ∙ rw (c.loop-at.invariant) (sym (over_push c.args.row.now c.args.shift c.args.column (replicate k 32) 32 ∙ rw (length-replicate {A = ℕ} k 32) refl)))
