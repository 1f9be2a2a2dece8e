use Rattle.std.proofs.Common.{◌≡◌, arith, ◌∙◌}
use Rattle.std.specs.Prelude.{◌==◌, if◌then◌else◌}
use Rattle.std.proofs.lemmas.Bool.{ne_eqb, eq-eqb}
use Rattle.mgs_grid.specs.Cells.{first_signed, finished}
use Rattle.mgs_grid.proofs.CellLemmas.{cut_long, cut_short}
use Rattle.mgs_grid.proofs.cells.finish.Goals as goal
use Rattle.mgs_grid.proofs.cells.finish.Goals.{then-column-shift, else-column-shift}

pub returns-then-shift-gt0 : goal.returns-then-shift-gt0
returns-then-shift-gt0 c =
    let cut : (if c.args.shift == 0 then c.if-column-shift.row else first_signed c.if-column-shift.row) ≡ finished c.args.row.now c.args.shift c.args.column =
    elim c.if-column-shift.branch [
      | then-column-shift w ↦ cut_long c.args.row.now c.if-column-shift.row c.args.shift c.args.column (omega arith) (w.row-is ∙ w.sign_last.ensures)
      | else-column-shift w ↦ cut_short c.args.row.now c.if-column-shift.row c.args.shift c.args.column (omega arith) w.row-is
    ] in
    c.sign_first.ensures ∙ (rw (ne_eqb c.args.shift 0 (λ e. omega arith)) at cut)

pub returns-else-shift-gt0 : goal.returns-else-shift-gt0
returns-else-shift-gt0 c =
    let cut : (if c.args.shift == 0 then c.if-column-shift.row else first_signed c.if-column-shift.row) ≡ finished c.args.row.now c.args.shift c.args.column =
    elim c.if-column-shift.branch [
      | then-column-shift w ↦ cut_long c.args.row.now c.if-column-shift.row c.args.shift c.args.column (omega arith) (w.row-is ∙ w.sign_last.ensures)
      | else-column-shift w ↦ cut_short c.args.row.now c.if-column-shift.row c.args.shift c.args.column (omega arith) w.row-is
    ] in
    rw (eq-eqb c.args.shift 0 (omega arith)) at cut
