use Rattle.std.proofs.Common.{ℕ, List, arith, refl, sym, ◌∙◌}
use Rattle.mgs_model.specs.Lines.{start_of}
use Rattle.mgs_screen.proofs.TabRows.{line_later}
use Rattle.mgs_screen.proofs.tab_stops.begin_at.Goals as goal

pub returns-clause-row : goal.returns-clause-row
returns-clause-row g c = λ cols.
    let text : List ℕ = g.T.Text.text c.args.text.now in
    line_later text c.args.line (start_of c.args.line text) c.args.stop cols c.args.shift c.requires.stop (sym c.if-line_of-line.false ∙ c.line_of.ensures) refl (omega (arith, c.if-shift-stop.false))
