use Rattle.std.proofs.Common.{◌≡◌, ◌-◌, ℕ, List, ap, arith, ◌∙◌}
use Rattle.mgs_model.specs.Lines.{line_of, start_of}
use Rattle.mgs_lines.proofs.Feeds.{line_of_above, start_of_line}
use Rattle.mgs_lines.proofs.start_above.Goals as goal

pub overflow_sub-line : goal.overflow_sub-line
overflow_sub-line g c = omega (arith, c.requires.number, line_of_above (g.T.Text.text c.args.text.now) c.args.start c.requires.some c.requires.within c.requires.start)

pub returns-clause-value : goal.returns-clause-value
returns-clause-value g c =
    let xs : List ℕ = g.T.Text.text c.args.text.now in
    let up : c.args.line - 1 ≡ line_of xs (c.args.start - 1) = omega (arith, c.requires.number, line_of_above xs c.args.start c.requires.some c.requires.within c.requires.start) in
    c.start_of.ensures.value ∙ ap (λ (n : ℕ). start_of n xs) up ∙ start_of_line xs (c.args.start - 1) (omega arith)

pub returns-clause-within : goal.returns-clause-within
returns-clause-within g c = omega (arith, returns-clause-value g c)

pub returns-clause-some : goal.returns-clause-some
returns-clause-some g c = omega (arith, c.requires.number, line_of_above (g.T.Text.text c.args.text.now) c.args.start c.requires.some c.requires.within c.requires.start)
