use Rattle.std.proofs.Common.{◌+◌, ◌<◌, ℕ, List, length, sym, ap, ◌∙◌, arith}
use Rattle.mgs_lines.proofs.Feeds.{next_after, next_feed, next_other}
use Rattle.mgs_lines.proofs.end_of.Goals as goal
use Rattle.mgs_model.specs.Lines.{start_of}

pub overflow_sub-next : goal.overflow_sub-next
overflow_sub-next g c =
    let xs : List ℕ = g.T.Text.text c.args.text.now in
    let within : c.args.p < length xs = omega (arith, c.requires.within, c.if-p-len.false, c.len.ensures.value) in
    omega (arith, next_after xs c.args.p c.start_of-next.result within (c.start_of-next.ensures.value ∙ ap (λ (n : ℕ). start_of (n + 1) xs) c.requires.number))

pub returns-then-at-eq10-clause-value : goal.returns-then-at-eq10-clause-value
returns-then-at-eq10-clause-value g c =
    let xs : List ℕ = g.T.Text.text c.args.text.now in
    let within : c.args.p < length xs = omega (arith, c.requires.within, c.if-p-len.false, c.len.ensures.value) in
    next_feed xs c.args.p c.start_of-next.result within (c.start_of-next.ensures.value ∙ ap (λ (n : ℕ). start_of (n + 1) xs) c.requires.number) (sym c.at.ensures ∙ c.if-at-eq10.true)

pub returns-then-at-eq10-clause-from : goal.returns-then-at-eq10-clause-from
returns-then-at-eq10-clause-from g c = omega (arith, returns-then-at-eq10-clause-value g c)

pub returns-else-at-eq10-clause-value : goal.returns-else-at-eq10-clause-value
returns-else-at-eq10-clause-value g c =
    let xs : List ℕ = g.T.Text.text c.args.text.now in
    let within : c.args.p < length xs = omega (arith, c.requires.within, c.if-p-len.false, c.len.ensures.value) in
    next_other xs c.args.p c.start_of-next.result within (c.start_of-next.ensures.value ∙ ap (λ (n : ℕ). start_of (n + 1) xs) c.requires.number) (λ e. c.if-at-eq10.false (c.at.ensures ∙ e))

pub returns-else-at-eq10-clause-from : goal.returns-else-at-eq10-clause-from
returns-else-at-eq10-clause-from g c = omega (arith, returns-else-at-eq10-clause-value g c)
