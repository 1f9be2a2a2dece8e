use Rattle.std.proofs.Common.{◌≡◌, ◌+◌, ◌-◌, suc, ℕ, List, length, inl, inr, ap, arith, ◌∙◌, drop}
use Rattle.std.proofs.lemmas.Bool.{cases_lt}
use Rattle.mgs_model.specs.Lines.{line_of, start_of}
use Rattle.mgs_lines.proofs.Feeds.{start_of_from, start_of_capped}
use Rattle.mgs_lines.proofs.kills.past_feeds.Goals as goal

pub returns-clause-value : goal.returns-clause-value
returns-clause-value g c =
    let xs : List ℕ = g.T.Text.text c.args.text.now in
    let p : ℕ = c.args.p in
    let sum : ℕ = line_of xs p + c.min-lines.result in
    let all : ℕ = line_of xs p + suc (c.args.feeds - 1) in
    let some : suc (c.args.feeds - 1) ≡ c.args.feeds = omega (arith, c.if-feeds-eq0.false) in
    c.start_of.ensures.value
    ∙ ap (λ (n : ℕ). start_of (n + c.min-lines.result) xs) c.line_of.ensures
    ∙ (elim (cases_lt (length xs) c.args.feeds) [
      | inl past ↦ start_of_capped sum all xs (inr (omega (arith, past, some, c.min-lines.ensures, c.len.ensures.value), omega (arith, past, some, c.min-lines.ensures, c.len.ensures.value)))
      | inr within ↦ start_of_capped sum all xs (inl (omega (arith, within, some, c.min-lines.ensures, c.len.ensures.value)))
    ])
    ∙ start_of_from xs p (c.args.feeds - 1) c.requires
    ∙ ap (λ (n : ℕ). p + start_of n (drop p xs)) some
