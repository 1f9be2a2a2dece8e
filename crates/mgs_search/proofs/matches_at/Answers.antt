use Rattle.std.proofs.Common.{◌≡◌, ℕ, List, true, false, ◌+◌, ◌<◌, length, arith, drop, sym, ◌∙◌}
use Rattle.std.specs.Char.{eq_ignore_ascii_case}
use Rattle.mgs_search.proofs.Matching.{match_more, match_not, match_end}
use Rattle.mgs_search.proofs.matches_at.Goals as goal

pub returns-then-not-is_same-clause-value : goal.returns-then-not-is_same-clause-value
returns-then-not-is_same-clause-value g c =
    let xs : List ℕ = g.T.Text.text c.args.text.now in
    let within : c.args.p + c.loop-i.i < length xs = omega arith in
    let other : eq_ignore_ascii_case c.index-pattern-i.result c.at.result ≡ false = ◌∙◌ {a = eq_ignore_ascii_case c.index-pattern-i.result c.at.result} (sym c.is_same.ensures) c.if-not-is_same.true in
    sym (match_not c.args.pattern.now xs c.args.p c.loop-i.i c.index-pattern-i.result c.at.result c.loop-i-test.true within c.index-pattern-i.is c.at.ensures other) ∙ c.loop-i.invariant

pub loop-i-preserved : goal.loop-i-preserved
loop-i-preserved g c =
    let xs : List ℕ = g.T.Text.text c.args.text.now in
    let within : c.args.p + c.loop-i.i < length xs = omega arith in
    let same : eq_ignore_ascii_case c.index-pattern-i.result c.at.result ≡ true = ◌∙◌ {a = eq_ignore_ascii_case c.index-pattern-i.result c.at.result} (sym c.is_same.ensures) c.if-not-is_same.false in
    match_more c.args.pattern.now xs c.args.p c.loop-i.i c.index-pattern-i.result c.at.result c.loop-i-test.true within c.index-pattern-i.is c.at.ensures same ∙ c.loop-i.invariant

pub returns-clause-value : goal.returns-clause-value
returns-clause-value g c =
    let xs : List ℕ = g.T.Text.text c.args.text.now in
    sym (match_end c.args.pattern.now (drop c.loop-i.i (drop c.args.p xs)) c.loop-i.i (omega arith)) ∙ c.loop-i.invariant
