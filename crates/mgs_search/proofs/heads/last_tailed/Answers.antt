use Rattle.std.proofs.Common.{◌≡◌, ◌+◌, ◌-◌, ℕ, List, min, length, arith, ap, sym, ◌∙◌}
use Rattle.std.specs.Char.{to_ascii_lowercase}
use Rattle.mgs_search.specs.Borders.{IsReadBack, lower_at}
use Rattle.mgs_search.proofs.Borders.{back_passed}
use Rattle.mgs_search.proofs.heads.last_tailed.Goals as goal

pub returns-then-next-top-clause-value : goal.returns-then-next-top-clause-value
returns-then-next-top-clause-value g c =
    let ps = c.args.pattern.now in
    let tail = c.args.tail.now in
    let xs : List ℕ = g.T.Text.text c.args.text.now in
    let end : ℕ = c.args.end in
    let top : ℕ = c.reach-top.result in
    let is : top ≡ min (length xs) (end - 1 + length ps) = c.reach-top.ensures.value in
    let read : IsReadBack tail xs top c.next_read_back-next.result c.loop-i.stands = c.next_read_back-next.ensures.read c.loop-i.invariant.read in
    back_passed ps tail xs end top c.next_read_back-next.result c.loop-i.stands 0 c.requires.tail (omega (arith, c.requires.some, c.requires.head)) (omega arith) is (omega arith) (omega arith)
    (omega (arith, c.loop-i.invariant.below, c.requires.head, c.requires.tail.within, read.within)) read

pub returns-then-stands-borders-clause-value : goal.returns-then-stands-borders-clause-value
returns-then-stands-borders-clause-value g c =
    let ps = c.args.pattern.now in
    let tail = c.args.tail.now in
    let xs : List ℕ = g.T.Text.text c.args.text.now in
    let end : ℕ = c.args.end in
    let top : ℕ = c.reach-top.result in
    let is : top ≡ min (length xs) (end - 1 + length ps) = c.reach-top.ensures.value in
    let next : ℕ = c.next_read_back-next.result in
    let read : IsReadBack tail xs top (next + 1) c.step-stands.result = c.step-stands.ensures.value (λ (t : ℕ). lower_at xs (top - 1 - t)) 0 next (c.next_read_back-next.ensures.read c.loop-i.invariant.read) (ap to_ascii_lowercase (sym c.at.ensures) ∙ sym c.to_ascii_lowercase.ensures.value) in
    back_passed ps tail xs end top (next + 1) c.step-stands.result c.begun_behind.result c.requires.tail (omega (arith, c.requires.some, c.requires.head)) (omega arith) is (omega arith) (omega arith)
    (omega (arith, is, c.begun_behind.ensures)) read

pub loop-i-preserved : goal.loop-i-preserved
loop-i-preserved g c =
    let xs : List ℕ = g.T.Text.text c.args.text.now in
    let top : ℕ = c.reach-top.result in
    let next : ℕ = c.next_read_back-next.result in
    record {
      within = omega arith;
      below = omega (arith, c.step-stands.ensures.within, c.loop-i.invariant.below);
      read = c.step-stands.ensures.value (λ (t : ℕ). lower_at xs (top - 1 - t)) 0 next (c.next_read_back-next.ensures.read c.loop-i.invariant.read) (ap to_ascii_lowercase (sym c.at.ensures) ∙ sym c.to_ascii_lowercase.ensures.value);
    }

pub returns-clause-value : goal.returns-clause-value
returns-clause-value g c =
    let ps = c.args.pattern.now in
    let tail = c.args.tail.now in
    let xs : List ℕ = g.T.Text.text c.args.text.now in
    let end : ℕ = c.args.end in
    let top : ℕ = c.reach-top.result in
    let is : top ≡ min (length xs) (end - 1 + length ps) = c.reach-top.ensures.value in
    back_passed ps tail xs end top c.loop-i.i c.loop-i.stands 0 c.requires.tail (omega (arith, c.requires.some, c.requires.head)) (omega arith) is (omega arith) (omega arith)
    (omega (arith, c.loop-i.invariant.below, c.requires.head, c.requires.tail.within, c.loop-i.invariant.read.within)) c.loop-i.invariant.read
