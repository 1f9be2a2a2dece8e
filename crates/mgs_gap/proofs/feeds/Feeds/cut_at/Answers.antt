use Rattle.std.proofs.Common.{◌≡◌, ℕ, List, ◌+◌, ◌-◌, ◌≤◌, ◌++◌, length, take, drop, subst, arith}
use Rattle.mgs_gap.specs.Feeds.{AreFeeds}
use Rattle.mgs_gap.proofs.FeedLines.{Finds}
use Rattle.mgs_gap.proofs.FeedMoves.{few_before, few_after, feeds_within_text, ends_within_text, feeds_back, feeds_on}
use Rattle.mgs_gap.proofs.feeds.Feeds.cut_at.Goals as goal

-- how far the end of a text of n and m characters is from the place a
from_end : (n m a r : ℕ) (xs : List ℕ) → n ≤ a → Finds (n + m - a + 1) xs r → Finds (m - (a - n) + 1) xs r
from_end n m a r xs past found = let same : n + m - a + 1 ≡ m - (a - n) + 1 = omega (arith, past) in subst (λ k. Finds k xs r) same found

pub turn_over-requires-clause-some : goal.turn_over-requires-clause-some
turn_over-requires-clause-some c =
    few_before c.deref.result.now c.args.self.now.before.items c.args.front.now c.args.back.now c.args.a c.below-left.result c.below-left.ensures c.deref.ensures.value c.requires.feeds.0 (omega (arith, c.if-a-start.true))

pub turn_over-requires-clause-within : goal.turn_over-requires-clause-within
turn_over-requires-clause-within c = feeds_within_text c.args.self.now.before.items c.args.front.now (length c.args.back.now) c.requires.feeds.0

pub turn_over-requires-else-a-start-clause-some : goal.turn_over-requires-else-a-start-clause-some
turn_over-requires-else-a-start-clause-some c =
    let n : ℕ = length c.args.front.now in let m : ℕ = length c.args.back.now in let r = c.below-left-else-a-start.result in let xs = c.deref-else-a-start.result.now in
    few_after xs c.args.self.now.after.items c.args.back.now (c.args.a - n) r (from_end n m c.args.a r xs c.if-a-start.false c.below-left-else-a-start.ensures) c.deref-else-a-start.ensures.value c.requires.feeds.1 (omega (arith, c.requires.within, c.if-a-start.false))

pub turn_over-requires-else-a-start-clause-within : goal.turn_over-requires-else-a-start-clause-within
turn_over-requires-else-a-start-clause-within c = ends_within_text c.args.self.now.after.items c.args.back.now (length c.args.front.now) c.requires.feeds.1

pub returns-then-a-start-clause-feeds : goal.returns-then-a-start-clause-feeds
returns-then-a-start-clause-feeds c =
    feeds_back c.deref.result.now c.args.self.now.before.items c.args.front.now c.args.back.now c.args.a c.below-left.result c.below-left.ensures c.deref.ensures.value c.requires.feeds.0 (omega (arith, c.if-a-start.true))
    c.args.self.now.after.items c.turn_over.new.from.items c.turn_over.new.to.items c.requires.feeds.1 c.turn_over.ensures.stay c.turn_over.ensures.go

pub returns-else-a-start-clause-feeds : goal.returns-else-a-start-clause-feeds
returns-else-a-start-clause-feeds c =
    let front = c.args.front.now in let back = c.args.back.now in let a = c.args.a in
    let n : ℕ = length front in let m : ℕ = length back in let r = c.below-left-else-a-start.result in let xs = c.deref-else-a-start.result.now in
    let new = c.turn_over-else-a-start in
    let at : n + (a - n) ≡ a = omega (arith, c.if-a-start.false) in
    subst (λ i. AreFeeds new.new.to.items new.new.from.items (take i (front ++ back)) (drop i (front ++ back))) at
    (feeds_on xs c.args.self.now.after.items back (a - n) r (from_end n m a r xs c.if-a-start.false c.below-left-else-a-start.ensures) c.deref-else-a-start.ensures.value c.requires.feeds.1 (omega (arith, c.requires.within, c.if-a-start.false))
    c.args.self.now.before.items front new.new.to.items new.new.from.items c.requires.feeds.0 new.ensures.stay new.ensures.go)
