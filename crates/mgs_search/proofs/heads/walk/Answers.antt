use Rattle.std.proofs.Common.{ℕ, arith}
use Rattle.std.proofs.Math.Path.{subst}
use Rattle.mgs_search.specs.Borders.{IsStep}
use Rattle.mgs_search.proofs.Borders.{walked}
use Rattle.mgs_search.proofs.heads.walk.Goals as goal

pub returns-then-next-piece-clause-value : goal.returns-then-next-piece-clause-value
returns-then-next-piece-clause-value c = λ text a j read all. c.next_read-next.ensures.read text a j (c.loop-i.invariant.read text a j read all) all

pub returns-then-stands-borders-clause-value : goal.returns-then-stands-borders-clause-value
returns-then-stands-borders-clause-value c = λ text a j read all.
    walked c.args.head.now c.args.piece.now text a j c.next_read-next.result c.loop-i.stands c.index-piece-next.result c.step-stands.result (omega arith) c.index-piece-next.is all (subst (λ (z : ℕ). IsStep c.args.head.now c.loop-i.stands z c.step-stands.result) c.to_ascii_lowercase.ensures.value c.step-stands.ensures.value) (c.next_read-next.ensures.read text a j (c.loop-i.invariant.read text a j read all) all)

pub loop-i-preserved : goal.loop-i-preserved
loop-i-preserved c =
    record {
      within = omega arith;
      below = omega (arith, c.step-stands.ensures.within, c.loop-i.invariant.below);
      read = λ text a j read all.
          walked c.args.head.now c.args.piece.now text a j c.next_read-next.result c.loop-i.stands c.index-piece-next.result c.step-stands.result (omega arith) c.index-piece-next.is all (subst (λ (z : ℕ). IsStep c.args.head.now c.loop-i.stands z c.step-stands.result) c.to_ascii_lowercase.ensures.value c.step-stands.ensures.value) (c.next_read-next.ensures.read text a j (c.loop-i.invariant.read text a j read all) all);
    }
