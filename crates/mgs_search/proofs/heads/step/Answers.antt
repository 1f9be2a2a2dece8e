use Rattle.std.proofs.Common.{◌≡◌, ◌≢◌, ◌<◌, length, arith}
use Rattle.mgs_search.proofs.Borders.{near_read, near_none, near_grown, near_shorter, same_there, other_there}
use Rattle.mgs_search.proofs.heads.step.Goals as goal

pub loop-k-init : goal.loop-k-init
loop-k-init c = record { within = omega arith; near = λ text a i read here. near_read c.args.head.now text a i c.args.q read }

pub returns-then-none_stands-clause-value : goal.returns-then-none_stands-clause-value
returns-then-none_stands-clause-value c = λ text a i read here.
    let ps = c.args.head.now in
    let k = c.loop-k.k in
    let inside : k < length ps = omega (arith, c.loop-k.invariant.within, c.requires.head, c.requires.within) in
    let other : c.index-head-k.result ≢ c.args.c = c.loop-k-test.true in
    near_none ps text a i k (c.none_stands.ensures.none c.if-none_stands.true) (omega arith) (c.loop-k.invariant.near text a i read here) (other_there ps text i k c.index-head-k.result c.args.c inside c.index-head-k.is here other)

pub loop-k-preserved : goal.loop-k-preserved
loop-k-preserved c =
    let ps = c.args.head.now in
    let k = c.loop-k.k in
    let inside : k < length ps = omega (arith, c.loop-k.invariant.within, c.requires.head, c.requires.within) in
    let other : c.index-head-k.result ≢ c.args.c = c.loop-k-test.true in
    let border = c.left_of-k.ensures ps c.requires.borders (c.none_stands.ensures.some c.if-none_stands.false) in
    record {
      within = omega (arith, border.within, c.loop-k.invariant.within);
      near = λ text a i read here.
          near_shorter ps text a i k c.left_of-k.result inside (c.loop-k.invariant.near text a i read here)
          (other_there ps text i k c.index-head-k.result c.args.c inside c.index-head-k.is here other) border;
    }

pub returns-clause-value : goal.returns-clause-value
returns-clause-value c = λ text a i read here.
    let ps = c.args.head.now in
    let k = c.loop-k.k in
    let inside : k < length ps = omega (arith, c.loop-k.invariant.within, c.requires.head, c.requires.within) in
    let same : c.index-head-k.result ≡ c.args.c = c.loop-k-test.false in
    near_grown ps text a i k (c.loop-k.invariant.near text a i read here) (same_there ps text i k c.index-head-k.result c.args.c inside c.index-head-k.is here same)
