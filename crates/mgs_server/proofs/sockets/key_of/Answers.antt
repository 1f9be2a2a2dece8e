use Rattle.std.proofs.Common.{sym, ◌∙◌, arith}
use Rattle.mgs_server.proofs.Due.{none_before, none_found, none_more}
use Rattle.mgs_server.proofs.sockets.key_of.Goals as goal

pub loop-key-init : goal.loop-key-init
loop-key-init g c = none_before c.args.peers.now c.args.id c.args.from

pub loop-key-preserved : goal.loop-key-preserved
loop-key-preserved g c = none_more c.args.peers.now c.args.id c.args.from c.loop-key.key c.loop-key.invariant (sym c.is_of.ensures ∙ c.if-is_of.false)

pub loop-key-2-init : goal.loop-key-2-init
loop-key-2-init g c = λ k lt. absurd (omega (arith, lt))

pub loop-key-2-preserved : goal.loop-key-2-preserved
loop-key-2-preserved g c = λ k lt. none_more c.args.peers.now c.args.id 0 c.loop-key-2.key (λ j ge less. c.loop-key-2.invariant j less) (sym c.is_of-in-loop-key-2.ensures ∙ c.if-is_of-2.false) k (omega arith) lt

pub returns : goal.returns
returns g c = none_found c.args.peers.now c.args.id c.args.from c.capacity.result c.capacity.result c.capacity.ensures.slots (λ k ge lt. c.loop-key.invariant k ge (omega (arith, lt, c.loop-key-test.false))) (λ k lt. c.loop-key-2.invariant k (omega (arith, lt, c.loop-key-2-test.false)))
