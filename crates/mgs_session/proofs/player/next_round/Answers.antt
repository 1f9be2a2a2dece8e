use Rattle.mgs_session.proofs.Rounds.{no_rounds}
use Rattle.mgs_session.proofs.player.next_round.Goals as goal

pub returns-then-is_empty-clause-none : goal.returns-then-is_empty-clause-none
returns-then-is_empty-clause-none c e = no_rounds c.args.times c.args.bytes.now c.if-is_empty.ensures
