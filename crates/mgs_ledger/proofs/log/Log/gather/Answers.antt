use Rattle.mgs_ledger.proofs.Refusals.{not_taken_after}
use Rattle.mgs_ledger.proofs.log.Log.gather.Goals as goal

pub returns-in_err-at-clause-failed : goal.returns-in_err-at-clause-failed
returns-in_err-at-clause-failed g c = not_taken_after g.S.Store _ c.args.self.now.gathered.items c.args.self.now.conn c.make_room.new.self.conn c.from_residual-in_err-at.result c.in_ok-make_room.ensures.committed

pub returns-clause-failed : goal.returns-clause-failed
returns-clause-failed g c = not_taken_after g.S.Store _ c.args.self.now.gathered.items c.args.self.now.conn c.make_room.new.self.conn c.gather.result c.in_ok-make_room.ensures.committed
