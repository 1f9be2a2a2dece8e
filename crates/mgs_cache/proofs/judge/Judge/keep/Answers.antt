use Rattle.mgs_cache.proofs.Cached.{kept_among}
use Rattle.mgs_cache.proofs.judge.Judge.keep.Goals as goal

pub returns : goal.returns
returns c =
    kept_among c.self.inside.decisions c.put.new.self c.args.self.now c.new.result c.args.buffer c.args.user.now c.args.mask c.args.decision c.put.result c.self.view_is c.new.ensures c.put.ensures.entries c.put.ensures.err
