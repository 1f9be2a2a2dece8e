use Rattle.std.proofs.Common.{sym}
use Rattle.mgs_maps.proofs.Sequenced.{key_fits}
use Rattle.mgs_maps.proofs.keyboard.Keyboard.feed.Goals as goal

pub invariant_of-self-in-Some : goal.invariant_of-self-in-Some
invariant_of-self-in-Some c = key_fits c.feed_decoded.new.self.prefix c.self.inside.decoder c.feed-2.new.self c.args.byte c.in-Some.key (sym c.in-Some.ensures.key) c.feed-2.ensures.waits
