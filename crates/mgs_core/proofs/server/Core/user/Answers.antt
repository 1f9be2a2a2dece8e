use Rattle.std.proofs.Common.{Some, None, ap, ◌∙◌}
use Rattle.mgs_model.specs.World.{find_session}
use Rattle.mgs_core.specs.Calls.{user_in}
use Rattle.mgs_core.specs.Kept.{Kept}
use Rattle.mgs_core.proofs.Seen.{seen_as}
use Rattle.mgs_core.proofs.server.Core.user.Goals as goal

pub returns-in-Some : goal.returns-in-Some
returns-in-Some g c =
    seen_as user_in c.self.inside.world.directory c.self.inside.world.buffers c.self.inside.world.sessions.items c.self.inside.next_id c.args.id (Some c.in-Some.session.now) (rw c.deref.ensures.value at c.in-Some.ensures)
    ∙ ap (λ (k : Kept). user_in (find_session c.args.id k.world.sessions)) c.self.view_is

pub returns-in-None : goal.returns-in-None
returns-in-None g c =
    seen_as user_in c.self.inside.world.directory c.self.inside.world.buffers c.self.inside.world.sessions.items c.self.inside.next_id c.args.id None (rw c.deref.ensures.value at c.in-None.ensures)
    ∙ ap (λ (k : Kept). user_in (find_session c.args.id k.world.sessions)) c.self.view_is
