use Rattle.std.proofs.Common.{List, ℕ, refl, sym, subst, ◌∙◌}
use Rattle.mgs_term.specs.Drawing.{Anything, Draws}
use Rattle.mgs_engine.specs.Serving.{pending_of}
use Rattle.mgs_replay.specs.Clients.{TermFed}
use Rattle.mgs_replay.specs.Served.{ClientTakes}
use Rattle.mgs_replay.specs.declared.client.Client.TheVariants.{Open}
use Rattle.mgs_replay.proofs.clients.take_labelled.Goals as goal

pub returns-in-Ok : goal.returns-in-Ok
returns-in-Ok g c =
    let fed : TermFed (pending_of c.in-Open.id c.args.server.now) c.in-Open.term c.feed_all.new.self =
    λ s t is draws. (c.feed_all.ensures.drawn s t is (subst (λ (bytes : List ℕ). Draws Anything bytes s t) (sym (c.bytes.ensures ∙ c.in-Ok.ensures.bytes)) draws)).1 in
    let client : ClientTakes c.args.server.now (Open c.in-Open.id c.in-Open.term) c.take.new.server (Open c.in-Open.id c.feed_all.new.self) = (c.in-Ok.ensures.taken, (c.feed_all.new.self, refl, fed)) in
    record { label = refl; client = rw c.in-Open.is client }
