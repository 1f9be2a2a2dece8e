use Rattle.std.proofs.Common.{None, subst}
use Rattle.mgs_program.specs.Serves.{Serves}
use Rattle.mgs_program.proofs.Serving.{served}
use Rattle.mgs_program.proofs.service.open_server.Goals as goal

pub returns-in-Ok-listen : goal.returns-in-Ok-listen
returns-in-Ok-listen g c =
    subst (λ w. Serves (λ store. store.faults) (λ store. None) (g.D.Finds.leads c.args.disk) g.D.Replaces.done (g.D.Replaces.done c.args.disk) w c.args.port c.in-Ok-listen.server) c.config.view_is
    (served c.in-Ok.store (λ store. store.faults) (λ store. None) (g.D.Finds.leads c.args.disk) g.D.Replaces.done (g.D.Replaces.done c.args.disk) _ c.args.port c.in-Ok-listen.server
    c.in-Ok.ensures.named c.in-Ok.ensures.found c.in-Ok.ensures.untouched c.in-Ok-listen.ensures.serving c.in-Ok-listen.ensures.tickets c.in-Ok-listen.ensures.peers c.in-Ok-listen.ensures.port)
