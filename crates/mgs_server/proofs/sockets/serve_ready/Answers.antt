use Rattle.std.proofs.Common.{List, refl, sym, ap, subst, ◌∙◌}
use Rattle.std.specs.Slice.Iter.{iter_rest}
use Rattle.mio.specs.declared.event.event.Event.{Event}
use Rattle.mgs_server.specs.Peers.{HandlesAll, keys_in, server_with}
use Rattle.mgs_server.proofs.Due.{none_handled}
use Rattle.mgs_server.proofs.Moving.{moved_then, none_moved}
use Rattle.mgs_server.proofs.sockets.serve_ready.Goals as goal

pub loop-event-init : goal.loop-event-init
loop-event-init g c = record {
  moved = none_moved g.E.Sessions.does g.E.Sessions.live g.E.Sessions.pending c.args.tickets.now _ _ refl;
  served = λ new h. subst (λ (xs : List Event). HandlesAll g.E.Sessions.does g.E.Sessions.live g.E.Sessions.pending g.S.Stream.answers g.E.Sessions.is_ended c.args.tickets.now (keys_in xs) (server_with c.args.engine.now c.args.peers.now) new) (ap iter_rest c.into_iter-event-iterator.ensures.into_iter_gives ∙ c.iter-event-items.ensures.rest) h;
}

pub loop-event-preserved : goal.loop-event-preserved
loop-event-preserved g c = record {
  moved = moved_then g.E.Sessions.does g.E.Sessions.live g.E.Sessions.pending c.args.tickets.now _ _ _ c.loop-event.invariant.moved c.serve_one.ensures.moved;
  served = λ new h. c.loop-event.invariant.served new (subst (λ (xs : List Event). HandlesAll g.E.Sessions.does g.E.Sessions.live g.E.Sessions.pending g.S.Stream.answers g.E.Sessions.is_ended c.args.tickets.now (keys_in xs) (server_with c.loop-event.engine c.loop-event.peers) new) (sym c.in-Some.ensures.steps) (server_with c.serve_one.new.engine c.serve_one.new.peers, c.serve_one.ensures.served, h));
}

pub returns-clause-served : goal.returns-clause-served
returns-clause-served g c = c.loop-event.invariant.served _ (none_handled g.E.Sessions.does g.E.Sessions.live g.E.Sessions.pending g.S.Stream.answers g.E.Sessions.is_ended c.args.tickets.now (iter_rest c.loop-event.event-iterator) _ c.in-None.ensures.steps.0)

pub returns-clause-moved : goal.returns-clause-moved
returns-clause-moved g c = c.loop-event.invariant.moved
