use Rattle.std.proofs.Common.{[], ◌∷◌, refl}
use Rattle.mgs_server.proofs.Due.{due_next, due_none}
use Rattle.mgs_server.proofs.Moving.{moved_then, none_moved}
use Rattle.mgs_server.proofs.sockets.write_due.Goals as goal

pub loop-next-init : goal.loop-next-init
loop-next-init g c = record { moved = λ tickets. none_moved g.E.Sessions.does g.E.Sessions.live g.E.Sessions.pending tickets _ _ refl; due = λ new ds w. record { dues = ds; written = w } }

pub loop-next-preserved : goal.loop-next-preserved
loop-next-preserved g c = record {
  moved = λ tickets. moved_then g.E.Sessions.does g.E.Sessions.live g.E.Sessions.pending tickets _ _ _ (c.loop-next.invariant.moved tickets) (c.write_one.ensures.moved tickets);
  due = λ new ds w. c.loop-next.invariant.due new (record { id = c.in-Some.next; key = c.key_of-key.result } ∷ ds) (due_next g.E.Sessions.does g.E.Sessions.live g.E.Sessions.pending g.S.Stream.answers g.E.Sessions.is_ended c.loop-next.id c.in-Some.next c.key_of-key.result _ _ new ds c.in-Some.ensures.passed c.in-Some.ensures.no_end c.in-Some.ensures.above c.key_of-key.ensures c.write_one.ensures.written w);
}

pub returns-clause-due : goal.returns-clause-due
returns-clause-due g c = c.loop-next.invariant.due _ [] (due_none g.E.Sessions.does g.E.Sessions.live g.E.Sessions.pending g.S.Stream.answers g.E.Sessions.is_ended c.loop-next.id _ c.in_default.ensures.passed c.in_default.ensures.no_end)

pub returns-clause-moved : goal.returns-clause-moved
returns-clause-moved g c = c.loop-next.invariant.moved
