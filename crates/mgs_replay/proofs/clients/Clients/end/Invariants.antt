use Rattle.std.proofs.Common.{◌≡◌, take, drop, map}
use Rattle.mgs_replay.specs.Clients.{ended_by}
use Rattle.mgs_replay.proofs.clients.Clients.end.Given as goal

-- those before the index are as they are to be, and those after as they were
abbrev pub invariant-loop-labelled : goal.invariant-loop-labelled
invariant-loop-labelled l = record {
  done : take l.labelled-index l.labelled-items ≡ map (ended_by l.label l.cause) (take l.labelled-index l.initial.labelled-items);
  rest : drop l.labelled-index l.labelled-items ≡ drop l.labelled-index l.initial.labelled-items;
}
