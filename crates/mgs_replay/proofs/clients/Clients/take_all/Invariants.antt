use Rattle.std.proofs.Common.{◌≡◌, take, drop}
use Rattle.mgs_replay.specs.Served.{AllTake}
use Rattle.mgs_replay.proofs.clients.Clients.take_all.Given as goal

-- the terminals before the index took what waits for them, and those after are as they were
abbrev pub invariant-loop-labelled : goal.invariant-loop-labelled
invariant-loop-labelled g l = record {
  done : AllTake l.initial.server (take l.labelled-index l.initial.labelled-items) l.server (take l.labelled-index l.labelled-items);
  rest : drop l.labelled-index l.labelled-items ≡ drop l.labelled-index l.initial.labelled-items;
}
