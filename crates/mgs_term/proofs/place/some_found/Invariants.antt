use Rattle.std.proofs.Common.{◌≡◌, ◌+◌, ◌-◌, ◌≤◌}
use Rattle.mgs_term.specs.Automaton.{some_shown}
use Rattle.mgs_term.proofs.place.some_found.Given as goal

abbrev pub invariant-loop-code : goal.invariant-loop-code
invariant-loop-code l = record {
  within : l.code ≤ l.from + l.count;
  rest : some_shown l.size l.code (l.from + l.count - l.code) ≡ some_shown l.size l.from l.count;
}
