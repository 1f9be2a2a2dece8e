use Rattle.mgs_program.specs.Turning.{EndsByFailure}
use Rattle.mgs_program.proofs.service.serve.Given as goal

-- whatever ends by a failure from here, does from the start
abbrev pub invariant-loop : goal.invariant-loop
invariant-loop g l = record { leads : (new : _) → EndsByFailure g.T.TakesTurns.turns g.T.TakesTurns.fails l.server new → EndsByFailure g.T.TakesTurns.turns g.T.TakesTurns.fails l.initial.server new }
