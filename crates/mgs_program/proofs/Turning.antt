-- A server that was served turn by turn, until a turn failed.
use Rattle.std.proofs.Common.{suc}
use Rattle.mgs_program.specs.Turning.{EndsByFailure}

-- whatever ends by a failure from here does from the start, also with one turn more
pub leads_next : {T : Type 0} (turns fails : T → T → Type 0) (first now next : T) → ((new : T) → EndsByFailure turns fails now new → EndsByFailure turns fails first new) → turns now next → (new : T) → EndsByFailure turns fails next new → EndsByFailure turns fails first new
leads_next turns fails first now next leads turn new ends = leads new (record { count = suc ends.count; last = ends.last; made = (next, turn, ends.made); failed = ends.failed })
