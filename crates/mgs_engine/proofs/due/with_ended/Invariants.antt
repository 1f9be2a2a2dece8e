use Rattle.std.proofs.Common.{◌≡◌, ◌<◌, ℕ, drop}
use Rattle.std.specs.Prelude.{find, IfSome}
use Rattle.mgs_wire.specs.Calls.{IsBefore}
use Rattle.mgs_engine.specs.Serving.{is_end_of}
use Rattle.mgs_engine.proofs.due.with_ended.Given as goal

-- the least so far
abbrev pub invariant-loop-id : goal.invariant-loop-id
invariant-loop-id l = record {
  above : IfSome l.fn.least (λ x. l.after < x) → IfSome l.least (λ x. l.after < x);
  before : (x : ℕ) → IsBefore x l.least → IsBefore x l.fn.least;
  ended : (x : ℕ) → l.after < x → IsBefore x l.least → find (is_end_of x) l.ended ≡ find (is_end_of x) (drop l.id-index l.ended);
}
