-- A server that is served turn by turn.
use Rattle.std.specs.Prelude.{◌≡◌, ℕ, zero, suc}

-- so many turns, one after another, lead from one state to another
abbrev pub AreTurns : {T : Type 0} → (T → T → Type 0) → ℕ → T → T → Type 0
AreTurns turns zero old new = new ≡ old
AreTurns {T = T} turns (suc n) old new = (mid : T) × turns old mid × AreTurns turns n mid new

-- some turns were made, and the one after them failed
pub record EndsByFailure {T : Type 0} (turns fails : T → T → Type 0) (old new : T) : Type 0 where
  pub count : ℕ
  pub last : T
  pub made : AreTurns turns count old last
  pub failed : fails last new
