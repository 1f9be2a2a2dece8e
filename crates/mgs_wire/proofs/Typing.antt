-- Bytes for a session that is not open.
use Rattle.std.proofs.Common.{◌≡◌, ℕ, Bool, false, List, [], ◌∷◌, refl}
use Rattle.mgs_wire.specs.Calls.{Call, Typed}

-- all of them are dropped
pub shut : {E : Type 0} (does : E → Call → E → Type 0) (live : ℕ → E → Bool) (id : ℕ) (bytes : List ℕ) (s : E) → live id s ≡ false → Typed does live id bytes s s
shut does live id [] s e = refl
shut does live id (b ∷ bytes) s e = rw e refl
