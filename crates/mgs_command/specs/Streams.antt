-- The numbers of what is open.
use Rattle.std.specs.Prelude.{◌≡◌, ◌<◌, ◌≤◌, ℕ, Option, None, Some, ⊤}

-- the lowest free number was given: it stays taken where it is one of a standard stream, 0 to 2, and is free again where not
abbrev pub IsOpened : ℕ → Option ℕ → Option ℕ → Type 0
IsOpened number None None = ⊤
IsOpened number None (Some new) = ⊥
IsOpened number (Some old) None = ⊥
IsOpened number (Some old) (Some new) = (number ≡ old) × (number < 3 → old < new) × (3 ≤ number → new ≡ old)
