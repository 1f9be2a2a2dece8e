-- One session changed, with the marks that it uses.
use Rattle.std.specs.Prelude.{◌≡◌, ℕ, ◌+◌, ◌≤◌, List}
use Rattle.mgs_buffers.specs.MarkedBuffer.{MarkedBuffer, mark_at}
use Rattle.mgs_session.specs.declared.Session.{Session}
use Rattle.mgs_world.specs.Sound.{in_use, session_uses, uses}
use Rattle.mgs_world.specs.Worlds.{buffers_of, size_in}

-- each mark in use is used once, or is held: it was reserved, and is used next
pub record IsSoundBut (held : List ℕ → ℕ → ℕ) (ks : List MarkedBuffer) (xs : List Session) : Type 0 where
  pub once : (m : List ℕ) (i : ℕ) → uses m i xs + held m i ≡ in_use m i ks

-- the buffers are the same, the marks in use go with what the session uses, and those of the other sessions stay where they are
pub record OnlyThis (held : List ℕ → ℕ → ℕ) (ks ls : List MarkedBuffer) (x y : Session) : Type 0 where
  pub buffers : buffers_of ls ≡ buffers_of ks
  pub uses : (m : List ℕ) (i : ℕ) → in_use m i ls + session_uses m i x + held m i ≡ in_use m i ks + session_uses m i y
  pub stay : (m : List ℕ) (i : ℕ) → session_uses m i x ≡ 0 → 1 ≤ in_use m i ks → 1 ≤ in_use m i ls → mark_at m ls i ≡ mark_at m ks i
  pub size : size_in y ≡ size_in x

-- no mark is held
abbrev pub nothing_held : List ℕ → ℕ → ℕ
nothing_held m i = 0
