-- Marks that go to positions of their text, where they are to.
use Rattle.std.specs.Prelude.{◌≤◌, ℕ, List, length, Option, Some, None, IsSome}
use Rattle.mgs_model.specs.Apply.{change_first}
use Rattle.mgs_marks.specs.Marks.{mark_in}
use Rattle.mgs_buffers.specs.MarkedBuffer.{MarkedBuffer, marked_named, marked_placed}

-- the mark is in use, and the position is one of the text
abbrev pub CanStand : List (Option ℕ) → List ℕ → Option (ℕ × ℕ) → Type 0
CanStand marks text None = Unit {0}
CanStand marks text (Some target) = IsSome (mark_in marks target.0) × (target.1 ≤ length text)

-- one buffer, and all
abbrev pub marked_placed_if : Option (ℕ × ℕ) → MarkedBuffer → MarkedBuffer
marked_placed_if None k = k
marked_placed_if (Some target) k = marked_placed target.0 target.1 k

abbrev pub placed_if : List ℕ → Option (ℕ × ℕ) → List MarkedBuffer → List MarkedBuffer
placed_if name None ks = ks
placed_if name (Some target) ks = change_first (marked_named name) (marked_placed target.0 target.1) ks
