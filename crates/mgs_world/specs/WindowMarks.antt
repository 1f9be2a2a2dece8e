-- Marks of a window come and go.
use Rattle.std.specs.Prelude.{◌≡◌, ℕ, ◌+◌, ◌≤◌, List, Option, Some, None, find}
use Rattle.std.specs.Option.{option_map}
use Rattle.mgs_model.specs.Access.{Directory}
use Rattle.mgs_model.specs.World.{Buffer, may}
use Rattle.mgs_model.specs.declared.right.Right.TheVariants.{ReadAttributes}
use Rattle.mgs_buffers.specs.MarkedBuffer.{MarkAdded, MarkedBuffer, mark_at}
use Rattle.mgs_windows.specs.declared.WindowMarks.{WindowMarks}
use Rattle.mgs_world.specs.Worlds.{buffers_of, size_named}
use Rattle.mgs_world.specs.Sound.{in_use, window_marks_uses}

-- other marks stay where they are
abbrev pub MarksStay : List MarkedBuffer → List MarkedBuffer → Type 0
MarksStay old new = (m : List ℕ) (i : ℕ) → 1 ≤ in_use m i old → 1 ≤ in_use m i new → mark_at m new i ≡ mark_at m old i

-- all texts are as long as they were
abbrev pub SizesStay : List Buffer → List Buffer → Type 0
SizesStay old new = (n : List ℕ) → size_named n new ≡ size_named n old

-- a window's marks are added: point and top at these positions, and the mark, where there is one
pub record WindowMarksAdded (name : List ℕ) (p : ℕ) (m : Option ℕ) (t : ℕ) (x : WindowMarks) (old new : List MarkedBuffer) : Type 0 where
  pub buffers : buffers_of new ≡ buffers_of old
  pub uses : (n : List ℕ) (i : ℕ) → in_use n i new ≡ in_use n i old + window_marks_uses n i (Some x)
  pub stay : MarksStay old new
  pub named : x.name ≡ name
  pub point : mark_at name new x.point ≡ p
  pub mark : option_map (mark_at name new) x.mark ≡ m
  pub top : mark_at name new x.top ≡ t

-- a window that has no mark gets one at p, and its point and top stay
abbrev pub MarkAddedBeside : WindowMarks → ℕ → WindowMarks → List MarkedBuffer → List MarkedBuffer → Type 0
MarkAddedBeside x p y old new = (id : ℕ) × MarkAdded x.name p id old new × (y ≡ record x { mark = Some id })

-- what a window showed is given up with its marks
pub record WindowMarksDropped (o : Option WindowMarks) (old new : List MarkedBuffer) : Type 0 where
  pub buffers : buffers_of new ≡ buffers_of old
  pub uses : (m : List ℕ) (i : ℕ) → in_use m i old ≡ in_use m i new + window_marks_uses m i o
  pub stay : MarksStay old new

-- the name of what a window shows
abbrev pub window_marks_name : Option WindowMarks → Option (List ℕ)
window_marks_name o = option_map (λ (x : WindowMarks). x.name) o

-- the name of the first buffer whose attributes a user may read
abbrev pub first_name : Directory → List ℕ → List MarkedBuffer → Option (List ℕ)
first_name directory user ks = option_map (λ (b : Buffer). b.name) (find (may directory user ReadAttributes) (buffers_of ks))

-- what the first window of a session shows: a buffer at marks that were added, or nothing
abbrev pub FirstWindowMarks : Option WindowMarks → List MarkedBuffer → List MarkedBuffer → Type 0
FirstWindowMarks None old new = WindowMarksDropped None old new
FirstWindowMarks (Some x) old new = WindowMarksAdded x.name 0 None 0 x old new
