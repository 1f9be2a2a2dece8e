-- What is kept of each buffer: the buffer, and the marks in its text.
use Rattle.std.specs.Prelude.{◌≡◌, ◌≢◌, ◌≤◌, ◌∷◌, ℕ, Bool, false, List, [], length, Option, Some, None, find, is_some, slice_set, IsSome}
use Rattle.mgs_model.specs.Access.{owners_of}
use Rattle.mgs_model.specs.declared.owners.Owners.{Owners}
use Rattle.mgs_model.specs.Text.{shift_all}
use Rattle.mgs_model.specs.World.{Buffer, is_named}
use Rattle.mgs_model.specs.declared.owners.NewOwner.{NewOwner}
use Rattle.mgs_model.specs.Apply.{change_first, remove_first, new_buffer, owners_after, buffer_edited, buffer_unmodified}
use Rattle.mgs_model.specs.declared.entry.Entry.{Entry}
use Rattle.mgs_marks.specs.Marks.{mark_in, position_in}

pub record MarkedBuffer : Type 0 where
  pub buffer : Buffer
  pub marks : List (Option ℕ)

abbrev pub marked_named : List ℕ → MarkedBuffer → Bool
marked_named name k = is_named name k.buffer

-- a buffer that was not edited, and no marks
abbrev pub marked_new : List ℕ → Owners → List Entry → List ℕ → Bool → MarkedBuffer
marked_new name owners entries text file =
    record {
      buffer = record { name = name; owners = owners; entries = entries; text = text; items = []; serial = 0; modified = false; file = file };
      marks = [];
    }

-- a buffer that was kept, modified since it was written or not: no edit of it is recorded, and it has no marks
abbrev pub marked_restored : List ℕ → Owners → List Entry → List ℕ → Bool → Bool → MarkedBuffer
marked_restored name owners entries text file modified =
    record {
      buffer = record { name = name; owners = owners; entries = entries; text = text; items = []; serial = 0; modified = modified; file = file };
      marks = [];
    }

-- a buffer that was created, as the model has it, and no marks
abbrev pub marked_created : List ℕ → List ℕ → MarkedBuffer
marked_created name owner = record { buffer = new_buffer name owner; marks = [] }

abbrev pub marked_or_none : Option MarkedBuffer → MarkedBuffer
marked_or_none None = marked_new [] (owners_of [] None) [] [] false
marked_or_none (Some k) = k

-- what is kept under a name
abbrev pub marked_at : List ℕ → List MarkedBuffer → MarkedBuffer
marked_at name ks = marked_or_none (find (marked_named name) ks)

-- there is a buffer of that name
abbrev pub has_buffer : List ℕ → List MarkedBuffer → Bool
has_buffer name ks = is_some (find (marked_named name) ks)

abbrev pub HasBuffer : List ℕ → List MarkedBuffer → Type 0
HasBuffer name ks = IsSome (find (marked_named name) ks)

-- the first of that name is gone, with its marks
abbrev pub without_marked : List ℕ → List MarkedBuffer → List MarkedBuffer
without_marked name ks = remove_first (marked_named name) ks

-- the mark is in use
abbrev pub IsMark : List ℕ → ℕ → List MarkedBuffer → Type 0
IsMark name id ks = IsSome (mark_in (marked_at name ks).marks id)

-- no buffer has a mark in use
pub record AreUnmarked (ks : List MarkedBuffer) : Type 0 where
  pub none : (name : List ℕ) (id : ℕ) → mark_in (marked_at name ks).marks id ≡ None

-- the position of a mark of a buffer
abbrev pub mark_at : List ℕ → List MarkedBuffer → ℕ → ℕ
mark_at name ks id = position_in (marked_at name ks).marks id

-- the characters from a up to b replaced, with every mark moved
abbrev pub marked_edited : ℕ → ℕ → List ℕ → MarkedBuffer → MarkedBuffer
marked_edited a b put k = record { buffer = buffer_edited a b put k.buffer; marks = shift_all a b (length put) k.marks }

-- not modified since it was written
abbrev pub marked_unmodified : MarkedBuffer → MarkedBuffer
marked_unmodified k = record { buffer = buffer_unmodified k.buffer; marks = k.marks }

-- another owner or owning group, and another access list
abbrev pub marked_owners_set : NewOwner → MarkedBuffer → MarkedBuffer
marked_owners_set new k = record { buffer = record k.buffer { owners = owners_after new k.buffer.owners }; marks = k.marks }

abbrev pub marked_list_set : List Entry → MarkedBuffer → MarkedBuffer
marked_list_set entries k = record { buffer = record k.buffer { entries = entries }; marks = k.marks }

-- a mark put at a position
abbrev pub marked_placed : ℕ → ℕ → MarkedBuffer → MarkedBuffer
marked_placed id p k = record { buffer = k.buffer; marks = slice_set k.marks id (Some p) }

-- other marks
abbrev pub with_marks : List (Option ℕ) → MarkedBuffer → MarkedBuffer
with_marks marks k = record { buffer = k.buffer; marks = marks }

-- the buffer has a mark more, at p, and nothing else changed
pub record MarkAdded (name : List ℕ) (p id : ℕ) (old new : List MarkedBuffer) : Type 0 where
  pub marks : List (Option ℕ)
  pub shape : new ≡ change_first (marked_named name) (with_marks marks) old
  pub free : mark_in (marked_at name old).marks id ≡ None
  pub added : mark_in marks id ≡ Some p
  pub others : (k : ℕ) → k ≢ id → mark_in marks k ≡ mark_in (marked_at name old).marks k

-- the buffer has a mark less, and nothing else changed
pub record MarkDropped (name : List ℕ) (id : ℕ) (old new : List MarkedBuffer) : Type 0 where
  pub marks : List (Option ℕ)
  pub shape : new ≡ change_first (marked_named name) (with_marks marks) old
  pub gone : mark_in marks id ≡ None
  pub others : (k : ℕ) → k ≢ id → mark_in marks k ≡ mark_in (marked_at name old).marks k

-- no text has more than 1,048,576 characters
abbrev pub AreWithinLimit : List MarkedBuffer → Type 0
AreWithinLimit [] = Unit {0}
AreWithinLimit (k ∷ ks) = (length k.buffer.text ≤ 1048576) × AreWithinLimit ks
