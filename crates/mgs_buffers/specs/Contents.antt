-- What a buffer holds, as the contracts see it.
use Rattle.std.specs.Prelude.{◌≡◌, ℕ, List, Option, map}
use Rattle.mgs_buffers.specs.MarkedBuffer.{MarkedBuffer, with_marks}
use Rattle.mgs_buffers.specs.declared.buffer.Buffer.{Buffer}

module _ {T : Type 0} (text : T → List ℕ) (marks : T → List (Option ℕ)) where
  abbrev pub marked_of : List ℕ → Buffer T → MarkedBuffer
  marked_of name s =
      record {
        buffer = record { name = name; owners = s.owners; entries = s.list; text = text s.text; items = s.record.items; serial = s.record.serial; modified = s.modified; file = s.has_file };
        marks = marks s.text;
      }

  abbrev pub marked_all : List (List ℕ × Buffer T) → List MarkedBuffer
  marked_all entries = map (λ e. marked_of e.0 e.1) entries

  -- what is kept of one buffer has changed so, under whatever name
  abbrev pub Changed : (MarkedBuffer → MarkedBuffer) → Buffer T → Buffer T → Type 0
  Changed change old new = (name : List ℕ) → marked_of name new ≡ change (marked_of name old)

  -- nothing but the marks in its text
  abbrev pub ChangedMarks : Buffer T → Buffer T → Type 0
  ChangedMarks old new = Changed (with_marks (marks new.text)) old new
