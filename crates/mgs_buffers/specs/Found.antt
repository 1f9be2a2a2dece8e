-- A buffer that was looked up by its name.
use Rattle.std.specs.Prelude.{◌≡◌, ℕ, List, Option}
use Rattle.std.specs.List.{position_or_len}
use Rattle.mgs_buffers.specs.declared.buffer.Buffer.{Buffer}
use Rattle.mgs_buffers.specs.Contents.{marked_of}
use Rattle.mgs_buffers.specs.Judging.{IsRuled, rules_kept}
use Rattle.mgs_buffers.specs.MarkedBuffer.{MarkedBuffer, HasBuffer, marked_at, marked_named}

-- what was found: the name of one buffer, among all buffers
pub record Named : Type 0 where
  pub name : List ℕ
  pub all : List MarkedBuffer

-- these fields fit each other: the buffer is that of the name, the place is its place, and what a judge kept for that is about its owners and its list
pub record IsFound {T : Type 0} (text : T → List ℕ) (marks : T → List (Option ℕ)) (name : List ℕ) (all : List MarkedBuffer) (place : ℕ) (b : Buffer T) : Type 0 where
  pub kept : HasBuffer name all
  pub is : marked_of text marks name b ≡ marked_at name all
  pub there : IsRuled place b.owners b.list (rules_kept all)
  pub at : place ≡ position_or_len (marked_named name) all
