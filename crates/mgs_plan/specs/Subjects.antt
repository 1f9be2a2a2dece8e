-- The buffer that a command on access lists or owners is about.
use Rattle.std.specs.Prelude.{ℕ, List, Option, Some, None, cond}
use Rattle.mgs_buffers.specs.MarkedBuffer.{MarkedBuffer, has_buffer}

-- the one whose text or access list is shown, where it is there
abbrev pub subject_kept : List MarkedBuffer → Option (List ℕ) → Option (List ℕ)
subject_kept ks None = None
subject_kept ks (Some name) = cond (has_buffer name ks) (Some name) None
