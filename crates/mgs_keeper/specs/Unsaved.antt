-- WHAT IS TOLD of a text that is served in the place of its file's.
use Rattle.std.specs.Prelude.{◌≡◌, ◌≢◌, ℕ, ℤ, Bool, false, ◌&&◌, not, List, Option, None, Some, codes}
use Rattle.mgs_buffers.specs.MarkedBuffer.{MarkedBuffer, has_buffer}
use Rattle.mgs_journal.specs.Texts.{KeptText}
use Rattle.mgs_keep.specs.Sums.{sum_of}

-- one is kept that was not saved, under a name that no user took, and of which the configuration has a buffer
abbrev pub is_unsaved : (List ℕ → Bool) → List MarkedBuffer → List ℕ → Option KeptText → Bool
is_unsaved taken config name None = false
is_unsaved taken config name (Some kept) = kept.modified && not (taken name) && has_buffer name config

-- its file's text had the one sum when it was kept, and has the other now
pub record AreUnsavedWords (kept now : ℤ) (words : List ℕ) : Type 0 where
  pub same : kept ≡ now → words ≡ codes "its text was not saved, and is the journal's"
  pub other : kept ≢ now → words ≡ codes "its text was not saved, and is the journal's; its file was changed since"

-- whether its file was changed since is told, of the text that is kept of a buffer of the configuration
abbrev pub SaysFile : MarkedBuffer → Option KeptText → List ℕ → Type 0
SaysFile k None words = ⊥
SaysFile k (Some kept) words = AreUnsavedWords kept.file (sum_of k.buffer.text) words
