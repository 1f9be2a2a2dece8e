-- WHAT A START PUTS INTO ITS BUFFERS.
use Rattle.std.specs.Prelude.{◌≡◌, ℕ, Bool, true, false, ◌||◌, not, cond, List, [], ◌∷◌, ◌++◌, map, Option, Some, None}
use Rattle.std.specs.Str.{chars}
use Rattle.mgs_laws.specs.Apart.{Rules}
use Rattle.mgs_buffers.specs.Adding.{kept_buffer}
use Rattle.mgs_buffers.specs.MarkedBuffer.{MarkedBuffer, has_buffer, marked_at}
use Rattle.mgs_journal.specs.Texts.{KeptText}

-- what a buffer holds: its text, whether its file has another one, and whether it has a file
pub record Contents : Type 0 where
  pub text : List ℕ
  pub modified : Bool
  pub file : Bool

-- of a buffer that no file is read for: the text that is kept, if one is
abbrev pub contents_kept : Option KeptText → Contents
contents_kept None = record { text = []; modified = false; file = false }
contents_kept (Some kept) = record { text = chars kept.body; modified = kept.modified; file = false }

-- of a buffer of the configuration: what it has, and so what its file has
abbrev pub contents_configured : MarkedBuffer → Contents
contents_configured k = record { text = k.buffer.text; modified = false; file = k.buffer.file }

-- of a buffer of the configuration of which the journal may keep a text: that one where it was modified since it was written, else the file's
abbrev pub contents_resumed : MarkedBuffer → Option KeptText → Contents
contents_resumed k None = contents_configured k
contents_resumed k (Some kept) = cond kept.modified (record { text = chars kept.body; modified = true; file = k.buffer.file }) (contents_configured k)

-- of a buffer that is kept: under a name that a user took, and where the configuration has none of that name, no file is read for it
abbrev pub contents_at_start : (List ℕ → Bool) → List MarkedBuffer → List ℕ → Option KeptText → Contents
contents_at_start taken config name kept = cond (taken name || not (has_buffer name config)) (contents_kept kept) (contents_resumed (marked_at name config) kept)

-- a buffer that was not edited yet, without marks
abbrev pub buffer_with : Rules → Contents → MarkedBuffer
buffer_with rules contents = kept_buffer rules contents.text contents.file contents.modified

abbrev pub buffer_kept : (List ℕ → Bool) → List MarkedBuffer → Rules → Option KeptText → MarkedBuffer
buffer_kept taken config rules text = buffer_with rules (contents_at_start taken config rules.name text)

abbrev pub buffer_configured : List MarkedBuffer → Rules → MarkedBuffer
buffer_configured config rules = buffer_with rules (contents_configured (marked_at rules.name config))

-- those that are kept, each with the text that is kept at its place
abbrev pub buffers_kept : (List ℕ → Bool) → List MarkedBuffer → List Rules → List (Option KeptText) → List MarkedBuffer
buffers_kept taken config [] texts = []
buffers_kept taken config (r ∷ rs) [] = buffer_kept taken config r None ∷ buffers_kept taken config rs []
buffers_kept taken config (r ∷ rs) (t ∷ ts) = buffer_kept taken config r t ∷ buffers_kept taken config rs ts

-- buffers of the configuration came behind these
pub record AddsConfigured (config old new : List MarkedBuffer) : Type 0 where
  pub others : List Rules
  pub shape : new ≡ old ++ map (buffer_configured config) others

-- the buffers of a start: those that are kept, and behind them others of the configuration
abbrev pub StartsWith : (List ℕ → Bool) → List MarkedBuffer → List Rules → List (Option KeptText) → List MarkedBuffer → Type 0
StartsWith taken config kept texts buffers = AddsConfigured config (buffers_kept taken config kept texts) buffers
