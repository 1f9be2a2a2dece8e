-- What the killing of a buffer comes to.
use Rattle.std.specs.Prelude.{◌≡◌, ℕ, ◌==◌, false, List, [], ◌∷◌, length, Option, Some, None, if◌then◌else◌}
use Rattle.mgs_model.specs.declared.echo_text.Message.{Message}
use Rattle.mgs_model.specs.declared.echo_text.Message.TheVariants.{Says}
use Rattle.mgs_model.specs.declared.echo_text.Notice.TheVariants.{NoBuffer, NoSuchBuffer}
use Rattle.mgs_buffers.specs.MarkedBuffer.{MarkedBuffer, has_buffer}

-- the name that was typed, or else that of the buffer whose text or access list a window shows; none where it shows neither
abbrev pub name_in : Option (List ℕ) → List ℕ
name_in None = []
name_in (Some name) = name

abbrev pub name_meant : Option (List ℕ) → List ℕ → List ℕ
name_meant subject typed = if length typed == 0 then name_in subject else typed

-- what is told where no buffer has it
abbrev pub none_meant : List ℕ → Message
none_meant [] = Says NoBuffer
none_meant (c ∷ cs) = Says NoSuchBuffer

-- that no buffer has this name, and that this is told
pub record IsKillRefused (ks : List MarkedBuffer) (name : List ℕ) (message : Message) : Type 0 where
  pub none : has_buffer name ks ≡ false
  pub told : none_meant name ≡ message
