-- Bytes of a terminal as keys: ESC makes the next byte a key with Meta, and the bytes of a character past ASCII are one key.
use Rattle.std.specs.Prelude.{ℕ, nat_lt, ◌==◌, Bool, true, false, List, [], ◌∷◌, Option, Some, None, if◌then◌else◌}
use Rattle.mgs_model.specs.Sequences.{sequence_read}
use Rattle.mgs_model.specs.declared.sequence.Sequence.{Sequence}
use Rattle.mgs_model.specs.declared.sequence.Sequence.TheVariants.{Whole, Begun, Broken}
use Rattle.mgs_keys.specs.declared.token_texts.TheConstants.{ESCAPE}
use Rattle.mgs_keys.specs.declared.decoder.Key.{Key}
use Rattle.mgs_keys.specs.declared.decoder.Key.TheVariants.{Plain, Meta, Wide}
use Rattle.mgs_keys.specs.declared.decoder.Held.{Held}
use Rattle.mgs_keys.specs.declared.decoder.Held.TheVariants.{Nothing, Escape, One, Two, Three}

abbrev pub is_nothing : Held → Bool
is_nothing Nothing = true
is_nothing _ = false

abbrev pub is_in_character : Held → Bool
is_in_character Nothing = false
is_in_character Escape = false
is_in_character _ = true

-- the key of bytes past ASCII, of which this is the first; those that are no character give the first, which no word of keys has
abbrev pub begun_key : ℕ → Sequence → Option Key
begun_key first (Whole c) = Some (Wide c)
begun_key first Begun = None
begun_key first Broken = Some (Plain first)

abbrev pub held_begun : Sequence → Held → Held
held_begun (Whole c) held = Nothing
held_begun Begun held = held
held_begun Broken held = Nothing

-- within a character C-g (7) is a key of its own
abbrev pub key_within : ℕ → ℕ → List ℕ → Option Key
key_within first byte bytes = if byte == 7 then Some (Plain byte) else begun_key first (sequence_read bytes)

abbrev pub held_within : ℕ → List ℕ → Held → Held
held_within byte bytes held = if byte == 7 then Nothing else held_begun (sequence_read bytes) held

-- the key that a byte completes, by the bytes that came before it
abbrev pub decoded : Held → ℕ → Option Key
decoded Nothing byte =
    if byte == ESCAPE then None
    else if nat_lt byte 128 then Some (Plain byte)
    else begun_key byte (sequence_read (byte ∷ []))
decoded Escape byte = Some (Meta byte)
decoded (One a) byte = key_within a byte (a ∷ byte ∷ [])
decoded (Two a b) byte = key_within a byte (a ∷ b ∷ byte ∷ [])
decoded (Three a b c) byte = key_within a byte (a ∷ b ∷ c ∷ byte ∷ [])

-- what is held after the byte
abbrev pub held_after : Held → ℕ → Held
held_after Nothing byte =
    if byte == ESCAPE then Escape
    else if nat_lt byte 128 then Nothing
    else held_begun (sequence_read (byte ∷ [])) (One byte)
held_after Escape byte = Nothing
held_after (One a) byte = held_within byte (a ∷ byte ∷ []) (Two a byte)
held_after (Two a b) byte = held_within byte (a ∷ b ∷ byte ∷ []) (Three a b byte)
held_after (Three a b c) byte = held_within byte (a ∷ b ∷ c ∷ byte ∷ []) Nothing
