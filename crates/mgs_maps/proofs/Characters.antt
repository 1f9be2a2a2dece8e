-- A byte of a character past ASCII comes to that character alone.
use Rattle.std.proofs.Common.{◌≡◌, ℕ, true, [], ◌∷◌, ◌++◌, ◌∙◌, refl, sym, ap}
use Rattle.mgs_model.specs.Keys.{KeyRead, Half, Bound, Not_bound, key_read, sequence_step, is_character_byte, character_read}
use Rattle.mgs_model.specs.declared.sequence.Sequence.{Sequence}
use Rattle.mgs_model.specs.declared.sequence.Sequence.TheVariants.{Whole, Begun, Broken}
use Rattle.mgs_model.proofs.PastAscii.{past_ascii_read}
use Rattle.mgs_maps.specs.declared.maps.Fed.{Fed}
use Rattle.mgs_maps.specs.declared.maps.Fed.TheVariants.{Pending, Run, Unbound}
use Rattle.mgs_maps.specs.Held.{Held, FedBy, nothing_held, held_character, character_of, character_fed}

-- what a reading says of the character, and what it holds
abbrev character_in : KeyRead → Sequence
character_in (Half a keys) = Begun
character_in (Bound c n) = character_of c
character_in Not_bound = Broken

abbrev held_in : KeyRead → Held
held_in (Half a keys) = record { argument = a; keys = keys }
held_in (Bound c n) = nothing_held
held_in Not_bound = nothing_held

step_character : (h : Held) (byte : ℕ) (s : Sequence) → character_in (sequence_step h.argument (h.keys ++ byte ∷ []) s) ≡ s
step_character h byte (Whole c) = refl
step_character h byte Begun = refl
step_character h byte Broken = refl

step_held : (h : Held) (byte : ℕ) (s : Sequence) → held_in (sequence_step h.argument (h.keys ++ byte ∷ []) s) ≡ held_character h byte s
step_held h byte (Whole c) = refl
step_held h byte Begun = refl
step_held h byte Broken = refl

fed_character : (fed : Fed) (read : KeyRead) (new : Held) → FedBy fed read new → character_fed fed ≡ character_in read
fed_character Pending read new f = sym (ap character_in f)
fed_character (Run c n) read new f = sym (ap character_in f.0)
fed_character Unbound read new f = sym (ap character_in f.0)

fed_held : (fed : Fed) (read : KeyRead) (new : Held) → FedBy fed read new → new ≡ held_in read
fed_held Pending read new f = sym (ap held_in f)
fed_held (Run c n) read new f = f.1 ∙ sym (ap held_in f.0)
fed_held Unbound read new f = f.1 ∙ sym (ap held_in f.0)

pub is_character : (fed : Fed) (h new : Held) (byte : ℕ) → is_character_byte h.keys byte ≡ true → FedBy fed (key_read h.argument h.keys byte) new → character_fed fed ≡ character_read h.keys byte
is_character fed h new byte is f =
    fed_character fed (key_read h.argument h.keys byte) new f
    ∙ ap character_in (past_ascii_read h.argument h.keys byte is)
    ∙ step_character h byte (character_read h.keys byte)

pub is_held : (fed : Fed) (h new : Held) (byte : ℕ) → is_character_byte h.keys byte ≡ true → FedBy fed (key_read h.argument h.keys byte) new → new ≡ held_character h byte (character_fed fed)
is_held fed h new byte is f =
    fed_held fed (key_read h.argument h.keys byte) new f
    ∙ ap held_in (past_ascii_read h.argument h.keys byte is)
    ∙ step_held h byte (character_read h.keys byte)
    ∙ ap (held_character h byte) (sym (is_character fed h new byte is f))
