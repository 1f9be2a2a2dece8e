-- What bytes come to, behind the decoder.
use Rattle.std.proofs.Common.{◌≡◌, ◌≤◌, ◌<◌, ◌-◌, ℕ, Bool, true, false, ◌&&◌, List, [], ◌∷◌, ◌++◌, length, drop, refl, sym, ap, subst, ◌∙◌, true≢false, arith, append-nil}
use Rattle.std.specs.Prelude.{◌==◌, nat_le, nat_lt, find, chars, Option, Some, None, is_some, if◌then◌else◌}
use Rattle.std.specs.Int.{is_in_range}
use Rattle.std.specs.List.{list_all}
use Rattle.std.specs.Option.{option_map}
use Rattle.std.specs.Str.{is_utf8}
use Rattle.std.specs.Str.Lossy.{utf8_valid_len, utf8_error_len, second_byte_min, second_byte_max}
use Rattle.std.proofs.lemmas.Bool.{eqb-true, ne_eqb, le-leb, lt-leb, leb-true, leb-false, ltb-true, ltb-false, and_parts}
use Rattle.std.proofs.Math.Bool.{and-false}
use Rattle.std.proofs.lemmas.Option.{none-some, same_Some}
use Rattle.mgs_model.specs.Names.{same_name}
use Rattle.mgs_model.specs.Sequences.{sequence_read, whole_of, begun_of}
use Rattle.mgs_model.specs.declared.sequence.Sequence.{Sequence}
use Rattle.mgs_model.specs.declared.sequence.Sequence.TheVariants.{Whole, Begun, Broken}
use Rattle.mgs_model.specs.Keys.{KeyRow, Half, Bound, Not_bound, key_rows, find_row, value_of, is_digit, digit_added, four_times, sequence_step, key_read}
use Rattle.mgs_model.specs.declared.session.Argument.{Argument}
use Rattle.mgs_model.specs.declared.session.Insertion.TheVariants.{SelfInsert}
use Rattle.mgs_model.specs.declared.session.Setting.TheVariants.{KeyboardQuit}
use Rattle.mgs_model.specs.declared.session.Command.TheVariants.{Insert, Set}
use Rattle.mgs_keys.specs.Decoded.{decoded, held_after, begun_key, held_begun, key_within, held_within, is_nothing}
use Rattle.mgs_keys.specs.declared.decoder.Key.{Key}
use Rattle.mgs_keys.specs.declared.decoder.Key.TheVariants.{Plain, Meta, Wide}
use Rattle.mgs_keys.specs.declared.decoder.Held.{Held as Decoding}
use Rattle.mgs_keys.specs.declared.decoder.Held.TheVariants.{Nothing, Escape, One, Two, Three}
use Rattle.mgs_maps.specs.declared.maps.Stroke.TheVariants as stroke
use Rattle.mgs_maps.specs.declared.maps.Prefix.{Prefix}
use Rattle.mgs_maps.specs.declared.maps.Prefix.TheVariants.{Empty, ControlX, MetaBracket, Quote}
use Rattle.mgs_maps.specs.declared.maps.Fed.{Fed}
use Rattle.mgs_maps.specs.declared.maps.Maps.{Maps}
use Rattle.mgs_maps.specs.Held.{FedBy, held_by, held_at, prefix_bytes, decoder_bytes, key_reads, takes_sequence, takes_escape, Fits, IsBegun}
use Rattle.mgs_maps.specs.Words.{is_raw, unquoted, prefix_after, inserted, chosen, word_reads, plain_reads}
use Rattle.mgs_maps.specs.Back.{past}
use Rattle.mgs_maps.proofs.KeyRules.{plain_is_read}

-- BYTES PAST ASCII ARE IN NO ROW

abbrev begins_low : List ℕ → Bool
begins_low [] = true
begins_low (k ∷ ks) = nat_lt k 128

other_name : (byte : ℕ) (ks : List ℕ) → 128 ≤ byte → begins_low ks ≡ true → same_name (byte ∷ []) ks ≡ false
other_name byte [] high low = refl
other_name byte (k ∷ ks) high low =
    let below : k < 128 = ltb-true k 128 low in
    rw (ne_eqb byte k (λ e. omega (arith, e, below))) refl

none_found : (byte : ℕ) (rs : List KeyRow) → 128 ≤ byte → list_all (λ (r : KeyRow). begins_low r.keys) rs ≡ true → find (λ (r : KeyRow). same_name (byte ∷ []) r.keys) rs ≡ None
none_found byte [] high low = refl
none_found byte (r ∷ rs) high low =
    let parts : (begins_low r.keys ≡ true) × (list_all (λ (r : KeyRow). begins_low r.keys) rs ≡ true) = and_parts (begins_low r.keys) (list_all (λ (r : KeyRow). begins_low r.keys) rs) low in
    rw (other_name byte r.keys high parts.0) (none_found byte rs high parts.1)

in_no_row : (byte : ℕ) → 128 ≤ byte → find_row (byte ∷ []) ≡ None
in_no_row byte high = none_found byte key_rows high refl

above : (a n : ℕ) → 128 ≤ a → n ≤ 127 → nat_le a n ≡ false
above a n high low = lt-leb a n (omega (arith, high, low))

from : (a n : ℕ) → 128 ≤ a → n ≤ 128 → nat_le n a ≡ true
from a n high low = le-leb n a (omega arith)

word_past : (a : Option Argument) (byte : ℕ) → 128 ≤ byte → word_reads a Empty (stroke.Plain byte) ≡ Not_bound
word_past a byte h =
    ap (λ (o : Option KeyRow). chosen a (option_map (λ (r : KeyRow). r.command) o) (prefix_after Empty (stroke.Plain byte)) (inserted Empty (stroke.Plain byte))) (in_no_row byte h)
    ∙ rw (past byte 24 h (omega arith), from byte 32 h (omega arith), above byte 126 h (omega arith), past byte 9 h (omega arith)) refl

plain_past : (a : Option Argument) (byte : ℕ) → 128 ≤ byte → plain_reads a Empty byte ≡ Not_bound
plain_past a byte h =
    ap (λ r. if byte == 7 then Bound (Set KeyboardQuit) (value_of a) else if byte == 21 then Half (Some (four_times a)) [] else if is_digit byte && is_some a then Half (Some (digit_added (byte - 48) a)) [] else if byte == 17 then Half a (17 ∷ []) else r) (word_past a byte h)
    ∙ rw (past byte 7 h (omega arith), past byte 21 h (omega arith), from byte 48 h (omega arith), above byte 57 h (omega arith), past byte 17 h (omega arith)) refl

-- the first byte of what is no character
pub broken_is_unbound : (a : Option Argument) (byte : ℕ) → 128 ≤ byte → key_reads a [] (Plain byte) ≡ Not_bound
broken_is_unbound a byte h = plain_is_read a Empty byte ∙ plain_past a byte h

-- FOUR BYTES END A SEQUENCE

whole_begins_none : (cs : List ℕ) → whole_of cs ≡ Begun → ⊥
whole_begins_none [] e = cc
whole_begins_none (c ∷ cs) e = cc

some_length : (p q r : Bool) → begun_of 4 (if p then (if q then (if r then Some 3 else Some 2) else Some 1) else Some 1) ≡ Broken
some_length true true true = refl
some_length true true false = refl
some_length true false r = refl
some_length false q r = refl

no_text : (bytes : List ℕ) → IsBegun bytes → is_utf8 bytes ≡ false
unfolding sequence_read
no_text bytes h =
    let rest : Sequence = begun_of (length bytes) (utf8_error_len (drop (utf8_valid_len bytes) bytes)) in
    let go : (t : Bool) → (if t then whole_of (chars bytes) else rest) ≡ Begun → t ≡ false = λ t. elim t as (λ t. (if t then whole_of (chars bytes) else rest) ≡ Begun → t ≡ false) [
      | true ↦ λ e. absurd (whole_begins_none (chars bytes) e)
      | false ↦ λ e. refl
    ]
    in go (is_utf8 bytes) h

four_break : (a b c d : ℕ) → is_utf8 (a ∷ []) ≡ false → is_utf8 (a ∷ b ∷ []) ≡ false → is_utf8 (a ∷ b ∷ c ∷ []) ≡ false → is_utf8 (a ∷ b ∷ c ∷ d ∷ []) ≡ false → sequence_read (a ∷ b ∷ c ∷ d ∷ []) ≡ Broken
unfolding sequence_read utf8_valid_len utf8_error_len
four_break a b c d one two three four =
    rw (four, three, two, one) (some_length (is_in_range 0xC2 0xF4 a) (is_in_range (second_byte_min a) (second_byte_max a) b) (is_in_range 0x80 0xBF c))

four_end : (a b c d : ℕ) → IsBegun (a ∷ []) → IsBegun (a ∷ b ∷ []) → IsBegun (a ∷ b ∷ c ∷ []) → IsBegun (a ∷ b ∷ c ∷ d ∷ []) → ⊥
four_end a b c d one two three four =
    let broken : Broken ≡ Begun = sym (four_break a b c d (no_text (a ∷ []) one) (no_text (a ∷ b ∷ []) two) (no_text (a ∷ b ∷ c ∷ []) three) (no_text (a ∷ b ∷ c ∷ d ∷ []) four)) ∙ four in
    cc

-- A BYTE OF A SEQUENCE

first_read : (a : Option Argument) (prefix : Prefix) (byte : ℕ) → takes_sequence prefix ≡ true → 128 ≤ byte → key_read a (prefix_bytes prefix ++ []) byte ≡ sequence_step a (prefix_bytes prefix ++ byte ∷ []) (sequence_read (byte ∷ []))
unfolding key_read
first_read a Empty byte t h = rw (from byte 128 h (omega arith)) refl
first_read a ControlX byte t h = absurd (true≢false (sym t))
first_read a MetaBracket byte t h = absurd (true≢false (sym t))
first_read a Quote byte t h = rw (from byte 128 h (omega arith)) refl

next_read : (a : Option Argument) (prefix : Prefix) (first : ℕ) (more : List ℕ) (byte : ℕ) → takes_sequence prefix ≡ true → 128 ≤ first → (byte == 7) ≡ false → key_read a (prefix_bytes prefix ++ first ∷ more) byte ≡ sequence_step a (prefix_bytes prefix ++ first ∷ (more ++ byte ∷ [])) (sequence_read (first ∷ (more ++ byte ∷ [])))
unfolding key_read
next_read a Empty first more byte t h other = rw (past first 17 h (omega arith), from first 128 h (omega arith), other) refl
next_read a ControlX first more byte t h other = absurd (true≢false (sym t))
next_read a MetaBracket first more byte t h other = absurd (true≢false (sym t))
next_read a Quote first more byte t h other = rw (from first 128 h (omega arith), other) refl

quit_read : (a : Option Argument) (prefix : Prefix) (first : ℕ) (more : List ℕ) (byte : ℕ) → takes_sequence prefix ≡ true → 128 ≤ first → (byte == 7) ≡ true → key_read a (prefix_bytes prefix ++ first ∷ more) byte ≡ Bound (Set KeyboardQuit) (value_of a)
unfolding key_read
quit_read a Empty first more byte t h quit = rw (past first 17 h (omega arith), from first 128 h (omega arith), quit) refl
quit_read a ControlX first more byte t h quit = absurd (true≢false (sym t))
quit_read a MetaBracket first more byte t h quit = absurd (true≢false (sym t))
quit_read a Quote first more byte t h quit = rw (from first 128 h (omega arith), quit) refl

-- a sequence that ends is read as its key is
ended : (a : Option Argument) (keys : List ℕ) (first : ℕ) (s : Sequence) (k : Key) → 128 ≤ first → begun_key first s ≡ Some k → sequence_step a keys s ≡ key_reads a [] k
ended a keys first (Whole c) k h e = subst (λ k. Bound (Insert (SelfInsert c)) (value_of a) ≡ key_reads a [] k) (same_Some (Wide c) k e) refl
ended a keys first Begun k h e = absurd (none-some k e)
ended a keys first Broken k h e = subst (λ k. Not_bound ≡ key_reads a [] k) (same_Some (Plain first) k e) (sym (broken_is_unbound a first h))

without : (prefix : Prefix) → takes_sequence prefix ≡ true → prefix_bytes (unquoted prefix) ≡ []
without Empty t = refl
without ControlX t = absurd (true≢false (sym t))
without MetaBracket t = absurd (true≢false (sym t))
without Quote t = refl

next_ended : (a : Option Argument) (prefix : Prefix) (first : ℕ) (more : List ℕ) (byte : ℕ) (k : Key) → takes_sequence prefix ≡ true → 128 ≤ first → key_within first byte (first ∷ (more ++ byte ∷ [])) ≡ Some k → key_read a (prefix_bytes prefix ++ first ∷ more) byte ≡ key_reads a (prefix_bytes (unquoted prefix)) k
next_ended a prefix first more byte k t h e =
    let bytes : List ℕ = first ∷ (more ++ byte ∷ []) in
    let goal : Type 0 = key_read a (prefix_bytes prefix ++ first ∷ more) byte ≡ key_reads a [] k in
    let go : (q : Bool) → (byte == 7) ≡ q → (if q then Some (Plain byte) else begun_key first (sequence_read bytes)) ≡ Some k → goal = λ q. elim q as (λ q. (byte == 7) ≡ q → (if q then Some (Plain byte) else begun_key first (sequence_read bytes)) ≡ Some k → goal) [
      | true ↦ λ is key.
          quit_read a prefix first more byte t h is
          ∙ subst (λ n. Bound (Set KeyboardQuit) (value_of a) ≡ key_reads a [] (Plain n)) (sym (eqb-true byte 7 is)) refl
          ∙ ap (key_reads a []) (same_Some (Plain byte) k key)
      | false ↦ λ is key. next_read a prefix first more byte t h is ∙ ended a (prefix_bytes prefix ++ bytes) first (sequence_read bytes) k h key
    ]
    in go (byte == 7) refl e ∙ ap (λ keys. key_reads a keys k) (sym (without prefix t))

only_begun : (first : ℕ) (s : Sequence) → begun_key first s ≡ None → s ≡ Begun
only_begun first (Whole c) e = absurd (none-some (Wide c) (sym e))
only_begun first Begun e = refl
only_begun first Broken e = absurd (none-some (Plain first) (sym e))

within_begun : (first byte : ℕ) (bytes : List ℕ) → key_within first byte bytes ≡ None → ((byte == 7) ≡ false) × IsBegun bytes
within_begun first byte bytes e =
    let go : (q : Bool) → (if q then Some (Plain byte) else begun_key first (sequence_read bytes)) ≡ None → (q ≡ false) × IsBegun bytes = λ q. elim q as (λ q. (if q then Some (Plain byte) else begun_key first (sequence_read bytes)) ≡ None → (q ≡ false) × IsBegun bytes) [
      | true ↦ λ key. absurd (none-some (Plain byte) (sym key))
      | false ↦ λ key. (refl, only_begun first (sequence_read bytes) key)
    ]
    in go (byte == 7) e

within_kept : (byte : ℕ) (bytes : List ℕ) (held : Decoding) → (byte == 7) ≡ false → IsBegun bytes → held_within byte bytes held ≡ held
within_kept byte bytes held other begun = rw (other, begun) refl

next_waits : (a : Option Argument) (prefix : Prefix) (first : ℕ) (more : List ℕ) (byte : ℕ) → takes_sequence prefix ≡ true → 128 ≤ first → (byte == 7) ≡ false → IsBegun (first ∷ (more ++ byte ∷ [])) → key_read a (prefix_bytes prefix ++ first ∷ more) byte ≡ Half a (prefix_bytes prefix ++ first ∷ (more ++ byte ∷ []))
next_waits a prefix first more byte t h other begun = next_read a prefix first more byte t h other ∙ ap (sequence_step a (prefix_bytes prefix ++ first ∷ (more ++ byte ∷ []))) begun

-- A BYTE THAT BEGINS A KEY

-- one that is a key by itself
raw_is_read : (a : Option Argument) (prefix : Prefix) (d : Decoding) (byte : ℕ) → (is_nothing d && is_raw prefix byte) ≡ true → key_read a (prefix_bytes prefix ++ decoder_bytes d) byte ≡ key_reads a (prefix_bytes prefix) (Plain byte)
unfolding key_read
raw_is_read a Empty Nothing byte raw = absurd (true≢false (sym raw))
raw_is_read a ControlX Nothing byte raw =
    let high : 127 < byte = ltb-true 127 byte raw in
    rw (from byte 128 (omega (arith, high)) (omega arith), past byte 27 (omega (arith, high)) (omega arith)) refl
raw_is_read a MetaBracket Nothing byte raw =
    let high : 127 < byte = ltb-true 127 byte raw in
    rw (from byte 128 (omega (arith, high)) (omega arith), past byte 27 (omega (arith, high)) (omega arith)) refl
raw_is_read a Quote Nothing byte raw =
    let low : byte ≤ 127 = leb-true byte 127 raw in
    rw (lt-leb 128 byte (omega (arith, low)), and-false (byte == 27)) refl
raw_is_read a prefix Escape byte raw = absurd (true≢false (sym raw))
raw_is_read a prefix (One x) byte raw = absurd (true≢false (sym raw))
raw_is_read a prefix (Two x y) byte raw = absurd (true≢false (sym raw))
raw_is_read a prefix (Three x y z) byte raw = absurd (true≢false (sym raw))

plain_read : (a : Option Argument) (prefix : Prefix) (byte : ℕ) → is_raw prefix byte ≡ false → byte < 128 → (byte == 27) ≡ false → key_read a (prefix_bytes prefix ++ []) byte ≡ key_reads a (prefix_bytes (unquoted prefix)) (Plain byte)
unfolding key_read
plain_read a Empty byte raw low no_escape = rw (lt-leb 128 byte low, no_escape) refl
plain_read a ControlX byte raw low no_escape = rw (lt-leb 128 byte low, no_escape) refl
plain_read a MetaBracket byte raw low no_escape = rw (lt-leb 128 byte low, no_escape) refl
plain_read a Quote byte raw low no_escape = absurd (omega (arith, leb-false byte 127 raw, low))

meta_read : (a : Option Argument) (prefix : Prefix) (byte : ℕ) → takes_escape prefix ≡ true → key_read a (prefix_bytes prefix ++ 27 ∷ []) byte ≡ key_reads a (prefix_bytes (unquoted prefix)) (Meta byte)
unfolding key_read
meta_read a Empty byte t = rw (and-false (nat_le 128 byte)) refl
meta_read a ControlX byte t = rw (and-false (nat_le 128 byte)) refl
meta_read a MetaBracket byte t = rw (and-false (nat_le 128 byte)) refl
meta_read a Quote byte t = absurd (true≢false (sym t))

escape_read : (a : Option Argument) (prefix : Prefix) → is_raw prefix 27 ≡ false → key_read a (prefix_bytes prefix ++ []) 27 ≡ Half a (prefix_bytes prefix ++ 27 ∷ [])
unfolding key_read
escape_read a Empty raw = refl
escape_read a ControlX raw = refl
escape_read a MetaBracket raw = refl
escape_read a Quote raw = absurd (true≢false raw)

escape_here : (prefix : Prefix) → is_raw prefix 27 ≡ false → takes_escape prefix ≡ true
escape_here Empty raw = refl
escape_here ControlX raw = refl
escape_here MetaBracket raw = refl
escape_here Quote raw = absurd (true≢false raw)

sequence_here : (prefix : Prefix) (byte : ℕ) → is_raw prefix byte ≡ false → 128 ≤ byte → takes_sequence prefix ≡ true
sequence_here Empty byte raw high = refl
sequence_here ControlX byte raw high = absurd (omega (arith, ltb-false 127 byte raw, high))
sequence_here MetaBracket byte raw high = absurd (omega (arith, ltb-false 127 byte raw, high))
sequence_here Quote byte raw high = refl

-- where nothing is held, a byte is ESC, or ASCII, or past it
kinds : (byte : ℕ) (P : Bool → Bool → Type 0) → ((byte == 27) ≡ true → (t : Bool) → P true t) → ((byte == 27) ≡ false → byte < 128 → P false true) → ((byte == 27) ≡ false → 128 ≤ byte → P false false) → P (byte == 27) (nat_lt byte 128)
kinds byte P escape low high =
    let below : (byte == 27) ≡ false → (t : Bool) → nat_lt byte 128 ≡ t → P false t = λ no. λ t. elim t as (λ t. nat_lt byte 128 ≡ t → P false t) [
      | true ↦ λ is. low no (ltb-true byte 128 is)
      | false ↦ λ is. high no (ltb-false byte 128 is)
    ]
    in
    let go : (t : Bool) → (byte == 27) ≡ t → P t (nat_lt byte 128) = λ t. elim t as (λ t. (byte == 27) ≡ t → P t (nat_lt byte 128)) [
      | true ↦ λ is. escape is (nat_lt byte 128)
      | false ↦ λ is. below is (nat_lt byte 128) refl
    ]
    in go (byte == 27) refl

abbrev first_key : ℕ → Bool → Bool → Option Key
first_key byte escape low = if escape then None else if low then Some (Plain byte) else begun_key byte (sequence_read (byte ∷ []))

abbrev first_held : ℕ → Bool → Bool → Decoding
first_held byte escape low = if escape then Escape else if low then Nothing else held_begun (sequence_read (byte ∷ [])) (One byte)

first_ended : (a : Option Argument) (prefix : Prefix) (byte : ℕ) (k : Key) → is_raw prefix byte ≡ false → decoded Nothing byte ≡ Some k → key_read a (prefix_bytes prefix ++ []) byte ≡ key_reads a (prefix_bytes (unquoted prefix)) k
first_ended a prefix byte k raw =
    let goal : Type 0 = key_read a (prefix_bytes prefix ++ []) byte ≡ key_reads a (prefix_bytes (unquoted prefix)) k in
    kinds byte (λ e l. first_key byte e l ≡ Some k → goal)
    (λ is t key. absurd (none-some k key))
    (λ no low key. plain_read a prefix byte raw low no ∙ ap (key_reads a (prefix_bytes (unquoted prefix))) (same_Some (Plain byte) k key))
    (λ no high key.
    let t : takes_sequence prefix ≡ true = sequence_here prefix byte raw high in
    first_read a prefix byte t high
    ∙ ended a (prefix_bytes prefix ++ byte ∷ []) byte (sequence_read (byte ∷ [])) k high key
    ∙ ap (λ keys. key_reads a keys k) (sym (without prefix t)))

first_waits : (a : Option Argument) (prefix : Prefix) (byte : ℕ) → is_raw prefix byte ≡ false → decoded Nothing byte ≡ None → key_read a (prefix_bytes prefix ++ []) byte ≡ Half a (prefix_bytes prefix ++ decoder_bytes (held_after Nothing byte))
first_waits a prefix byte raw =
    let goal : Decoding → Type 0 = λ d. key_read a (prefix_bytes prefix ++ []) byte ≡ Half a (prefix_bytes prefix ++ decoder_bytes d) in
    kinds byte (λ e l. first_key byte e l ≡ None → goal (first_held byte e l))
    (λ is t key.
    let there : byte ≡ 27 = eqb-true byte 27 is in
    ap (key_read a (prefix_bytes prefix ++ [])) there ∙ escape_read a prefix (ap (is_raw prefix) (sym there) ∙ raw))
    (λ no low key. absurd (none-some (Plain byte) (sym key)))
    (λ no high key.
    let begun : IsBegun (byte ∷ []) = only_begun byte (sequence_read (byte ∷ [])) key in
    first_read a prefix byte (sequence_here prefix byte raw high) high
    ∙ ap (sequence_step a (prefix_bytes prefix ++ byte ∷ [])) begun
    ∙ ap (λ s. Half a (prefix_bytes prefix ++ decoder_bytes (held_begun s (One byte)))) (sym begun))

first_fits : (prefix : Prefix) (byte : ℕ) → is_raw prefix byte ≡ false → decoded Nothing byte ≡ None → Fits prefix (held_after Nothing byte)
first_fits prefix byte raw =
    kinds byte (λ e l. first_key byte e l ≡ None → Fits prefix (first_held byte e l))
    (λ is t key. escape_here prefix (ap (is_raw prefix) (sym (eqb-true byte 27 is)) ∙ raw))
    (λ no low key. absurd (none-some (Plain byte) (sym key)))
    (λ no high key.
    let begun : IsBegun (byte ∷ []) = only_begun byte (sequence_read (byte ∷ [])) key in
    subst (λ s. Fits prefix (held_begun s (One byte))) (sym begun) (sequence_here prefix byte raw high, (high, begun)))

-- a key is complete
done : (first : ℕ) (s : Sequence) (k : Key) (held : Decoding) → begun_key first s ≡ Some k → held_begun s held ≡ Nothing
done first (Whole c) k held e = refl
done first Begun k held e = absurd (none-some k e)
done first Broken k held e = refl

within_done : (first byte : ℕ) (bytes : List ℕ) (k : Key) (held : Decoding) → key_within first byte bytes ≡ Some k → held_within byte bytes held ≡ Nothing
within_done first byte bytes k held e =
    let go : (q : Bool) → (if q then Some (Plain byte) else begun_key first (sequence_read bytes)) ≡ Some k → (if q then Nothing else held_begun (sequence_read bytes) held) ≡ Nothing = λ q. elim q as (λ q. (if q then Some (Plain byte) else begun_key first (sequence_read bytes)) ≡ Some k → (if q then Nothing else held_begun (sequence_read bytes) held) ≡ Nothing) [
      | true ↦ λ key. refl
      | false ↦ λ key. done first (sequence_read bytes) k held key
    ]
    in go (byte == 7) e

first_done : (byte : ℕ) (k : Key) → decoded Nothing byte ≡ Some k → held_after Nothing byte ≡ Nothing
first_done byte k =
    kinds byte (λ e l. first_key byte e l ≡ Some k → first_held byte e l ≡ Nothing)
    (λ is t key. absurd (none-some k key))
    (λ no low key. refl)
    (λ no high key. done byte (sequence_read (byte ∷ [])) k (One byte) key)

-- BYTES BEHIND THE DECODER

key_done : (d : Decoding) (byte : ℕ) (k : Key) → decoded d byte ≡ Some k → held_after d byte ≡ Nothing
key_done Nothing byte k e = first_done byte k e
key_done Escape byte k e = refl
key_done (One x) byte k e = within_done x byte (x ∷ byte ∷ []) k (Two x byte) e
key_done (Two x y) byte k e = within_done x byte (x ∷ y ∷ byte ∷ []) k (Three x y byte) e
key_done (Three x y z) byte k e = within_done x byte (x ∷ y ∷ z ∷ byte ∷ []) k Nothing e

-- then no key is half there
pub key_fits : (prefix : Prefix) (d new : Decoding) (byte : ℕ) (k : Key) → decoded d byte ≡ Some k → new ≡ held_after d byte → Fits prefix new
key_fits prefix d new byte k e is = subst (Fits prefix) (sym (is ∙ key_done d byte k e)) tt

key_is_read : (a : Option Argument) (prefix : Prefix) (d : Decoding) (byte : ℕ) (k : Key) → Fits prefix d → (is_nothing d && is_raw prefix byte) ≡ false → decoded d byte ≡ Some k → key_read a (prefix_bytes prefix ++ decoder_bytes d) byte ≡ key_reads a (prefix_bytes (unquoted prefix)) k
key_is_read a prefix Nothing byte k f raw e = first_ended a prefix byte k raw e
key_is_read a prefix Escape byte k f raw e = meta_read a prefix byte f ∙ ap (key_reads a (prefix_bytes (unquoted prefix))) (same_Some (Meta byte) k e)
key_is_read a prefix (One x) byte k f raw e = next_ended a prefix x [] byte k f.0 f.1.0 e
key_is_read a prefix (Two x y) byte k f raw e = next_ended a prefix x (y ∷ []) byte k f.0 f.1.0 e
key_is_read a prefix (Three x y z) byte k f raw e = next_ended a prefix x (y ∷ z ∷ []) byte k f.0 f.1.0 e

-- the word goes on
pub rest_is_read : (a : Option Argument) (prefix : Prefix) (d : Decoding) (byte : ℕ) → Fits prefix d → (is_nothing d && is_raw prefix byte) ≡ false → decoded d byte ≡ None → key_read a (prefix_bytes prefix ++ decoder_bytes d) byte ≡ Half a (prefix_bytes prefix ++ decoder_bytes (held_after d byte))
rest_is_read a prefix Nothing byte f raw e = first_waits a prefix byte raw e
rest_is_read a prefix Escape byte f raw e = absurd (none-some (Meta byte) (sym e))
rest_is_read a prefix (One x) byte f raw e =
    let w : ((byte == 7) ≡ false) × IsBegun (x ∷ byte ∷ []) = within_begun x byte (x ∷ byte ∷ []) e in
    next_waits a prefix x [] byte f.0 f.1.0 w.0 w.1
    ∙ ap (λ d. Half a (prefix_bytes prefix ++ decoder_bytes d)) (sym (within_kept byte (x ∷ byte ∷ []) (Two x byte) w.0 w.1))
rest_is_read a prefix (Two x y) byte f raw e =
    let w : ((byte == 7) ≡ false) × IsBegun (x ∷ y ∷ byte ∷ []) = within_begun x byte (x ∷ y ∷ byte ∷ []) e in
    next_waits a prefix x (y ∷ []) byte f.0 f.1.0 w.0 w.1
    ∙ ap (λ d. Half a (prefix_bytes prefix ++ decoder_bytes d)) (sym (within_kept byte (x ∷ y ∷ byte ∷ []) (Three x y byte) w.0 w.1))
rest_is_read a prefix (Three x y z) byte f raw e =
    let w : ((byte == 7) ≡ false) × IsBegun (x ∷ y ∷ z ∷ byte ∷ []) = within_begun x byte (x ∷ y ∷ z ∷ byte ∷ []) e in
    absurd (four_end x y z byte f.1.1.0 f.1.1.1.0 f.1.1.1.1 w.1)

pub rest_fits : (prefix : Prefix) (d : Decoding) (byte : ℕ) → Fits prefix d → (is_nothing d && is_raw prefix byte) ≡ false → decoded d byte ≡ None → Fits prefix (held_after d byte)
rest_fits prefix Nothing byte f raw e = first_fits prefix byte raw e
rest_fits prefix Escape byte f raw e = absurd (none-some (Meta byte) (sym e))
rest_fits prefix (One x) byte f raw e =
    let w : ((byte == 7) ≡ false) × IsBegun (x ∷ byte ∷ []) = within_begun x byte (x ∷ byte ∷ []) e in
    subst (Fits prefix) (sym (within_kept byte (x ∷ byte ∷ []) (Two x byte) w.0 w.1)) (f.0, (f.1.0, (f.1.1, w.1)))
rest_fits prefix (Two x y) byte f raw e =
    let w : ((byte == 7) ≡ false) × IsBegun (x ∷ y ∷ byte ∷ []) = within_begun x byte (x ∷ y ∷ byte ∷ []) e in
    subst (Fits prefix) (sym (within_kept byte (x ∷ y ∷ byte ∷ []) (Three x y byte) w.0 w.1)) (f.0, (f.1.0, (f.1.1.0, (f.1.1.1, w.1))))
rest_fits prefix (Three x y z) byte f raw e =
    let w : ((byte == 7) ≡ false) × IsBegun (x ∷ y ∷ z ∷ byte ∷ []) = within_begun x byte (x ∷ y ∷ z ∷ byte ∷ []) e in
    absurd (four_end x y z byte f.1.1.0 f.1.1.1.0 f.1.1.1.1 w.1)

-- a key that is complete is read with nothing behind the prefix
nothing_behind : (m : Maps) → held_by m ≡ held_at Nothing m
nothing_behind m = ap (λ keys. record { argument = m.argument; keys = keys }) (sym (append-nil (prefix_bytes m.prefix)))

pub key_is_fed : (fed : Fed) (a : Option Argument) (prefix : Prefix) (d : Decoding) (byte : ℕ) (k : Key) (new : Maps) → Fits prefix d → (is_nothing d && is_raw prefix byte) ≡ false → decoded d byte ≡ Some k → FedBy fed (key_reads a (prefix_bytes (unquoted prefix)) k) (held_by new) → FedBy fed (key_read a (prefix_bytes prefix ++ decoder_bytes d) byte) (held_at (held_after d byte) new)
key_is_fed fed a prefix d byte k new f raw e h =
    let there : held_by new ≡ held_at (held_after d byte) new = nothing_behind new ∙ ap (λ d. held_at d new) (sym (key_done d byte k e)) in
    subst (λ read. FedBy fed read (held_at (held_after d byte) new)) (sym (key_is_read a prefix d byte k f raw e)) (subst (FedBy fed (key_reads a (prefix_bytes (unquoted prefix)) k)) there h)

pub raw_is_fed : (fed : Fed) (a : Option Argument) (prefix : Prefix) (d : Decoding) (byte : ℕ) (new : Maps) → (is_nothing d && is_raw prefix byte) ≡ true → FedBy fed (key_reads a (prefix_bytes prefix) (Plain byte)) (held_by new) → FedBy fed (key_read a (prefix_bytes prefix ++ decoder_bytes d) byte) (held_at d new)
raw_is_fed fed a prefix Nothing byte new raw h = subst (λ read. FedBy fed read (held_at Nothing new)) (sym (raw_is_read a prefix Nothing byte raw)) (subst (FedBy fed (key_reads a (prefix_bytes prefix) (Plain byte))) (nothing_behind new) h)
raw_is_fed fed a prefix Escape byte new raw h = absurd (true≢false (sym raw))
raw_is_fed fed a prefix (One x) byte new raw h = absurd (true≢false (sym raw))
raw_is_fed fed a prefix (Two x y) byte new raw h = absurd (true≢false (sym raw))
raw_is_fed fed a prefix (Three x y z) byte new raw h = absurd (true≢false (sym raw))
