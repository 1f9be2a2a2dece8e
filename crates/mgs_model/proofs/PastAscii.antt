-- A byte of a character past ASCII, or one behind its first bytes, makes a key of that character alone.
use Rattle.std.proofs.Common.{◌≡◌, ℕ, ◌<◌, ◌≤◌, ◌==◌, nat_le, nat_lt, Bool, true, false, not, ◌&&◌, ◌||◌, cond, List, [], ◌∷◌, ◌++◌, length, Option, Some, None, refl, sym, ap, ◌∙◌, arith, true≢false}
use Rattle.std.specs.Prelude.{find}
use Rattle.std.specs.List.{list_all, list_any}
use Rattle.std.proofs.lemmas.Bool.{ne_eqb, le-leb, lt-leb, leb-true, ltb-true, not-true}
use Rattle.std.proofs.Math.Bool.{and-false}
use Rattle.mgs_model.specs.Names.{same_name}
use Rattle.mgs_model.specs.Keys.{KeyRow, Not_bound, key_rows, begins_with, found_read, word_read, ascii_read, quotes, in_sequence, begins_sequence, sequence_step, key_read, is_character_byte, character_read}
use Rattle.mgs_model.specs.declared.session.Argument.{Argument}

-- bytes below 0x80
abbrev are_low : List ℕ → Bool
are_low ks = list_all (λ k. nat_lt k 128) ks

rows_low : list_all (λ (r : KeyRow). are_low r.keys) key_rows ≡ true
rows_low = refl

parts : (a b : Bool) → (a && b) ≡ true → (a ≡ true) × (b ≡ true)
parts true b h = (refl, h)
parts false b h = absurd (true≢false (sym h))

neither : (a b : Bool) → (a || b) ≡ false → (a ≡ false) × (b ≡ false)
neither true b h = absurd (true≢false h)
neither false b h = (refl, h)

differs : (byte k : ℕ) → 128 ≤ byte → nat_lt k 128 ≡ true → (byte == k) ≡ false
differs byte k h low = let below : k < 128 = ltb-true k 128 low in ne_eqb byte k (λ same. omega (arith, h, below, same))

-- A WORD that ends in a greater byte is no word of them, and none goes on from it
no_word : (word ks : List ℕ) (byte : ℕ) → 128 ≤ byte → are_low ks ≡ true → same_name (word ++ byte ∷ []) ks ≡ false
no_word [] [] byte h low = refl
no_word [] (k ∷ ks) byte h low = ap (λ (t : Bool). t && same_name [] ks) (differs byte k h (parts (nat_lt k 128) (are_low ks) low).0)
no_word (w ∷ ws) [] byte h low = refl
no_word (w ∷ ws) (k ∷ ks) byte h low = by (w == k) (no_word ws ks byte h (parts (nat_lt k 128) (are_low ks) low).1)
  where
    by : (t : Bool) → same_name (ws ++ byte ∷ []) ks ≡ false → (t && same_name (ws ++ byte ∷ []) ks) ≡ false
    by true e = e
    by false e = refl

no_start : (word ks : List ℕ) (byte : ℕ) → 128 ≤ byte → are_low ks ≡ true → begins_with ks (word ++ byte ∷ []) ≡ false
no_start [] [] byte h low = refl
no_start [] (k ∷ ks) byte h low = ap (λ (t : Bool). t && begins_with ks []) (differs byte k h (parts (nat_lt k 128) (are_low ks) low).0)
no_start (w ∷ ws) [] byte h low = refl
no_start (w ∷ ws) (k ∷ ks) byte h low = by (w == k) (no_start ws ks byte h (parts (nat_lt k 128) (are_low ks) low).1)
  where
    by : (t : Bool) → begins_with ks (ws ++ byte ∷ []) ≡ false → (t && begins_with ks (ws ++ byte ∷ [])) ≡ false
    by true e = e
    by false e = refl

none_found : (word : List ℕ) (byte : ℕ) (rs : List KeyRow) → 128 ≤ byte → list_all (λ (r : KeyRow). are_low r.keys) rs ≡ true → find (λ (r : KeyRow). same_name (word ++ byte ∷ []) r.keys) rs ≡ None
none_found word byte [] h low = refl
none_found word byte (r ∷ rs) h low =
    let both : (are_low r.keys ≡ true) × (list_all (λ (r : KeyRow). are_low r.keys) rs ≡ true) = parts (are_low r.keys) (list_all (λ (r : KeyRow). are_low r.keys) rs) low in
    ap (λ (t : Bool). cond t (Some r) (find (λ (r : KeyRow). same_name (word ++ byte ∷ []) r.keys) rs)) (no_word word r.keys byte h both.0) ∙ none_found word byte rs h both.1

none_goes_on : (word : List ℕ) (byte : ℕ) (rs : List KeyRow) → 128 ≤ byte → list_all (λ (r : KeyRow). are_low r.keys) rs ≡ true → list_any (λ (r : KeyRow). begins_with r.keys (word ++ byte ∷ [])) rs ≡ false
none_goes_on word byte [] h low = refl
none_goes_on word byte (r ∷ rs) h low =
    let both : (are_low r.keys ≡ true) × (list_all (λ (r : KeyRow). are_low r.keys) rs ≡ true) = parts (are_low r.keys) (list_all (λ (r : KeyRow). are_low r.keys) rs) low in
    ap (λ (t : Bool). t || list_any (λ (r : KeyRow). begins_with r.keys (word ++ byte ∷ [])) rs) (no_start word r.keys byte h both.0) ∙ none_goes_on word byte rs h both.1

word_past : (a : Option Argument) (keys : List ℕ) (byte : ℕ) → 128 ≤ byte → word_read a byte (keys ++ byte ∷ []) ≡ Not_bound
word_past a keys byte h =
    ap (found_read a byte (keys ++ byte ∷ [])) (none_found keys byte key_rows h rows_low)
    ∙ rw (none_goes_on keys byte key_rows h rows_low, le-leb 32 byte (omega (arith, h)), lt-leb byte 126 (omega (arith, h)), ne_eqb byte 9 (λ e. omega (arith, h, e)), and-false (length (keys ++ byte ∷ []) == 1)) refl

ascii_past : (a : Option Argument) (keys : List ℕ) (byte : ℕ) → 128 ≤ byte → (length keys == 0) ≡ false → quotes keys ≡ false → ascii_read a keys byte ≡ Not_bound
ascii_past a keys byte h some plain =
    rw (plain, ne_eqb byte 7 (λ e. omega (arith, h, e)), ne_eqb byte 27 (λ e. omega (arith, h, e)), some, le-leb 48 byte (omega (arith, h)), lt-leb byte 57 (omega (arith, h))) (word_past a keys byte h)

-- WHAT IS READ
pub past_ascii_read : (a : Option Argument) (keys : List ℕ) (byte : ℕ) → is_character_byte keys byte ≡ true → key_read a keys byte ≡ sequence_step a (keys ++ byte ∷ []) (character_read keys byte)
unfolding key_read
past_ascii_read a keys byte h = at (in_sequence keys) refl
  where
    both : ((in_sequence keys || nat_le 128 byte) ≡ true) × (not (byte == 7) ≡ true)
    both = parts (in_sequence keys || nat_le 128 byte) (not (byte == 7)) h

    other : (byte == 7) ≡ false
    other = not-true (byte == 7) both.1

    further : (t : Bool) → in_sequence keys ≡ false → nat_le 128 byte ≡ true → begins_sequence keys byte ≡ t → key_read a keys byte ≡ sequence_step a (keys ++ byte ∷ []) (character_read keys byte)
    further true e high b = rw (e, b) refl
    further false e high b =
        let rest : ((length keys == 0) || quotes keys) ≡ false = ap (λ (t : Bool). t && ((length keys == 0) || quotes keys)) (sym high) ∙ b in
        let two : ((length keys == 0) ≡ false) × (quotes keys ≡ false) = neither (length keys == 0) (quotes keys) rest in
        rw (e, b) (ascii_past a keys byte (leb-true 128 byte high) two.0 two.1)

    at : (t : Bool) → in_sequence keys ≡ t → key_read a keys byte ≡ sequence_step a (keys ++ byte ∷ []) (character_read keys byte)
    at true e = rw (e, other) refl
    at false e =
        let high : nat_le 128 byte ≡ true = ap (λ (t : Bool). t || nat_le 128 byte) (sym e) ∙ both.0 in
        further (begins_sequence keys byte) e high refl
