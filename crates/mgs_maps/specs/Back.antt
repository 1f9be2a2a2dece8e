-- A keyboard's fields are told by what it holds.
use Rattle.std.specs.Prelude.{◌≡◌, ◌≤◌, ℕ, ◌==◌, nat_le, false, List, [], ◌∷◌, ◌++◌, if◌then◌else◌}
use Rattle.std.proofs.Common.{refl, arith}
use Rattle.std.proofs.lemmas.Bool.{ne_eqb, le-leb}
use Rattle.mgs_model.specs.Keys.{ends_in_escape, in_sequence, sequence_of}
use Rattle.mgs_keys.specs.declared.decoder.Held.{Held as Decoding}
use Rattle.mgs_keys.specs.declared.decoder.Held.TheVariants.{Nothing, Escape, One, Two, Three}
use Rattle.mgs_maps.specs.declared.maps.Prefix.{Prefix}
use Rattle.mgs_maps.specs.declared.maps.Prefix.TheVariants.{Empty, ControlX, MetaBracket, Quote}
use Rattle.mgs_maps.specs.Held.{prefix_bytes, decoder_bytes, Fits}

abbrev pub prefix_back : List ℕ → Prefix
prefix_back [] = Empty
prefix_back (byte ∷ []) = if byte == 24 then ControlX else if byte == 17 then Quote else Empty
prefix_back (byte ∷ next ∷ bytes) = if byte == 24 then ControlX else if byte == 17 then Quote else if nat_le 128 byte then Empty else MetaBracket

abbrev pub begun_back : List ℕ → Decoding
begun_back [] = Nothing
begun_back (a ∷ []) = One a
begun_back (a ∷ b ∷ []) = Two a b
begun_back (a ∷ b ∷ c ∷ bytes) = Three a b c

abbrev pub decoder_back : List ℕ → Decoding
decoder_back keys = if in_sequence keys then begun_back (sequence_of keys) else if ends_in_escape keys then Escape else Nothing

pub past : (a n : ℕ) → 128 ≤ a → n ≤ 127 → (a == n) ≡ false
past a n high low = ne_eqb a n (λ e. omega (arith, e))

-- each of them, with what stands behind a first byte past ASCII
prefix_one : (a : ℕ) → 128 ≤ a → prefix_back (a ∷ []) ≡ Empty
prefix_one a h = rw (past a 24 h (omega arith), past a 17 h (omega arith)) refl

prefix_more : (a b : ℕ) (bytes : List ℕ) → 128 ≤ a → prefix_back (a ∷ b ∷ bytes) ≡ Empty
prefix_more a b bytes h = rw (past a 24 h (omega arith), past a 17 h (omega arith), le-leb 128 a h) refl

pub prefix_told : (d : Decoding) (prefix : Prefix) → Fits prefix d → prefix_back (prefix_bytes prefix ++ decoder_bytes d) ≡ prefix
prefix_told Nothing Empty f = refl
prefix_told Nothing ControlX f = refl
prefix_told Nothing MetaBracket f = refl
prefix_told Nothing Quote f = refl
prefix_told Escape Empty f = refl
prefix_told Escape ControlX f = refl
prefix_told Escape MetaBracket f = refl
prefix_told Escape Quote f = refl
prefix_told (One a) Empty f = prefix_one a f.1.0
prefix_told (One a) ControlX f = refl
prefix_told (One a) MetaBracket f = refl
prefix_told (One a) Quote f = refl
prefix_told (Two a b) Empty f = prefix_more a b [] f.1.0
prefix_told (Two a b) ControlX f = refl
prefix_told (Two a b) MetaBracket f = refl
prefix_told (Two a b) Quote f = refl
prefix_told (Three a b c) Empty f = prefix_more a b (c ∷ []) f.1.0
prefix_told (Three a b c) ControlX f = refl
prefix_told (Three a b c) MetaBracket f = refl
prefix_told (Three a b c) Quote f = refl

begun_first : (a : ℕ) (bytes : List ℕ) → 128 ≤ a → decoder_back (a ∷ bytes) ≡ begun_back (a ∷ bytes)
begun_first a bytes h = rw (past a 17 h (omega arith), le-leb 128 a h) refl

begun_quoted : (a : ℕ) (bytes : List ℕ) → 128 ≤ a → decoder_back (17 ∷ a ∷ bytes) ≡ begun_back (a ∷ bytes)
begun_quoted a bytes h = rw (le-leb 128 a h) refl

pub decoder_told : (d : Decoding) (prefix : Prefix) → Fits prefix d → decoder_back (prefix_bytes prefix ++ decoder_bytes d) ≡ d
decoder_told Nothing Empty f = refl
decoder_told Nothing ControlX f = refl
decoder_told Nothing MetaBracket f = refl
decoder_told Nothing Quote f = refl
decoder_told Escape Empty f = refl
decoder_told Escape ControlX f = refl
decoder_told Escape MetaBracket f = refl
decoder_told Escape Quote f = refl
decoder_told (One a) Empty f = begun_first a [] f.1.0
decoder_told (One a) ControlX f = cc
decoder_told (One a) MetaBracket f = cc
decoder_told (One a) Quote f = begun_quoted a [] f.1.0
decoder_told (Two a b) Empty f = begun_first a (b ∷ []) f.1.0
decoder_told (Two a b) ControlX f = cc
decoder_told (Two a b) MetaBracket f = cc
decoder_told (Two a b) Quote f = begun_quoted a (b ∷ []) f.1.0
decoder_told (Three a b c) Empty f = begun_first a (b ∷ c ∷ []) f.1.0
decoder_told (Three a b c) ControlX f = cc
decoder_told (Three a b c) MetaBracket f = cc
decoder_told (Three a b c) Quote f = begun_quoted a (b ∷ c ∷ []) f.1.0
