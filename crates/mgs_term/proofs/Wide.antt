-- The bytes of characters past ASCII.
use Rattle.std.proofs.Common.{◌≡◌, ◌⊎◌, ℕ, zero, suc, ◌+◌, ◌-◌, ◌*◌, ◌/◌, ◌%◌, ◌<◌, ◌≤◌, Bool, true, false, List, [], ◌∷◌, ◌++◌, length, refl, sym, ap, subst, ◌∙◌, arith, inl, inr, append_assoc, length-append, add-zero, add-suc, add-one}
use Rattle.std.specs.Prelude.{nat_le, nat_eq}
use Rattle.std.specs.Char.{IsScalar, len_utf8, encode_utf8}
use Rattle.std.proofs.lemmas.Bool.{cases_Bool, cases_lt, cases_eq, and_parts, leb-true, le-leb, eqb-true, eq-eqb, ne_eqb, lt-ltb, le-ltb}
use Rattle.std.proofs.lemmas.Bool.Decides.{nat_tests}
use Rattle.std.proofs.lemmas.List.{append-nil}
use lib.Utf8.{scalar_cases}
use Rattle.mgs_model.specs.Cells.{own_columns, IsShown}
use Rattle.mgs_model.proofs.OwnColumns.{own_is_past}
use Rattle.mgs_term.specs.declared.place.Place.TheVariants.{Ground, Inside}
use Rattle.mgs_term.specs.declared.place.Next.TheVariants.{Wait, Perform}
use Rattle.mgs_term.specs.declared.operation.Operation.TheVariants.{Print}
use Rattle.mgs_term.specs.Automaton.{is_of_size, some_shown, span, lead, least, reached, bytes_read, fewer, next_step}

-- what is shown as itself is a character past ASCII, of so many bytes
pub record OfSize (size c : ℕ) : Type 0 where
  pub past : 128 ≤ c
  pub scalar : IsScalar c
  pub shown : 1 ≤ own_columns c
  pub is : len_utf8 c ≡ size

pub of_size : (size c : ℕ) → is_of_size size c ≡ true → OfSize size c
of_size size c e =
    let both = and_parts (nat_eq (len_utf8 c) size) (nat_le 1 (own_columns c)) e in
    let shown : 1 ≤ own_columns c = leb-true 1 (own_columns c) both.1 in
    record { past = (own_is_past c shown).0; scalar = (own_is_past c shown).1; shown = shown; is = eqb-true (len_utf8 c) size both.0 }

pub is_size : (size c : ℕ) → OfSize size c → is_of_size size c ≡ true
is_size size c h = rw (le-leb 1 (own_columns c) h.shown, eq-eqb (len_utf8 c) size h.is) refl

pub no_scalar : (size c : ℕ) → (IsScalar c → ⊥) → false ≡ is_of_size size c
no_scalar size c none = elim (cases_Bool (is_of_size size c)) [
  | inl e ↦ absurd (none (of_size size c e).scalar)
  | inr e ↦ sym e
]

false_true : false ≡ true → ⊥
false_true e = absurd (cc)

scalar_below : (c : ℕ) → IsScalar c → c < 1114112
scalar_below c h = elim (scalar_cases c h) [ inl low ↦ omega arith | inr high ↦ high.1 ]

-- SOME OF SO MANY

pub shown_found : (size from n : ℕ) → some_shown size from n ≡ true → (c : ℕ) × (is_of_size size c ≡ true) × (from ≤ c) × (c < from + n)
unfolding some_shown
shown_found size from zero e = absurd (cc)
shown_found size from (suc n) e = elim (cases_Bool (is_of_size size from)) [
  | inl h ↦ (from, h, omega arith, omega arith)
  | inr h ↦
      let later = shown_found size (from + 1) n (rw h at e) in
      (later.0, later.1, omega (arith, later.2), omega (arith, later.3))
]

pub shown_has : (size from n c : ℕ) → is_of_size size c ≡ true → from ≤ c → c < from + n → some_shown size from n ≡ true
unfolding some_shown
shown_has size from zero c h low high = absurd (omega arith)
shown_has size from (suc n) c h low high = elim (cases_Bool (is_of_size size from)) [
  | inl e ↦ rw e refl
  | inr e ↦
      let other : from ≡ c → ⊥ = λ is. absurd (false_true (sym e ∙ ap (is_of_size size) is ∙ h)) in
      rw e (shown_has size (from + 1) n c h (omega arith) (omega arith))
]

pub shown_here : (size c n : ℕ) → 0 < n → is_of_size size c ≡ true → some_shown size c n ≡ true
shown_here size c n some h = shown_has size c n c h (omega arith) (omega arith)

pub shown_next : (size c n m : ℕ) → n ≡ m + 1 → is_of_size size c ≡ false → some_shown size c n ≡ some_shown size (c + 1) m
unfolding some_shown
shown_next size c n m more h = rw (more, add-one m) (rw h refl)

pub shown_none : (size c n : ℕ) → n ≡ 0 → some_shown size c n ≡ false
unfolding some_shown
shown_none size c n e = rw e refl

-- SIZES

pub sizes : (size c : ℕ) → OfSize size c → ((size ≡ 2) × (c < 2048)) ⊎ (((size ≡ 3) × (2048 ≤ c) × (c < 65536)) ⊎ ((size ≡ 4) × (65536 ≤ c) × (c < 1114112)))
sizes size c h = elim (cases_lt c 2048) [
  | inl low ↦ inl (sym h.is ∙ rw (le-ltb c 128 h.past, lt-ltb c 2048 low) refl, low)
  | inr far ↦ elim (cases_lt c 65536) [
    | inl mid ↦ inr (inl (sym h.is ∙ rw (le-ltb c 128 h.past, le-ltb c 2048 far, lt-ltb c 65536 mid) refl, far, mid))
    | inr high ↦ inr (inr (sym h.is ∙ rw (le-ltb c 128 h.past, le-ltb c 2048 far, le-ltb c 65536 high) refl, high, scalar_below c h.scalar))
  ]
]

-- characters before the first of a size have fewer bytes
pub none_before : (size c : ℕ) → (2 ≤ size) → (size ≤ 4) → c < least size → is_of_size size c ≡ false
none_before size c some few low = elim (cases_Bool (is_of_size size c)) [
  | inr e ↦ e
  | inl e ↦ elim (sizes size c (of_size size c e)) [
    | inl w ↦ let k : c < 128 = rw w.0 at low in absurd (omega (arith, (of_size size c e).past))
    | inr (inl w) ↦ let k : c < 2048 = rw w.0 at low in absurd (omega (arith, w.1))
    | inr (inr w) ↦ let k : c < 65536 = rw w.0 at low in absurd (omega (arith, w.1))
  ]
]

-- so many of them can be passed over
shown_skips : (size from k n : ℕ) → ((c : ℕ) → from ≤ c → c < from + k → is_of_size size c ≡ false) → some_shown size from (k + n) ≡ some_shown size (from + k) n
shown_skips size from zero n none =
    let left : 0 + n ≡ n = omega arith in
    let right : from + 0 ≡ from = omega arith in
    rw (left, right) refl
shown_skips size from (suc k) n none =
    let later = shown_skips size (from + 1) k n (λ c low high. none c (omega arith) (omega arith)) in
    shown_next size from (suc k + n) (k + n) (omega arith) (none from (omega arith) (omega arith)) ∙ later ∙ ap (λ m. some_shown size m n) (omega arith)

pub shown_from : (size from count start : ℕ) → 2 ≤ size → size ≤ 4 → from ≤ start → start ≤ from + count → ((c : ℕ) → from ≤ c → c < start → c < least size)
    → some_shown size start (from + count - start) ≡ some_shown size from count
shown_from size from count start some few low high small =
    let skips = shown_skips size from (start - from) (from + count - start) (λ c a b. none_before size c some few (small c a (omega arith))) in
    sym (ap (λ m. some_shown size m (from + count - start)) (omega arith)) ∙ sym skips ∙ ap (some_shown size from) (omega arith)

-- IN UTF-8

pub encode_two : (c : ℕ) → 128 ≤ c → c < 2048 → encode_utf8 c ≡ (192 + c / 64) ∷ (128 + c % 64) ∷ []
unfolding encode_utf8
encode_two c past low = rw (le-ltb c 128 past, lt-ltb c 2048 low) refl

pub encode_three : (c : ℕ) → 2048 ≤ c → c < 65536 → encode_utf8 c ≡ (224 + c / 4096) ∷ (128 + c / 64 % 64) ∷ (128 + c % 64) ∷ []
unfolding encode_utf8
encode_three c past low = rw (le-ltb c 128 (omega arith), le-ltb c 2048 past, lt-ltb c 65536 low) refl

pub encode_four : (c : ℕ) → 65536 ≤ c → encode_utf8 c ≡ (240 + c / 262144) ∷ (128 + c / 4096 % 64) ∷ (128 + c / 64 % 64) ∷ (128 + c % 64) ∷ []
unfolding encode_utf8
encode_four c past = rw (le-ltb c 128 (omega arith), le-ltb c 2048 (omega arith), le-ltb c 65536 past) refl

pub encode_ascii : (c : ℕ) → c ≤ 126 → encode_utf8 c ≡ c ∷ []
unfolding encode_utf8
encode_ascii c low = rw (lt-ltb c 128 (omega arith)) refl

-- those behind the first ones, of which so many are left
abbrev pub tails : ℕ → ℕ → List ℕ
tails zero c = []
tails (suc n) c = tails n (c / 64) ++ (128 + c % 64) ∷ []

pub length-tails : (n c : ℕ) → length (tails n c) ≡ n
length-tails zero c = refl
length-tails (suc n) c = omega (arith, length-append (tails n (c / 64)) ((128 + c % 64) ∷ []), length-tails n (c / 64))

pub bytes_split : (first k n c : ℕ) → bytes_read first (suc (k + n)) c ≡ bytes_read first (suc k) (fewer n c) ++ tails n c
bytes_split first k zero c = rw add-zero (sym (append-nil (bytes_read first (suc k) c)))
bytes_split first k (suc n) c =
    rw (add-suc k n) (ap (λ xs. xs ++ (128 + c % 64) ∷ []) (bytes_split first k n (c / 64)) ∙ append_assoc (bytes_read first (suc k) (fewer n (c / 64))) (tails n (c / 64)) ((128 + c % 64) ∷ []))

last_same : (xs ys : List ℕ) (x y : ℕ) → xs ++ x ∷ [] ≡ ys ++ y ∷ [] → (xs ≡ ys) × (x ≡ y)
last_same [] [] x y e = (refl, cc)
last_same [] (b ∷ ys) x y e = absurd (omega (arith, ap length e, length-append ys (y ∷ [])))
last_same (a ∷ xs) [] x y e = absurd (omega (arith, ap length e, length-append xs (x ∷ [])))
last_same (a ∷ xs) (b ∷ ys) x y e =
    let head : a ≡ b = cc in
    let rest = last_same xs ys x y (cc) in
    (rw (head, rest.0) refl, rest.1)

pub front_same : (xs ys us vs : List ℕ) → length xs ≡ length ys → xs ++ us ≡ ys ++ vs → (xs ≡ ys) × (us ≡ vs)
front_same [] [] us vs n e = (refl, e)
front_same [] (b ∷ ys) us vs n e = absurd (omega arith)
front_same (a ∷ xs) [] us vs n e = absurd (omega arith)
front_same (a ∷ xs) (b ∷ ys) us vs n e =
    let head : a ≡ b = cc in
    let rest = front_same xs ys us vs (omega arith) (cc) in
    (rw (head, rest.0) refl, rest.1)

pub length-bytes_read : (first n v : ℕ) → length (bytes_read first n v) ≡ n
length-bytes_read first zero v = refl
length-bytes_read first (suc zero) v = refl
length-bytes_read first (suc (suc n)) v = omega (arith, length-append (bytes_read first (suc n) (v / 64)) ((128 + v % 64) ∷ []), length-bytes_read first (suc n) (v / 64))

pub value_same : (first n v w : ℕ) → bytes_read first (suc n) v ≡ bytes_read first (suc n) w → v ≡ w
value_same first zero v w e = let h : first + v ≡ first + w = cc in omega arith
value_same first (suc n) v w e =
    let both : (bytes_read first (suc n) (v / 64) ≡ bytes_read first (suc n) (w / 64)) × (128 + v % 64 ≡ 128 + w % 64) = last_same _ _ _ _ e in
    omega (arith, value_same first n (v / 64) (w / 64) both.0, both.1)

four_same : (a b c d x y : ℕ) → a ≡ b → c ≡ d → (240 + a) ∷ (128 + c) ∷ x ∷ y ∷ [] ≡ (240 + b) ∷ (128 + d) ∷ x ∷ y ∷ []
four_same a b c d x y p q = rw (p, q) refl

-- the bytes of a character of its size
pub encode_as : (size c : ℕ) → OfSize size c → encode_utf8 c ≡ bytes_read (lead size) size c
encode_as size c h = elim (sizes size c h) [
  | inl w ↦ encode_two c h.past w.1 ∙ rw w.0 refl
  | inr (inl w) ↦ encode_three c w.1 w.2 ∙ rw w.0 (ap (λ n. (224 + n) ∷ (128 + c / 64 % 64) ∷ (128 + c % 64) ∷ []) (omega arith))
  | inr (inr w) ↦ encode_four c w.1 ∙ rw w.0 (four_same (c / 262144) (c / 64 / 64 / 64) (c / 4096 % 64) (c / 64 / 64 % 64) _ _ (omega arith) (omega arith))
]

-- THE AUTOMATON

pub lefts : (size read : ℕ) → 1 ≤ read → read < size → size ≤ 4 → (size - read ≡ 1) ⊎ ((size - read ≡ 2) ⊎ (size - read ≡ 3))
lefts size read some more few = elim (cases_eq (size - read) 1) [
  | inl e ↦ inl e
  | inr e ↦ elim (cases_eq (size - read) 2) [ inl f ↦ inr (inl f) | inr f ↦ inr (inr (omega arith)) ]
]

-- the characters of which so many bytes are left
span_low : (n c : ℕ) → (n ≡ 1) ⊎ ((n ≡ 2) ⊎ (n ≡ 3)) → (fewer n c * span n ≤ c) × (c < fewer n c * span n + span n)
span_low n c h = elim h [
  | inl e ↦ rw e (omega arith, omega arith)
  | inr (inl e) ↦ rw e (omega arith, omega arith)
  | inr (inr e) ↦ rw e (omega arith, omega arith)
]

span_back : (n c v : ℕ) → (n ≡ 1) ⊎ ((n ≡ 2) ⊎ (n ≡ 3)) → v * span n ≤ c → c < v * span n + span n → fewer n c ≡ v
span_back n c v h low high = elim h [
  | inl e ↦ rw e (let a : v * 64 ≤ c = rw e at low in let b : c < v * 64 + 64 = rw e at high in omega arith)
  | inr (inl e) ↦ rw e (let a : v * 4096 ≤ c = rw e at low in let b : c < v * 4096 + 4096 = rw e at high in omega arith)
  | inr (inr e) ↦ rw e (let a : v * 262144 ≤ c = rw e at low in let b : c < v * 262144 + 262144 = rw e at high in omega arith)
]

-- the bytes of a character are read one by one
pub reaches_more : (size read c : ℕ) → OfSize size c → 1 ≤ read → read < size → size ≤ 4 → reached size read (fewer (size - read) c) ≡ Wait (Inside size read (fewer (size - read) c))
reaches_more size read c h some more few =
    let bounds = span_low (size - read) c (lefts size read some more few) in
    let found : some_shown size (fewer (size - read) c * span (size - read)) (span (size - read)) ≡ true = shown_has size _ _ c (is_size size c h) bounds.0 bounds.1 in
    rw (ne_eqb size read (λ e. omega arith), found) refl

pub reaches_as : (size read c v : ℕ) → OfSize size c → 1 ≤ read → read < size → size ≤ 4 → fewer (size - read) c ≡ v → reached size read v ≡ Wait (Inside size read v)
reaches_as size read c v h some more few e = subst (λ n. reached size read n ≡ Wait (Inside size read n)) e (reaches_more size read c h some more few)

pub reaches_end : (size c : ℕ) → OfSize size c → reached size size c ≡ Perform (Print c)
reaches_end size c h = rw (eq-eqb size size refl, is_size size c h) refl

pub size_few : (size c : ℕ) → OfSize size c → (2 ≤ size) × (size ≤ 4)
size_few size c h = elim (sizes size c h) [ inl w ↦ (omega arith, omega arith) | inr (inl w) ↦ (omega arith, omega arith) | inr (inr w) ↦ (omega arith, omega arith) ]

-- a byte behind the first
pub next_tail : (rows cols : ℕ) (wrapping : Bool) (size read c : ℕ) → next_step rows cols wrapping (Inside size read (c / 64)) (128 + c % 64) ≡ reached size (read + 1) c
next_tail rows cols wrapping size read c =
    let value : c / 64 * 64 + (128 + c % 64 - 128) ≡ c = omega arith in
    rw (le-leb 128 (128 + c % 64) (omega arith), lt-ltb (128 + c % 64) 192 (omega arith)) (ap (reached size (read + 1)) value)

-- the first byte
pub next_first : (rows cols size c : ℕ) → OfSize size c → next_step rows cols false Ground (lead size + fewer (size - 1) c) ≡ reached size 1 (fewer (size - 1) c)
next_first rows cols size c h = elim (sizes size c h) [
  | inl w ↦ rw w.0 (grind (arith, nat_tests, w.1))
  | inr (inl w) ↦ rw w.0 (grind (arith, nat_tests, w.1, w.2))
  | inr (inr w) ↦ rw w.0 (grind (arith, nat_tests, w.1, w.2))
]

pub shown_size : (c : ℕ) → 1 ≤ own_columns c → OfSize (len_utf8 c) c
shown_size c some = record { past = (own_is_past c some).0; scalar = (own_is_past c some).1; shown = some; is = refl }

pub which_size : (size c : ℕ) → OfSize size c → (size ≡ 2) ⊎ ((size ≡ 3) ⊎ (size ≡ 4))
which_size size c h = elim (sizes size c h) [ inl w ↦ inl w.0 | inr (inl w) ↦ inr (inl w.0) | inr (inr w) ↦ inr (inr w.0) ]

-- the first byte, and those behind it
pub record FirstByte (size x : ℕ) : Type 0 where
  pub is : encode_utf8 x ≡ (lead size + fewer (size - 1) x) ∷ tails (size - 1) x
  pub high : 192 ≤ lead size + fewer (size - 1) x

pub first_byte : (size x : ℕ) → OfSize size x → FirstByte size x
first_byte size x h = elim (which_size size x h) [
  | inl e ↦ let k : OfSize 2 x = rw e at h in rw e (record { is = encode_as 2 x k; high = omega arith })
  | inr (inl e) ↦ let k : OfSize 3 x = rw e at h in rw e (record { is = encode_as 3 x k; high = omega arith })
  | inr (inr e) ↦ let k : OfSize 4 x = rw e at h in rw e (record { is = encode_as 4 x k; high = omega arith })
]

-- no character that is shown as itself begins with ESC
pub head_high : (x b : ℕ) (t : List ℕ) → IsShown x → encode_utf8 x ≡ b ∷ t → b < 32 → ⊥
head_high x b t shown e low = elim shown [
  | inl ascii ↦
      let h : x ∷ [] ≡ b ∷ t = sym (encode_ascii x ascii.1) ∙ e in
      let k : x ≡ b = cc in
      omega (arith, ascii.0)
  | inr some ↦
      let size : ℕ = len_utf8 x in
      let h : OfSize size x = shown_size x some in
      let f : FirstByte size x = first_byte size x h in
      let k : (lead size + fewer (size - 1) x) ∷ tails (size - 1) x ≡ b ∷ t = sym f.is ∙ e in
      let l : lead size + fewer (size - 1) x ≡ b = cc in
      omega (arith, f.high)
]

-- WHAT THE CODE READS

pub place_fits : (size read value n : ℕ) → 1 ≤ read → read ≤ size → (size ≡ read → ⊥) → size ≤ 4 → n ≡ span (size - read) → some_shown size (value * n) n ≡ true → (c : ℕ) × (is_of_size size c ≡ true) × (fewer (size - read) c ≡ value)
place_fits size read value n some order more few is found =
    let less : read < size = omega (arith, more) in
    let w = shown_found size (value * span (size - read)) (span (size - read)) (rw is at found) in
    (w.0, w.1, span_back (size - read) w.0 value (lefts size read some less few) w.2 w.3)

pub bytes_more : (first read value d b : ℕ) → 1 ≤ read → d < 64 → b ≡ d + 128 → bytes_read first (read + 1) (value * 64 + d) ≡ bytes_read first read value ++ b ∷ []
bytes_more first zero value d b some small is = absurd (omega arith)
bytes_more first (suc k) value d b some small is =
    let front : (value * 64 + d) / 64 ≡ value = omega arith in
    let last : 128 + (value * 64 + d) % 64 ≡ b = omega arith in
    rw (add-one (suc k)) (ap (λ n. bytes_read first (suc k) n ++ (128 + (value * 64 + d) % 64) ∷ []) front ∙ ap (λ n. bytes_read first (suc k) value ++ n ∷ []) last)

pub next_small : (size read value d : ℕ) → 1 ≤ read → read < size → size ≤ 4 → d < 64 → (value + 1) * span (size - read) ≤ 2097152 → (value * 64 + d + 1) * span (size - (read + 1)) ≤ 2097152
next_small size read value d some less few small fits = elim (lefts size read some less few) [
  | inl e ↦
      let a : (value + 1) * 64 ≤ 2097152 = rw e at fits in
      let f : size - (read + 1) ≡ 0 = omega arith in
      rw f (omega arith)
  | inr (inl e) ↦
      let a : (value + 1) * 4096 ≤ 2097152 = rw e at fits in
      let f : size - (read + 1) ≡ 1 = omega arith in
      rw f (omega arith)
  | inr (inr e) ↦
      let a : (value + 1) * 262144 ≤ 2097152 = rw e at fits in
      let f : size - (read + 1) ≡ 2 = omega arith in
      rw f (omega arith)
]
