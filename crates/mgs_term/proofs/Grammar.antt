-- The terminal byte by byte, and the accepted sequences.
use Rattle.std.proofs.Common.{◌≡◌, ◌≢◌, ℕ, ◌+◌, ◌-◌, ◌*◌, ◌/◌, ◌%◌, ◌<◌, ◌≤◌, Bool, true, false, zero, suc, List, [], ◌∷◌, ◌++◌, length, refl, sym, ap, ◌∙◌, subst, append_assoc, get_or, arith, ◌⊎◌, inl, inr}
use Rattle.std.proofs.lemmas.List.{length-append}
use Rattle.std.specs.Char.{len_utf8, encode_utf8}
use Rattle.mgs_term.proofs.Wide.{OfSize, FirstByte, of_size, shown_size, size_few, sizes, encode_as, encode_ascii, tails, length-tails, bytes_split, front_same, value_same, length-bytes_read, first_byte, head_high, next_first, next_tail, reaches_more, reaches_as, reaches_end, lefts}
use Rattle.mgs_term.specs.Screen.{Screen, IsScreen}
use Rattle.mgs_term.specs.Sequences.{number, Accepts, has_room, after, spelling}
use Rattle.mgs_term.specs.Terminal.{Continues}
use Rattle.mgs_term.specs.Automaton.{Automaton, next_step, begun_at, IsPlace, is_out_of_profile, terminal_of, reached, lead, fewer, bytes_read}
use Rattle.mgs_term.specs.declared.operation.Operation.{Operation}
use Rattle.mgs_term.specs.declared.operation.Operation.TheVariants.{Goto, Clear, Erase, Reverse, Plain, Unwrap, Print}
use Rattle.mgs_term.specs.declared.place.Place.{Place}
use Rattle.mgs_term.specs.declared.place.Place.TheVariants.{Ground, Escape, Bracket, Number, Row, Column, Question, Seven, Inside, Refused}
use Rattle.mgs_term.specs.declared.place.Next.TheVariants.{Stuck, Wait, Perform}
use Rattle.mgs_term.proofs.Steps.{next_bracket_digit, next_number_digit, next_number_end, next_row_digit, next_column_digit, next_column_end, next_print, next_seven}
use Rattle.mgs_term.proofs.Digits.{number_cases, number_front, First, number_first, number-length}

-- The byte that an accepted sequence has is taken: it ends the sequence, or more of it is to come.
abbrev pub Taken : ℕ → ℕ → Bool → Place → ℕ → Operation → List ℕ → Type 0
Taken rows cols wrapping p b o rest = ((next_step rows cols wrapping p b ≡ Perform o) × (rest ≡ [])) ⊎ ((p' : Place) × (next_step rows cols wrapping p b ≡ Wait p') × (1 ≤ length rest))

begins : (rows cols : ℕ) (wrapping : Bool) (b : ℕ) (o : Operation) (tail rest : List ℕ) → 1 ≤ length tail → 27 ∷ tail ≡ b ∷ rest → Taken rows cols wrapping Ground b o rest
begins rows cols wrapping b o tail rest some e =
    let h : 27 ≡ b = cc in
    let k : tail ≡ rest = cc in
    inr (Escape, rw (← h) refl, rw (← k) some)

taken_ground : (rows cols : ℕ) (wrapping : Bool) (b : ℕ) (o : Operation) (rest : List ℕ) → Accepts rows cols wrapping o → spelling o ≡ b ∷ rest → Taken rows cols wrapping Ground b o rest
taken_ground rows cols wrapping b (Goto r c) rest accepts e = begins rows cols wrapping b (Goto r c) _ rest (omega arith) e
taken_ground rows cols wrapping b Clear rest accepts e = begins rows cols wrapping b Clear _ rest (omega arith) e
taken_ground rows cols wrapping b Erase rest accepts e = begins rows cols wrapping b Erase _ rest (omega arith) e
taken_ground rows cols wrapping b Reverse rest accepts e = begins rows cols wrapping b Reverse _ rest (omega arith) e
taken_ground rows cols wrapping b Plain rest accepts e = begins rows cols wrapping b Plain _ rest (omega arith) e
taken_ground rows cols wrapping b Unwrap rest accepts e = begins rows cols wrapping b Unwrap _ rest (omega arith) e
taken_ground rows cols wrapping b (Print x) rest accepts e = elim accepts.0 [
  | inl ascii ↦
      let one : x ∷ [] ≡ b ∷ rest = sym (encode_ascii x ascii.1) ∙ e in
      let h : x ≡ b = cc in
      let k : rest ≡ [] = cc in
      inl (rw (← h) (next_print rows cols wrapping x ascii.0 ascii.1 accepts.1), k)
  | inr some ↦
      let size : ℕ = len_utf8 x in
      let of : OfSize size x = shown_size x some in
      let few = size_few size x of in
      let all : (lead size + fewer (size - 1) x) ∷ tails (size - 1) x ≡ b ∷ rest = sym (first_byte size x of).is ∙ e in
      let h : lead size + fewer (size - 1) x ≡ b = cc in
      let k : tails (size - 1) x ≡ rest = cc in
      inr (
        Inside size 1 (fewer (size - 1) x),
        rw (accepts.1, ← h) (next_first rows cols size x of ∙ reaches_more size 1 x of (omega arith) (omega (arith, few.0)) few.1),
        omega (arith, ap length k, length-tails (size - 1) x, few.0),
      )
]

brackets : (rows cols : ℕ) (wrapping : Bool) (b : ℕ) (o : Operation) (tail rest : List ℕ) → 1 ≤ length tail → 27 ∷ 91 ∷ tail ≡ 27 ∷ b ∷ rest → Taken rows cols wrapping Escape b o rest
brackets rows cols wrapping b o tail rest some e =
    let h : 91 ≡ b = cc in
    let k : tail ≡ rest = cc in
    inr (Bracket, rw (← h) refl, rw (← k) some)

taken_escape : (rows cols : ℕ) (wrapping : Bool) (b : ℕ) (o : Operation) (rest : List ℕ) → Accepts rows cols wrapping o → spelling o ≡ 27 ∷ b ∷ rest → Taken rows cols wrapping Escape b o rest
taken_escape rows cols wrapping b (Goto r c) rest accepts e = brackets rows cols wrapping b (Goto r c) (number (r + 1) ++ 59 ∷ (number (c + 1) ++ 72 ∷ [])) rest (omega (arith, length-append (number (r + 1)) (59 ∷ (number (c + 1) ++ 72 ∷ [])))) e
taken_escape rows cols wrapping b Clear rest accepts e = brackets rows cols wrapping b Clear _ rest (omega arith) e
taken_escape rows cols wrapping b Erase rest accepts e = brackets rows cols wrapping b Erase _ rest (omega arith) e
taken_escape rows cols wrapping b Reverse rest accepts e = brackets rows cols wrapping b Reverse _ rest (omega arith) e
taken_escape rows cols wrapping b Plain rest accepts e = brackets rows cols wrapping b Plain _ rest (omega arith) e
taken_escape rows cols wrapping b Unwrap rest accepts e = brackets rows cols wrapping b Unwrap _ rest (omega arith) e
taken_escape rows cols wrapping b (Print x) rest accepts e = absurd (head_high x 27 _ accepts.0 e (omega arith))

taken_bracket : (rows cols : ℕ) (wrapping : Bool) (b : ℕ) (o : Operation) (rest : List ℕ) → rows ≤ 64 → 6 ≤ rows → Accepts rows cols wrapping o → spelling o ≡ 27 ∷ 91 ∷ b ∷ rest → Taken rows cols wrapping Bracket b o rest
taken_bracket rows cols wrapping b (Goto r c) rest few some accepts e =
    let tail : List ℕ = 59 ∷ (number (c + 1) ++ 72 ∷ []) in
    let h : number (r + 1) ++ tail ≡ b ∷ rest = cc in
    let f : First (r + 1) b tail rest = number_first (r + 1) b tail rest (omega arith) (omega arith) h in
    inr (Number f.digit, ap (next_step rows cols wrapping Bracket) f.byte ∙ next_bracket_digit rows cols wrapping f.digit f.some f.small (omega arith), omega arith)
taken_bracket rows cols wrapping b Clear rest few some accepts e =
    let h : 50 ≡ b = cc in
    let k : 74 ∷ [] ≡ rest = cc in
    inr (Number 2, rw (← h) (next_bracket_digit rows cols wrapping 2 (omega arith) (omega arith) (omega arith)), rw (← k) (omega arith))
taken_bracket rows cols wrapping b Erase rest few some accepts e =
    let h : 75 ≡ b = cc in
    let k : rest ≡ [] = cc in
    inl (rw (← h) refl, k)
taken_bracket rows cols wrapping b Reverse rest few some accepts e =
    let h : 55 ≡ b = cc in
    let k : 109 ∷ [] ≡ rest = cc in
    inr (Number 7, rw (← h) (next_seven rows cols wrapping), rw (← k) (omega arith))
taken_bracket rows cols wrapping b Plain rest few some accepts e =
    let h : 109 ≡ b = cc in
    let k : rest ≡ [] = cc in
    inl (rw (← h) refl, k)
taken_bracket rows cols wrapping b Unwrap rest few some accepts e =
    let h : 63 ≡ b = cc in
    let k : 55 ∷ 108 ∷ [] ≡ rest = cc in
    inr (Question, rw (← h) refl, rw (← k) (omega arith))
taken_bracket rows cols wrapping b (Print x) rest few some accepts e = absurd (head_high x 27 _ accepts.0 e (omega arith))

-- No number begins with a byte past the digits.
no_digit : (n x : ℕ) (u v : List ℕ) → n < 1000 → 58 ≤ x → number n ++ u ≡ x ∷ v → ⊥
no_digit n x u v low high e = elim (number_cases n) [
  | inl y ↦
      let eq : (48 + n) ∷ u ≡ x ∷ v = sym (ap (λ z. z ++ u) y.is) ∙ e in
      let h : 48 + n ≡ x = cc in
      omega arith
  | inr (inl y) ↦
      let eq : (48 + n / 10) ∷ (48 + n % 10) ∷ u ≡ x ∷ v = sym (ap (λ z. z ++ u) y.is) ∙ e in
      let h : 48 + n / 10 ≡ x = cc in
      omega arith
  | inr (inr y) ↦
      let eq : (48 + n / 100) ∷ (48 + n / 10 % 10) ∷ (48 + n % 10) ∷ u ≡ x ∷ v = sym (ap (λ z. z ++ u) y.is) ∙ e in
      let h : 48 + n / 100 ≡ x = cc in
      omega arith
]

taken_number : (rows cols : ℕ) (wrapping : Bool) (n b : ℕ) (o : Operation) (rest : List ℕ) → rows ≤ 64 → 6 ≤ rows → n ≤ 64 → Accepts rows cols wrapping o → spelling o ≡ 27 ∷ 91 ∷ (number n ++ b ∷ rest) → Taken rows cols wrapping (Number n) b o rest
taken_number rows cols wrapping n b (Goto r c) rest few some small accepts e =
    let tail : List ℕ = number (c + 1) ++ 72 ∷ [] in
    let long : 1 ≤ length tail = omega (arith, length-append (number (c + 1)) (72 ∷ [])) in
    let h : number (r + 1) ++ 59 ∷ tail ≡ number n ++ b ∷ rest = cc in
    elim (number_front n (r + 1) b 59 rest tail (omega arith) (omega arith) (omega arith) (sym h)) [
      | inl w ↦ inr (Row n, ap (next_step rows cols wrapping (Number n)) w.byte ∙ next_number_end rows cols wrapping n (omega arith), rw w.rest long)
      | inr w ↦
          let byte : b ≡ 48 + (b - 48) = omega arith in
          inr (Number (n * 10 + (b - 48)), ap (next_step rows cols wrapping (Number n)) byte ∙ next_number_digit rows cols wrapping n (b - 48) (omega arith) (omega arith), w.more)
    ]
taken_number rows cols wrapping n b Clear rest few some small accepts e =
    let h : 50 ∷ 74 ∷ [] ≡ number n ++ b ∷ rest = cc in
    elim (number_cases n) [
      | inl y ↦
          let eq : 50 ∷ 74 ∷ [] ≡ (48 + n) ∷ b ∷ rest = h ∙ ap (λ z. z ++ b ∷ rest) y.is in
          let k : 50 ≡ 48 + n = cc in
          let two : n ≡ 2 = omega arith in
          let byte : b ≡ 74 = cc in
          inl (ap (λ m. next_step rows cols wrapping (Number m) b) two ∙ ap (next_step rows cols wrapping (Number 2)) byte ∙ refl, cc)
      | inr (inl y) ↦
          let eq : 50 ∷ 74 ∷ [] ≡ (48 + n / 10) ∷ (48 + n % 10) ∷ b ∷ rest = h ∙ ap (λ z. z ++ b ∷ rest) y.is in
          absurd (cc)
      | inr (inr y) ↦ absurd (omega (arith, y.big))
    ]
taken_number rows cols wrapping n b Reverse rest few some small accepts e =
    let h : 55 ∷ 109 ∷ [] ≡ number n ++ b ∷ rest = cc in
    elim (number_cases n) [
      | inl y ↦
          let eq : 55 ∷ 109 ∷ [] ≡ (48 + n) ∷ b ∷ rest = h ∙ ap (λ z. z ++ b ∷ rest) y.is in
          let k : 55 ≡ 48 + n = cc in
          let seven : n ≡ 7 = omega arith in
          let byte : b ≡ 109 = cc in
          inl (ap (λ m. next_step rows cols wrapping (Number m) b) seven ∙ ap (next_step rows cols wrapping (Number 7)) byte ∙ refl, cc)
      | inr (inl y) ↦
          let eq : 55 ∷ 109 ∷ [] ≡ (48 + n / 10) ∷ (48 + n % 10) ∷ b ∷ rest = h ∙ ap (λ z. z ++ b ∷ rest) y.is in
          absurd (cc)
      | inr (inr y) ↦ absurd (omega (arith, y.big))
    ]
taken_number rows cols wrapping n b Erase rest few some small accepts e =
    let h : 75 ∷ [] ≡ number n ++ b ∷ rest = cc in
    absurd (omega (arith, ap length h, length-append (number n) (b ∷ rest), number-length n))
taken_number rows cols wrapping n b Plain rest few some small accepts e =
    let h : 109 ∷ [] ≡ number n ++ b ∷ rest = cc in
    absurd (omega (arith, ap length h, length-append (number n) (b ∷ rest), number-length n))
taken_number rows cols wrapping n b Unwrap rest few some small accepts e =
    let h : 63 ∷ 55 ∷ 108 ∷ [] ≡ number n ++ b ∷ rest = cc in
    absurd (no_digit n 63 (b ∷ rest) (55 ∷ 108 ∷ []) (omega arith) (omega arith) (sym h))
taken_number rows cols wrapping n b (Print x) rest few some small accepts e = absurd (head_high x 27 _ accepts.0 e (omega arith))

-- Of the sequences that have a number and then what is none, only the cursor's goes on.
only_goto : (rows cols : ℕ) (wrapping : Bool) (p : Place) (n b : ℕ) (rest u : List ℕ) (o : Operation) → Accepts rows cols wrapping o → n < 1000 → 1 ≤ length u → spelling o ≡ 27 ∷ 91 ∷ (number n ++ 59 ∷ u)
    → ((r c : ℕ) → o ≡ Goto r c → number (r + 1) ++ 59 ∷ (number (c + 1) ++ 72 ∷ []) ≡ number n ++ 59 ∷ u → Taken rows cols wrapping p b o rest) → Taken rows cols wrapping p b o rest
only_goto rows cols wrapping p n b rest u (Goto r c) accepts low some e then = then r c refl (cc)
only_goto rows cols wrapping p n b rest u Clear accepts low some e then =
    let h : 50 ∷ 74 ∷ [] ≡ number n ++ 59 ∷ u = cc in
    absurd (omega (arith, ap length h, length-append (number n) (59 ∷ u), number-length n))
only_goto rows cols wrapping p n b rest u Reverse accepts low some e then =
    let h : 55 ∷ 109 ∷ [] ≡ number n ++ 59 ∷ u = cc in
    absurd (omega (arith, ap length h, length-append (number n) (59 ∷ u), number-length n))
only_goto rows cols wrapping p n b rest u Erase accepts low some e then =
    let h : 75 ∷ [] ≡ number n ++ 59 ∷ u = cc in
    absurd (omega (arith, ap length h, length-append (number n) (59 ∷ u), number-length n))
only_goto rows cols wrapping p n b rest u Plain accepts low some e then =
    let h : 109 ∷ [] ≡ number n ++ 59 ∷ u = cc in
    absurd (omega (arith, ap length h, length-append (number n) (59 ∷ u), number-length n))
only_goto rows cols wrapping p n b rest u Unwrap accepts low some e then =
    let h : 63 ∷ 55 ∷ 108 ∷ [] ≡ number n ++ 59 ∷ u = cc in
    absurd (no_digit n 63 (59 ∷ u) (55 ∷ 108 ∷ []) low (omega arith) (sym h))
only_goto rows cols wrapping p n b rest u (Print x) accepts low some e then = absurd (head_high x 27 _ accepts.0 e (omega arith))

minus_one : (n : ℕ) → 1 ≤ n → n - 1 + 1 ≡ n
minus_one n some = omega arith

below : (n rows : ℕ) → rows ≤ 64 → (n ≤ rows) ⊎ (n ≡ 7) → n ≤ 64
below n rows few h = elim h [ inl le ↦ omega arith | inr is ↦ omega arith ]

row_goes : (rows cols : ℕ) (wrapping : Bool) (n b r c : ℕ) (o : Operation) (rest : List ℕ) → rows ≤ 64 → cols ≤ 160 → n ≤ rows → (r < rows) × (c < cols)
    → number (r + 1) ++ 59 ∷ (number (c + 1) ++ 72 ∷ []) ≡ number n ++ 59 ∷ b ∷ rest → Taken rows cols wrapping (Row n) b o rest
row_goes rows cols wrapping n b r c o rest few narrow small accepts h =
    elim (number_front (r + 1) n 59 59 (number (c + 1) ++ 72 ∷ []) (b ∷ rest) (omega arith) (omega arith) (omega arith) h) [
      | inl w ↦
          let f : First (c + 1) b (72 ∷ []) rest = number_first (c + 1) b (72 ∷ []) rest (omega arith) (omega arith) w.rest in
          inr (Column n f.digit, ap (next_step rows cols wrapping (Row n)) f.byte ∙ next_row_digit rows cols wrapping n f.digit f.some f.small (omega arith), f.more)
      | inr w ↦ absurd (omega arith)
    ]

column_goes : (rows cols : ℕ) (wrapping : Bool) (n m b r c : ℕ) (o : Operation) (rest : List ℕ) → rows ≤ 64 → cols ≤ 160 → n ≤ rows → m ≤ cols → o ≡ Goto r c → (r < rows) × (c < cols)
    → number (r + 1) ++ 59 ∷ (number (c + 1) ++ 72 ∷ []) ≡ number n ++ 59 ∷ (number m ++ b ∷ rest) → Taken rows cols wrapping (Column n m) b o rest
column_goes rows cols wrapping n m b r c o rest few narrow small_n small_m is accepts h =
    elim (number_front (r + 1) n 59 59 (number (c + 1) ++ 72 ∷ []) (number m ++ b ∷ rest) (omega arith) (omega arith) (omega arith) h) [
      | inl w ↦ elim (number_front m (c + 1) b 72 rest [] (omega arith) (omega arith) (omega arith) (sym w.rest)) [
        | inl v ↦ inl (ap (next_step rows cols wrapping (Column n m)) v.byte ∙ ap (λ x. next_step rows cols wrapping (Column x m) 72) (sym w.same) ∙ ap (λ x. next_step rows cols wrapping (Column (r + 1) x) 72) v.same ∙ next_column_end rows cols wrapping r c ∙ ap (λ x. Perform x) (sym is), v.rest)
        | inr v ↦
            let byte : b ≡ 48 + (b - 48) = omega arith in
            inr (Column n (m * 10 + (b - 48)), ap (next_step rows cols wrapping (Column n m)) byte ∙ next_column_digit rows cols wrapping n m (b - 48) (omega arith) (omega arith), v.more)
      ]
      | inr w ↦ absurd (omega arith)
    ]

taken_row : (rows cols : ℕ) (wrapping : Bool) (n b : ℕ) (o : Operation) (rest : List ℕ) → rows ≤ 64 → cols ≤ 160 → n ≤ rows → Accepts rows cols wrapping o → spelling o ≡ 27 ∷ 91 ∷ (number n ++ 59 ∷ b ∷ rest) → Taken rows cols wrapping (Row n) b o rest
taken_row rows cols wrapping n b o rest few narrow small accepts e = only_goto rows cols wrapping (Row n) n b rest (b ∷ rest) o accepts (omega arith) (omega arith) e (λ r c is h. row_goes rows cols wrapping n b r c o rest few narrow small (subst (λ x. Accepts rows cols wrapping x) is accepts) h)

taken_column : (rows cols : ℕ) (wrapping : Bool) (n m b : ℕ) (o : Operation) (rest : List ℕ) → rows ≤ 64 → cols ≤ 160 → n ≤ rows → m ≤ cols → Accepts rows cols wrapping o → spelling o ≡ 27 ∷ 91 ∷ (number n ++ 59 ∷ (number m ++ b ∷ rest)) → Taken rows cols wrapping (Column n m) b o rest
taken_column rows cols wrapping n m b o rest few narrow small_n small_m accepts e = only_goto rows cols wrapping (Column n m) n b rest (number m ++ b ∷ rest) o accepts (omega arith) (omega (arith, length-append (number m) (b ∷ rest))) e (λ r c is h. column_goes rows cols wrapping n m b r c o rest few narrow small_n small_m is (subst (λ x. Accepts rows cols wrapping x) is accepts) h)

third : (x : ℕ) (xs : List ℕ) (y : ℕ) (ys : List ℕ) → xs ≡ ys → get_or xs 2 0 ≡ x → get_or ys 2 0 ≡ y → x ≢ y → ⊥
third x xs y ys e of_x of_y ne = ne (sym of_x ∙ ap (λ l. get_or l 2 0) e ∙ of_y)

taken_question : (rows cols : ℕ) (wrapping : Bool) (b : ℕ) (o : Operation) (rest : List ℕ) → rows ≤ 64 → Accepts rows cols wrapping o → spelling o ≡ 27 ∷ 91 ∷ 63 ∷ b ∷ rest → Taken rows cols wrapping Question b o rest
taken_question rows cols wrapping b (Goto r c) rest few accepts e = absurd (no_digit (r + 1) 63 (59 ∷ (number (c + 1) ++ 72 ∷ [])) (b ∷ rest) (omega arith) (omega arith) (cc))
taken_question rows cols wrapping b Clear rest few accepts e = absurd (third 50 (spelling Clear) 63 _ e refl refl (omega arith))
taken_question rows cols wrapping b Erase rest few accepts e = absurd (third 75 (spelling Erase) 63 _ e refl refl (omega arith))
taken_question rows cols wrapping b Reverse rest few accepts e = absurd (third 55 (spelling Reverse) 63 _ e refl refl (omega arith))
taken_question rows cols wrapping b Plain rest few accepts e = absurd (third 109 (spelling Plain) 63 _ e refl refl (omega arith))
taken_question rows cols wrapping b Unwrap rest few accepts e =
    let h : b ≡ 55 = cc in
    let k : rest ≡ 108 ∷ [] = cc in
    inr (Seven, ap (next_step rows cols wrapping Question) h ∙ refl, omega (arith, ap length k))
taken_question rows cols wrapping b (Print x) rest few accepts e = absurd (head_high x 27 _ accepts.0 e (omega arith))

taken_seven : (rows cols : ℕ) (wrapping : Bool) (b : ℕ) (o : Operation) (rest : List ℕ) → rows ≤ 64 → Accepts rows cols wrapping o → spelling o ≡ 27 ∷ 91 ∷ 63 ∷ 55 ∷ b ∷ rest → Taken rows cols wrapping Seven b o rest
taken_seven rows cols wrapping b (Goto r c) rest few accepts e = absurd (no_digit (r + 1) 63 (59 ∷ (number (c + 1) ++ 72 ∷ [])) (55 ∷ b ∷ rest) (omega arith) (omega arith) (cc))
taken_seven rows cols wrapping b Clear rest few accepts e = absurd (third 50 (spelling Clear) 63 _ e refl refl (omega arith))
taken_seven rows cols wrapping b Erase rest few accepts e = absurd (third 75 (spelling Erase) 63 _ e refl refl (omega arith))
taken_seven rows cols wrapping b Reverse rest few accepts e = absurd (third 55 (spelling Reverse) 63 _ e refl refl (omega arith))
taken_seven rows cols wrapping b Plain rest few accepts e = absurd (third 109 (spelling Plain) 63 _ e refl refl (omega arith))
taken_seven rows cols wrapping b Unwrap rest few accepts e =
    let h : b ≡ 108 = cc in
    inl (ap (next_step rows cols wrapping Seven) h ∙ refl, cc)
taken_seven rows cols wrapping b (Print x) rest few accepts e = absurd (head_high x 27 _ accepts.0 e (omega arith))

-- which first bytes there are
first_class : (size c : ℕ) → OfSize size c → ((size ≡ 2) × (lead size + fewer (size - 1) c < 224)) ⊎ (((size ≡ 3) × (224 ≤ lead size + fewer (size - 1) c) × (lead size + fewer (size - 1) c < 240)) ⊎ ((size ≡ 4) × (240 ≤ lead size + fewer (size - 1) c)))
first_class size c h = elim (sizes size c h) [
  | inl w ↦ inl (w.0, rw w.0 (omega (arith, w.1)))
  | inr (inl w) ↦ inr (inl (w.0, rw w.0 (omega arith), rw w.0 (omega (arith, w.2))))
  | inr (inr w) ↦ inr (inr (w.0, rw w.0 (omega arith)))
]

class_same : (size m c x : ℕ) → OfSize size c → OfSize m x → lead size + fewer (size - 1) c ≡ lead m + fewer (m - 1) x → m ≡ size
class_same size m c x of_c of_x e = elim (first_class size c of_c) [
  | inl p ↦ elim (first_class m x of_x) [ inl q ↦ omega (arith, p.0, q.0) | inr (inl q) ↦ absurd (omega (arith, p.1, q.1, e)) | inr (inr q) ↦ absurd (omega (arith, p.1, q.1, e)) ]
  | inr (inl p) ↦ elim (first_class m x of_x) [ inl q ↦ absurd (omega (arith, p.1, q.1, e)) | inr (inl q) ↦ omega (arith, p.0, q.0) | inr (inr q) ↦ absurd (omega (arith, p.2, q.1, e)) ]
  | inr (inr p) ↦ elim (first_class m x of_x) [ inl q ↦ absurd (omega (arith, p.1, q.1, e)) | inr (inl q) ↦ absurd (omega (arith, p.1, q.2, e)) | inr (inr q) ↦ omega (arith, p.0, q.0) ]
]

headed : (f n v : ℕ) → (h : ℕ) × (t : List ℕ) × (bytes_read f (suc n) v ≡ h ∷ t)
headed f zero v = (f + v, [], refl)
headed f (suc n) v = let r = headed f n (v / 64) in (r.0, r.1 ++ (128 + v % 64) ∷ [], rw r.2 refl)

-- the bytes at a place are the first ones of a character
record Opened (size read v : ℕ) : Type 0 where
  pub c : ℕ
  pub of : OfSize size c
  pub h : ℕ
  pub t : List ℕ
  pub xs : List ℕ
  pub read_is : bytes_read (lead size) read v ≡ h ∷ t
  pub c_is : encode_utf8 c ≡ h ∷ xs
  pub high : 192 ≤ h

opened : (rows cols : ℕ) (wrapping : Bool) (size read v : ℕ) → IsPlace rows cols wrapping (Inside size read v) → Opened size read v
opened rows cols wrapping size read v fits =
    let c : ℕ = fits.5 in
    let of : OfSize size c = of_size size c fits.6 in
    let left : ℕ = size - read in
    let k : ℕ = read - 1 in
    let next : suc k ≡ read = omega (arith, fits.1) in
    let whole : suc (k + left) ≡ size = omega (arith, fits.1, fits.2) in
    let split : bytes_read (lead size) size c ≡ bytes_read (lead size) read (fewer left c) ++ tails left c = rw (whole, next) at (bytes_split (lead size) k left c) in
    let r = headed (lead size) k v in
    let r_is : bytes_read (lead size) read v ≡ r.0 ∷ r.1 = rw next at r.2 in
    let all : encode_utf8 c ≡ r.0 ∷ (r.1 ++ tails left c) = encode_as size c of ∙ split ∙ ap (λ n. bytes_read (lead size) read n ++ tails left c) fits.7 ∙ ap (λ xs. xs ++ tails left c) r_is in
    let f : FirstByte size c = first_byte size c of in
    let first : (lead size + fewer (size - 1) c) ∷ tails (size - 1) c ≡ r.0 ∷ (r.1 ++ tails left c) = sym f.is ∙ all in
    let same : lead size + fewer (size - 1) c ≡ r.0 = cc in
    record { c = c; of = of; h = r.0; t = r.1; xs = r.1 ++ tails left c; read_is = r_is; c_is = all; high = omega (arith, same, f.high) }

-- A character whose first bytes are those of another one has as many.
same_size : (x c size m : ℕ) (b : ℕ) (xs rest : List ℕ) → OfSize size c → OfSize m x → encode_utf8 c ≡ b ∷ xs → encode_utf8 x ≡ b ∷ rest → m ≡ size
same_size x c size m b xs rest of_c of_x p q =
    let one : (lead size + fewer (size - 1) c) ∷ tails (size - 1) c ≡ b ∷ xs = sym (first_byte size c of_c).is ∙ p in
    let two : (lead m + fewer (m - 1) x) ∷ tails (m - 1) x ≡ b ∷ rest = sym (first_byte m x of_x).is ∙ q in
    let h : lead size + fewer (size - 1) c ≡ b = cc in
    let k : lead m + fewer (m - 1) x ≡ b = cc in
    class_same size m c x of_c of_x (h ∙ sym k)

-- one byte more
one_left : (size read : ℕ) → size ≡ read + 1 → read + 1 ≡ size
one_left size read e = omega arith

inside_taken : (rows cols : ℕ) (wrapping : Bool) (size read left v b x : ℕ) (rest : List ℕ) → size ≡ read + left → size ≤ 4 → 1 ≤ read → (left ≡ 1) ⊎ ((left ≡ 2) ⊎ (left ≡ 3)) → OfSize size x → fewer left x ≡ v → tails left x ≡ b ∷ rest
    → Taken rows cols wrapping (Inside size read v) b (Print x) rest
inside_taken rows cols wrapping size read left v b x rest is few some count of value e = elim count [
  | inl one ↦
      let w : x / 64 ≡ v = rw one at value in
      let bytes : (128 + x % 64) ∷ [] ≡ b ∷ rest = rw one at e in
      let h : 128 + x % 64 ≡ b = cc in
      let k : rest ≡ [] = cc in
      let all : read + 1 ≡ size = omega arith in
      inl (rw (← w, ← h) (next_tail rows cols wrapping size read x ∙ ap (λ n. reached size n x) all ∙ reaches_end size x of), k)
  | inr (inl two) ↦
      let w : x / 64 / 64 ≡ v = rw two at value in
      let bytes : (128 + x / 64 % 64) ∷ (128 + x % 64) ∷ [] ≡ b ∷ rest = rw two at e in
      let h : 128 + x / 64 % 64 ≡ b = cc in
      let k : (128 + x % 64) ∷ [] ≡ rest = cc in
      let gap : size - (read + 1) ≡ 1 = omega arith in
      let waits : reached size (read + 1) (x / 64) ≡ Wait (Inside size (read + 1) (x / 64)) = reaches_as size (read + 1) x (x / 64) of (omega arith) (omega arith) few (ap (λ n. fewer n x) gap) in
      inr (Inside size (read + 1) (x / 64), rw (← w, ← h) (next_tail rows cols wrapping size read (x / 64) ∙ waits), rw (← k) (omega arith))
  | inr (inr three) ↦
      let w : x / 64 / 64 / 64 ≡ v = rw three at value in
      let bytes : (128 + x / 64 / 64 % 64) ∷ (128 + x / 64 % 64) ∷ (128 + x % 64) ∷ [] ≡ b ∷ rest = rw three at e in
      let h : 128 + x / 64 / 64 % 64 ≡ b = cc in
      let k : (128 + x / 64 % 64) ∷ (128 + x % 64) ∷ [] ≡ rest = cc in
      let gap : size - (read + 1) ≡ 2 = omega arith in
      let waits : reached size (read + 1) (x / 64 / 64) ≡ Wait (Inside size (read + 1) (x / 64 / 64)) = reaches_as size (read + 1) x (x / 64 / 64) of (omega arith) (omega arith) few (ap (λ n. fewer n x) gap) in
      inr (Inside size (read + 1) (x / 64 / 64), rw (← w, ← h) (next_tail rows cols wrapping size read (x / 64 / 64) ∙ waits), rw (← k) (omega arith))
]

taken_sized : (rows cols : ℕ) (wrapping : Bool) (size read v b x : ℕ) (rest : List ℕ) → IsPlace rows cols wrapping (Inside size read v) → OfSize size x
    → bytes_read (lead size) size x ≡ bytes_read (lead size) read v ++ b ∷ rest → Taken rows cols wrapping (Inside size read v) b (Print x) rest
taken_sized rows cols wrapping size read v b x rest fits of e =
    let left : ℕ = size - read in
    let k : ℕ = read - 1 in
    let next : suc k ≡ read = omega (arith, fits.1) in
    let whole : suc (k + left) ≡ size = omega (arith, fits.1, fits.2) in
    let split : bytes_read (lead size) size x ≡ bytes_read (lead size) read (fewer left x) ++ tails left x = rw (whole, next) at (bytes_split (lead size) k left x) in
    let both = front_same (bytes_read (lead size) read (fewer left x)) (bytes_read (lead size) read v) (tails left x) (b ∷ rest)
    (length-bytes_read (lead size) read (fewer left x) ∙ sym (length-bytes_read (lead size) read v)) (sym split ∙ e) in
    let value : fewer left x ≡ v = value_same (lead size) k (fewer left x) v (subst (λ n. bytes_read (lead size) n (fewer left x) ≡ bytes_read (lead size) n v) (sym next) both.0) in
    inside_taken rows cols wrapping size read left v b x rest (omega (arith, fits.1, fits.2)) fits.3 fits.1 (lefts size read fits.1 fits.2 fits.3) of value both.1

no_escape : (size read v b : ℕ) (tail rest : List ℕ) → Opened size read v → 27 ∷ tail ≡ bytes_read (lead size) read v ++ b ∷ rest → ⊥
no_escape size read v b tail rest p e =
    let f : 27 ∷ tail ≡ p.h ∷ (p.t ++ b ∷ rest) = e ∙ ap (λ xs. xs ++ b ∷ rest) p.read_is in
    let same : 27 ≡ p.h = cc in
    omega (arith, p.high)

taken_inside : (rows cols : ℕ) (wrapping : Bool) (size read v b : ℕ) (o : Operation) (rest : List ℕ) → IsPlace rows cols wrapping (Inside size read v) → Accepts rows cols wrapping o → spelling o ≡ bytes_read (lead size) read v ++ b ∷ rest → Taken rows cols wrapping (Inside size read v) b o rest
taken_inside rows cols wrapping size read v b (Goto r c) rest fits accepts e = absurd (no_escape size read v b _ rest (opened rows cols wrapping size read v fits) e)
taken_inside rows cols wrapping size read v b Clear rest fits accepts e = absurd (no_escape size read v b _ rest (opened rows cols wrapping size read v fits) e)
taken_inside rows cols wrapping size read v b Erase rest fits accepts e = absurd (no_escape size read v b _ rest (opened rows cols wrapping size read v fits) e)
taken_inside rows cols wrapping size read v b Reverse rest fits accepts e = absurd (no_escape size read v b _ rest (opened rows cols wrapping size read v fits) e)
taken_inside rows cols wrapping size read v b Plain rest fits accepts e = absurd (no_escape size read v b _ rest (opened rows cols wrapping size read v fits) e)
taken_inside rows cols wrapping size read v b Unwrap rest fits accepts e = absurd (no_escape size read v b _ rest (opened rows cols wrapping size read v fits) e)
taken_inside rows cols wrapping size read v b (Print x) rest fits accepts e = elim accepts.0 [
  | inl ascii ↦
      let one : x ∷ [] ≡ bytes_read (lead size) read v ++ b ∷ rest = sym (encode_ascii x ascii.1) ∙ e in
      absurd (omega (arith, ap length one, length-append (bytes_read (lead size) read v) (b ∷ rest), length-bytes_read (lead size) read v, fits.1))
  | inr some ↦
      let p : Opened size read v = opened rows cols wrapping size read v fits in
      let of : OfSize (len_utf8 x) x = shown_size x some in
      let x_is : encode_utf8 x ≡ p.h ∷ (p.t ++ b ∷ rest) = e ∙ ap (λ xs. xs ++ b ∷ rest) p.read_is in
      let same : len_utf8 x ≡ size = same_size x p.c size (len_utf8 x) p.h p.xs (p.t ++ b ∷ rest) p.of of p.c_is x_is in
      let k : OfSize size x = subst (λ n. OfSize n x) same of in
      taken_sized rows cols wrapping size read v b x rest fits k (sym (encode_as size x k) ∙ e)
]

-- Each byte that an accepted sequence has at its place is taken.
pub taken : (rows cols : ℕ) (wrapping : Bool) (p : Place) (b : ℕ) (o : Operation) (rest : List ℕ) → rows ≤ 64 → 6 ≤ rows → cols ≤ 160 → IsPlace rows cols wrapping p → is_out_of_profile p ≡ false
    → Accepts rows cols wrapping o → spelling o ≡ begun_at p ++ b ∷ rest → Taken rows cols wrapping p b o rest
taken rows cols wrapping Ground b o rest few some narrow fits going accepts e = taken_ground rows cols wrapping b o rest accepts e
taken rows cols wrapping Escape b o rest few some narrow fits going accepts e = taken_escape rows cols wrapping b o rest accepts e
taken rows cols wrapping Bracket b o rest few some narrow fits going accepts e = taken_bracket rows cols wrapping b o rest few some accepts e
taken rows cols wrapping (Number n) b o rest few some narrow fits going accepts e = taken_number rows cols wrapping n b o rest few some (below n rows few fits.1) accepts e
taken rows cols wrapping (Row n) b o rest few some narrow fits going accepts e = taken_row rows cols wrapping n b o rest few narrow fits.1 accepts (e ∙ ap (λ x. 27 ∷ 91 ∷ x) (append_assoc (number n) (59 ∷ []) (b ∷ rest)))
taken rows cols wrapping (Column n m) b o rest few some narrow fits going accepts e = taken_column rows cols wrapping n m b o rest few narrow fits.1 fits.3 accepts (e ∙ ap (λ x. 27 ∷ 91 ∷ x) (append_assoc (number n) (59 ∷ number m) (b ∷ rest)))
taken rows cols wrapping Question b o rest few some narrow fits going accepts e = taken_question rows cols wrapping b o rest few accepts e
taken rows cols wrapping Seven b o rest few some narrow fits going accepts e = taken_seven rows cols wrapping b o rest few accepts e
taken rows cols wrapping (Inside size read v) b o rest few some narrow fits going accepts e = taken_inside rows cols wrapping size read v b o rest fits accepts e
taken rows cols wrapping Refused b o rest few some narrow fits going accepts e = absurd (cc)

-- In the midst of a sequence some accepted one goes on.
pub goes_on : (rows cols : ℕ) (wrapping : Bool) (p : Place) → 6 ≤ rows → 20 ≤ cols → rows ≤ 64 → IsPlace rows cols wrapping p → is_out_of_profile p ≡ false → 1 ≤ length (begun_at p) → (o : Operation) × (rest : List ℕ) × Accepts rows cols wrapping o × (spelling o ≡ begun_at p ++ rest) × (rest ≡ [] → ⊥)
goes_on rows cols wrapping Ground some wide few fits going begun = absurd (omega arith)
goes_on rows cols wrapping Escape some wide few fits going begun = (Erase, 91 ∷ 75 ∷ [], tt, refl, λ e. absurd (cc))
goes_on rows cols wrapping Bracket some wide few fits going begun = (Erase, 75 ∷ [], tt, refl, λ e. absurd (cc))
goes_on rows cols wrapping (Number n) some wide few fits going begun = elim fits.1 [
  | inl le ↦ (Goto (n - 1) 0, 59 ∷ 49 ∷ 72 ∷ [], (omega (arith, fits.0), omega arith), ap (λ m. 27 ∷ 91 ∷ (number m ++ 59 ∷ 49 ∷ 72 ∷ [])) (minus_one n fits.0), λ e. absurd (cc))
  | inr is ↦ (Reverse, 109 ∷ [], tt, ap (λ m. 27 ∷ 91 ∷ (number m ++ 109 ∷ [])) (sym is), λ e. absurd (cc))
]
goes_on rows cols wrapping (Row n) some wide few fits going begun = (Goto (n - 1) 0, 49 ∷ 72 ∷ [], (omega (arith, fits.0, fits.1), omega arith), ap (λ m. 27 ∷ 91 ∷ (number m ++ 59 ∷ 49 ∷ 72 ∷ [])) (minus_one n fits.0) ∙ ap (λ x. 27 ∷ 91 ∷ x) (sym (append_assoc (number n) (59 ∷ []) (49 ∷ 72 ∷ []))), λ e. absurd (cc))
goes_on rows cols wrapping (Column n m) some wide few fits going begun = (Goto (n - 1) (m - 1), 72 ∷ [], (omega (arith, fits.0, fits.1), omega (arith, fits.2, fits.3)), ap (λ k. 27 ∷ 91 ∷ (number k ++ 59 ∷ (number (m - 1 + 1) ++ 72 ∷ []))) (minus_one n fits.0) ∙ ap (λ k. 27 ∷ 91 ∷ (number n ++ 59 ∷ (number k ++ 72 ∷ []))) (minus_one m fits.2) ∙ ap (λ x. 27 ∷ 91 ∷ x) (sym (append_assoc (number n) (59 ∷ number m) (72 ∷ []))), λ e. absurd (cc))
goes_on rows cols wrapping Question some wide few fits going begun = (Unwrap, 55 ∷ 108 ∷ [], tt, refl, λ e. absurd (cc))
goes_on rows cols wrapping Seven some wide few fits going begun = (Unwrap, 108 ∷ [], tt, refl, λ e. absurd (cc))
goes_on rows cols wrapping (Inside size read v) some wide few fits going begun =
    let c : ℕ = fits.5 in
    let of : OfSize size c = of_size size c fits.6 in
    let left : ℕ = size - read in
    let k : ℕ = read - 1 in
    let next : suc k ≡ read = omega (arith, fits.1) in
    let whole : suc (k + left) ≡ size = omega (arith, fits.1, fits.2) in
    let split : bytes_read (lead size) size c ≡ bytes_read (lead size) read (fewer left c) ++ tails left c = rw (whole, next) at (bytes_split (lead size) k left c) in
    (Print c, tails left c, (inr of.shown, fits.0), encode_as size c of ∙ split ∙ ap (λ n. bytes_read (lead size) read n ++ tails left c) fits.7, λ e. omega (arith, ap length e, length-tails left c, fits.2))
goes_on rows cols wrapping Refused some wide few fits going begun = absurd (cc)

not_refused : (rows cols : ℕ) (wrapping : Bool) (p : Place) (b : ℕ) → next_step rows cols wrapping p b ≢ Stuck → is_out_of_profile p ≡ false
not_refused rows cols wrapping Ground b ne = refl
not_refused rows cols wrapping Escape b ne = refl
not_refused rows cols wrapping Bracket b ne = refl
not_refused rows cols wrapping (Number n) b ne = refl
not_refused rows cols wrapping (Row n) b ne = refl
not_refused rows cols wrapping (Column n m) b ne = refl
not_refused rows cols wrapping Question b ne = refl
not_refused rows cols wrapping Seven b ne = refl
not_refused rows cols wrapping (Inside size read v) b ne = refl
not_refused rows cols wrapping Refused b ne = absurd (ne refl)

worded : (p : Place) → 1 ≤ length (begun_at p) → is_out_of_profile p ≡ false
worded Ground some = refl
worded Escape some = refl
worded Bracket some = refl
worded (Number n) some = refl
worded (Row n) some = refl
worded (Column n m) some = refl
worded Question some = refl
worded Seven some = refl
worded (Inside size read v) some = refl
worded Refused some = absurd (omega arith)

stuck_perform : (o : Operation) → Stuck ≡ Perform o → ⊥
stuck_perform o e = absurd (cc)

stuck_wait : (q : Place) → Stuck ≡ Wait q → ⊥
stuck_wait q e = absurd (cc)

wait_perform : (q : Place) (o : Operation) → Wait q ≡ Perform o → ⊥
wait_perform q o e = absurd (cc)

perform_same : (x o : Operation) → Perform x ≡ Perform o → x ≡ o
perform_same x o e = cc

taken_at : (t : Automaton) (b : ℕ) (o : Operation) (rest : List ℕ) → IsScreen t.screen → IsPlace t.screen.rows t.screen.cols t.screen.wrapping t.place → Continues (terminal_of t) b rest o → Taken t.screen.rows t.screen.cols t.screen.wrapping t.place b o rest
taken_at t b o rest ok fits goes = taken t.screen.rows t.screen.cols t.screen.wrapping t.place b o rest ok.size.few_rows ok.size.some_rows ok.size.few_cols fits goes.0 goes.1 goes.2

pub never : (t : Automaton) (b : ℕ) (o : Operation) (rest : List ℕ) → IsScreen t.screen → IsPlace t.screen.rows t.screen.cols t.screen.wrapping t.place → Stuck ≡ next_step t.screen.rows t.screen.cols t.screen.wrapping t.place b → Continues (terminal_of t) b rest o → ⊥
never t b o rest ok fits stuck goes = elim (taken_at t b o rest ok fits goes) [ inl w ↦ stuck_perform o (stuck ∙ w.0) | inr w ↦ stuck_wait w.0 (stuck ∙ w.1) ]

false_true : (a : Bool) → a ≡ false → a ≡ true → ⊥
false_true a p q = absurd (cc)

-- a character that has no room is not taken
pub no_room : (t : Automaton) (b : ℕ) (x o : Operation) (rest : List ℕ) → IsScreen t.screen → IsPlace t.screen.rows t.screen.cols t.screen.wrapping t.place → Perform x ≡ next_step t.screen.rows t.screen.cols t.screen.wrapping t.place b
    → has_room t.screen x ≡ false → Continues (terminal_of t) b rest o → ⊥
no_room t b x o rest ok fits is none goes = elim (taken_at t b o rest ok fits goes) [
  | inl w ↦ false_true (has_room t.screen x) none (ap (has_room t.screen) (perform_same x o (is ∙ w.0)) ∙ goes.3 w.1)
  | inr w ↦ wait_perform w.0 x (sym w.1 ∙ sym is)
]

pub performed : (a : Automaton) (s : Screen) (x o : Operation) → a.screen ≡ after x s → a.place ≡ Ground → x ≡ o → a ≡ record { screen = after o s; place = Ground }
performed a s x o is place same =
    let end : Screen → Place → Automaton = λ c p. record { screen = c; place = p } in
    ap (λ c. end c a.place) (is ∙ ap (λ y. after y s) same) ∙ ap (end (after o s)) place

pub waits : (t : Automaton) (b : ℕ) (q : Place) → IsScreen t.screen → IsPlace t.screen.rows t.screen.cols t.screen.wrapping q → Wait q ≡ next_step t.screen.rows t.screen.cols t.screen.wrapping t.place b → begun_at q ≡ begun_at t.place ++ b ∷ [] → (o : Operation) × (rest : List ℕ) × Continues (terminal_of t) b rest o
waits t b q ok fits wait word =
    let long : 1 ≤ length (begun_at q) = omega (arith, ap length word, length-append (begun_at t.place) (b ∷ [])) in
    let some : (o : Operation) × (rest : List ℕ) × Accepts t.screen.rows t.screen.cols t.screen.wrapping o × (spelling o ≡ begun_at q ++ rest) × (rest ≡ [] → ⊥) = goes_on t.screen.rows t.screen.cols t.screen.wrapping q ok.size.some_rows ok.size.some_cols ok.size.few_rows fits (worded q long) long in
    (some.0, some.1, (not_refused t.screen.rows t.screen.cols t.screen.wrapping t.place b (λ e. stuck_wait q (sym e ∙ sym wait)), some.2, some.3 ∙ ap (λ x. x ++ some.1) word ∙ append_assoc (begun_at t.place) (b ∷ []) some.1, λ e. absurd (some.4 e)))

pub performs : (t : Automaton) (b : ℕ) (o : Operation) → Accepts t.screen.rows t.screen.cols t.screen.wrapping o → has_room t.screen o ≡ true → Perform o ≡ next_step t.screen.rows t.screen.cols t.screen.wrapping t.place b → spelling o ≡ begun_at t.place ++ b ∷ [] → Continues (terminal_of t) b [] o
performs t b o accepts room is word = (not_refused t.screen.rows t.screen.cols t.screen.wrapping t.place b (λ e. stuck_perform o (sym e ∙ sym is)), accepts, word, λ e. room)

pub last_waits : (t : Automaton) (b : ℕ) (q : Place) (o : Operation) → IsScreen t.screen → IsPlace t.screen.rows t.screen.cols t.screen.wrapping t.place → Wait q ≡ next_step t.screen.rows t.screen.cols t.screen.wrapping t.place b → Continues (terminal_of t) b [] o → ⊥
last_waits t b q o ok fits wait goes = elim (taken_at t b o [] ok fits goes) [ inl w ↦ wait_perform q o (wait ∙ w.0) | inr w ↦ omega arith ]

pub last_performs : (t : Automaton) (b : ℕ) (x o : Operation) → IsScreen t.screen → IsPlace t.screen.rows t.screen.cols t.screen.wrapping t.place → Perform x ≡ next_step t.screen.rows t.screen.cols t.screen.wrapping t.place b → Continues (terminal_of t) b [] o → x ≡ o
last_performs t b x o ok fits is goes = elim (taken_at t b o [] ok fits goes) [ inl w ↦ perform_same x o (is ∙ w.0) | inr w ↦ absurd (omega arith) ]

pub is_ground : (rows cols : ℕ) (wrapping : Bool) (p : Place) → IsPlace rows cols wrapping p → length (begun_at p) ≡ 0 → is_out_of_profile p ≡ false → p ≡ Ground
is_ground rows cols wrapping Ground fits none going = refl
is_ground rows cols wrapping Escape fits none going = absurd (omega arith)
is_ground rows cols wrapping Bracket fits none going = absurd (omega arith)
is_ground rows cols wrapping (Number n) fits none going = absurd (omega arith)
is_ground rows cols wrapping (Row n) fits none going = absurd (omega arith)
is_ground rows cols wrapping (Column n m) fits none going = absurd (omega arith)
is_ground rows cols wrapping Question fits none going = absurd (omega arith)
is_ground rows cols wrapping Seven fits none going = absurd (omega arith)
is_ground rows cols wrapping (Inside size read v) fits none going = absurd (omega (arith, fits.1, length-bytes_read (lead size) read v))
is_ground rows cols wrapping Refused fits none going = absurd (cc)
