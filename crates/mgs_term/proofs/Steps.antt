-- The automaton reads each accepted sequence as it is spelled, and then does what it says.
use Rattle.std.proofs.Common.{◌≡◌, ℕ, ◌+◌, ◌*◌, ◌/◌, ◌%◌, ◌<◌, ◌≤◌, Bool, true, false, List, [], ◌∷◌, ◌++◌, refl, ap, ◌∙◌, append_assoc, arith, ltb, ◌⊎◌, ◌-◌, inl, inr}
use Rattle.std.proofs.lemmas.Bool.Decides.{nat_tests}
use Rattle.std.proofs.lemmas.Bool.{lt-ltb, ltb-true, ltb-false, cases_Bool}
use Rattle.std.specs.Char.{len_utf8, encode_utf8}
use Rattle.mgs_model.specs.Cells.{IsShown}
use Rattle.mgs_term.proofs.Wide.{OfSize, shown_size, size_few, which_size, encode_as, encode_ascii, next_first, next_tail, reaches_more, reaches_end}
use Rattle.mgs_term.specs.Screen.{Screen, IsScreen}
use Rattle.mgs_term.specs.Sequences.{after, has_room, number, Accepts, spelling}
use Rattle.mgs_term.specs.Automaton.{Automaton, next_step, stepped, fed, place_reached, reached, bytes_read, lead, fewer}
use Rattle.mgs_term.specs.declared.operation.Operation.{Operation}
use Rattle.mgs_term.specs.declared.operation.Operation.TheVariants.{Goto, Clear, Erase, Reverse, Plain, Unwrap, Print}
use Rattle.mgs_term.specs.declared.place.Place.{Place}
use Rattle.mgs_term.specs.declared.place.Place.TheVariants.{Ground, Bracket, Number, Row, Column, Inside}
use Rattle.mgs_term.specs.declared.place.Next.{Next}
use Rattle.mgs_term.specs.declared.place.Next.TheVariants.{Wait, Perform}

pub next_bracket_digit : (rows cols : ℕ) (wrapping : Bool) (d : ℕ) → 1 ≤ d → d ≤ 9 → d ≤ rows → next_step rows cols wrapping Bracket (48 + d) ≡ Wait (Number d)
next_bracket_digit rows cols wrapping d some small in_range = grind (arith, nat_tests)

pub next_number_digit : (rows cols : ℕ) (wrapping : Bool) (n d : ℕ) → d ≤ 9 → n * 10 + d ≤ rows → next_step rows cols wrapping (Number n) (48 + d) ≡ Wait (Number (n * 10 + d))
next_number_digit rows cols wrapping n d small in_range = grind (arith, nat_tests)

pub next_number_end : (rows cols : ℕ) (wrapping : Bool) (n : ℕ) → n ≤ rows → next_step rows cols wrapping (Number n) 59 ≡ Wait (Row n)
next_number_end rows cols wrapping n in_range = grind (arith, nat_tests)

pub next_row_digit : (rows cols : ℕ) (wrapping : Bool) (r d : ℕ) → 1 ≤ d → d ≤ 9 → d ≤ cols → next_step rows cols wrapping (Row r) (48 + d) ≡ Wait (Column r d)
next_row_digit rows cols wrapping r d some small in_range = grind (arith, nat_tests)

pub next_column_digit : (rows cols : ℕ) (wrapping : Bool) (r n d : ℕ) → d ≤ 9 → n * 10 + d ≤ cols → next_step rows cols wrapping (Column r n) (48 + d) ≡ Wait (Column r (n * 10 + d))
next_column_digit rows cols wrapping r n d small in_range = grind (arith, nat_tests)

pub next_column_end : (rows cols : ℕ) (wrapping : Bool) (r c : ℕ) → next_step rows cols wrapping (Column (r + 1) (c + 1)) 72 ≡ Perform (Goto r c)
next_column_end rows cols wrapping r c = grind (arith, nat_tests)

pub next_print : (rows cols : ℕ) (wrapping : Bool) (b : ℕ) → 32 ≤ b → b ≤ 126 → wrapping ≡ false → next_step rows cols wrapping Ground b ≡ Perform (Print b)
next_print rows cols wrapping b low high off = rw off (grind (arith, nat_tests))

pub next_seven : (rows cols : ℕ) (wrapping : Bool) → next_step rows cols wrapping Bracket 55 ≡ Wait (Number 7)
next_seven rows cols wrapping = grind (arith, nat_tests)

-- a terminal at a place, over its screen
abbrev pub at : Screen → Place → Automaton
at s p = record { screen = s; place = p }

pub fed-append : (t : Automaton) (xs ys : List ℕ) → fed t (xs ++ ys) ≡ fed (fed t xs) ys
fed-append t [] ys = refl
fed-append t (x ∷ xs) ys = fed-append (stepped t x) xs ys

pub step_as : (s : Screen) (p : Place) (b : ℕ) (bs : List ℕ) (n : Next) → next_step s.rows s.cols s.wrapping p b ≡ n → fed (at s p) (b ∷ bs) ≡ fed (place_reached (at s p) n) bs
step_as s p b bs n e = ap (λ m. fed (place_reached (at s p) m) bs) e

-- a row's number, read
pub fed-row : (s : Screen) (n : ℕ) (bs : List ℕ) → 1 ≤ n → n ≤ s.rows → s.rows ≤ 64 → fed (at s Bracket) (number n ++ bs) ≡ fed (at s (Number n)) bs
fed-row s n bs some within few =
    elim (cases_Bool (ltb n 10)) [
      | inl e ↦ rw e (step_as s Bracket (48 + n) bs (Wait (Number n)) (next_bracket_digit s.rows s.cols s.wrapping n some (omega (arith, ltb-true n 10 e)) within))
      | inr e ↦
          let big : 10 ≤ n = ltb-false n 10 e in
          let f : ltb n 100 ≡ true = lt-ltb n 100 (omega arith) in
          let whole : n / 10 * 10 + n % 10 ≡ n = omega arith in
          let one : fed (at s Bracket) ((48 + n / 10) ∷ (48 + n % 10) ∷ bs) ≡ fed (at s (Number (n / 10))) ((48 + n % 10) ∷ bs) = step_as s Bracket (48 + n / 10) ((48 + n % 10) ∷ bs) (Wait (Number (n / 10))) (next_bracket_digit s.rows s.cols s.wrapping (n / 10) (omega arith) (omega arith) (omega arith)) in
          let two : fed (at s (Number (n / 10))) ((48 + n % 10) ∷ bs) ≡ fed (at s (Number (n / 10 * 10 + n % 10))) bs = step_as s (Number (n / 10)) (48 + n % 10) bs (Wait (Number (n / 10 * 10 + n % 10))) (next_number_digit s.rows s.cols s.wrapping (n / 10) (n % 10) (omega arith) (omega arith)) in
          rw (e, f) (one ∙ two ∙ ap (λ m. fed (at s (Number m)) bs) whole)
    ]

-- a column's number, read
pub fed-column : (s : Screen) (r n : ℕ) (bs : List ℕ) → 1 ≤ n → n ≤ s.cols → s.cols ≤ 160 → fed (at s (Row r)) (number n ++ bs) ≡ fed (at s (Column r n)) bs
fed-column s r n bs some within few =
    elim (cases_Bool (ltb n 10)) [
      | inl e ↦ rw e (step_as s (Row r) (48 + n) bs (Wait (Column r n)) (next_row_digit s.rows s.cols s.wrapping r n some (omega (arith, ltb-true n 10 e)) within))
      | inr e ↦ elim (cases_Bool (ltb n 100)) [
        | inl f ↦
            let big : 10 ≤ n = ltb-false n 10 e in
            let small : n < 100 = ltb-true n 100 f in
            let whole : n / 10 * 10 + n % 10 ≡ n = omega arith in
            let one : fed (at s (Row r)) ((48 + n / 10) ∷ (48 + n % 10) ∷ bs) ≡ fed (at s (Column r (n / 10))) ((48 + n % 10) ∷ bs) = step_as s (Row r) (48 + n / 10) ((48 + n % 10) ∷ bs) (Wait (Column r (n / 10))) (next_row_digit s.rows s.cols s.wrapping r (n / 10) (omega arith) (omega arith) (omega arith)) in
            let two : fed (at s (Column r (n / 10))) ((48 + n % 10) ∷ bs) ≡ fed (at s (Column r (n / 10 * 10 + n % 10))) bs = step_as s (Column r (n / 10)) (48 + n % 10) bs (Wait (Column r (n / 10 * 10 + n % 10))) (next_column_digit s.rows s.cols s.wrapping r (n / 10) (n % 10) (omega arith) (omega arith)) in
            rw (e, f) (one ∙ two ∙ ap (λ m. fed (at s (Column r m)) bs) whole)
        | inr f ↦
            let big : 100 ≤ n = ltb-false n 100 f in
            let m : ℕ = n / 100 * 10 + n / 10 % 10 in
            let whole : m * 10 + n % 10 ≡ n = omega arith in
            let one : fed (at s (Row r)) ((48 + n / 100) ∷ (48 + n / 10 % 10) ∷ (48 + n % 10) ∷ bs) ≡ fed (at s (Column r (n / 100))) ((48 + n / 10 % 10) ∷ (48 + n % 10) ∷ bs) = step_as s (Row r) (48 + n / 100) ((48 + n / 10 % 10) ∷ (48 + n % 10) ∷ bs) (Wait (Column r (n / 100))) (next_row_digit s.rows s.cols s.wrapping r (n / 100) (omega arith) (omega arith) (omega arith)) in
            let two : fed (at s (Column r (n / 100))) ((48 + n / 10 % 10) ∷ (48 + n % 10) ∷ bs) ≡ fed (at s (Column r m)) ((48 + n % 10) ∷ bs) = step_as s (Column r (n / 100)) (48 + n / 10 % 10) ((48 + n % 10) ∷ bs) (Wait (Column r m)) (next_column_digit s.rows s.cols s.wrapping r (n / 100) (n / 10 % 10) (omega arith) (omega arith)) in
            let three : fed (at s (Column r m)) ((48 + n % 10) ∷ bs) ≡ fed (at s (Column r (m * 10 + n % 10))) bs = step_as s (Column r m) (48 + n % 10) bs (Wait (Column r (m * 10 + n % 10))) (next_column_digit s.rows s.cols s.wrapping r m (n % 10) (omega arith) (omega arith)) in
            rw (e, f) (one ∙ two ∙ three ∙ ap (λ m. fed (at s (Column r m)) bs) whole)
      ]
    ]

-- A CHARACTER PAST ASCII

print_ends : (s : Screen) (p : Place) (b c : ℕ) (bs : List ℕ) → has_room s (Print c) ≡ true → next_step s.rows s.cols s.wrapping p b ≡ Perform (Print c) → fed (at s p) (b ∷ bs) ≡ fed (at (after (Print c) s) Ground) bs
print_ends s p b c bs room e = step_as s p b bs (Perform (Print c)) e ∙ rw room refl

first_wait : (s : Screen) (size c : ℕ) (bs : List ℕ) → OfSize size c → s.wrapping ≡ false → fed (at s Ground) ((lead size + fewer (size - 1) c) ∷ bs) ≡ fed (at s (Inside size 1 (fewer (size - 1) c))) bs
first_wait s size c bs h off =
    let few = size_few size c h in
    let b : ℕ = lead size + fewer (size - 1) c in
    step_as s Ground b bs (Wait (Inside size 1 (fewer (size - 1) c)))
    (ap (λ w. next_step s.rows s.cols w Ground b) off ∙ next_first s.rows s.cols size c h ∙ reaches_more size 1 c h (omega arith) (omega (arith, few.0)) few.1)

tail_wait : (s : Screen) (size read c : ℕ) (bs : List ℕ) → OfSize size c → read + 1 < size → fed (at s (Inside size read (fewer (size - (read + 1)) c / 64))) ((128 + fewer (size - (read + 1)) c % 64) ∷ bs) ≡ fed (at s (Inside size (read + 1) (fewer (size - (read + 1)) c))) bs
tail_wait s size read c bs h more =
    let v : ℕ = fewer (size - (read + 1)) c in
    step_as s (Inside size read (v / 64)) (128 + v % 64) bs (Wait (Inside size (read + 1) v))
    (next_tail s.rows s.cols s.wrapping size read v ∙ reaches_more size (read + 1) c h (omega arith) more (size_few size c h).1)

tail_ends : (s : Screen) (size read c : ℕ) (bs : List ℕ) → OfSize size c → read + 1 ≡ size → has_room s (Print c) ≡ true → fed (at s (Inside size read (c / 64))) ((128 + c % 64) ∷ bs) ≡ fed (at (after (Print c) s) Ground) bs
tail_ends s size read c bs h all room =
    print_ends s (Inside size read (c / 64)) (128 + c % 64) c bs room
    (next_tail s.rows s.cols s.wrapping size read c ∙ ap (λ n. reached size n c) all ∙ reaches_end size c h)

fed_sized : (s : Screen) (size c : ℕ) (bs : List ℕ) → OfSize size c → (size ≡ 2) ⊎ ((size ≡ 3) ⊎ (size ≡ 4)) → s.wrapping ≡ false → has_room s (Print c) ≡ true → fed (at s Ground) (bytes_read (lead size) size c ++ bs) ≡ fed (at (after (Print c) s) Ground) bs
fed_sized s size c bs h is off room = elim is [
  | inl e ↦
      let k : OfSize 2 c = rw e at h in
      rw e (first_wait s 2 c ((128 + c % 64) ∷ bs) k off ∙ tail_ends s 2 1 c bs k refl room)
  | inr (inl e) ↦
      let k : OfSize 3 c = rw e at h in
      rw e (first_wait s 3 c ((128 + c / 64 % 64) ∷ (128 + c % 64) ∷ bs) k off ∙ tail_wait s 3 1 c ((128 + c % 64) ∷ bs) k (omega arith) ∙ tail_ends s 3 2 c bs k refl room)
  | inr (inr e) ↦
      let k : OfSize 4 c = rw e at h in
      rw e (first_wait s 4 c ((128 + c / 64 / 64 % 64) ∷ (128 + c / 64 % 64) ∷ (128 + c % 64) ∷ bs) k off ∙ tail_wait s 4 1 c ((128 + c / 64 % 64) ∷ (128 + c % 64) ∷ bs) k (omega arith)
      ∙ tail_wait s 4 2 c ((128 + c % 64) ∷ bs) k (omega arith) ∙ tail_ends s 4 3 c bs k refl room)
]

fed_print : (s : Screen) (c : ℕ) (bs : List ℕ) → IsShown c → s.wrapping ≡ false → has_room s (Print c) ≡ true → fed (at s Ground) (encode_utf8 c ++ bs) ≡ fed (at (after (Print c) s) Ground) bs
fed_print s c bs shown off room = elim shown [
  | inl ascii ↦ ap (λ xs. fed (at s Ground) (xs ++ bs)) (encode_ascii c ascii.1) ∙ print_ends s Ground c c bs room (next_print s.rows s.cols s.wrapping c ascii.0 ascii.1 off)
  | inr some ↦
      let h : OfSize (len_utf8 c) c = shown_size c some in
      ap (λ xs. fed (at s Ground) (xs ++ bs)) (encode_as (len_utf8 c) c h) ∙ fed_sized s (len_utf8 c) c bs h (which_size (len_utf8 c) c h) off room
]

-- One accepted sequence does what it says.
pub fed-spelling : (s : Screen) (o : Operation) (bs : List ℕ) → IsScreen s → Accepts s.rows s.cols s.wrapping o → has_room s o ≡ true → fed (at s Ground) (spelling o ++ bs) ≡ fed (at (after o s) Ground) bs
fed-spelling s (Goto r c) bs ok accepts room =
    let tail : List ℕ = number (c + 1) ++ 72 ∷ [] in
    let regroup : (number (r + 1) ++ 59 ∷ tail) ++ bs ≡ number (r + 1) ++ (59 ∷ (number (c + 1) ++ (72 ∷ bs))) = append_assoc (number (r + 1)) (59 ∷ tail) bs ∙ ap (λ x. number (r + 1) ++ 59 ∷ x) (append_assoc (number (c + 1)) (72 ∷ []) bs) in
    let one : fed (at s Bracket) (number (r + 1) ++ (59 ∷ (number (c + 1) ++ (72 ∷ bs)))) ≡ fed (at s (Number (r + 1))) (59 ∷ (number (c + 1) ++ (72 ∷ bs))) = fed-row s (r + 1) (59 ∷ (number (c + 1) ++ (72 ∷ bs))) (omega arith) (omega arith) ok.size.few_rows in
    let two : fed (at s (Number (r + 1))) (59 ∷ (number (c + 1) ++ (72 ∷ bs))) ≡ fed (at s (Row (r + 1))) (number (c + 1) ++ (72 ∷ bs)) = step_as s (Number (r + 1)) 59 (number (c + 1) ++ (72 ∷ bs)) (Wait (Row (r + 1))) (next_number_end s.rows s.cols s.wrapping (r + 1) (omega arith)) in
    let three : fed (at s (Row (r + 1))) (number (c + 1) ++ (72 ∷ bs)) ≡ fed (at s (Column (r + 1) (c + 1))) (72 ∷ bs) = fed-column s (r + 1) (c + 1) (72 ∷ bs) (omega arith) (omega arith) ok.size.few_cols in
    let four : fed (at s (Column (r + 1) (c + 1))) (72 ∷ bs) ≡ fed (at (after (Goto r c) s) Ground) bs = step_as s (Column (r + 1) (c + 1)) 72 bs (Perform (Goto r c)) (next_column_end s.rows s.cols s.wrapping r c) in
    ap (λ x. fed (at s Bracket) x) regroup ∙ one ∙ two ∙ three ∙ four
fed-spelling s Clear bs ok accepts room = step_as s Bracket 50 (74 ∷ bs) (Wait (Number 2)) (next_bracket_digit s.rows s.cols s.wrapping 2 (omega arith) (omega arith) (omega (arith, ok.size.some_rows)))
fed-spelling s Erase bs ok accepts room = refl
fed-spelling s Reverse bs ok accepts room = step_as s Bracket 55 (109 ∷ bs) (Wait (Number 7)) (next_seven s.rows s.cols s.wrapping)
fed-spelling s Plain bs ok accepts room = refl
fed-spelling s Unwrap bs ok accepts room = refl
fed-spelling s (Print c) bs ok accepts room = fed_print s c bs accepts.0 accepts.1 room
