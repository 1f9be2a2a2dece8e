-- Raw places as the gap moves, widens and shrinks.
use Rattle.std.proofs.Common.{◌≡◌, ℕ, ◌+◌, ◌-◌, ◌≤◌, List, ◌++◌, Option, map, take, drop, length, sym, ap, ◌∙◌, arith, length-append, length-take, length-drop}
use Rattle.std.proofs.lemmas.Bool.Decides.{nat_tests}
use Rattle.std.specs.Option.{option_map}
use Rattle.mgs_model.specs.Text.{shift, shift_all}
use Rattle.mgs_marks.specs.Marks.{position_in}
use Rattle.mgs_marks.proofs.Moves.{shift_bound}
use Rattle.mgs_gap.proofs.Marks.{map_map, map_same, position_map}
use Rattle.mgs_gap.specs.RawPlaces.{text_place, raw_place, IsRaw, moved, marks_at}

pub text_of_raw : (n g m : ℕ) → text_place n g (raw_place n g m) ≡ m
text_of_raw n g m = grind (arith, nat_tests)

pub is_raw : (n g m : ℕ) → IsRaw n g (raw_place n g m)
is_raw n g m = ap (raw_place n g) (text_of_raw n g m)

-- the first place, which stands for a mark that is not there
pub raw_zero : (n g : ℕ) → IsRaw n g 0
raw_zero n g = grind (arith, nat_tests)

pub zero_within : (n g len : ℕ) → text_place n g 0 ≤ len
zero_within n g len = grind (arith, nat_tests)

-- an insertion of k characters at the gap moves no mark
pub insertion_text : (n g k p : ℕ) → k ≤ g → IsRaw n g p → text_place (n + k) (g - k) p ≡ shift n n k (text_place n g p)
insertion_text n g k p h e = grind (arith, nat_tests)

pub insertion_raw : (n g k p : ℕ) → k ≤ g → IsRaw n g p → IsRaw (n + k) (g - k) p
insertion_raw n g k p h e = grind (arith, nat_tests)

pub insertion_within : (n g k len p : ℕ) → k ≤ g → n ≤ len → text_place n g p ≤ len → text_place (n + k) (g - k) p ≤ len + k
insertion_within n g k len p h within e = grind (arith, nat_tests)

pub marks_moved : (n g a b k m h : ℕ) (xs : List (Option ℕ)) → marks_at m h (map (option_map (moved n g a b k m h)) xs) ≡ shift_all a b k (marks_at n g xs)
marks_moved n g a b k m h xs =
    map_map (text_place m h) (moved n g a b k m h) xs
    ∙ map_same (λ p. text_place m h (moved n g a b k m h p)) (λ p. shift a b k (text_place n g p)) xs (λ i. text_of_raw m h (shift a b k (text_place n g (position_in xs i))))
    ∙ sym (map_map (shift a b k) (text_place n g) xs)

pub marks_stay : (n g k : ℕ) (xs : List (Option ℕ)) → k ≤ g → ((i : ℕ) → IsRaw n g (position_in xs i)) → marks_at (n + k) (g - k) xs ≡ shift_all n n k (marks_at n g xs)
marks_stay n g k xs h raw =
    map_same (text_place (n + k) (g - k)) (λ p. shift n n k (text_place n g p)) xs (λ i. insertion_text n g k (position_in xs i) h (raw i))
    ∙ sym (map_map (shift n n k) (text_place n g) xs)

module _ (n g a b k m h len : ℕ) (xs : List (Option ℕ)) (order : a ≤ b) (fits : b ≤ len) (within : (i : ℕ) → text_place n g (position_in xs i) ≤ len) where
  pub moved_raw : (i : ℕ) → IsRaw m h (position_in (map (option_map (moved n g a b k m h)) xs) i)
  moved_raw = position_map (IsRaw m h) (moved n g a b k m h) xs (grind (arith, nat_tests)) (λ i. is_raw m h (shift a b k (text_place n g (position_in xs i))))

  pub moved_within : (i : ℕ) → text_place m h (position_in (map (option_map (moved n g a b k m h)) xs) i) ≤ len - (b - a) + k
  moved_within = position_map (λ p. text_place m h p ≤ len - (b - a) + k) (moved n g a b k m h) xs (grind (arith, nat_tests))
      (λ i. rw (text_of_raw m h (shift a b k (text_place n g (position_in xs i)))) (shift_bound a b k len (text_place n g (position_in xs i)) order fits (within i)))

-- how long a text in two parts is after an edit
module _ (whole front back put : List ℕ) (a b : ℕ) (before : front ≡ take a whole ++ put) where
  pub edited_front_length : a ≤ length whole → length front ≡ a + length put
  edited_front_length fits = ap length before ∙ omega (arith, length-append (take a whole) put, length-take a whole)

  pub edited_length : back ≡ drop b whole → a ≤ b → b ≤ length whole → length (front ++ back) ≡ length whole - (b - a) + length put
  edited_length after order fits = omega (arith, length-append front back, edited_front_length (omega (arith, order, fits)), ap length after, length-drop b whole)

-- an insertion of k characters at the gap: how wide the front and the gap are then
pub at_gap : (m h n g k a b start width : ℕ) → m ≡ a + k → (k ≤ g → h ≡ g + (b - a) - k) → start ≡ n → width ≡ g → (a ≡ b) × (a ≡ start) × (k ≤ width) → (m ≡ n + k) × (h ≡ g - k) × (k ≤ g) × (a ≡ n) × (a ≡ b)
at_gap m h n g k a b start width em eh es ew fits =
    let room : k ≤ g = omega (arith, fits.2, ew) in
    let at : a ≡ n = fits.1 ∙ es in
    (omega (arith, em, at), omega (arith, eh room, fits.0), room, at, fits.0)
