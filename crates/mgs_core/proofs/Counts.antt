-- The marks in use are counted twice: mark by mark, and window by window.
use Rattle.std.proofs.Common.{◌≡◌, ◌+◌, ◌<◌, ◌≤◌, ◌∙◌, ℕ, zero, suc, Bool, true, false, cond, List, [], ◌∷◌, map, length, Option, Some, None, refl, inl, inr, sym, ap, ap₂, arith}
use Rattle.std.proofs.lemmas.Bool.{cases_lt}
use Rattle.std.proofs.Math.Dec.{eqb-suc-zero, eqb-zero-suc, eqb-suc-suc}
use Rattle.std.specs.Prelude.{count_by, is_some, nat_eq}
use Rattle.std.specs.Option.{option_map}
use Rattle.std.proofs.lemmas.List.Sums.{sum_by-cons}
use Rattle.mgs_model.specs.Access.{Directory}
use Rattle.mgs_model.specs.Names.{same_name}
use Rattle.mgs_marks.specs.Marks.{mark_in}
use Rattle.mgs_buffers.specs.MarkedBuffer.{MarkedBuffer, marked_at, mark_at}
use Rattle.mgs_windows.specs.declared.WindowMarks.{WindowMarks}
use Rattle.mgs_windows.specs.declared.Window.{Window}
use Rattle.mgs_windows.specs.declared.RowPane.{RowPane}
use Rattle.mgs_windows.specs.declared.RowPane.TheVariants.{NoRows}
use Rattle.mgs_session.specs.declared.Session.{Session}
use Rattle.mgs_world.specs.Sound.{IsSound, one_if, option_uses, sum_of, window_marks_uses, window_uses, place_uses, session_uses, uses, in_use}
use Rattle.mgs_world.specs.Worlds.{window_of, window_shown, place_of, session_of, world_of}
use Rattle.mgs_world.proofs.Worlds.{one_use}
use Rattle.mgs_core.specs.Counts.{marks_with, window_marks, place_marks, session_marks, marks_of}

-- the sum over the first numbers
abbrev over : ℕ → (ℕ → ℕ) → ℕ
over zero f = 0
over (suc n) f = f 0 + over n (λ i. f (suc i))

over_none : (n : ℕ) (f : ℕ → ℕ) → ((i : ℕ) → f i ≡ 0) → over n f ≡ 0
over_none zero f h = refl
over_none (suc n) f h = omega (arith, h 0, over_none n (λ i. f (suc i)) (λ i. h (suc i)))

over_both : (n : ℕ) (f g : ℕ → ℕ) → over n (λ i. f i + g i) ≡ over n f + over n g
over_both zero f g = refl
over_both (suc n) f g = omega (arith, over_both n (λ i. f (suc i)) (λ i. g (suc i)))

over_same : (n : ℕ) (f g : ℕ → ℕ) → ((i : ℕ) → f i ≡ g i) → over n f ≡ over n g
over_same zero f g h = refl
over_same (suc n) f g h = ap₂ (λ a b. a + b) (h 0) (over_same n (λ i. f (suc i)) (λ i. g (suc i)) (λ i. h (suc i)))

-- each slot counts as one where it is in use
counted : (marks : List (Option ℕ)) → count_by is_some marks ≡ over (length marks) (λ i. one_if (is_some (mark_in marks i)))
counted [] = refl
counted (None ∷ ms) = sum_by-cons (λ (o : Option ℕ). cond (is_some o) 1 0) None ms ∙ ap (λ n. 0 + n) (counted ms)
counted (Some p ∷ ms) = sum_by-cons (λ (o : Option ℕ). cond (is_some o) 1 0) (Some p) ms ∙ ap (λ n. 1 + n) (counted ms)

past_end : (marks : List (Option ℕ)) (i : ℕ) → length marks ≤ i → one_if (is_some (mark_in marks i)) ≡ 0
past_end [] i h = refl
past_end (m ∷ ms) zero h = absurd (omega (arith, h))
past_end (m ∷ ms) (suc i) h = past_end ms i (omega (arith, h))

-- a number stands once among those up to a bound above it
once_below : (n m : ℕ) → m < n → over n (λ i. one_if (nat_eq m i)) ≡ 1
once_below zero m h = absurd (omega (arith, h))
once_below (suc n) zero h = omega (arith, over_none n (λ i. one_if (nat_eq 0 (suc i))) (λ i. ap one_if (eqb-zero-suc i)), one_use 0 0 refl)
once_below (suc n) (suc m) h =
    omega (arith, ap one_if (eqb-suc-zero m), over_same n (λ i. one_if (nat_eq (suc m) (suc i))) (λ i. one_if (nat_eq m i)) (λ i. ap one_if (eqb-suc-suc m i)), once_below n m (omega (arith, h)))

-- nothing counts from n on
abbrev IsBelow : ℕ → (ℕ → ℕ) → Type 0
IsBelow n f = (i : ℕ) → n ≤ i → f i ≡ 0

one_below : (n m : ℕ) → IsBelow n (λ i. one_if (nat_eq m i)) → over n (λ i. one_if (nat_eq m i)) ≡ 1
one_below n m h = elim (cases_lt m n) [
  | inl l ↦ once_below n m l
  | inr g ↦ absurd (omega (arith, h m g, one_use m m refl))
]

abbrev option_marks : Option ℕ → ℕ
option_marks None = 0
option_marks (Some p) = 1

option_below : (n : ℕ) (o : Option ℕ) → IsBelow n (λ i. option_uses i o) → over n (λ i. option_uses i o) ≡ option_marks o
option_below n None h = over_none n (λ i. 0) (λ i. refl)
option_below n (Some m) h = one_below n m h

-- the marks of a window or of a place, where the buffer is theirs or not
abbrev uses_if : Bool → WindowMarks → ℕ → ℕ
uses_if b x i = cond b (one_if (nat_eq x.point i) + option_uses i x.mark + one_if (nat_eq x.top i)) 0

uses_counted : (f : ℕ → ℕ) (n : ℕ) (b : Bool) (x : WindowMarks) → IsBelow n (uses_if b x) → over n (uses_if b x) ≡ cond b (marks_with (option_map f x.mark)) 0
uses_counted f n false x h = over_none n (λ i. 0) (λ i. refl)
uses_counted f n true x h =
    let point : over n (λ i. one_if (nat_eq x.point i)) ≡ 1 = one_below n x.point (λ i l. omega (arith, h i l)) in
    let mark : over n (λ i. option_uses i x.mark) ≡ option_marks x.mark = option_below n x.mark (λ i l. omega (arith, h i l)) in
    let top : over n (λ i. one_if (nat_eq x.top i)) ≡ 1 = one_below n x.top (λ i l. omega (arith, h i l)) in
    over_both n (λ i. one_if (nat_eq x.point i) + option_uses i x.mark) (λ i. one_if (nat_eq x.top i))
    ∙ ap₂ (λ a c. a + c) (over_both n (λ i. one_if (nat_eq x.point i)) (λ i. option_uses i x.mark) ∙ ap₂ (λ a c. a + c) point mark) top
    ∙ (elim x.mark as (λ o. 1 + option_marks o + 1 ≡ marks_with (option_map f o)) [ None ↦ refl | Some m ↦ refl ])

window_counted : (ks : List MarkedBuffer) (name : List ℕ) (n : ℕ) (x : Window) → IsBelow n (λ i. window_uses name i x) → over n (λ i. window_uses name i x) ≡ window_marks name (window_of ks x)
window_counted ks name n x h = shown_counted x.height x.shows x.rows h
  where
    shown_counted : (height : ℕ) (o : Option WindowMarks) (rows : RowPane) → IsBelow n (λ i. window_marks_uses name i o) → over n (λ i. window_marks_uses name i o) ≡ window_marks name (window_shown ks height o rows)
    shown_counted height None NoRows h = over_none n (λ i. 0) (λ i. refl)
    shown_counted height None _ h = over_none n (λ i. 0) (λ i. refl)
    shown_counted height (Some x) rows h = uses_counted (mark_at x.name ks) n (same_name name x.name) x h

place_counted : (ks : List MarkedBuffer) (name : List ℕ) (n : ℕ) (x : WindowMarks) → IsBelow n (λ i. place_uses name i x) → over n (λ i. place_uses name i x) ≡ place_marks name (place_of ks x)
place_counted ks name n x h = uses_counted (mark_at x.name ks) n (same_name name x.name) x h

-- sums over a list and over numbers change places
list_counted : {A B : Type 0} (n : ℕ) (used : A → ℕ → ℕ) (G : A → B) (count : B → ℕ) → ((x : A) → IsBelow n (used x) → over n (used x) ≡ count (G x)) → (xs : List A) → IsBelow n (λ i. sum_of (λ x. used x i) xs) → over n (λ i. sum_of (λ x. used x i) xs) ≡ sum_of count (map G xs)
list_counted n used G count each [] h = over_none n (λ i. 0) (λ i. refl)
list_counted n used G count each (x ∷ xs) h =
    over_both n (used x) (λ i. sum_of (λ y. used y i) xs)
    ∙ ap₂ (λ a b. a + b) (each x (λ i l. omega (arith, h i l))) (list_counted n used G count each xs (λ i l. omega (arith, h i l)))

session_counted : (ks : List MarkedBuffer) (name : List ℕ) (n : ℕ) (x : Session) → IsBelow n (λ i. session_uses name i x) → over n (λ i. session_uses name i x) ≡ session_marks name (session_of ks x)
session_counted ks name n x h =
    over_both n (λ i. sum_of (window_uses name i) x.windows.windows) (λ i. sum_of (place_uses name i) x.windows.places)
    ∙ ap₂ (λ a b. a + b)
    (list_counted n (λ w i. window_uses name i w) (window_of ks) (window_marks name) (window_counted ks name n) x.windows.windows (λ i l. omega (arith, h i l)))
    (list_counted n (λ p i. place_uses name i p) (place_of ks) (place_marks name) (place_counted ks name n) x.windows.places (λ i l. omega (arith, h i l)))

-- where each mark in use is used once, they are as many as the windows and places have
pub sound_count : (name : List ℕ) (directory : Directory) (ks : List MarkedBuffer) (xs : List Session) (next : Option ℕ) → IsSound ks xs → count_by is_some (marked_at name ks).marks ≡ marks_of name (world_of directory ks xs next)
sound_count name directory ks xs next sound =
    let marks = (marked_at name ks).marks in
    let n = length marks in
    counted marks
    ∙ over_same n (λ i. in_use name i ks) (λ i. uses name i xs) (λ i. sym (sound.once name i))
    ∙ list_counted n (λ x i. session_uses name i x) (session_of ks) (session_marks name) (session_counted ks name n) xs (λ i l. sound.once name i ∙ past_end marks i l)
