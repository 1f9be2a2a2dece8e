-- What takes out nothing and puts in nothing changes nothing; what does is an edit.
use Rattle.std.proofs.Common.{◌≡◌, ◌≤◌, ◌+◌, ◌-◌, ℕ, suc, Bool, true, false, ◌||◌, ◌==◌, List, [], ◌∷◌, length, Option, Some, None, refl, sym, ap, ◌∙◌, nat_lt, nat_eq, eqb-true, arith}
use Rattle.std.proofs.lemmas.Bool.Decides.{nat_tests}
use Rattle.mgs_model.specs.Text.{is_edit, shift, shift_all}
use Rattle.mgs_model.specs.Apply.{buffer_edited}
use Rattle.mgs_model.specs.World.{Buffer}
use Rattle.mgs_model.proofs.Moved.{edited_is, not_edited}
use Rattle.mgs_marks.proofs.Moves.{length-edited}
use Rattle.mgs_buffers.specs.MarkedBuffer.{MarkedBuffer, marked_edited}

shift_none : (a m : ℕ) → shift a a 0 m ≡ m
shift_none a m = grind (arith, nat_tests)

not_below : (a : ℕ) → nat_lt a a ≡ false
not_below a = grind (arith, nat_tests)

shift_all_none : (a : ℕ) (marks : List (Option ℕ)) → shift_all a a 0 marks ≡ marks
shift_all_none a [] = refl
shift_all_none a (None ∷ ms) = ap (λ xs. None ∷ xs) (shift_all_none a ms)
shift_all_none a (Some m ∷ ms) = λ i. Some (shift_none a m i) ∷ shift_all_none a ms i

-- the size of a text after an edit
pub size_edited : (a b : ℕ) (put : List ℕ) (x : Buffer) → a ≤ b → b ≤ length x.text → length (buffer_edited a b put x).text ≡ length x.text - (b - a) + length put
size_edited a b put x order within = by (is_edit a b put) refl
  where
    by : (f : Bool) → is_edit a b put ≡ f → length (buffer_edited a b put x).text ≡ length x.text - (b - a) + length put
    by true e = ap (λ (y : Buffer). length y.text) (edited_is a b put x e) ∙ length-edited a b put x.text order within
    by false e =
        let same : length x.text ≡ length x.text - (b - a) + length put = grind (arith, nat_tests) in
        ap (λ (y : Buffer). length y.text) (not_edited a b put x e) ∙ same

pub nothing_edited : (a b : ℕ) (put : List ℕ) (k : MarkedBuffer) → a ≡ b → true ≡ (length put == 0) → marked_edited a b put k ≡ k
nothing_edited a b [] k e f =
    ap (λ c. marked_edited a c [] k) (sym e)
    ∙ ap (λ (x : Buffer). record k { buffer = x; marks = shift_all a a 0 k.marks }) (not_edited a a [] k.buffer (ap (λ (c : Bool). c || false) (not_below a)))
    ∙ ap (λ ms. record k { marks = ms }) (shift_all_none a k.marks)
nothing_edited a b (c ∷ cs) k e f =
    let some : true ≡ nat_eq (suc (length cs)) 0 = f in
    absurd (omega (arith, eqb-true (suc (length cs)) 0 (sym some)))
