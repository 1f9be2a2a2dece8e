-- Texts of visible ASCII and spaces.
use Rattle.std.proofs.Common.{ℕ, ◌^◌, ◌+◌, ◌%◌, ◌<◌, ◌≤◌, List, [], ◌∷◌, length, map, refl, ◌∙◌, arith, All}
use Rattle.std.specs.Prelude.{decimal, IsTrue}
use Rattle.std.specs.List.{list_all}
use Rattle.std.proofs.lemmas.Bool.{and_parts, and_from, leb-true, le-leb}
use Rattle.std.proofs.lemmas.List.Elements.{All-nil, All-cons, All-head, All-tail}
use Rattle.std.proofs.lemmas.Fmt.{decimal_by_steps, length-decimal-le}
use Rattle.std.proofs.lemmas.List.Folds.{list_all-append}
use Rattle.std.proofs.lemmas.Bool.Decides.{nat_tests}
use Rattle.std.specs.Int.Digits.{AllBelowBase}
use Rattle.std.specs.Char.{digit_char}
use Rattle.mgs_model.specs.Names.{IsName, is_visible}
use Rattle.mgs_model.specs.Rights.{right_name}
use Rattle.mgs_model.specs.declared.right.Right.{Right}
use Rattle.mgs_model.specs.declared.right.Right.TheVariants.{ReadData, WriteData, AppendData, ReadAttributes, Delete, ReadAcl, WriteAcl, WriteOwner}
use Rattle.mgs_model.specs.Picture.{IsPrintable}
use Rattle.mgs_grid.specs.Cells.{is_plain}

-- what the test tells
pub plain_printable : (xs : List ℕ) → IsTrue (list_all is_plain xs) → All IsPrintable xs
plain_printable [] h = All-nil IsPrintable
plain_printable (x ∷ xs) h =
    let both = and_parts (is_plain x) (list_all is_plain xs) h in
    let bounds = and_parts _ _ both.0 in
    All-cons IsPrintable x xs (leb-true 32 x bounds.0, leb-true x 126 bounds.1) (plain_printable xs both.1)

pub printable_plain : (xs : List ℕ) → All IsPrintable xs → IsTrue (list_all is_plain xs)
printable_plain [] h = refl
printable_plain (x ∷ xs) h =
    let here : IsPrintable x = All-head IsPrintable x xs h in
    and_from (is_plain x) (list_all is_plain xs) (and_from _ _ (le-leb 32 x here.0) (le-leb x 126 here.1)) (printable_plain xs (All-tail IsPrintable x xs h))

visible_plain : (xs : List ℕ) → IsTrue (list_all is_visible xs) → IsTrue (list_all is_plain xs)
visible_plain [] h = refl
visible_plain (x ∷ xs) h =
    let both = and_parts (is_visible x) (list_all is_visible xs) h in
    let bounds = and_parts _ _ both.0 in
    let low : 33 ≤ x = leb-true 33 x bounds.0 in
    and_from (is_plain x) (list_all is_plain xs) (and_from _ _ (le-leb 32 x (omega arith)) bounds.1) (visible_plain xs both.1)

pub name_plain : (bs : List ℕ) → IsName bs → IsTrue (list_all is_plain bs)
name_plain bs h = visible_plain bs (and_parts _ _ (and_parts _ _ h).1).1

pub name_short : (bs : List ℕ) → IsName bs → length bs ≤ 32
name_short bs h = leb-true (length bs) 32 (and_parts _ _ (and_parts _ _ h).1).0

pub right_plain : (r : Right) → IsTrue (list_all is_plain (right_name r))
right_plain ReadData = refl
right_plain WriteData = refl
right_plain AppendData = refl
right_plain ReadAttributes = refl
right_plain Delete = refl
right_plain ReadAcl = refl
right_plain WriteAcl = refl
right_plain WriteOwner = refl

pub right_short : (r : Right) → length (right_name r) ≤ 16
right_short ReadData = omega arith
right_short WriteData = omega arith
right_short AppendData = omega arith
right_short ReadAttributes = omega arith
right_short Delete = omega arith
right_short ReadAcl = omega arith
right_short WriteAcl = omega arith
right_short WriteOwner = omega arith

digit_printable : (d : ℕ) → d < 16 → IsPrintable (digit_char d)
digit_printable d h = grind (arith, nat_tests)

-- digits of a base up to 16
pub digits_printable : (b : ℕ) → b ≤ 16 → (ds : List ℕ) → AllBelowBase b ds → All IsPrintable (map digit_char ds)
digits_printable b few [] h = All-nil IsPrintable
digits_printable b few (d ∷ ds) h = let below : d < b = h.0 in All-cons IsPrintable (digit_char d) (map digit_char ds) (digit_printable d (omega arith)) (digits_printable b few ds h.1)

digit_plain : (d : ℕ) → d < 10 → IsTrue (list_all is_plain ((48 + d) ∷ []))
digit_plain d h = grind (arith, nat_tests)

-- a number in decimal
pub decimal_plain : (n : ℕ) → n < 2 ^ 64 → IsTrue (list_all is_plain (decimal n))
decimal_plain =
    decimal_by_steps
    (λ n ds. IsTrue (list_all is_plain ds))
    digit_plain
    (λ n ds some front. list_all-append is_plain ds ((48 + n % 10) ∷ []) ∙ and_from (list_all is_plain ds) (list_all is_plain ((48 + n % 10) ∷ [])) front (digit_plain (n % 10) (omega arith)))

pub decimal_short : (n : ℕ) → n < 2 ^ 64 → length (decimal n) ≤ 20
decimal_short n small = length-decimal-le 20 n (omega arith) (omega arith) small
