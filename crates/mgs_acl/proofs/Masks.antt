-- A mask that was made of rights is the mask of its rights.
use Rattle.std.proofs.Common.{◌≡◌, ℕ, ◌+◌, ◌*◌, ◌^◌, ◌<◌, ◌≤◌, refl, sym, ap, ◌∙◌, Bool, true, false, cond, eqb, List, [], ◌∷◌, arith}
use Rattle.std.specs.Prelude.{fold, filter, ◌&&◌, ◌||◌, ◌/◌, ◌%◌, max}
use Rattle.std.specs.List.{list_any}
use Rattle.std.specs.Int.{bit_at}
use Rattle.std.specs.Int.Bits.{bit_and, bit_or}
use Rattle.std.proofs.Math.Bool.{or-false, and-or_distrib_right}
use Rattle.std.proofs.Math.Nat.{max-zero, zero-max, zero-mul}
use Rattle.std.proofs.lemmas.Bool.{eqb-true}
use Rattle.std.proofs.lemmas.Bool.Decides.{nat_tests}
use Rattle.std.proofs.lemmas.Nat.{or_disjoint}
use Rattle.std.proofs.lemmas.Nat.Bits.{and_pow, bit_at_above, bit_at_or, bit_at-zero, bit_at-pow_same, bit_at-pow_other, same_from_bits}
use Rattle.mgs_model.specs.Rights.{bit_of, mask_of, has_right, rights_in, all_rights}
use Rattle.mgs_model.specs.declared.right.Right.{Right}
use Rattle.mgs_model.specs.declared.right.Right.TheVariants.{ReadData, WriteData, AppendData, ReadAttributes, Delete, ReadAcl, WriteAcl, WriteOwner}

-- a right more
abbrev pub with_right : ℕ → Right → ℕ
with_right mask right = bit_or mask (bit_of right)

-- the mask of these rights, of which some may come twice
abbrev pub union : List Right → ℕ
union rights = fold with_right 0 rights

-- the place of a right's bit
abbrev pub place : Right → ℕ
place ReadData = 0
place WriteData = 1
place AppendData = 2
place ReadAttributes = 7
place Delete = 16
place ReadAcl = 17
place WriteAcl = 18
place WriteOwner = 19

pub bit_of-place : (right : Right) → bit_of right ≡ 2 ^ place right
bit_of-place ReadData = refl
bit_of-place WriteData = refl
bit_of-place AppendData = refl
bit_of-place ReadAttributes = refl
bit_of-place Delete = refl
bit_of-place ReadAcl = refl
bit_of-place WriteAcl = refl
bit_of-place WriteOwner = refl

bit_at-power_by : (k i : ℕ) (b : Bool) → eqb k i ≡ b → bit_at (2 ^ k) i ≡ cond b 1 0
bit_at-power_by k i true e = let same : i ≡ k = sym (eqb-true k i e) in ap (bit_at (2 ^ k)) same ∙ bit_at-pow_same k
bit_at-power_by k i false e = bit_at-pow_other k i (λ same. absurd (grind (arith, nat_tests)))

bit_at-right : (right : Right) (i : ℕ) → bit_at (bit_of right) i ≡ cond (eqb (place right) i) 1 0
bit_at-right right i = ap (λ n. bit_at n i) (bit_of-place right) ∙ bit_at-power_by (place right) i (eqb (place right) i) refl

-- one of the rights has this place
abbrev is_at : List Right → ℕ → Bool
is_at rights i = list_any (λ right. eqb (place right) i) rights

either : (n : ℕ) (a b : Bool) → max (max n (cond a 1 0)) (cond b 1 0) ≡ max n (cond (a || b) 1 0)
either n true true = omega arith
either n true false = omega arith
either n false true = omega arith
either n false false = omega arith

bit_at-fold : (rights : List Right) (mask i : ℕ) → bit_at (fold with_right mask rights) i ≡ max (bit_at mask i) (cond (is_at rights i) 1 0)
bit_at-fold [] mask i = sym (max-zero (bit_at mask i))
bit_at-fold (right ∷ rights) mask i =
    bit_at-fold rights (bit_or mask (bit_of right)) i
    ∙ ap (λ n. max n (cond (is_at rights i) 1 0)) (bit_at_or mask (bit_of right) i ∙ ap (max (bit_at mask i)) (bit_at-right right i))
    ∙ either (bit_at mask i) (eqb (place right) i) (is_at rights i)

bit_at-union : (rights : List Right) (i : ℕ) → bit_at (union rights) i ≡ cond (is_at rights i) 1 0
bit_at-union rights i = bit_at-fold rights 0 i ∙ ap (λ n. max n (cond (is_at rights i) 1 0)) (bit_at-zero i) ∙ zero-max (cond (is_at rights i) 1 0)

is_one : (b : Bool) → eqb (cond b 1 0) 1 ≡ b
is_one true = refl
is_one false = refl

has_right-union : (rights : List Right) (right : Right) → has_right (union rights) right ≡ is_at rights (place right)
has_right-union rights right =
    ap (λ n. eqb ((union rights / n) % 2) 1) (bit_of-place right)
    ∙ ap (λ n. eqb n 1) (bit_at-union rights (place right))
    ∙ is_one (is_at rights (place right))

any_kept : (p q : Right → Bool) (rights : List Right) → list_any p (filter q rights) ≡ list_any (λ right. q right && p right) rights
any_kept p q [] = refl
any_kept p q (right ∷ rights) =
    elim (q right) as (λ b. list_any p (cond b (right ∷ filter q rights) (filter q rights)) ≡ ((b && p right) || list_any (λ r. q r && p r) rights)) [
      | true ↦ ap (λ b. p right || b) (any_kept p q rights)
      | false ↦ any_kept p q rights
    ]

or-exchanged : (a b c d : Bool) → ((a || b) || (c || d)) ≡ ((a || c) || (b || d))
or-exchanged true b c d = refl
or-exchanged false true true d = refl
or-exchanged false true false d = refl
or-exchanged false false true d = refl
or-exchanged false false false d = refl

any_either : (p q : Right → Bool) (rights : List Right) → list_any (λ right. p right || q right) rights ≡ (list_any p rights || list_any q rights)
any_either p q [] = refl
any_either p q (right ∷ rights) =
    ap (λ b. (p right || q right) || b) (any_either p q rights) ∙ or-exchanged (p right) (q right) (list_any p rights) (list_any q rights)

-- each right is one of the eight
is_one_of_all : (right : Right) (i : ℕ) → list_any (λ r. eqb (place right) (place r) && eqb (place r) i) all_rights ≡ eqb (place right) i
is_one_of_all ReadData i = or-false (eqb 0 i)
is_one_of_all WriteData i = or-false (eqb 1 i)
is_one_of_all AppendData i = or-false (eqb 2 i)
is_one_of_all ReadAttributes i = or-false (eqb 7 i)
is_one_of_all Delete i = or-false (eqb 16 i)
is_one_of_all ReadAcl i = or-false (eqb 17 i)
is_one_of_all WriteAcl i = or-false (eqb 18 i)
is_one_of_all WriteOwner i = or-false (eqb 19 i)

are_of_all : (rights : List Right) (i : ℕ) → list_any (λ r. is_at rights (place r) && eqb (place r) i) all_rights ≡ is_at rights i
are_of_all [] i = refl
are_of_all (right ∷ rights) i =
    ap (λ test. list_any test all_rights) (λ j r. and-or_distrib_right (eqb (place right) (place r)) (is_at rights (place r)) (eqb (place r) i) j)
    ∙ any_either (λ r. eqb (place right) (place r) && eqb (place r) i) (λ r. is_at rights (place r) && eqb (place r) i) all_rights
    ∙ ap (λ b. b || list_any (λ r. is_at rights (place r) && eqb (place r) i) all_rights) (is_one_of_all right i)
    ∙ ap (λ b. eqb (place right) i || b) (are_of_all rights i)

pub union-rights_in : (rights : List Right) → union (rights_in (union rights)) ≡ union rights
union-rights_in rights =
    same_from_bits (union (rights_in (union rights))) (union rights)
    (λ i.
    bit_at-union (rights_in (union rights)) i
    ∙ ap (λ b. cond b 1 0) (any_kept (λ r. eqb (place r) i) (has_right (union rights)) all_rights
    ∙ ap (λ (has : Right → Bool). list_any (λ r. has r && eqb (place r) i) all_rights) (λ j r. has_right-union rights r j)
    ∙ are_of_all rights i)
    ∙ sym (bit_at-union rights i))

-- WHERE NO RIGHT COMES TWICE, THE BITS ADD UP

added : (right : Right) (mask : ℕ) → mask < bit_of right → bit_or mask (bit_of right) ≡ mask + bit_of right
added right mask h =
    let below : mask < 2 ^ place right = omega (arith, h, bit_of-place right) in
    let apart : bit_and mask (2 ^ place right) ≡ 0 =
    and_pow mask (place right) ∙ ap (λ b. b * 2 ^ place right) (bit_at_above mask (place right) (place right) below (omega arith)) ∙ zero-mul (2 ^ place right)
    in ap (bit_or mask) (bit_of-place right) ∙ or_disjoint mask (2 ^ place right) apart ∙ ap (λ n. mask + n) (sym (bit_of-place right))

-- whichever of the rights are put to a mask below this bit
AddUp : ℕ → List Right → Type 0
AddUp bit rights = (p : Right → Bool) (mask : ℕ) → mask < bit → fold with_right mask (filter p rights) ≡ fold (λ n right. n + bit_of right) mask (filter p rights)

next_adds : (right : Right) (rights : List Right) (bit : ℕ) → 2 * bit_of right ≤ bit → AddUp bit rights → AddUp (bit_of right) (right ∷ rights)
unfolding AddUp
next_adds right rights bit h rest p mask small =
    elim (p right) as (λ b. fold with_right mask (cond b (right ∷ filter p rights) (filter p rights)) ≡ fold (λ n r. n + bit_of r) mask (cond b (right ∷ filter p rights) (filter p rights))) [
      | true ↦ ap (λ n. fold with_right n (filter p rights)) (added right mask small) ∙ rest p (mask + bit_of right) (omega (arith, small, h))
      | false ↦ rest p mask (omega (arith, small, h))
    ]

none_add : (bit : ℕ) → AddUp bit []
unfolding AddUp
none_add bit p mask h = refl

all_add : AddUp 1 all_rights
all_add =
    next_adds ReadData _ 2 (omega arith)
    (next_adds WriteData _ 4 (omega arith)
    (next_adds AppendData _ 128 (omega arith)
    (next_adds ReadAttributes _ 65536 (omega arith)
    (next_adds Delete _ 131072 (omega arith)
    (next_adds ReadAcl _ 262144 (omega arith)
    (next_adds WriteAcl _ 524288 (omega arith)
    (next_adds WriteOwner [] 1048576 (omega arith) (none_add 1048576))))))))

pub union-adds : (mask : ℕ) → union (rights_in mask) ≡ mask_of (rights_in mask)
unfolding AddUp
union-adds mask = all_add (has_right mask) 0 (omega arith)
