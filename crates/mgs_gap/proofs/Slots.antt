-- How the places of a row are read and written.
use Rattle.std.proofs.Common.{◌≡◌, ℕ, zero, suc, ◌+◌, ◌≤◌, List, [], ◌∷◌, ◌++◌, Option, Some, None, map, replicate, length, take, drop, refl, ap, arith, length-take, length-drop}
use Rattle.std.proofs.lemmas.List.{length-append, length-replicate}
use Rattle.mgs_gap.specs.Places.{somes, raised, lowered}

module _ {X : Type 0} where
  pub take_less : (cs : List X) (m n : ℕ) → m ≤ n → take m (take n cs) ≡ take m cs
  take_less [] zero n h = refl
  take_less [] (suc m) zero h = refl
  take_less [] (suc m) (suc n) h = refl
  take_less (c ∷ cs) zero n h = refl
  take_less (c ∷ cs) (suc m) zero h = absurd (omega arith)
  take_less (c ∷ cs) (suc m) (suc n) h = ap (λ l. c ∷ l) (take_less cs m n (omega arith))

pub somes_all : (xs : List ℕ) → somes (map Some xs) ≡ xs
somes_all [] = refl
somes_all (x ∷ xs) = ap (λ l. x ∷ l) (somes_all xs)

pub some_take : (xs : List ℕ) (n : ℕ) → take n (map Some xs) ≡ map Some (take n xs)
some_take [] zero = refl
some_take [] (suc n) = refl
some_take (x ∷ xs) zero = refl
some_take (x ∷ xs) (suc n) = ap (λ l. Some x ∷ l) (some_take xs n)

pub some_drop : (xs : List ℕ) (n : ℕ) → drop n (map Some xs) ≡ map Some (drop n xs)
some_drop [] zero = refl
some_drop [] (suc n) = refl
some_drop (x ∷ xs) zero = refl
some_drop (x ∷ xs) (suc n) = some_drop xs n

pub raised_long : (cs : List (Option ℕ)) (from k n : ℕ) → from + (k + n) ≤ length cs → length (raised cs from k n) ≡ length cs
raised_long cs from k n room =
    let none : Option ℕ = None in let nones : List (Option ℕ) = replicate k none in let run = take n (drop from cs) in let rest = drop (from + (k + n)) cs in
    omega (arith, room, length-append (take from cs) (nones ++ (run ++ rest)), length-append nones (run ++ rest), length-append run rest, length-take from cs, length-replicate k none, length-take n (drop from cs), length-drop from cs, length-drop (from + (k + n)) cs)

pub lowered_long : (cs : List (Option ℕ)) (to k n : ℕ) → to + (k + n) ≤ length cs → length (lowered cs to k n) ≡ length cs
lowered_long cs to k n room =
    let none : Option ℕ = None in let nones : List (Option ℕ) = replicate k none in let run = take n (drop (to + k) cs) in let rest = drop (to + (k + n)) cs in
    omega (arith, room, length-append (take to cs) (run ++ (nones ++ rest)), length-append run (nones ++ rest), length-append nones rest, length-take to cs, length-replicate k none, length-take n (drop (to + k) cs), length-drop (to + k) cs, length-drop (to + (k + n)) cs)
