-- Steps over a list, each of which changes only what its own element uses.
use Rattle.std.proofs.Common.{◌≡◌, ℕ, ◌≤◌, List, [], ◌∷◌, map, refl, ap, ◌∙◌, arith}
use Rattle.mgs_world.specs.Sound.{sum_of, steps}

-- what none of the elements uses stays
pub look_stays : {S A : Type 0} (step : S → A → S) (look : S → List ℕ → ℕ → ℕ) (used : List ℕ → ℕ → A → ℕ) → ((s : S) (a : A) (n : List ℕ) (i : ℕ) → used n i a ≡ 0 → look (step s a) n i ≡ look s n i) → (s : S) (xs : List A) (n : List ℕ) (i : ℕ) → sum_of (used n i) xs ≡ 0 → look (steps step s xs) n i ≡ look s n i
look_stays step look used frame s [] n i h = refl
look_stays step look used frame s (x ∷ xs) n i h =
    look_stays step look used frame (step s x) xs n i (omega (arith, h)) ∙ frame s x n i (omega (arith, h))

-- a map that reads only what the elements use
pub map_local : {S A B : Type 0} (look : S → List ℕ → ℕ → ℕ) (used : List ℕ → ℕ → A → ℕ) (F : S → A → B) → ((s t : S) (a : A) → ((n : List ℕ) (i : ℕ) → 1 ≤ used n i a → look s n i ≡ look t n i) → F s a ≡ F t a) → (s t : S) (xs : List A) → ((n : List ℕ) (i : ℕ) → 1 ≤ sum_of (used n i) xs → look s n i ≡ look t n i) → map (F s) xs ≡ map (F t) xs
map_local look used F local s t [] h = refl
map_local look used F local s t (x ∷ xs) h =
    ap (λ y. y ∷ map (F s) xs) (local s t x (λ n i u. h n i (omega (arith, u))))
    ∙ ap (λ ys. F t x ∷ ys) (map_local look used F local s t xs (λ n i u. h n i (omega (arith, u))))

-- each element is changed by its own step
pub map_steps : {S A B : Type 0} (step : S → A → S) (look room : S → List ℕ → ℕ → ℕ) (used : List ℕ → ℕ → A → ℕ) (F : S → A → B) (G : B → B) (Inv : S → Type 0)
    → ((s : S) (a : A) (n : List ℕ) (i : ℕ) → used n i a ≡ 0 → look (step s a) n i ≡ look s n i)
    → ((s t : S) (a : A) → ((n : List ℕ) (i : ℕ) → 1 ≤ used n i a → look s n i ≡ look t n i) → F s a ≡ F t a)
    → ((s : S) (a : A) → Inv s → Inv (step s a))
    → ((s : S) (n : List ℕ) (i : ℕ) → room s n i ≤ 1)
    → ((s : S) (a : A) → ((n : List ℕ) (i : ℕ) → used n i a ≤ room s n i) → (n : List ℕ) (i : ℕ) → room (step s a) n i ≡ room s n i)
    → ((s : S) (a : A) → Inv s → ((n : List ℕ) (i : ℕ) → used n i a ≤ room s n i) → F (step s a) a ≡ G (F s a))
    → (s : S) (xs : List A) → Inv s → ((n : List ℕ) (i : ℕ) → sum_of (used n i) xs ≤ room s n i) → map (F (steps step s xs)) xs ≡ map G (map (F s) xs)
map_steps step look room used F G Inv frame local keeps most same does s [] inv h = refl
map_steps step look room used F G Inv frame local keeps most same does s (x ∷ xs) inv h =
    let s1 = step s x in
    let K = steps step s1 xs in
    ap (λ y. y ∷ map (F K) xs)
    (local K s1 x (λ n i u. look_stays step look used frame s1 xs n i (omega (arith, u, h n i, most s n i)))
    ∙ does s x inv (λ n i. omega (arith, h n i)))
    ∙ ap (λ ys. G (F s x) ∷ ys)
    (map_steps step look room used F G Inv frame local keeps most same does s1 xs (keeps s x inv) (λ n i. omega (arith, h n i, same s x (λ n i. omega (arith, h n i)) n i))
    ∙ ap (map G) (map_local look used F local s1 s xs (λ n i u. frame s x n i (omega (arith, u, h n i, most s n i)))))

pub inv_steps : {S A : Type 0} (step : S → A → S) (Inv : S → Type 0) → ((s : S) (a : A) → Inv s → Inv (step s a)) → (s : S) (xs : List A) → Inv s → Inv (steps step s xs)
inv_steps step Inv keeps s [] inv = inv
inv_steps step Inv keeps s (x ∷ xs) inv = inv_steps step Inv keeps (step s x) xs (keeps s x inv)

-- the room stays where each step leaves it
pub room_steps : {S A : Type 0} (step : S → A → S) (room : S → List ℕ → ℕ → ℕ) (used : List ℕ → ℕ → A → ℕ) → ((s : S) (a : A) → ((n : List ℕ) (i : ℕ) → used n i a ≤ room s n i) → (n : List ℕ) (i : ℕ) → room (step s a) n i ≡ room s n i) → (s : S) (xs : List A) → ((n : List ℕ) (i : ℕ) → sum_of (used n i) xs ≤ room s n i) → (n : List ℕ) (i : ℕ) → room (steps step s xs) n i ≡ room s n i
room_steps step room used same s [] h n i = refl
room_steps step room used same s (x ∷ xs) h n i =
    let first : (n : List ℕ) (i : ℕ) → room (step s x) n i ≡ room s n i = same s x (λ n i. omega (arith, h n i)) in
    room_steps step room used same (step s x) xs (λ n i. omega (arith, h n i, first n i)) n i ∙ first n i
