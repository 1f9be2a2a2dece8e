-- A row of places, each empty or holding a character.
use Rattle.std.specs.Prelude.{ℕ, ◌≡◌, ◌+◌, ◌≤◌, List, [], ◌∷◌, ◌++◌, Option, Some, None, map, length, take, drop, replicate}

-- the characters that are there
abbrev pub somes : List (Option ℕ) → List ℕ
somes [] = []
somes (None ∷ cs) = somes cs
somes (Some x ∷ cs) = x ∷ somes cs

-- the len places from the place from on hold these characters
abbrev pub ShowsRun : List (Option ℕ) → ℕ → ℕ → List ℕ → Type 0
ShowsRun cs from len xs = take len (drop from cs) ≡ map Some xs

-- those places are there, and each holds a character
abbrev pub IsRun : List (Option ℕ) → ℕ → ℕ → Type 0
IsRun cs from len = (from + len ≤ length cs) × ((xs : List ℕ) × ShowsRun cs from len xs)

-- the places once the n characters from the place from on went up by k places, and left k empty ones below them
abbrev pub raised : List (Option ℕ) → ℕ → ℕ → ℕ → List (Option ℕ)
raised cs from k n = take from cs ++ (replicate k None ++ (take n (drop from cs) ++ drop (from + (k + n)) cs))

-- the places once n characters came down by k places, to those from the place to on, and left k empty ones above them
abbrev pub lowered : List (Option ℕ) → ℕ → ℕ → ℕ → List (Option ℕ)
lowered cs to k n = take to cs ++ (take n (drop (to + k) cs) ++ (replicate k None ++ drop (to + (k + n)) cs))

-- the n characters from the place from on went to the places from to on: up or down, or nowhere
abbrev pub IsCopied : List (Option ℕ) → List (Option ℕ) → ℕ → ℕ → ℕ → Type 0
IsCopied old new from to n = ((k : ℕ) → to ≡ from + k → new ≡ raised old from k n) × ((k : ℕ) → from ≡ to + k → new ≡ lowered old to k n)

-- the places once the first n of the characters stand from the place to on
abbrev pub written : List (Option ℕ) → ℕ → List ℕ → ℕ → List (Option ℕ)
written cs to xs n = (take to cs ++ take n (map Some xs)) ++ drop (to + n) cs
