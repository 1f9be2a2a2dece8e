-- LINES THAT ARE PRINTED by an outlet that takes what it takes at once.
use Rattle.std.specs.Prelude.{◌≡◌, ◌==◌, ◌⊎◌, ℕ, ◌+◌, ◌-◌, ◌^◌, min, Bool, ◌&&◌, ◌||◌, nat_le, List, [], ◌++◌, Option, codes, decimal, if◌then◌else◌}
use Rattle.std.specs.Io.KnownBytes.{Appends}

-- the line of the count of the lines that were not printed, empty if there are none
abbrev pub count_due : ℕ → List ℕ
count_due n = if n == 0 then [] else codes "not printed: " ++ decimal n ++ codes " lines\n"

-- the bytes of lines that wait at most
abbrev pub limit : ℕ
limit = 65536

-- a line of so many bytes has its place behind so many that wait: if lines were missed, once nothing waits
abbrev pub has_place : ℕ → ℕ → ℕ → Bool
has_place waiting missed line = (missed == 0 || waiting == 0) && nat_le line limit && nat_le waiting (limit - line)

-- the first of what waits was written, and the rest waits on
pub record Sends (old : Option (List ℕ)) (waiting : List ℕ) (new : Option (List ℕ)) (left : List ℕ) : Type 0 where
  pub part : List ℕ
  pub shape : waiting ≡ part ++ left
  pub written : Appends old new part

-- a line comes behind the count of those before it that were not printed; or it is not printed, and counted
abbrev pub IsAdded : ℕ → List ℕ → List ℕ → ℕ → Type 0
IsAdded missed line added next = ((added ≡ count_due missed ++ line) × (next ≡ 0)) ⊎ ((added ≡ []) × (next ≡ min (missed + 1) (2 ^ 64 - 1)))

-- a line is printed whole behind what waits, or counted; what waits then is written as far as it is taken
pub record PrintsLine (line : List ℕ) (old : Option (List ℕ)) (waiting : List ℕ) (missed : ℕ) (new : Option (List ℕ)) (left : List ℕ) (next : ℕ) : Type 0 where
  pub added : List ℕ
  pub adds : IsAdded missed line added next
  pub sends : Sends old (waiting ++ added) new left

-- a line is printed whatever waits, behind the count
pub record Announces (line : List ℕ) (old : Option (List ℕ)) (waiting : List ℕ) (missed : ℕ) (new : Option (List ℕ)) (left : List ℕ) (next : ℕ) : Type 0 where
  pub sends : Sends old (waiting ++ (count_due missed ++ line)) new left
  pub none : next ≡ 0

-- what waits is written, and the count behind it, or that waits on
abbrev pub SendsCount : Option (List ℕ) → List ℕ → ℕ → Option (List ℕ) → List ℕ → ℕ → Type 0
SendsCount old waiting missed new left next =
    (Sends old waiting new left × (next ≡ missed)) ⊎ (Sends old (waiting ++ count_due missed) new left × (next ≡ 0))
