-- What the name of a buffer is completed to.
use Rattle.std.specs.Borrow.{Bor}
use Rattle.std.specs.Option.{option_copied}
use Rattle.std.specs.Prelude.{◌≡◌, ℕ, ◌+◌, ◌≤◌, Bool, cond, List, length, drop, fold, map, Option, IfSome}
use Rattle.mgs_model.specs.Access.{Directory}
use Rattle.mgs_mini.specs.Narrowing.{granted_names, narrowed}
use Rattle.mgs_model.specs.World.{Buffer, may}
use Rattle.mgs_model.specs.declared.right.Right.TheVariants.{ReadAttributes}
use Rattle.mgs_buffers.specs.MarkedBuffer.{MarkedBuffer}

-- it is no longer than a name may be
abbrev pub IsWithinName : Option (List ℕ) → Type 0
IsWithinName text = IfSome text (λ t. length t ≤ 32)

-- what is found with one name more, where it counts, and with one buffer more
abbrev pub found_with_name : Bool → List ℕ → Option (List ℕ) → List ℕ → Option (List ℕ)
found_with_name counts input found name = cond counts (narrowed input found name) found

abbrev pub IsFoundWith : Directory → List ℕ → List ℕ → Buffer → Option (Bor (List ℕ)) → Option (Bor (List ℕ)) → Type 0
IsFoundWith directory user input b found result = option_copied result ≡ found_with_name (may directory user ReadAttributes b) input (option_copied found) b.name

-- the names that count
abbrev pub names_shown : Directory → List ℕ → List MarkedBuffer → List (List ℕ)
names_shown directory user ks = granted_names directory user (map (λ k. k.buffer) ks)

-- what is found once the names of the buffers from a place on count too
abbrev pub found_from : Directory → List ℕ → List ℕ → Option (List ℕ) → List MarkedBuffer → ℕ → Option (List ℕ)
found_from directory user input found ks place =
    fold (narrowed input) found (names_shown directory user (drop place ks))

-- so the buffers from a place on lead to the same as those after it do from here
abbrev pub IsFoundNext : Directory → List ℕ → List ℕ → List MarkedBuffer → ℕ → Option (Bor (List ℕ)) → Option (Bor (List ℕ)) → Type 0
IsFoundNext directory user input ks place found result =
    found_from directory user input (option_copied found) ks place ≡ found_from directory user input (option_copied result) ks (place + 1)
