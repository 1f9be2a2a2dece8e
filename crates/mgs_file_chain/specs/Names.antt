-- THE NAMES OF A JOURNAL'S FILES, and what a start finds under them.
use Rattle.std.specs.Prelude.{◌≡◌, ◌⊎◌, ◌<◌, ℕ, List, [], ◌∷◌, ◌++◌, take, Option, None, Some, Result, Ok, Err}
use Rattle.std.specs.Option.{option_map}

-- which file has each name: the file in use and its log, the next file and its log, and under their numbers the files that were in use before.
-- A file is known by a number of its own.
pub record Names : Type 0 where
  pub file : Option ℕ
  pub log : Option ℕ
  pub next : Option ℕ
  pub next_log : Option ℕ
  pub kept : List (ℕ × ℕ)

-- a file gets a number in place of its name
abbrev pub kept_with : ℕ → Option ℕ → List (ℕ × ℕ) → List (ℕ × ℕ)
kept_with number None kept = kept
kept_with number (Some file) kept = kept ++ (number, file) ∷ []

-- the log of the file in use is removed
abbrev pub log_dropped : Names → Names
log_dropped s = record s { log = None }

-- the file in use gets a number in place of its name
abbrev pub file_kept : ℕ → Names → Names
file_kept number s = record s { file = None; kept = kept_with number s.file s.kept }

-- the log of the next file, if it has one, gets the name of the log of the file in use
abbrev pub renamed : Option ℕ → Option ℕ → Option ℕ
renamed None there = there
renamed (Some file) there = Some file

abbrev pub log_placed : Names → Names
log_placed s = record s { log = renamed s.next_log s.log; next_log = None }

-- the next file, if there is one, gets the name of the file in use
abbrev pub file_placed : Names → Names
file_placed s = record s { file = renamed s.next s.file; next = None }

-- the steps by which the next file follows the file in use, which gets this number
abbrev pub steps : ℕ → List (Names → Names)
steps number = log_dropped ∷ file_kept number ∷ log_placed ∷ file_placed ∷ []

abbrev pub done : List (Names → Names) → Names → Names
done [] s = s
done (step ∷ more) s = done more (step s)

-- after so many of the steps
abbrev pub after : ℕ → ℕ → Names → Names
after number count s = done (take count (steps number)) s

-- WHAT A START FINDS: the file in use and its log; where there is none, the next file, with its own log or the log that has the name already
abbrev pub found_next : Option ℕ → Option ℕ → Option ℕ → Option (ℕ × Option ℕ)
found_next None next_log log = None
found_next (Some next) next_log log = Some (next, renamed next_log log)

abbrev pub found : Names → Option (ℕ × Option ℕ)
found s = elim s.file [ None ↦ found_next s.next s.next_log s.log | Some file ↦ Some (file, s.log) ]

-- the next file follows the one in use by the steps, in their order: all of them, or a first part if one fails
abbrev pub is_all : {V E : Type 0} → Result V E → ℕ → Type 0
is_all (Ok value) count = count ≡ 4
is_all (Err error) count = count < 4

pub record Follows {V E : Type 0} (result : Result V E) (number : ℕ) (old new : Option Names) : Type 0 where
  pub count : ℕ
  pub all : is_all result count
  pub names : new ≡ option_map (after number count) old

-- what is left of the steps is done: the next file, if there is no other, gets its names
abbrev pub settled : Names → Names
settled s = elim s.file [ None ↦ file_placed (log_placed s) | Some file ↦ s ]

-- LAWS

-- after any of the steps a start finds the file that was in use, with its log or with none, or the next file with its own log. (The log that is
-- dropped has nothing that the file does not have.)
abbrev pub FindsOne : Type 0
FindsOne =
    (s : Names) (old new number count : ℕ) → s.file ≡ Some old → s.next ≡ Some new
    → (found (after number count s) ≡ Some (old, s.log)) ⊎ ((found (after number count s) ≡ Some (old, None)) ⊎ (found (after number count s) ≡ Some (new, s.next_log)))

-- and the file that was in use has its name, or its number
abbrev pub KeepsOld : Type 0
KeepsOld =
    (s : Names) (old number count : ℕ) → s.file ≡ Some old
    → ((after number count s).file ≡ Some old) ⊎ ((after number count s).kept ≡ s.kept ++ (number, old) ∷ [])

-- what is found is found in the same way once it is settled
abbrev pub SettlesFound : Type 0
SettlesFound = (s : Names) → found (settled s) ≡ found s
