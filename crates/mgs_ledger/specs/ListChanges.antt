-- Which entries of a list are others.
use Rattle.std.specs.Prelude.{◌≡◌, ◌<◌, ◌^◌, true, Some, ℕ, zero, suc, ◌+◌, ◌-◌, Bool, ◌&&◌, ◌==◌, min, List, [], ◌∷◌, ◌++◌, length, take, drop, codes, decimal, if◌then◌else◌}
use Rattle.std.specs.Str.{bytes_eq}
use Rattle.mgs_model.specs.declared.entry.Entry.{Entry}
use Rattle.mgs_model.specs.Draw.{entry_text}
use Rattle.mgs_acl.specs.Written.{is_writable_who}
use Rattle.mgs_rewind.specs.ListChanges.{list_told}
use Rattle.mgs_ledger.specs.Spelling.{arrow, listed}

-- two entries are printed alike
abbrev pub same_entry : Entry → Entry → Bool
same_entry a b = bytes_eq (entry_text a) (entry_text b)

-- how many entries two lists have in common from the first on
abbrev pub common_start : List Entry → List Entry → ℕ
common_start [] ys = 0
common_start (x ∷ xs) [] = 0
common_start (x ∷ xs) (y ∷ ys) = if same_entry x y then common_start xs ys + 1 else 0

-- two lists have the same entries
abbrev pub are_alike : List Entry → List Entry → Bool
are_alike xs ys = length xs == length ys && common_start xs ys == length xs

-- the last so many
abbrev pub last_entries : ℕ → List Entry → List Entry
last_entries k xs = drop (length xs - k) xs

-- all but the last so many
abbrev pub without_last : ℕ → List Entry → List Entry
without_last k xs = take (length xs - k) xs

-- how many entries, so many at most, two lists have in common up to the last
abbrev pub common_end : ℕ → List Entry → List Entry → ℕ
common_end zero xs ys = 0
common_end (suc k) xs ys = if are_alike (last_entries (suc k) xs) (last_entries (suc k) ys) then suc k else common_end k xs ys

abbrev pub longest_end : List Entry → List Entry → ℕ
longest_end xs ys = common_end (min (length xs) (length ys)) xs ys

-- the place of the first entry that differs, and what the entries were and are, without so many that they have in common up to the last
abbrev pub change_text : ℕ → ℕ → List Entry → List Entry → List ℕ
change_text place end was is = decimal place ++ codes ": " ++ arrow (listed (without_last end was)) (listed (without_last end is))

-- the same of the entries from the place on
abbrev pub change_from : ℕ → List Entry → List Entry → List ℕ
change_from place was is = change_text place (longest_end was is) was is

-- of two lists whose first so many entries are alike
abbrev pub change_at : ℕ → List Entry → List Entry → List ℕ
change_at start old new = change_from (start + 1) (drop start old) (drop start new)

-- how an event tells that a list changed
abbrev pub list_change : List Entry → List Entry → List ℕ
list_change old new = change_at (common_start old new) old new

-- the names that entries have are those of users and groups
abbrev pub AreWritable : List Entry → Type 0
AreWritable [] = Unit {0}
AreWritable (e ∷ es) = (is_writable_who e.who ≡ true) × AreWritable es

-- AN EVENT OF A LIST IS FOLLOWED: by the list of before, a start reads the list of after
abbrev pub ListsAreFollowed : Type 0
ListsAreFollowed = (old new : List Entry) → AreWritable old → AreWritable new → length old + 1 < 2 ^ 64 → list_told (listed old) (list_change old new) ≡ Some (listed new)
