-- How an event tells that a list changed: `N: OLD -> NEW`, where N is the place of the first entry that differs, counted from 1.
use Rattle.std.specs.Prelude.{◌≡◌, ◌||◌, not, ℕ, suc, zero, ◌+◌, Bool, true, false, List, [], ◌∷◌, ◌++◌, ◌==◌, Option, None, Some, length, take, drop, map, bytes_eq, codes, decimal, option_map, option_and_then, unwrap_or, if◌then◌else◌}
use Rattle.std.specs.List.{after_first, before_first, list_any, slice_split}
use Rattle.mgs_rewind.specs.Details.{is_colon, new_text, stripped}

abbrev pub is_semicolon : ℕ → Bool
is_semicolon byte = byte == 59

-- a text without the space before it
abbrev pub without_space : List ℕ → List ℕ
without_space text = unwrap_or (stripped (codes " ") text) text

abbrev pub is_dash : List ℕ → Bool
is_dash text = bytes_eq text (codes "-")

-- the entries in the text of a list: what stands between semicolons. A dash is a list without an entry.
abbrev pub entries_in : List ℕ → List (List ℕ)
entries_in text = if is_dash text then [] else map without_space (slice_split is_semicolon text)

-- nothing before the first entry, and a semicolon before each other one
abbrev pub separator : Bool → List ℕ
separator true = []
separator false = codes "; "

abbrev pub joined : Bool → List (List ℕ) → List ℕ
joined is_first [] = []
joined is_first (e ∷ es) = (separator is_first ++ e) ++ joined false es

-- the text of a list of these entries
abbrev pub list_text : List (List ℕ) → List ℕ
list_text entries = if length entries == 0 then codes "-" else joined true entries

-- the index that a text tells, counted from 1 there, if it is one of the next n
abbrev pub index_from : ℕ → ℕ → List ℕ → Option ℕ
index_from i zero text = None
index_from i (suc n) text = if bytes_eq text (decimal (i + 1)) then Some i else index_from (i + 1) n text

-- of an entry among so many, or of the one that comes after the last
abbrev pub index_told : List ℕ → ℕ → Option ℕ
index_told text count = index_from 0 (count + 1) text

-- so many entries are others: NEW
pub record Replacement : Type 0 where
  pub count : ℕ
  pub new : List ℕ

abbrev pub replacement : ℕ → List ℕ → Replacement
replacement count new = record { count = count; new = new }

abbrev pub first_some : Option Replacement → Option Replacement → Option Replacement
first_some None other = other
first_some (Some r) other = Some r

-- the text after one more entry
abbrev pub next_stripped : List ℕ → List ℕ → Option (List ℕ)
next_stripped entry text = option_and_then (stripped entry) (stripped (codes "; ") text)

-- so many entries of OLD were read: there is an arrow and NEW, or one more entry
abbrev pub replaced_from : ℕ → List (List ℕ) → List ℕ → Option Replacement
replaced_from k [] text = option_map (replacement k) (stripped (codes " -> ") text)
replaced_from k (e ∷ es) text = first_some (option_map (replacement k) (stripped (codes " -> ") text)) (option_and_then (replaced_from (k + 1) es) (next_stripped e text))

-- the first entry of OLD is read
abbrev pub replaced_first : List (List ℕ) → List ℕ → Option Replacement
replaced_first [] text = None
replaced_first (e ∷ es) text = option_and_then (replaced_from 1 es) (stripped e text)

-- the entries that `OLD -> NEW` replaces, which must begin with those of OLD
abbrev pub replaced : List (List ℕ) → List ℕ → Option Replacement
replaced entries text = first_some (option_map (replacement 0) (stripped (codes "- -> ") text)) (replaced_first entries text)

-- the entries of NEW as one text, if there are any
abbrev pub new_entries : List ℕ → List (List ℕ)
new_entries new = if is_dash new then [] else new ∷ []

-- the entries of a list with others from an index on
abbrev pub entries_after : List (List ℕ) → ℕ → Replacement → List (List ℕ)
entries_after entries i r = take i entries ++ (new_entries r.new ++ drop r.count (drop i entries))

-- the text of the list, if the entries from the index on begin with those of OLD
abbrev pub list_replaced : List (List ℕ) → ℕ → List ℕ → Option (List ℕ)
list_replaced entries i text = option_map (λ r. list_text (entries_after entries i r)) (replaced (drop i entries) text)

-- a detail that tells no place is of the older form `OLD -> NEW`, with all entries
abbrev pub list_told_at : Option ℕ → List ℕ → List ℕ → Option (List ℕ)
list_told_at None list detail = new_text list detail
list_told_at (Some i) list detail = list_replaced (entries_in list) i (without_space (after_first is_colon detail))

-- what a list becomes, if the detail fits it
abbrev pub list_told : List ℕ → List ℕ → Option (List ℕ)
list_told list detail = list_told_at (index_told (before_first is_colon detail) (length (entries_in list))) list detail

-- a text that begins neither with a space nor with a dash
abbrev pub has_letter_first : List ℕ → Bool
has_letter_first [] = false
has_letter_first (c ∷ cs) = not (c == 32 || c == 45)

-- an entry of a list can be told from what is around it
abbrev pub IsPlain : List ℕ → Type 0
IsPlain entry = (list_any is_semicolon entry ≡ false) × (has_letter_first entry ≡ true)

abbrev pub ArePlain : List (List ℕ) → Type 0
ArePlain [] = Unit {0}
ArePlain (e ∷ es) = IsPlain e × ArePlain es
