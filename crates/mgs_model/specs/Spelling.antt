-- How an entry is written: `TYPE WHO LETTERS`, its words separated by spaces.
use Rattle.std.specs.Prelude.{ℕ, ◌==◌, nat_eq, nat_lt, Bool, true, false, ◌&&◌, List, length, find, fold, codes, Option, Some, None, is_some, Result, Ok, Err, drop, slice_get, if◌then◌else◌}
use Rattle.std.specs.Int.Bits.{bit_or}
use Rattle.std.specs.Option.{option_map, option_and_then}
use Rattle.std.specs.List.{list_all, starts_with}
use Rattle.std.specs.Str.{bytes_eq}
use Rattle.mgs_model.specs.Names.{is_filled, is_space, is_user_name, words_by}
use Rattle.mgs_model.specs.Rights.{bit_of, letter_of, all_rights}
use Rattle.mgs_model.specs.declared.right.Right.{Right}
use Rattle.mgs_model.specs.declared.entry.EntryType.{EntryType}
use Rattle.mgs_model.specs.declared.entry.EntryType.TheVariants.{Allow, Deny}
use Rattle.mgs_model.specs.declared.entry.Who.{Who}
use Rattle.mgs_model.specs.declared.entry.Who.TheVariants.{Owner, OwningGroup, Everyone, User, Group}
use Rattle.mgs_model.specs.declared.entry.Entry.{Entry}
use Rattle.mgs_model.specs.declared.entry.EntryFault.{EntryFault}
use Rattle.mgs_model.specs.declared.entry.EntryFault.TheVariants as faults

-- WORDS

abbrev pub words : List ℕ → List (List ℕ)
words text = words_by is_space text

-- WHAT EACH WORD SAYS

abbrev pub type_named : List ℕ → Option EntryType
type_named word =
    if bytes_eq word (codes "ALLOW") then Some Allow
    else if bytes_eq word (codes "DENY") then Some Deny
    else None

-- the name of a user or a group
abbrev pub user_named : List ℕ → Option (List ℕ)
user_named word = if is_user_name word then Some word else None

-- the rest of a word that begins with `group:`
abbrev pub after_group : List ℕ → Option (List ℕ)
after_group word = if starts_with nat_eq word (codes "group:") then Some (drop 6 word) else None

-- a group where a name follows `group:`, otherwise a user
abbrev pub named_who : List ℕ → Option (List ℕ) → Option Who
named_who word (Some name) = option_map Group (user_named name)
named_who word None = option_map User (user_named word)

abbrev pub who_named : List ℕ → Option Who
who_named word =
    if bytes_eq word (codes "OWNER@") then Some Owner
    else if bytes_eq word (codes "GROUP@") then Some OwningGroup
    else if bytes_eq word (codes "EVERYONE@") then Some Everyone
    else named_who word (after_group word)

-- the right of a letter
abbrev pub right_lettered : ℕ → Option Right
right_lettered c = find (λ right. letter_of right == c) all_rights

abbrev pub is_letter : ℕ → Bool
is_letter c = is_some (right_lettered c)

abbrev pub bit_or_none : Option Right → ℕ
bit_or_none None = 0
bit_or_none (Some right) = bit_of right

-- the bits of letters together
abbrev pub with_letter : ℕ → ℕ → ℕ
with_letter mask c = bit_or mask (bit_or_none (right_lettered c))

-- the mask of one or more letters
abbrev pub mask_lettered : List ℕ → Option ℕ
mask_lettered word = if is_filled word && list_all is_letter word then Some (fold with_letter 0 word) else None

-- THE ENTRY

-- what the word of a number says, counted from 0, if there is one and it says something
abbrev pub said : {X : Type 0} → (List ℕ → Option X) → ℕ → List (List ℕ) → Option X
said reading n ws = option_and_then reading (slice_get ws n)

-- the first fault, from left to right, or the entry
abbrev pub checked : Option EntryType → Option Who → Option ℕ → Bool → Result Entry EntryFault
checked None who mask more = Err faults.Kind
checked (Some type) None mask more = Err faults.Who
checked (Some type) (Some who) None more = Err faults.Letters
checked (Some type) (Some who) (Some mask) true = Err faults.Trailing
checked (Some type) (Some who) (Some mask) false = Ok (record { entry_type = type; who = who; mask = mask })

abbrev pub entry_of_words : List (List ℕ) → Result Entry EntryFault
entry_of_words ws = checked (said type_named 0 ws) (said who_named 1 ws) (said mask_lettered 2 ws) (nat_lt 3 (length ws))

-- what a text says
abbrev pub entry_in : List ℕ → Result Entry EntryFault
entry_in text = entry_of_words (words text)
