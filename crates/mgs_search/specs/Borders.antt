-- How a text is read once for a pattern: what is known of it after each character.
--
--   char_at, lower_at   a character, and in its small case
--   IsHead, IsTail      a pattern's first characters in small case; its last ones, read back
--   IsFirst             the two cases of a head's first character
--   IsOther             neither of the two
--   Agrees              a head stands at a place, as far as is read
--   IsRead              the last characters that were read are the first of the head, and it stands at no place before
--   IsBorders           how many characters are left where the next one differs
--   IsStep              one character is read
--   IsWalk              some characters are read
--   IsReadOn            some are passed
--   IsReadBack          a text is read back from a position
use Rattle.std.specs.Prelude.{◌≡◌, ◌≢◌, ℕ, ◌+◌, ◌-◌, ◌<◌, ◌≤◌, List, length, get_or}
use Rattle.std.specs.Char.{to_ascii_lowercase, to_ascii_uppercase}
use Rattle.mgs_search.specs.declared.heads.First.{First}

abbrev pub char_at : List ℕ → ℕ → ℕ
char_at xs i = get_or xs i 0

abbrev pub lower_at : List ℕ → ℕ → ℕ
lower_at xs i = to_ascii_lowercase (get_or xs i 0)

pub record IsHead (pattern head : List ℕ) : Type 0 where
  pub within : length head ≤ length pattern
  pub chars : (t : ℕ) → t < length head → char_at head t ≡ lower_at pattern t

pub record IsTail (pattern tail : List ℕ) : Type 0 where
  pub within : length tail ≤ length pattern
  pub chars : (t : ℕ) → t < length tail → char_at tail t ≡ lower_at pattern (length pattern - 1 - t)

pub record IsFirst (head : List ℕ) (first : First) : Type 0 where
  pub small : first.small ≡ char_at head 0
  pub large : first.large ≡ to_ascii_uppercase (char_at head 0)

abbrev pub IsOther : First → ℕ → Type 0
IsOther first c = (c ≢ first.small) × (c ≢ first.large)

-- of the characters before the i-th
abbrev pub Agrees : List ℕ → (ℕ → ℕ) → ℕ → ℕ → Type 0
Agrees head text p i = (t : ℕ) → t < length head → p + t < i → char_at head t ≡ text (p + t)

-- the characters before the i-th were read, for places from a on: the last q of them are the head's first q
pub record IsRead (head : List ℕ) (text : ℕ → ℕ) (a i q : ℕ) : Type 0 where
  pub within : a + q ≤ i
  pub stands : (t : ℕ) → t < q → char_at head t ≡ text (i - q + t)
  pub passed : (p : ℕ) → a ≤ p → p + q < i → Agrees head text p i → ⊥

-- for each number of a head's first characters, the most with which they end and begin, but for all of them: the head is
-- read for itself, for places from 1 on
abbrev pub IsBorders : List ℕ → List ℕ → Type 0
IsBorders head borders = (k : ℕ) → 1 ≤ k → k < length borders → IsRead head (char_at head) 1 k (get_or borders k 0)

-- q characters stood, then c came: now k stand, whatever the text
abbrev pub IsStep : List ℕ → ℕ → ℕ → ℕ → Type 0
IsStep head q c k = (text : ℕ → ℕ) (a i : ℕ) → IsRead head text a i q → text i ≡ c → IsRead head text a (i + 1) k

-- then n characters of a piece came, in whatever case
abbrev pub IsWalk : List ℕ → ℕ → List ℕ → ℕ → ℕ → Type 0
IsWalk head q piece n k = (text : ℕ → ℕ) (a i : ℕ) → IsRead head text a i q → ((t : ℕ) → t < length piece → text (i + t) ≡ lower_at piece t) → IsRead head text a (i + n) k

-- the characters of a piece from the i-th up to the n-th came, and change nothing
abbrev pub IsReadOn : List ℕ → List ℕ → ℕ → ℕ → ℕ → Type 0
IsReadOn head piece i n k = (text : ℕ → ℕ) (a j : ℕ) → IsRead head text a (j + i) k → ((t : ℕ) → t < length piece → text (j + t) ≡ lower_at piece t) → IsRead head text a (j + n) k

-- i characters before `top` were read back
abbrev pub IsReadBack : List ℕ → List ℕ → ℕ → ℕ → ℕ → Type 0
IsReadBack tail xs top i k = IsRead tail (λ t. lower_at xs (top - 1 - t)) 0 i k
