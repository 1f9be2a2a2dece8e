-- The births of buffers: each buffer that is made gets the next number.
use Rattle.std.specs.Prelude.{ℕ, ◌+◌, ◌-◌, ◌^◌, min, nat_lt, List, [], ◌∷◌, ◌++◌, Bool, Option, Some, None, find, length, if◌then◌else◌}
use Rattle.mgs_model.specs.Apply.{remove_first}
use Rattle.mgs_model.specs.Names.{same_name}
use Rattle.mgs_model.specs.Outcome.{Effect, Create, Kill}
use Rattle.mgs_model.specs.declared.limits.TheConstants.{BUFFER_LIMIT}
use Rattle.mgs_births.specs.declared.birth.Birth.{Birth}

-- the buffers that were made since the server began and still exist, in the order of creation, and the next number
pub record Births : Type 0 where
  pub all : List Birth
  pub next : ℕ

-- when a server begins
abbrev pub no_births : Births
no_births = record { all = []; next = 1 }

abbrev pub is_birth_of : List ℕ → Birth → Bool
is_birth_of name b = same_name name b.name

abbrev pub number_in : Option Birth → ℕ
number_in None = 0
number_in (Some b) = b.number

-- the number of the buffer of a name; 0 if none of that name was made since the server began
abbrev pub number_of : List ℕ → Births → ℕ
number_of name b = number_in (find (is_birth_of name) b.all)

-- one more, if there is room
abbrev pub with_birth : Birth → List Birth → List Birth
with_birth x xs = if nat_lt (length xs) BUFFER_LIMIT then xs ++ x ∷ [] else xs

abbrev pub without_birth : List ℕ → List Birth → List Birth
without_birth name xs = remove_first (is_birth_of name) xs

-- after an effect: the number counts up to the last u64
abbrev pub birth_after : Effect → Births → Births
birth_after (Create name owner) b = record { all = with_birth (record { name = name; number = b.next }) b.all; next = min (b.next + 1) (2 ^ 64 - 1) }
birth_after (Kill name) b = record { all = without_birth name b.all; next = b.next }
birth_after _ b = b

-- after effects, one after another
abbrev pub births_after : List Effect → Births → Births
births_after [] b = b
births_after (e ∷ es) b = births_after es (birth_after e b)
