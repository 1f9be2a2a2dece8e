-- The bytes that wait for the terminals of open sessions.
use Rattle.std.specs.Prelude.{◌≡◌, ℕ, Bool, nat_eq, List, [], Option, Some, None, find, drop}

pub record Queue : Type 0 where
  pub id : ℕ
  pub bytes : List ℕ

abbrev pub is_queue_of : ℕ → Queue → Bool
is_queue_of id x = nat_eq x.id id

abbrev pub find_queue : ℕ → List Queue → Option Queue
find_queue id xs = find (is_queue_of id) xs

abbrev pub waiting_in : Option Queue → List ℕ
waiting_in None = []
waiting_in (Some x) = x.bytes

abbrev pub queue_id : Queue → ℕ
queue_id x = x.id

-- nothing waits
abbrev pub IsTaken : Queue → Type 0
IsTaken x = x.bytes ≡ []

-- the first bytes were taken
abbrev pub after_taking : ℕ → Queue → Queue
after_taking n x = record { id = x.id; bytes = drop n x.bytes }
