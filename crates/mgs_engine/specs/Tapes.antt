-- TAPES: what calls answered, and the bytes that were taken of each session.
use Rattle.std.specs.Prelude.{◌≡◌, ℕ, Bool, nat_eq, cond, List, [], ◌++◌, map}
use Rattle.mgs_engine.specs.declared.tape.Answer.{Answer}
use Rattle.mgs_engine.specs.declared.tape.Piece.{Piece}
use Rattle.mgs_engine.specs.Queues.{Queue, find_queue, waiting_in}

pub record Told : Type 0 where
  pub answers : List Answer
  pub pieces : List Queue

abbrev pub piece_queue : Piece → Queue
piece_queue x = record { id = x.id; bytes = x.bytes.items }

abbrev pub pieces_of : List Piece → List Queue
pieces_of xs = map piece_queue xs

abbrev pub has_piece_id : ℕ → Piece → Bool
has_piece_id id x = nat_eq x.id id

abbrev pub told_of : List Answer → List Piece → Told
told_of answers pieces = record { answers = answers; pieces = pieces_of pieces }

-- the bytes of a session; none where there are none
abbrev pub bytes_in : ℕ → List Queue → List ℕ
bytes_in id xs = waiting_in (find_queue id xs)

abbrev pub bytes_on : ℕ → Told → List ℕ
bytes_on id t = bytes_in id t.pieces

-- bytes behind the others
abbrev pub with_more : List ℕ → Queue → Queue
with_more bytes x = record { id = x.id; bytes = x.bytes ++ bytes }

-- these bytes were put behind those of a session, and behind no others
abbrev pub IsAdded : ℕ → List ℕ → List Queue → List Queue → Type 0
IsAdded id bytes old new = (j : ℕ) → bytes_in j new ≡ bytes_in j old ++ cond (nat_eq id j) bytes []
