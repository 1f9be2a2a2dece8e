-- CALLS IN ORDER, and their tape.
use Rattle.std.specs.Prelude.{◌≡◌, ℕ, ◌<◌, min, false, List, [], ◌∷◌, ◌++◌, Option, Result, IfOk, length, take, drop, map, slice_get}
use Rattle.std.specs.Global.{Vec}
use Rattle.mgs_model.specs.Events.{Close, is_open, step}
use Rattle.mgs_model.specs.declared.errors.Keyed.{Keyed}
use Rattle.mgs_model.specs.declared.errors.OpenFault.{OpenFault}
use Rattle.mgs_world.specs.Worlds.{sizes}
use Rattle.mgs_wire.specs.Calls as wire
use Rattle.mgs_engine.specs.declared.session_end.Cause.{Cause}
use Rattle.mgs_engine.specs.declared.tape.Answer.{Answer}
use Rattle.mgs_engine.specs.declared.tape.Answer.TheVariants as answers
use Rattle.mgs_engine.specs.declared.tape.Call.{Call}
use Rattle.mgs_engine.specs.declared.tape.Call.TheVariants as calls
use Rattle.mgs_engine.specs.declared.tape.Piece.{Piece}
use Rattle.mgs_engine.specs.Does.{Does, taken_by}
use Rattle.mgs_engine.specs.Serving.{Serving, pending_of}
use Rattle.mgs_engine.specs.Tapes.{IsAdded, Told, told_of}

-- a call without where its text lies in memory
pub data Asked : Type 0 where
  Opens : (user : List ℕ) → (rows cols : ℕ) → Asked
  Types : (id byte : ℕ) → Asked
  Closes : (id : ℕ) → Asked
  Takes : (id most : ℕ) → Asked
  Asks : Asked

abbrev pub asked : Call → Asked
asked (calls.Open user rows cols) = Opens user.now rows cols
asked (calls.Byte id byte) = Types id byte
asked (calls.Close id) = Closes id
asked (calls.Took id most) = Takes id most
asked calls.Ended = Asks

abbrev pub all_asked : List Call → List Asked
all_asked cs = map asked cs

-- what is served, and the tape
pub record Taped : Type 0 where
  pub serving : Serving
  pub tape : Told

abbrev pub taped : Serving → Told → Taped
taped s t = record { serving = s; tape = t }

abbrev pub on_tape : Serving → Vec Answer → Vec Piece → Taped
on_tape s told pieces = taped s (told_of told.items pieces.items)

-- an answer more, and no bytes
abbrev pub answered : Answer → Told → Told
answered a t = record t { answers = t.answers ++ a ∷ [] }

-- one call, and what it puts on the tape
abbrev pub Makes : Taped → Asked → Taped → Type 0
Makes r (Opens user rows cols) s =
    (a : Result ℕ OpenFault) × Does r.serving (wire.Open user rows cols a) s.serving × IfOk a (λ id. sizes s.serving.world ≡ sizes r.serving.world ++ record { id = id; rows = rows; cols = cols } ∷ [])
    × (s.tape ≡ answered (answers.Open a) r.tape)
Makes r (Types id byte) s = (a : Keyed) × Does r.serving (wire.Byte id byte a) s.serving × (s.tape ≡ answered (answers.Byte a) r.tape)
Makes r (Closes id) s = Does r.serving (wire.Close id) s.serving × (s.serving.world ≡ step r.serving.world (Close id)) × (s.tape ≡ answered answers.Close r.tape)
Makes r (Takes id most) s =
    (n : ℕ) × (n ≡ min most (length (pending_of id r.serving))) × (is_open id r.serving.world ≡ false → pending_of id r.serving ≡ []) × (s.serving ≡ taken_by id n r.serving)
    × (s.tape.answers ≡ r.tape.answers ++ answers.Took n ∷ []) × IsAdded id (take n (pending_of id r.serving)) r.tape.pieces s.tape.pieces
Makes r Asks s =
    (a : Option (ℕ × Cause)) × (a ≡ slice_get r.serving.ended 0) × (s.serving ≡ record r.serving { ended = drop 1 r.serving.ended }) × (s.tape ≡ answered (answers.Ended a) r.tape)

-- one after another
abbrev pub Runs : Taped → List Asked → Taped → Type 0
Runs r [] s = s ≡ r
Runs r (c ∷ cs) s = (mid : Taped) × Makes r c mid × Runs mid cs s

-- those in front, and no others
abbrev pub RunsSome : Taped → List Asked → Taped → Type 0
RunsSome r cs s = (k : ℕ) × (k < length cs) × Runs r (take k cs) s
