-- What a session has still to do in an event: a byte that was typed, all further replacements, and what is left of a macro that is played.
use Rattle.std.specs.Prelude.{◌≡◌, ℕ, zero, suc, Bool, true, false, List, [], ◌∷◌, ◌++◌, drop, map, Option, None, Some, cond}
use Rattle.mgs_model.specs.World.{Todo, Typed, Played, Replace_all, Play}
use Rattle.mgs_session.specs.declared.player.Pending.{Pending}
use Rattle.mgs_session.specs.declared.player.Pending.TheVariants as tasks

pub record Playing : Type 0 where
  -- the byte that is handled is a macro's
  pub playing : Bool
  pub todo : List Todo

abbrev pub nothing_played : Playing
nothing_played = record { playing = false; todo = [] }

-- the bytes so many times
abbrev pub rounds : ℕ → List ℕ → List ℕ
rounds zero bytes = []
rounds (suc n) bytes = bytes ++ rounds n bytes

-- the rest of a round, and rounds behind it
abbrev pub left_of : List ℕ → ℕ → ℕ → List ℕ
left_of bytes at n = drop at bytes ++ rounds n bytes

-- all further replacements, and then these bytes of a macro
abbrev pub replaced_first : Bool → List ℕ → List Todo
replaced_first all left = cond all (Replace_all ∷ map Played left) (map Played left)

-- what is still to be done: a byte that was typed, or these of a macro, of whose play nothing was done so far where it begins
abbrev pub todo_in : Option ℕ → Bool → Bool → List ℕ → List Todo
todo_in None begins all left = cond begins (Play ∷ replaced_first all left) (replaced_first all left)
todo_in (Some byte) begins all left = Typed byte ∷ []

-- a byte was typed
abbrev pub byte_typed : ℕ → Playing → Playing
byte_typed byte p = record p { todo = Typed byte ∷ [] }

-- these bytes are to be played so many times
abbrev pub called : ℕ → List ℕ → Playing → Playing
called n bytes p = record p { todo = Play ∷ map Played (rounds n bytes) }

-- all further matches are to be replaced first
abbrev pub replacing_all : Playing → Playing
replacing_all p = record p { todo = Replace_all ∷ p.todo }

abbrev pub stopped : Playing → Playing
stopped p = record p { todo = [] }

-- what was to be done before this was taken, and these are left
abbrev pub todo_before : Pending → List Todo → List Todo
todo_before (tasks.Typed byte) todo = Typed byte ∷ todo
todo_before (tasks.Played byte) todo = Played byte ∷ todo
todo_before (tasks.First byte) todo = Play ∷ Played byte ∷ todo
todo_before tasks.End todo = Play ∷ todo
todo_before tasks.Replacement todo = todo
todo_before tasks.FirstReplacement todo = todo
todo_before tasks.Nothing todo = todo

-- whether a macro's byte is handled then
abbrev pub playing_at : Pending → Bool → Bool
playing_at (tasks.Typed byte) playing = false
playing_at (tasks.Played byte) playing = true
playing_at (tasks.First byte) playing = true
playing_at tasks.End playing = playing
playing_at tasks.Replacement playing = playing
playing_at tasks.FirstReplacement playing = playing
playing_at tasks.Nothing playing = playing

abbrev pub is_nothing : List Todo → Bool
is_nothing [] = true
is_nothing (todo ∷ more) = false

-- what is to be done is all of a macro
abbrev pub are_played : List Todo → Bool
are_played [] = true
are_played (Played byte ∷ todo) = are_played todo
are_played (todo ∷ more) = false

-- or further replacements, and then all of a macro
abbrev pub are_behind : List Todo → Bool
are_behind (Replace_all ∷ todo) = are_played todo
are_behind todo = are_played todo

-- nothing is left behind a byte that was typed and behind a play's end, and bytes of the macro behind one of them
abbrev pub IsTaken : Pending → List Todo → Type 0
IsTaken (tasks.Typed byte) todo = todo ≡ []
IsTaken (tasks.Played byte) todo = are_played todo ≡ true
IsTaken (tasks.First byte) todo = are_played todo ≡ true
IsTaken tasks.End todo = todo ≡ []
IsTaken tasks.Nothing todo = todo ≡ []
IsTaken tasks.Replacement todo = (more : List Todo) × (todo ≡ Replace_all ∷ more) × (are_played more ≡ true)
IsTaken tasks.FirstReplacement todo = (more : List Todo) × (todo ≡ Play ∷ Replace_all ∷ more) × (are_played more ≡ true)

-- this was to be done next, and is handled now
pub record IsNext (task : Pending) (old new : Playing) : Type 0 where
  pub todo : old.todo ≡ todo_before task new.todo
  pub playing : new.playing ≡ playing_at task old.playing
  pub taken : IsTaken task new.todo
