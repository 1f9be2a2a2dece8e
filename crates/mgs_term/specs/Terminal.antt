-- A terminal as it is known from outside, and which bytes it takes.
use Rattle.std.specs.Prelude.{◌≡◌, ℕ, Bool, true, false, List, [], ◌∷◌, ◌++◌}
use Rattle.mgs_term.specs.declared.operation.Operation.{Operation}
use Rattle.mgs_term.specs.Screen.{Screen}
use Rattle.mgs_term.specs.Sequences.{Accepts, has_room, after, spelling}

-- its screen, the bytes so far of the sequence that has begun, and whether it refuses everything from now on
pub record Terminal : Type 0 where
  pub screen : Screen
  pub begun : List ℕ
  pub refused : Bool

-- between two sequences
abbrev pub resting : Screen → Terminal
resting s = record { screen = s; begun = []; refused = false }

-- after a byte that was refused
abbrev pub refusing : Screen → Terminal
refusing s = record { screen = s; begun = []; refused = true }

-- An accepted sequence has the byte after those that have begun it, and then the rest. Only its last byte asks for room.
abbrev pub Continues : Terminal → ℕ → List ℕ → Operation → Type 0
Continues t byte rest o =
    (t.refused ≡ false) × Accepts t.screen.rows t.screen.cols t.screen.wrapping o × (spelling o ≡ t.begun ++ byte ∷ rest)
    × (rest ≡ [] → has_room t.screen o ≡ true)

-- no accepted sequence ends by the byte
abbrev pub IsInner : Terminal → ℕ → Type 0
IsInner t byte = (o : Operation) → Continues t byte [] o → ⊥

-- the sequence that has begun goes on by it
abbrev pub going_on : Terminal → ℕ → Terminal
going_on t byte = record { screen = t.screen; begun = t.begun ++ byte ∷ []; refused = false }

-- A byte is taken. The last of a sequence does what the sequence does, and any other changes no more than what has begun.
pub record Takes (old : Terminal) (byte : ℕ) (new : Terminal) : Type 0 where
  pub some : (o : Operation) × (rest : List ℕ) × Continues old byte rest o
  pub last : (o : Operation) → Continues old byte [] o → new ≡ resting (after o old.screen)
  pub inner : IsInner old byte → new ≡ going_on old byte

-- A byte is refused: no accepted sequence has it there. The screen stays.
pub record Refuses (old : Terminal) (byte : ℕ) (new : Terminal) : Type 0 where
  pub none : (o : Operation) (rest : List ℕ) → Continues old byte rest o → ⊥
  pub stays : new ≡ refusing old.screen

-- bytes are taken, one after another
abbrev pub TakesAll : Terminal → List ℕ → Terminal → Type 0
TakesAll old [] new = old ≡ new
TakesAll old (b ∷ bs) new = (middle : Terminal) × Takes old b middle × TakesAll middle bs new

-- some first of the bytes are taken, and the next is refused
pub record RefusesSome (old : Terminal) (bytes : List ℕ) (new : Terminal) : Type 0 where
  pub front : List ℕ
  pub byte : ℕ
  pub rest : List ℕ
  pub middle : Terminal
  pub parts : bytes ≡ front ++ byte ∷ rest
  pub takes : TakesAll old front middle
  pub refuses : Refuses middle byte new
