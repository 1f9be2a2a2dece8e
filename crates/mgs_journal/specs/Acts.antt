-- WHAT IS ASKED of a journal: changes of what it keeps, and what it is told. A journal is a type `J` of states with a word, `does old act
-- new`: it took the act, which led from one state to another.
use Rattle.std.specs.Prelude.{◌≡◌, ℕ, List, [], ◌∷◌, Option}
use Rattle.mgs_journal.specs.Texts.{KeptText}
use Rattle.mgs_journal.specs.declared.Told.{Told}
use Rattle.mgs_journal.specs.declared.change.Change.{Change}

pub data Act : Type 0 where
  -- a user, or whoever makes the server, changed the rights of buffers, one change after another, in one event
  Alter : (user : Option (List ℕ)) → (changes : List Change) → Act
  -- nothing is kept under a name any more, and no user took it
  Forget : (name : List ℕ) → Act
  -- this is kept of the text of the buffer at an index
  Put : (place : ℕ) → (text : KeptText) → Act
  -- something is told of an event
  Tell : (told : Told) → Act
  -- what was gathered for long enough is kept
  Tick : Act

-- acts, one after another
abbrev pub AreDone : {J : Type 0} → (J → Act → J → Type 0) → List Act → J → J → Type 0
AreDone does [] old new = new ≡ old
AreDone {J = J} does (a ∷ acts) old new = (mid : J) × does old a mid × AreDone does acts mid new
