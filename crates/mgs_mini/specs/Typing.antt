-- The input of a prompt, and what a byte comes to in it.
use Rattle.std.specs.Prelude.{◌≡◌, ◌≤◌, ℕ, Bool, true, false, List, [], ◌∷◌, length, take, ◌-◌, Option}
use Rattle.mgs_model.specs.World.{State}
use Rattle.mgs_model.specs.View.{View}
use Rattle.mgs_model.specs.Completion.{completion}
use Rattle.mgs_model.specs.Searching.{lengthened}
use Rattle.mgs_model.specs.Turns.{Turn, Keep, answer_turn, completed, names_completed, prompt_turn, unbound_state}
use Rattle.mgs_model.specs.declared.sequence.Sequence.{Sequence}
use Rattle.mgs_model.specs.declared.sequence.Sequence.TheVariants.{Whole, Begun, Broken}
use Rattle.mgs_model.specs.Plans.{failed_state}
use Rattle.mgs_model.specs.declared.echo_text.Message.TheVariants.{Says}
use Rattle.mgs_model.specs.declared.echo_text.Notice.TheVariants.{Quitting, NoMatch}
use Rattle.mgs_model.specs.declared.session.Question.{Question}
use Rattle.mgs_model.specs.declared.session.Question.TheVariants.{ReplaceWith}
use Rattle.mgs_mini.specs.declared.Waiting.{Waiting}
use Rattle.mgs_mini.specs.declared.Waiting.TheVariants.{NoKey, Escape, Arrow, ArrowEscape, One, Two, Three}
use Rattle.mgs_mini.specs.declared.Step.{Step}
use Rattle.mgs_mini.specs.declared.Step.TheVariants.{GoesOn, Answered, Quit, Completes, Unbound}

-- the second of two questions has the answer to the first one beside it
pub record PromptInput : Type 0 where
  pub question : Question
  pub first : List ℕ
  pub input : List ℕ
  pub waiting : Waiting

-- no other question has one
abbrev pub IsFirst : Question → List ℕ → Type 0
IsFirst ReplaceWith first = Unit {0}
IsFirst _ first = first ≡ []

-- the half-read keys
abbrev pub keys_of : Waiting → List ℕ
keys_of NoKey = []
keys_of Escape = 27 ∷ []
keys_of Arrow = 27 ∷ 91 ∷ []
keys_of ArrowEscape = 27 ∷ 91 ∷ 27 ∷ []
keys_of (One a) = a ∷ []
keys_of (Two a b) = a ∷ b ∷ []
keys_of (Three a b c) = a ∷ b ∷ c ∷ []

-- some bytes of a character wait for more
abbrev pub is_within : Waiting → Bool
is_within (One a) = true
is_within (Two a b) = true
is_within (Three a b c) = true
is_within _ = false

-- the first of them is past ASCII
abbrev pub IsWaiting : Waiting → Type 0
IsWaiting (One a) = 128 ≤ a
IsWaiting (Two a b) = 128 ≤ a
IsWaiting (Three a b c) = 128 ≤ a
IsWaiting _ = Unit {0}

-- the session's own record with this prompt's input
abbrev pub typed_state : State → List ℕ → Waiting → State
typed_state state input waiting = record state { input = input; keys = keys_of waiting }

-- what comes next, by what the byte came to and the record that it left
abbrev pub stepped : View → Question → State → Step → Turn
stepped v c state GoesOn = Keep state
stepped v c state Answered = answer_turn c state
stepped v c state Quit = Keep (failed_state (Says Quitting) state)
stepped v c state Completes = Keep (completed state (completion (names_completed v c) state.input))
stepped v c state Unbound = Keep (unbound_state state)

-- a turn is what the byte came to, with the input and the half-read keys that it left
abbrev pub IsTurn : (View → Question → State → Turn) → List ℕ → Step → Waiting → Type 0
IsTurn turn input step waiting = (v : View) → (c : Question) → (state : State) → turn v c state ≡ stepped v c (typed_state state input waiting) step

-- what the bytes of a character come to, which wait so where they are some first bytes of one
abbrev pub typed_turn : State → List ℕ → Waiting → Sequence → Turn
typed_turn state input waiting (Whole c) = Keep (typed_state state (lengthened input c) NoKey)
typed_turn state input waiting Begun = Keep (typed_state state input waiting)
typed_turn state input waiting Broken = Keep (unbound_state (typed_state state input NoKey))

-- the last character is dropped
abbrev pub last_dropped : List ℕ → List ℕ
last_dropped input = take (length input - 1) input

-- the record that a completion leaves: where there was none, the session is told
abbrev pub told : Bool → State → State
told true state = state
told false state = record state { echo = Says NoMatch }

-- that a byte leads from one input of a prompt to another, and a completion, where there is one
abbrev pub IsPromptTurn : PromptInput → ℕ → PromptInput → Step → Type 0
IsPromptTurn old byte new step =
    (v : View) → (state : State) → prompt_turn v old.question (typed_state state old.input old.waiting) byte ≡ stepped v old.question (typed_state state new.input new.waiting) step

abbrev pub IsCompletion : PromptInput → Option (List ℕ) → PromptInput → Bool → Type 0
IsCompletion old completion new is_there =
    (state : State) → completed (typed_state state old.input old.waiting) completion ≡ told is_there (typed_state state new.input new.waiting)
