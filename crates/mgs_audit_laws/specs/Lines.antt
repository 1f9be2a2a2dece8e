-- THE LINES OF AN AUDIT, each with the number of its event and the user of its session.
use Rattle.std.specs.Prelude.{◌≡◌, ℕ, suc, ◌+◌, Bool, List, [], ◌∷◌, ◌++◌, length, map, Option, Some, None, cond}
use Rattle.std.specs.List.{flat_map}
use Rattle.mgs_model.specs.Names.{same_name}
use Rattle.mgs_model.specs.declared.entry.Decision.{Decision}
use Rattle.mgs_model.specs.declared.echo_text.Message.{Message}
use Rattle.mgs_model.specs.declared.echo_text.Message.TheVariants.{Denied}
use Rattle.mgs_model.specs.Outcome.{Effect, SetList, SetOwners, Create, Kill, Save}
use Rattle.mgs_model.specs.Apply.{change_first, remove_first, new_buffer, owners_after}
use Rattle.mgs_model.specs.World.{World, Session, find_session}
use Rattle.mgs_laws.specs.Apart.{Rules, rules_of}
use Rattle.mgs_model.specs.Events.{Event, Open, Byte, Close, run, step, event_effects, can_open}

pub data Line : Type 0 where
  -- a session of his was opened
  Came : (number : ℕ) → (user : List ℕ) → Line
  -- and ended
  Left : (number : ℕ) → (user : List ℕ) → Line
  -- he was denied something, and what decided that
  Refused : (number : ℕ) → (user : List ℕ) → (decision : Decision) → Line
  -- he changed who may do what, made or ended a buffer, or saved one
  Ruled : (number : ℕ) → (user : List ℕ) → (effect : Effect) → Line

-- an effect that is told
abbrev pub told : Effect → List Effect
told (SetList name entries) = SetList name entries ∷ []
told (SetOwners name new) = SetOwners name new ∷ []
told (Create name owner) = Create name owner ∷ []
told (Kill name) = Kill name ∷ []
told (Save name text) = Save name text ∷ []
told _ = []

abbrev pub user_of : Option Session → List ℕ
user_of None = []
user_of (Some x) = x.user

abbrev pub denial_in : Message → Option Decision
denial_in (Denied d) = Some d
denial_in _ = None

abbrev pub refusal : ℕ → List ℕ → Option Decision → List Line
refusal n user None = []
refusal n user (Some d) = Refused n user d ∷ []

-- an event empties its session's echo line first, and ends what it plays where something is denied: what stands there is its own denial
abbrev pub refused_in : ℕ → Option Session → List Line
refused_in n None = []
refused_in n (Some x) = refusal n x.user (denial_in x.state.echo)

-- it was open before, and is not any more
abbrev pub left_in : ℕ → Option Session → Option Session → List Line
left_in n (Some x) None = Left n x.user ∷ []
left_in n _ _ = []

abbrev pub ruled_in : ℕ → List ℕ → List Effect → List Line
ruled_in n user effects = map (Ruled n user) (flat_map told effects)

abbrev pub lines_of : World → ℕ → Event → List Line
lines_of w n (Open id user rows cols) = cond (can_open w id user rows cols) (Came n user ∷ []) []
lines_of w n (Byte id byte stored stop) =
    let before = find_session id w.sessions in
    let after = find_session id (step w (Byte id byte stored stop)).sessions in
    ruled_in n (user_of before) (event_effects w (Byte id byte stored stop)) ++ (refused_in n after ++ left_in n before after)
lines_of w n (Close id) = left_in n (find_session id w.sessions) None

-- the lines of a run whose first event has this number
abbrev pub audit : World → ℕ → List Event → List Line
audit w n [] = []
audit w n (e ∷ es) = lines_of w n e ++ audit (step w e) (suc n) es

-- RIGHTS: all that decides who may do what with a buffer, beside the directory

abbrev pub are_of : List ℕ → Rules → Bool
are_of name r = same_name name r.name

abbrev pub rights_after : Effect → List Rules → List Rules
rights_after (SetList name entries) all = change_first (are_of name) (λ r. record r { entries = entries }) all
rights_after (SetOwners name new) all = change_first (are_of name) (λ r. record r { owners = owners_after new r.owners }) all
rights_after (Create name owner) all = all ++ rules_of (new_buffer name owner) ∷ []
rights_after (Kill name) all = remove_first (are_of name) all
rights_after _ all = all

abbrev pub told_by : Line → List Rules → List Rules
told_by (Ruled n user effect) all = rights_after effect all
told_by _ all = all

-- what lines, one after another, tell of rights
abbrev pub rights_told : List Line → List Rules → List Rules
rights_told [] all = all
rights_told (l ∷ ls) all = rights_told ls (told_by l all)

-- THE LAWS

abbrev pub AreAsTold : Type 0
AreAsTold = (w : World) (n : ℕ) (es : List Event) → map rules_of (run w es).buffers ≡ rights_told (audit w n es) (map rules_of w.buffers)

abbrev pub TellsOn : Type 0
TellsOn = (w : World) (n : ℕ) (es fs : List Event) → audit w n (es ++ fs) ≡ audit w n es ++ audit (run w es) (n + length es) fs
