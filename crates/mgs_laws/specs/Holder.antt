-- HOLDER: a kill stays its holder's.
use Rattle.std.specs.Prelude.{◌≡◌, ℕ, ◌==◌, Bool, true, false, List, [], ◌∷◌, Option}
use Rattle.std.specs.Option.{option_map}
use Rattle.mgs_model.specs.World.{World, Session, find_session}
use Rattle.mgs_model.specs.Outcome.{Act, Effect, SetList, SetOwners, Create, Kill}
use Rattle.mgs_model.specs.Apply.{act}
use Rattle.mgs_model.specs.Events.{Event, Open, Byte, Close, act_effects, run}

-- the kill buffer of the session of that id, where it is open
abbrev pub kill_of : Option Session → Option (List ℕ)
kill_of o = option_map (λ (x : Session). x.kill) o

abbrev pub kill_in : World → ℕ → Option (List ℕ)
kill_in w id = kill_of (find_session id w.sessions)

-- the session whose event it is
abbrev pub session_in : Event → ℕ
session_in (Open id user rows cols) = id
session_in (Byte id byte stored stop) = id
session_in (Close id) = id

-- none of the events is that session's
abbrev pub AllOthers : ℕ → List Event → Type 0
AllOthers id [] = Unit {0}
AllOthers id (e ∷ es) = ((session_in e == id) ≡ false) × AllOthers id es

-- whatever other sessions do, a session's kill buffer stays as it is
abbrev pub KillStays : Type 0
KillStays = (w : World) (id : ℕ) (es : List Event) → AllOthers id es → kill_in (run w es) id ≡ kill_in w id

-- a change of an access list, of an owner or of an owning group, a new buffer, or the end of one
abbrev pub is_rule : Effect → Bool
is_rule (SetList name entries) = true
is_rule (SetOwners name new) = true
is_rule (Create name owner) = true
is_rule (Kill name) = true
is_rule _ = false

-- an act with such an effect changes no kill buffer, that of the acting session neither
abbrev pub RulesKeepKills : Type 0
RulesKeepKills =
    (w : World) (id : ℕ) (c : Act) (stored : Bool) (e : Effect) → act_effects w id c stored ≡ e ∷ [] → is_rule e ≡ true →
    (holder : ℕ) → kill_in (act w id c stored) holder ≡ kill_in w holder
