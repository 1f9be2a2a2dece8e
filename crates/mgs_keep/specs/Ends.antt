-- WHOSE SESSIONS ARE, and what is told when they end.
use Rattle.std.specs.Prelude.{◌≡◌, ℕ, ◌==◌, Bool, true, cond, nat_lt, List, [], ◌∷◌, ◌++◌, All, map, filter, find, length, is_some, Option, Some, None, Ok}
use Rattle.std.specs.Option.{option_map}
use Rattle.mgs_model.specs.Apply.{remove_first}
use Rattle.mgs_model.specs.World.{find_session}
use Rattle.mgs_model.specs.declared.limits.TheConstants.{SESSION_LIMIT}
use Rattle.mgs_core.specs.Calls.{user_in}
use Rattle.mgs_wire.specs.Calls.{Call, Open}
use Rattle.mgs_engine.specs.Serving.{Serving, queue_ids}
use Rattle.mgs_engine.specs.declared.session_end.Cause.{Cause}
use Rattle.mgs_engine.specs.declared.session_end.Cause.TheVariants as causes
use Rattle.mgs_journal.specs.declared.Told.{Told}
use Rattle.mgs_journal.specs.declared.Told.TheVariants.{Quit, Closed, FellBehind}
use Rattle.mgs_keep.specs.declared.session_users.Noted.{Noted}

abbrev pub is_noted : ℕ → Noted → Bool
is_noted id x = x.id == id

-- a session is of this user; past 64 it is not noted
abbrev pub noted : ℕ → Option (List ℕ) → List Noted → List Noted
noted id user users = cond (nat_lt (length users) SESSION_LIMIT) (users ++ record { id = id; user = user } ∷ []) users

-- a call notes whose the session is that it opened
abbrev pub noted_after : Call → Serving → List Noted → List Noted
noted_after (Open user rows cols (Ok id)) new users = noted id (user_in (find_session id new.world.sessions)) users
noted_after _ new users = users

abbrev pub end_of : List ℕ → Cause → Told
end_of user causes.Quit = Quit user
end_of user causes.Closed = Closed user
end_of user causes.Slow = FellBehind user

-- nothing is told of a session that was not noted
abbrev pub end_noted : Option Noted → Cause → Option Told
end_noted None cause = None
end_noted (Some x) cause = option_map (λ user. end_of user cause) x.user

abbrev pub listed : {A : Type 0} → Option A → List A
listed None = []
listed (Some a) = a ∷ []

-- what is told of those that ended, in their order: whose each was, and why it ended
abbrev pub ends_told : List Noted → List (ℕ × Cause) → List Told
ends_told users [] = []
ends_told users (e ∷ es) = listed (end_noted (find (is_noted e.0) users) e.1) ++ ends_told (remove_first (is_noted e.0) users) es

-- and they are forgotten by that
abbrev pub noted_left : List Noted → List (ℕ × Cause) → List Noted
noted_left users [] = users
noted_left users (e ∷ es) = noted_left (remove_first (is_noted e.0) users) es

-- the sessions that are open, and those that ended and are to be told
abbrev pub ids_due : Serving → List ℕ
ids_due s = queue_ids s ++ map (λ (e : ℕ × Cause). e.0) s.ended

abbrev pub noted_id : Noted → ℕ
noted_id x = x.id

-- so many of them pass a test
abbrev pub passing : (ℕ → Bool) → List ℕ → ℕ
passing p xs = length (filter p xs)

-- EACH IS NOTED that is open or is to be told, with a user, and no other: as many of both pass any test
pub record AreNoted (s : Serving) (users : List Noted) : Type 0 where
  pub each : (p : ℕ → Bool) → passing p (map noted_id users) ≡ passing p (ids_due s)
  pub named : All (λ (x : Noted). is_some x.user ≡ true) users
