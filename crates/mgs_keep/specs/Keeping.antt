-- A server of whose buffers a journal keeps by what access they may be shown.
use Rattle.std.specs.Str.{encode_utf8_all}
use Rattle.std.specs.Prelude.{◌≡◌, ◌⊎◌, ◌<◌, ℕ, ℤ, pos, Bool, true, false, cond, List, [], ◌∷◌, ◌++◌, map, find, length, slice_get, get_or, Option, Some, None, Ok, Err, if◌then◌else◌}
use Rattle.mgs_model.specs.Names.{is_name}
use Rattle.mgs_model.specs.Access.{is_among}
use Rattle.mgs_model.specs.World.{Buffer, find_session, is_named}
use Rattle.mgs_laws.specs.Apart.{Rules, rules_in}
use Rattle.mgs_keys.specs.Words.{◌>>=◌, utf8_of}
use Rattle.mgs_core.specs.Calls.{user_in}
use Rattle.mgs_wire.specs.Calls.{Call, Open, Refuse, Byte, Close, Took}
use Rattle.mgs_wire.specs.Login.{refusal_of}
use Rattle.mgs_wire.specs.declared.refusal.Refusal.{Refusal}
use Rattle.mgs_engine.specs.Does.{Does}
use Rattle.mgs_engine.specs.Running.{Ran}
use Rattle.mgs_engine.specs.Serving.{Serving, is_to_tell, pending_of}
use Rattle.mgs_births.specs.Births.{Births, number_of}
use Rattle.mgs_births.specs.Tapes.{Tape, blank_tape}
use Rattle.mgs_births.specs.declared.deed.Deed.{Deed}
use Rattle.mgs_births.specs.declared.deed.Deed.TheVariants as deeds
use Rattle.mgs_births.specs.declared.tape.TheConstants.{DEED_LIMIT}
use Rattle.mgs_journal.specs.Acts.{Act, Alter, Put, Tell, Tick, AreDone}
use Rattle.mgs_journal.specs.Rows.{KeptRights}
use Rattle.mgs_journal.specs.Texts.{KeptText}
use Rattle.mgs_journal.specs.declared.change.Change.{Change}
use Rattle.mgs_journal.specs.declared.Told.{Told}
use Rattle.mgs_journal.specs.declared.Told.TheVariants.{Came, Refused, RefusedUnnamed, Denied, Saved, Crowded}
use Rattle.mgs_keep.specs.Differences.{AreDifferences}
use Rattle.mgs_keep.specs.Ends.{AreNoted, ends_told, listed, noted_after, noted_left}
use Rattle.mgs_keep.specs.Sums.{sum_of}
use Rattle.mgs_keep.specs.declared.session_users.Noted.{Noted}

-- what is served, whose the sessions are whose end is to be told, the journal, and whether it failed
pub record Held (J : Type 0) : Type 0 where
  pub serving : Serving
  pub users : List Noted
  pub journal : J
  pub failed : Bool

abbrev pub held : {J : Type 0} → Serving → List Noted → J → Bool → Held J
held s users j failed = record { serving = s; users = users; journal = j; failed = failed }

-- what a journal is to keep of a buffer's rights: with them its birth number
abbrev pub row_of : Births → Rules → KeptRights
row_of births r = record { rules = r; birth = number_of r.name births }

abbrev pub rows_in : Serving → List KeptRights
rows_in s = map (row_of s.store.births) (rules_in s.world.buffers)

-- THE JOURNAL KEEPS by what access each buffer is decided, and which buffer it is
abbrev pub AreKept : {J : Type 0} → (J → List KeptRights) → Serving → J → Type 0
AreKept rows s j = rows j ≡ rows_in s

-- the bytes that may be handed to a terminal: none once the journal failed
abbrev pub shown : {J : Type 0} → ℕ → Held J → List ℕ
shown id s = cond s.failed [] (pending_of id s.serving)

-- a session that ended and is to be told, as long as the journal did not fail
abbrev pub is_shown_end : {J : Type 0} → ℕ → Held J → Bool
is_shown_end id s = cond s.failed false (is_to_tell id s.serving)

-- BYTES ARE SHOWN only where the journal did not fail and keeps by what access is decided
abbrev pub ShowsKept : {J : Type 0} → (J → List KeptRights) → Held J → List ℕ → Type 0
ShowsKept rows s bytes = (bytes ≡ []) ⊎ (AreKept rows s.serving s.journal × (s.failed ≡ false))

-- WHAT IS TOLD OF A CALL

abbrev pub came : Option (List ℕ) → Option Told
came None = None
came (Some user) = Some (Came user)

-- the name that a text is, if it is one
abbrev pub name_in_text : List ℕ → Option (List ℕ)
name_in_text text = if is_name text then Some text else None

abbrev pub name_in_bytes : List ℕ → Option (List ℕ)
name_in_bytes bytes = utf8_of bytes >>= name_in_text

-- the name, if one of these users has it: what was typed in the place of a name can be a ticket
abbrev pub user_among : List (List ℕ) → Option (List ℕ) → Option (List ℕ)
user_among users None = None
user_among users (Some name) = if is_among name users then Some name else None

abbrev pub refused : Option (List ℕ) → Refusal → Told
refused None cause = RefusedUnnamed cause
refused (Some name) cause = Refused name cause

-- a deed is told if something was denied, at which buffer and by what, or if a buffer was saved
abbrev pub deed_told : List ℕ → Deed → Option Told
deed_told user (deeds.Denied buffer d) = Some (Denied user buffer d)
deed_told user (deeds.Saved buffer) = Some (Saved user buffer)
deed_told user _ = None

abbrev pub all_told : List ℕ → List Deed → List Told
all_told user [] = []
all_told user (d ∷ ds) = listed (deed_told user d) ++ all_told user ds

-- the deeds of a user's event, in their order; or that there were more than the tape has room for
abbrev pub event_told : Option (List ℕ) → Option (List Deed) → List Told
event_told None ds = []
event_told (Some user) None = Crowded user ∷ []
event_told (Some user) (Some ds) = all_told user ds

-- of a byte, by the deeds of its acts alone
abbrev pub told_of : Option (List ℕ) → Call → Serving → List Told
told_of by (Open user rows cols (Ok id)) new = listed (came (user_in (find_session id new.world.sessions)))
told_of by (Open user rows cols (Err fault)) new = refused (user_among new.world.directory.users (name_in_text user)) (refusal_of fault) ∷ []
told_of by (Refuse name cause) new = refused (user_among new.world.directory.users (name_in_bytes name)) cause ∷ []
told_of by (Byte id byte answer) new = event_told by new.store.tape.deeds
told_of by (Close id) new = []
told_of by (Took id n) new = []

-- whose event it is
abbrev pub user_by : Call → Serving → Option (List ℕ)
user_by (Byte id byte answer) old = user_in (find_session id old.world.sessions)
user_by _ old = None

-- WHAT A JOURNAL WAS ASKED FOR

-- changes are asked for in one act, if there are any
abbrev pub altered : Option (List ℕ) → List Change → List Act
altered user [] = []
altered user (c ∷ cs) = Alter user (c ∷ cs) ∷ []

-- for the changes that make its rows those of the buffers, and no others, by this user and in one act
pub record HasChanged {J : Type 0} (rows : J → List KeptRights) (does : J → Act → J → Type 0) (user : Option (List ℕ)) (s : Serving) (old new : J) : Type 0 where
  pub changes : List Change
  pub each : AreDifferences 0 (rows_in s) (rows old) changes
  pub done : AreDone does (altered user changes) old new

-- it was told these, one after another
abbrev pub WereTold : {J : Type 0} → (J → Act → J → Type 0) → List Told → J → J → Type 0
WereTold does told old new = AreDone does (map Tell told) old new

-- the checksum of its file's text that is kept with a text: that of the text itself if the buffer is as its file is, else the one before
abbrev pub sum_before : Option KeptText → ℤ
sum_before None = pos 0
sum_before (Some t) = t.file

abbrev pub file_sum : Bool → List ℕ → Option KeptText → ℤ
file_sum modified text before = cond modified (sum_before before) (sum_of text)

-- what is kept of a text is all of a buffer's as it stands, as UTF-8, whether that is modified, and the checksum of its file's text
abbrev pub IsOf : Option Buffer → Option KeptText → KeptText → Type 0
IsOf None before text = ⊥
IsOf (Some b) before text = (text.body ≡ encode_utf8_all b.text) × (text.modified ≡ b.modified) × (text.file ≡ file_sum b.modified b.text before)

-- so of the buffer that has the name of the one at an index
abbrev pub IsAt : Option Rules → List Buffer → Option KeptText → KeptText → Type 0
IsAt None buffers before text = ⊥
IsAt (Some r) buffers before text = IsOf (find (is_named r.name) buffers) before text

abbrev pub IsSnapshot : {J : Type 0} → (J → List (Option KeptText)) → Serving → J → Act → Type 0
IsSnapshot texts s j (Put place text) = IsAt (slice_get (rules_in s.world.buffers) place) s.world.buffers (get_or (texts j) place None) text
IsSnapshot texts s j _ = ⊥

-- texts of buffers are kept as they stand, one after another
abbrev pub ArePut : {J : Type 0} → (J → List (Option KeptText)) → (J → Act → J → Type 0) → Serving → List Act → J → J → Type 0
ArePut texts does s [] old new = new ≡ old
ArePut {J = J} texts does s (a ∷ acts) old new = (mid : J) × IsSnapshot texts s old a × does old a mid × ArePut texts does s acts mid new

pub record HasPut {J : Type 0} (texts : J → List (Option KeptText)) (does : J → Act → J → Type 0) (s : Serving) (old new : J) : Type 0 where
  pub acts : List Act
  pub done : ArePut texts does s acts old new

-- for the changes that make its rows those of the buffers, in one act by this user, then it was told these, then for keeping texts as they
-- stand, and for nothing else
pub record Asked {J : Type 0} (rows : J → List KeptRights) (texts : J → List (Option KeptText)) (does : J → Act → J → Type 0) (user : Option (List ℕ)) (told : List Told)
    (s : Serving) (old new : J) : Type 0 where
  pub changes : List Change
  pub each : AreDifferences 0 (rows_in s) (rows old) changes
  pub mid : J
  pub done : AreDone does (altered user changes ++ map Tell told) old mid
  pub put : HasPut texts does s mid new

-- It took what it was asked for, or it failed: then it did not take the last of it. One that failed before is asked for nothing.
pub record OrFails {J : Type 0} (fails : J → J → Type 0) (does : J → J → Type 0) (before : Bool) (old : J) (after : Bool) (new : J) : Type 0 where
  pub done : after ≡ false → does old new
  pub failed : before ≡ false → after ≡ true → (mid : J) × fails mid new
  pub stays : before ≡ true → (after ≡ true) × (new ≡ old)

-- It did not take what it was asked for, or nothing was asked of it since there are more than 256 buffers or rows: no server has so many.
abbrev pub FailsOrCrowds : {J : Type 0} → (J → J → Type 0) → (J → List KeptRights) → List KeptRights → J → J → Type 0
FailsOrCrowds fails rows now old new = fails old new ⊎ ((new ≡ old) × ((256 < length now) ⊎ (256 < length (rows old))))

-- DEEDS: each byte records its own on a tape that was cleared, and no other call clears it

-- what is served, with this tape in the place of its own
abbrev pub with_tape : Tape → Serving → Serving
with_tape t s = record s { store = record s.store { tape = t } }

-- from now on deeds are recorded
abbrev pub recording : Serving → Serving
recording s = with_tape (blank_tape DEED_LIMIT) s

-- those that were recorded go
abbrev pub cleared : Serving → Serving
cleared s = with_tape (blank_tape s.store.tape.room) s

abbrev pub DoesCleared : Serving → Call → Serving → Type 0
DoesCleared old (Byte id byte answer) new = Does (cleared old) (Byte id byte answer) new
DoesCleared old call new = Does old call new

-- A CALL: the server does it, and whose the session is that it opened is noted. Unless the journal failed it keeps by what access is
-- decided from then on, and was asked for the changes that are the doing of the call's user, and told of the call.
pub record Keeps {J : Type 0} (rows : J → List KeptRights) (texts : J → List (Option KeptText)) (does : J → Act → J → Type 0) (fails : J → J → Type 0)
    (old : Held J) (call : Call) (new : Held J) : Type 0 where
  pub done : DoesCleared old.serving call new.serving
  pub users : new.users ≡ noted_after call new.serving old.users
  pub noted : AreNoted old.serving old.users → AreNoted new.serving new.users
  pub kept : new.failed ≡ false → AreKept rows new.serving new.journal
  pub journal : OrFails (FailsOrCrowds fails rows (rows_in new.serving)) (Asked rows texts does (user_by call old.serving) (told_of (user_by call old.serving) call new.serving) new.serving) old.failed old.journal new.failed new.journal

-- it was told of these ends, then to keep texts as they stand, and then what it gathered for long enough
abbrev pub EndsTold : {J : Type 0} → (J → List (Option KeptText)) → (J → Act → J → Type 0) → List Told → Serving → J → J → Type 0
EndsTold {J = J} texts does ends s old new = (told mid : J) × WereTold does ends old told × HasPut texts does s told mid × AreDone does (Tick ∷ []) mid new

-- EACH THAT ENDED WAS TOLD: the journal of each whose it was and why, where those that are open or to be told were noted
pub record HasTold {J : Type 0} (rows : J → List KeptRights) (texts : J → List (Option KeptText)) (does : J → Act → J → Type 0) (fails : J → J → Type 0) (old new : Held J) : Type 0 where
  pub served : new.serving ≡ record old.serving { ended = [] }
  pub users : new.users ≡ noted_left old.users old.serving.ended
  pub noted : AreNoted old.serving old.users → AreNoted new.serving new.users
  pub each : AreNoted old.serving old.users → length (ends_told old.users old.serving.ended) ≡ length old.serving.ended
  pub kept : new.failed ≡ false → AreKept rows new.serving new.journal
  pub journal : OrFails fails (EndsTold texts does (ends_told old.users old.serving.ended) new.serving) old.failed old.journal new.failed new.journal

-- What calls lead to is what the server ran, but for the tape, which each byte clears: whatever tape it is that no byte clears, the calls put
-- the deeds of all of them on it.
pub record HasRun {J : Type 0} (first : Held J) (calls : List Call) (mid new : Held J) : Type 0 where
  pub over : (before : Tape) → (after : Tape) × Ran (with_tape before first.serving) calls (with_tape after mid.serving) (with_tape after new.serving)
