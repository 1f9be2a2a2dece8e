-- WHAT CALLS DO to what an engine serves, and those that ended are told.
use Rattle.std.specs.Prelude.{◌≡◌, List, [], ◌∷◌}
use Rattle.mgs_births.specs.Reports.{run_reports}
use Rattle.mgs_births.specs.Telling.{Tells}
use Rattle.mgs_model.specs.Events.{Event, run}
use Rattle.mgs_wire.specs.Calls.{Call, Open, Refuse, Byte, Close, Took}
use Rattle.mgs_engine.specs.declared.tape.Answer.{Answer}
use Rattle.mgs_engine.specs.declared.tape.Answer.TheVariants as answers
use Rattle.mgs_engine.specs.Drives.{Asked, Opens, Types, Closes, Takes}
use Rattle.mgs_engine.specs.Driven.{HaveEvents}
use Rattle.mgs_engine.specs.Serving.{Serving}

-- what was asked by calls; a login that was refused asked nothing
abbrev pub asked_by : List Call → List Asked
asked_by [] = []
asked_by (Open user rows cols answer ∷ calls) = Opens user rows cols ∷ asked_by calls
asked_by (Refuse name cause ∷ calls) = asked_by calls
asked_by (Byte id byte answer ∷ calls) = Types id byte ∷ asked_by calls
asked_by (Close id ∷ calls) = Closes id ∷ asked_by calls
asked_by (Took id n ∷ calls) = Takes id n ∷ asked_by calls

-- and what the answers to that were
abbrev pub answers_of : List Call → List Answer
answers_of [] = []
answers_of (Open user rows cols answer ∷ calls) = answers.Open answer ∷ answers_of calls
answers_of (Refuse name cause ∷ calls) = answers_of calls
answers_of (Byte id byte answer ∷ calls) = answers.Byte answer ∷ answers_of calls
answers_of (Close id ∷ calls) = answers.Close ∷ answers_of calls
answers_of (Took id n ∷ calls) = answers.Took n ∷ answers_of calls

-- The world is that of the events of the calls, the store accepted what these save, the buffers that they make and kill are recorded, and
-- their deeds and what was denied are on the tape. Of a byte, the store's answer, the number of acts for which there was memory and the sessions that fell behind are those with which it was handled.
pub record RanBy (old : Serving) (asked : List Asked) (answered : List Answer) (served new : Serving) : Type 0 where
  pub events : List Event
  pub each : HaveEvents old asked answered served events
  pub world : new.world ≡ run old.world events
  pub tells : Tells (run_reports old.world events) old.store new.store

-- so of the events of these calls
abbrev pub Ran : Serving → List Call → Serving → Serving → Type 0
Ran old calls served new = RanBy old (asked_by calls) (answers_of calls) served new

-- each that ended was told, and nothing else changed
abbrev pub HasTold : Serving → Serving → Type 0
HasTold old new = new ≡ record old { ended = [] }
