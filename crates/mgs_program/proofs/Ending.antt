-- How the program ends.
use Rattle.std.proofs.Common.{ℕ, List, Option}
use Rattle.std.specs.Prelude.{◌≢◌}
use Rattle.mgs_command.specs.declared.preparation.Work.{Work}
use Rattle.mgs_command.specs.declared.preparation.Work.TheVariants.{Replay, Serve}
use Rattle.mgs_program.specs.Endings.{EndsBy, EndsWell}

-- what was done ends well only as a replay
pub ended_by : (work : Work) (left rest old new : Option (List ℕ)) (ending : ℕ) → EndsBy work left rest old new ending → EndsWell left rest old new ending
ended_by Replay left rest old new ending by = λ well. by
ended_by (Serve config port) left rest old new ending by = λ well. absurd (by well)

-- what is refused does not end well
pub not_done : (left rest old new : Option (List ℕ)) (ending : ℕ) → ending ≢ 0 → EndsWell left rest old new ending
not_done left rest old new ending refused = λ well. absurd (refused well)
