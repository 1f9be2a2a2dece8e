-- How the program ends.
use Rattle.std.specs.Prelude.{◌≡◌, ◌≢◌, ℕ, List, Option}
use Rattle.mgs_command.specs.declared.preparation.Work.{Work}
use Rattle.mgs_command.specs.declared.preparation.Work.TheVariants.{Replay, Serve}
use Rattle.mgs_program.specs.Replays.{Replays}

-- a replay ends by its status, and serving never well
abbrev pub EndsBy : Work → Option (List ℕ) → Option (List ℕ) → Option (List ℕ) → Option (List ℕ) → ℕ → Type 0
EndsBy Replay left rest old new ending = Replays left rest old new ending
EndsBy (Serve config port) left rest old new ending = ending ≢ 0

-- the program ends well only where a script was replayed, all of it
abbrev pub EndsWell : Option (List ℕ) → Option (List ℕ) → Option (List ℕ) → Option (List ℕ) → ℕ → Type 0
EndsWell left rest old new ending = ending ≡ 0 → Replays left rest old new ending
