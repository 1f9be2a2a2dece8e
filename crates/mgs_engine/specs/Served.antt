-- The screens of the open sessions, beside the world that they show.
use Rattle.std.specs.Prelude.{◌≡◌, ℕ, ◌+◌, ◌≤◌, false, List, map, length, All}
use Rattle.mgs_world.specs.Worlds.{sizes, IsUnique}
use Rattle.mgs_model.specs.World.{World}
use Rattle.mgs_core.specs.Kept.{Kept}
use Rattle.mgs_model.specs.declared.limits.TheConstants.{SESSION_LIMIT}
use Rattle.mgs_engine.specs.declared.session_end.Cause.{Cause}
use Rattle.mgs_engine.specs.declared.session_screen.Screen.{Screen}
use Rattle.mgs_engine.specs.declared.session_end.Cause.TheVariants.{Slow}
use Rattle.mgs_engine.specs.Screens.{late_ids, IsDrawn, IsOnTime, IsSessionScreen, queues_of, shown_size}
use Rattle.mgs_engine.specs.Serving.{Serving, all_ended_by}

abbrev pub serving_of : Kept → List Screen → List (ℕ × Cause) → Serving
serving_of core xs ended = record { world = core.world; store = core.store; queues = queues_of xs; ended = ended }

-- the same once the sessions whose screens are late have ended
abbrev pub late_ended : Kept → List Screen → List (ℕ × Cause) → Serving
late_ended core xs ended = all_ended_by Slow (late_ids xs) (serving_of core xs ended)

-- there is a screen for each open session, in their order, and it is the one that the world has for the session
pub record IsServed (world : World) (xs : List Screen) : Type 0 where
  pub sizes_are : map shown_size xs ≡ sizes world
  pub unique : IsUnique (sizes world)
  pub each : All IsSessionScreen xs
  pub drawn : All (IsDrawn world) xs
  pub on_time : All IsOnTime xs

-- the same within an event, but for the screens that are late
abbrev pub IsDrawnInTime : World → Screen → Type 0
IsDrawnInTime w x = x.late ≡ false → IsDrawn w x

pub record IsServedInTime (world : World) (xs : List Screen) : Type 0 where
  pub sizes_are : map shown_size xs ≡ sizes world
  pub unique : IsUnique (sizes world)
  pub each : All IsSessionScreen xs
  pub drawn : All (IsDrawnInTime world) xs

-- What ended has a place for each session that is open, and for 64 at least. The screens have as many places, so that neither list ever
-- grows.
pub record HasSlots (xs : List Screen) (ended : List (ℕ × Cause)) (room capacity : ℕ) : Type 0 where
  pub limit : SESSION_LIMIT ≤ capacity
  pub each : length xs + length ended ≤ capacity
  pub same : room ≡ capacity
