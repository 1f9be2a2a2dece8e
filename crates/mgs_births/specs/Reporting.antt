-- That the effects of an event and of a run are those that their reports have.
use Rattle.std.specs.Prelude.{◌≡◌, List}
use Rattle.mgs_model.specs.World.{World}
use Rattle.mgs_model.specs.Events.{Event, event_effects, run_effects}
use Rattle.mgs_births.specs.Reports.{effects_in, event_reports, run_reports}

abbrev pub EffectsAreReported : Type 0
EffectsAreReported = (w : World) (e : Event) → effects_in (event_reports w e) ≡ event_effects w e

abbrev pub RunsAreReported : Type 0
RunsAreReported = (w : World) (es : List Event) → effects_in (run_reports w es) ≡ run_effects w es
