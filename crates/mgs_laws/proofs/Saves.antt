-- What saves: save-buffer alone.
use Rattle.std.proofs.Common.{◌≡◌, ℕ, Bool, false, List, [], ◌∷◌, ◌++◌, map, Option, Some, None, refl, sym, ap, ◌∙◌, append-nil, append_assoc}
use Rattle.std.proofs.lemmas.Grind.{flat_map-append}
use Rattle.std.specs.List.{flat_map}
use Rattle.std.specs.Option.{option_map}
use Rattle.mgs_model.specs.World.{World}
use Rattle.mgs_model.specs.View.{View, view_of}
use Rattle.mgs_model.specs.Outcome.{Act}
use Rattle.mgs_model.specs.Acts.{outcome}
use Rattle.mgs_model.specs.Events.{Event, Close, Saved, act_effects, effect_in, event_effects, event_saves, run, run_effects, run_saves, saved_by, step}
pub use Rattle.mgs_laws.proofs.Outcomes.{is_save}
use Rattle.mgs_laws.proofs.Outcomes.{outcome_holds}

-- what else a session does saves nothing
pub act_saves_none : (w : World) (id : ℕ) (c : Act) (stored : Bool) → is_save c ≡ false → flat_map saved_by (act_effects w id c stored) ≡ []
act_saves_none w id c stored h = by (view_of w id)
  where
    by : (o : Option View) → flat_map saved_by (effect_in (option_map (λ v. outcome v c stored) o)) ≡ []
    by None = refl
    by (Some v) = append-nil (saved_by (outcome v c stored).effect) ∙ (outcome_holds v c stored).saved h

-- RUNS

-- what a run saves is what its events save
pub saves_next : (w : World) (e : Event) (es : List Event) → run_saves w (e ∷ es) ≡ event_saves w e ++ run_saves (step w e) es
saves_next w e es = flat_map-append saved_by (event_effects w e) (run_effects (step w e) es)

pub saves_behind : (w : World) (es fs : List Event) → run_saves w (es ++ fs) ≡ run_saves w es ++ run_saves (run w es) fs
saves_behind w [] fs = refl
saves_behind w (e ∷ es) fs =
    saves_next w e (es ++ fs)
    ∙ ap (λ (xs : List Saved). event_saves w e ++ xs) (saves_behind (step w e) es fs)
    ∙ sym (append_assoc (event_saves w e) (run_saves (step w e) es) (run_saves (run (step w e) es) fs))
    ∙ ap (λ (xs : List Saved). xs ++ run_saves (run (step w e) es) fs) (sym (saves_next w e es))

-- sessions that close save nothing
pub closes_save_none : (w : World) (ids : List ℕ) → run_saves w (map (λ i. Close i) ids) ≡ []
closes_save_none w [] = refl
closes_save_none w (i ∷ ids) = closes_save_none (step w (Close i)) ids
