-- What events come to, one after another: of any list of calls (Driven), and of a server's turn.
use Rattle.std.proofs.Common.{◌≡◌, ℕ, List, [], ◌∷◌, ◌++◌, map, refl, sym, ap, subst, ◌∙◌, append-nil, append_assoc}
use Rattle.mgs_births.specs.Reports.{Report, event_reports, run_reports}
use Rattle.mgs_births.specs.Telling.{StoreTold, Tells}
use Rattle.mgs_births.proofs.Tells.{tells_none, tells_twice}
use Rattle.mgs_model.specs.Events.{Event, Close, run, step}
use Rattle.mgs_model.specs.World.{World}
use Rattle.mgs_engine.specs.declared.session_end.Cause.{Cause}
use Rattle.mgs_engine.specs.Serving.{Serving, all_ended_by, ended_by}

pub run-append : (w : World) (es fs : List Event) → run w (es ++ fs) ≡ run (run w es) fs
run-append w [] fs = refl
run-append w (e ∷ es) fs = run-append (step w e) es fs

-- ends leave the store
pub store_left : (cause : Cause) (ids : List ℕ) (s : Serving) → (all_ended_by cause ids s).store ≡ s.store
store_left cause [] s = refl
store_left cause (id ∷ ids) s = store_left cause ids (ended_by cause id s)

-- WHAT RUNS DO

closes_report_nothing : (w : World) (ids : List ℕ) → run_reports w (map (λ i. Close i) ids) ≡ []
closes_report_nothing w [] = refl
closes_report_nothing w (id ∷ ids) = closes_report_nothing (step w (Close id)) ids

-- an event, and closes after it
pub reports_first : (w : World) (e : Event) (ids : List ℕ) → run_reports w (e ∷ map (λ i. Close i) ids) ≡ event_reports w e
reports_first w e ids = ap (λ (es : List Report). event_reports w e ++ es) (closes_report_nothing (step w e) ids) ∙ append-nil (event_reports w e)

pub reports_behind : (w : World) (es fs : List Event) → run_reports w (es ++ fs) ≡ run_reports w es ++ run_reports (run w es) fs
reports_behind w [] fs = refl
reports_behind w (e ∷ es) fs =
    ap (λ (xs : List Report). event_reports w e ++ xs) (reports_behind (step w e) es fs)
    ∙ sym (append_assoc (event_reports w e) (run_reports (step w e) es) (run_reports (run (step w e) es) fs))

-- WHAT IS TOLD OF RUNS

-- nothing, where the store stays
pub stays_told : (s t : StoreTold) → t ≡ s → Tells [] s t
stays_told s t same = subst (λ (u : StoreTold). Tells [] s u) (sym same) (tells_none s)

-- of an event, and closes after it
pub told_first : (w : World) (e : Event) (ids : List ℕ) (s t u : StoreTold) → u ≡ t → Tells (event_reports w e) s t → Tells (run_reports w (e ∷ map (λ i. Close i) ids)) s u
told_first w e ids s t u same told =
    subst (λ (xs : List Report). Tells xs s u) (sym (reports_first w e ids)) (subst (λ (v : StoreTold). Tells (event_reports w e) s v) (sym same) told)

-- of some events, and others after them
pub told_behind : (w v : World) (es fs : List Event) (s t u : StoreTold) → v ≡ run w es → Tells (run_reports w es) s t → Tells (run_reports v fs) t u → Tells (run_reports w (es ++ fs)) s u
told_behind w v es fs s t u leads first rest =
    subst (λ (xs : List Report). Tells xs s u) (sym (reports_behind w es fs))
    (tells_twice (run_reports w es) (run_reports (run w es) fs) s t u first (subst (λ (x : World). Tells (run_reports x fs) t u) leads rest))
