-- What the store tells of an act, of one that saves and of one that does not.
use Rattle.std.proofs.Common.{◌≡◌, ℕ, true, [], map, Option, Some, sym, subst}
use Rattle.mgs_model.specs.World.{World}
use Rattle.mgs_model.specs.Outcome as outcomes
use Rattle.mgs_model.specs.Outcome.{Act}
use Rattle.mgs_model.specs.Apply.{act, outcome_in}
use Rattle.mgs_model.specs.Events.{act_effects, with_state}
use Rattle.mgs_model.specs.declared.errors.Keyed.{Keyed}
use Rattle.mgs_model.specs.declared.search.Direction.{Direction}
use Rattle.mgs_model.specs.declared.session.Command.TheVariants.{Seek}
use Rattle.mgs_model.specs.declared.session.Seeking.TheVariants.{StartSearch}
use Rattle.mgs_model.specs.declared.touched.Touched.{Touched}
use Rattle.mgs_model.specs.declared.touched.Touched.TheVariants.{Nowhere}
use Rattle.mgs_births.specs.Reports.{Did}
use Rattle.mgs_births.specs.Telling.{Tells}
use Rattle.mgs_core.proofs.Silent.{nowhere_told}
use Rattle.mgs_births.specs.Telling.{StoreTold}
use Rattle.mgs_plan.specs.declared.key_act.KeyAct.{KeyAct}
use Rattle.mgs_plan.specs.declared.key_act.KeyAct.TheVariants.{Run}
use Rattle.mgs_plan.specs.Actions.{act_of}
use Rattle.mgs_seek.specs.Beginning.{searching_state}
use Rattle.mgs_plan.specs.Tells.{touched_in}
use Rattle.mgs_plan.proofs.Quiet.{quiet_seeking}
use Rattle.mgs_core.specs.Kept.{Kept}
use Rattle.mgs_act.specs.Doing.{DoneBy}
use Rattle.mgs_core.specs.KeyActs.{started_by, started_world}
use Rattle.mgs_core.specs.Calls.{KeyedBy}

-- an act of which nothing is told leaves the store and the births
pub quietly : (touched : Touched) (old new : World) (t : StoreTold) (id : ℕ) (c : Act) → Tells (map Did (act_effects old id c true)) t t → new ≡ act old id c true → touched ≡ touched_in (outcome_in old id c true) → DoneBy touched old new t t id c
quietly touched old new t id c told world tells = record {
  acted = record { stored = true; world = world; fault = λ e. cc; tells = told };
  tells = tells;
}

-- one that touches nothing
pub nowhere_quietly : (old new : World) (t : StoreTold) (id : ℕ) (c : Act) → new ≡ act old id c true → Nowhere ≡ touched_in (outcome_in old id c true) → DoneBy Nowhere old new t t id c
nowhere_quietly old new t id c world tells = quietly Nowhere old new t id c (nowhere_told (outcome_in old id c true) t (sym tells)) world tells

-- a search that starts, whatever the argument of its act
pub started_quietly : (old new : World) (t : StoreTold) (id : ℕ) (a : KeyAct) (d : Direction) → started_by a ≡ Some d
    → ((m : Option ℕ) → new ≡ act (with_state id (searching_state d) old) id (outcomes.Run (Seek (StartSearch d)) m []) true) → DoneBy Nowhere (started_world (started_by a) id old) new t t id (act_of a)
started_quietly old new t id (Run (Seek (StartSearch e)) n) d is world =
    let same : e ≡ d = cc in
    let v : World = with_state id (searching_state d) old in
    rw same (nowhere_quietly v new t id (outcomes.Run (Seek (StartSearch d)) n []) (world n) (sym (quiet_seeking v id n [] true (StartSearch d))))
started_quietly old new t id _ d is world = cc

-- what is seen of a server
pub keyed_seen : (k l : Kept) (v : World) (t : StoreTold) (id byte : ℕ) (result : Keyed) → k ≡ l → KeyedBy k.world v k.store t id byte result → KeyedBy l.world v l.store t id byte result
keyed_seen k l v t id byte result e h = subst (λ (m : Kept). KeyedBy m.world v m.store t id byte result) e h
