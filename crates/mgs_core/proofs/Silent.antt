-- Acts of which nothing is told: they save nothing, make and kill no buffer, and are no deeds.
use Rattle.std.proofs.Common.{◌≡◌, ℕ, Bool, true, false, cond, List, [], ◌∷◌, ◌++◌, map, Option, Some, None, refl, subst, sym}
use Rattle.std.specs.Prelude.{Result, Ok, Err}
use Rattle.std.specs.Option.{option_map}
use Rattle.mgs_model.specs.Text.{is_edit}
use Rattle.mgs_model.specs.World.{World, State}
use Rattle.mgs_model.specs.View.{View, BufferSeen, serial_told, size_told, view_of}
use Rattle.mgs_model.specs.Outcome.{Act, Run, Outcome, Edit, No_effect, Quit, Keep_kill, Stay}
use Rattle.mgs_model.specs.Plans.{acted_state, setting}
use Rattle.mgs_model.specs.SearchCommands.{SearchChange}
use Rattle.mgs_model.specs.Acts.{Request, Target, allowed, edit_of, fails, is_full, judged, needs, outcome, permitted, replaced_by, replaces_one, search_finished, sets, target}
use Rattle.mgs_model.specs.Events.{act_effects, effect_in}
use Rattle.mgs_model.specs.declared.echo_text.Message.{Message}
use Rattle.mgs_model.specs.declared.echo_text.Message.TheVariants.{Says}
use Rattle.mgs_model.specs.declared.echo_text.Notice.TheVariants.{BufferFull, InMacro}
use Rattle.mgs_model.specs.declared.entry.Decision.{Decision}
use Rattle.mgs_model.specs.declared.entry.Decision.TheVariants.{Granted, DeniedBy, NotGranted}
use Rattle.mgs_model.specs.declared.session.Command.TheVariants.{Exit, Replace, Set}
use Rattle.mgs_model.specs.declared.session.Replacement.{Replacement}
use Rattle.mgs_model.specs.declared.session.Setting.TheVariants.{CallMacro}
use Rattle.mgs_model.specs.declared.touched.Touched.TheVariants.{Nowhere}
use Rattle.mgs_births.specs.Telling.{IsSilent, StoreTold, Tells}
use Rattle.mgs_births.specs.Reports.{Did, act_refusals, act_reports, refusals, refusals_in}
use Rattle.mgs_births.proofs.Reported.{denied_effects}
use Rattle.mgs_births.proofs.Tells.{tells_none, tells_quiet, tells_taped, tells_twice}
use Rattle.mgs_core.specs.Turns.{denied_after}
use Rattle.mgs_plan.specs.Tells.{touched_in}
use Rattle.mgs_act.proofs.Done.{nowhere_silent}

-- WHAT IS TOLD OF IT

-- by what it touched
pub nowhere_told : (o : Option Outcome) (t : StoreTold) → touched_in o ≡ Nowhere → Tells (map Did (effect_in o)) t t
nowhere_told None t is = tells_none t
nowhere_told (Some p) t is = tells_quiet t p.effect (nowhere_silent p.effect is)

-- or by the act
pub act_told : (w : World) (id : ℕ) (c : Act) (stored : Bool) (t : StoreTold) → ((v : View) → IsSilent (outcome v c stored).effect) → Tells (map Did (act_effects w id c stored)) t t
act_told w id c stored t silent = by (view_of w id)
  where
    by : (o : Option View) → Tells (map Did (effect_in (option_map (λ v. outcome v c stored) o))) t t
    by None = tells_none t
    by (Some v) = tells_quiet t (outcome v c stored).effect (silent v)

-- one that asks for no right, with what is denied to it
pub act_reported : (w : World) (id : ℕ) (c : Act) (stored : Bool) (t : StoreTold) → ((v : View) → IsSilent (outcome v c stored).effect) → ((v : View) → needs v c ≡ []) → Tells (act_reports w id c stored) t t
act_reported w id c stored t silent free = by (view_of w id)
  where
    by : (o : Option View) → Tells (map Did (effect_in (option_map (λ v. outcome v c stored) o)) ++ refusals_in o c) t t
    by None = tells_none t
    by (Some v) = subst (λ (rs : List Request). Tells (Did (outcome v c stored).effect ∷ refusals v rs) t t) (sym (free v)) (tells_quiet t (outcome v c stored).effect (silent v))

-- and one to which something may be denied
pub told_denied : (w : World) (id : ℕ) (c : Act) (stored : Bool) (before mid after : StoreTold) → Tells (map Did (act_effects w id c stored)) before mid → after ≡ denied_after w id c mid → Tells (act_reports w id c stored) before after
told_denied w id c stored before mid after told is =
    subst (λ (u : StoreTold). Tells (act_reports w id c stored) before u) (sym is)
    (tells_twice (map Did (act_effects w id c stored)) (act_refusals w id c) before mid (denied_after w id c mid) told
    (tells_taped mid (denied_after w id c mid) (act_refusals w id c) (denied_effects (view_of w id) c) refl refl refl))

-- ACTS

permitted_silent : (state : State) (d : Decision) (o : Outcome) → IsSilent o.effect → IsSilent (permitted state d o).effect
permitted_silent state Granted o s = s
permitted_silent state (DeniedBy n right) o s = record { saves = refl; births = λ b. refl; tape = λ t. refl }
permitted_silent state (NotGranted right) o s = record { saves = refl; births = λ b. refl; tape = λ t. refl }

pub exit_silent : (n : Option ℕ) (stored : Bool) (v : View) → IsSilent (outcome v (Run Exit n []) stored).effect
unfolding outcome
exit_silent n stored v = permitted_silent v.session.state (judged v (needs v (Run Exit n []))) (allowed v (Run Exit n []) stored)
    (elim v.session.state.playing as (λ b. IsSilent (let ends : Outcome = record { state = acted_state v.session.state; kill = Keep_kill; arrange = Stay; effect = Quit } in cond b (fails v.session.state (Says InMacro)) ends).effect) [ true ↦ record { saves = refl; births = λ b. refl; tape = λ t. refl } | false ↦ record { saves = refl; births = λ b. refl; tape = λ t. refl } ])

pub call_silent : (n : Option ℕ) (stored : Bool) (v : View) → IsSilent (outcome v (Run (Set CallMacro) n []) stored).effect
unfolding outcome
call_silent n stored v = permitted_silent v.session.state (judged v (needs v (Run (Set CallMacro) n []))) (allowed v (Run (Set CallMacro) n []) stored) (by (setting CallMacro (acted_state v.session.state) n))
  where
    by : (p : Result State Message) → IsSilent (sets v.session.state p).effect
    by (Err message) = record { saves = refl; births = λ b. refl; tape = λ t. refl }
    by (Ok state) = record { saves = refl; births = λ b. refl; tape = λ t. refl }

replaced_silent : (state : State) (b : BufferSeen) (p : Result SearchChange Message) → IsSilent (replaced_by state b p).effect
replaced_silent state b (Err message) = record { saves = refl; births = λ b. refl; tape = λ t. refl }
replaced_silent state b (Ok c) =
    elim (is_full (size_told b.told) (serial_told b.told) c.a c.b c.put) as (λ f. IsSilent (cond f (fails state (Says BufferFull)) (search_finished state c.finish (edit_of b.name c.a c.b c.put))).effect) [
      | true ↦ record { saves = refl; births = λ b. refl; tape = λ t. refl }
      | false ↦ elim (is_edit c.a c.b c.put) as (λ f. IsSilent (cond f (Edit b.name c.a c.b c.put) No_effect)) [ true ↦ record { saves = refl; births = λ b. refl; tape = λ t. refl } | false ↦ record { saves = refl; births = λ b. refl; tape = λ t. refl } ]
    ]

replaces_silent : (state : State) (o : Option Target) (plan : Target → Result SearchChange Message) → IsSilent (replaces_one state o plan).effect
replaces_silent state None plan = record { saves = refl; births = λ b. refl; tape = λ t. refl }
replaces_silent state (Some t) plan = replaced_silent state t.buffer (plan t)

pub replace_silent : (k : Replacement) (n : Option ℕ) (typed : List ℕ) (stored : Bool) (v : View) → IsSilent (outcome v (Run (Replace k) n typed) stored).effect
unfolding outcome
replace_silent k n typed stored v = permitted_silent v.session.state (judged v (needs v (Run (Replace k) n typed))) (allowed v (Run (Replace k) n typed) stored) (replaces_silent v.session.state (target v) _)
