use Rattle.std.proofs.Common.{refl, ap, subst, sym, [], true, ◌∙◌}
use Rattle.mgs_model.specs.Apply.{applied}
use Rattle.mgs_laws.specs.Refusals.{may_be_refused}
use Rattle.mgs_model.specs.Outcome.{Run}
use Rattle.mgs_model.specs.declared.session.Command.TheVariants.{Rearrange}
use Rattle.mgs_model.specs.declared.session.Kind.TheVariants.{Other}
use Rattle.mgs_session.specs.Sessions.{acted, asking, failed}
use Rattle.mgs_plan.specs.Deciding.{view_at}
use Rattle.mgs_plan.specs.Rows.{session_rows}
use Rattle.mgs_plan.specs.Setting.{session_set}
use Rattle.mgs_plan.specs.declared.outcome.Outcome.TheVariants.{Arranges, Asks, Fails, Lists, Scrolls, Sets, Shows}
use Rattle.mgs_world.specs.Worlds.{state_of, world_of}
use Rattle.mgs_plan.proofs.Commands.{asked_done, outcome_answered, set_done}
use Rattle.mgs_plan.proofs.Deeds.{failed_so, fresh_state}
use Rattle.mgs_plan.proofs.Quiet.{arrangement_quiet, question_quiet, setting_quiet}
use Rattle.mgs_act.specs.Doing.{CanDo, TakesMemory}
use Rattle.mgs_act.proofs.Done.{quiet_done, written_done}
use Rattle.mgs_act.proofs.Scrolls.{rows_quiet, rows_uses, scrolled_so}
use Rattle.mgs_act.proofs.Settings.{set_uses}
use Rattle.mgs_act.proofs.Switches.{listed_done, may_show, shown_done}
use Rattle.mgs_world.proofs.WindowMarks.{when_err}
use Rattle.mgs_buffers.proofs.MarkedLemmas.{OnErr-map}
use Rattle.mgs_act.proofs.deeds.do_decided.Goals as goal

pub returns-in-Fails : goal.returns-in-Fails
returns-in-Fails g c =
    let ks = c.args.buffers.now in
    let xs = c.args.sessions.now in
    let both = written_done (Fails c.in-Fails.message) (failed c.in-Fails.message) c.index-sessions-at.result _ c.requires c.in-Fails.is c.fail.ensures (λ h n i. refl) (λ id next h place found. (
      failed_so c.args.directory.now ks xs next id c.args.at h c.in-Fails.message place c.requires.within found (fresh_state xs c.args.at h found c.requires.fresh),
      refl,
    )) in
    record { sound = both.0; done = both.1 _; err = tt; unasked = tt; may = tt }

pub returns-in-Acts-clause-may : goal.returns-in-Acts-clause-may
returns-in-Acts-clause-may g c =
    OnErr-map c.perform.result (λ may. subst (λ o. TakesMemory c.args.at o c.args.buffers.now c.args.sessions.now) (sym c.in-Acts.is) (may)) c.perform.ensures.may

pub returns-in-Lists-clause-done : goal.returns-in-Lists-clause-done
returns-in-Lists-clause-done g c =
    let d = c.args.directory.now in
    let ks = c.args.buffers.now in
    let xs = c.args.sessions.now in
    quiet_done d c.args.at c.args.outcome.now (Lists c.in-Lists.name) ks _ xs _ _ c.in-Lists.is (λ id next h place found. (
      listed_done d ks xs next id c.args.at h found place c.requires.within c.requires.fresh _ c.in-Lists.name c.show_entries.ensures.selected (λ x. c.show_entries.ensures.world d id next x),
      refl,
    ))

pub returns-in_ok-show-in-Shows-clause-done : goal.returns-in_ok-show-in-Shows-clause-done
returns-in_ok-show-in-Shows-clause-done g c =
    let d = c.args.directory.now in
    let ks = c.args.buffers.now in
    let xs = c.args.sessions.now in
    quiet_done d c.args.at c.args.outcome.now (Shows c.in-Shows.name) ks _ xs _ _ c.in-Shows.is (λ id next h place found. (
      shown_done d ks xs next id c.args.at h found place c.requires.within c.requires.fresh _ c.in-Shows.name c.show.ensures.selected (λ x. c.in_ok-show-in-Shows.ensures.ok d id next x),
      refl,
    ))

pub returns-in_err-show-in-Shows-clause-may : goal.returns-in_err-show-in-Shows-clause-may
returns-in_err-show-in-Shows-clause-may g c =
    when_err _ (subst (λ o. TakesMemory c.args.at o c.args.buffers.now c.args.sessions.now) (sym c.in-Shows.is)
    (λ d id next h place found. may_show d c.args.buffers.now c.args.sessions.now next id c.args.at h found c.in-Shows.name c.show.ensures.selected))

pub returns-in-Scrolls : goal.returns-in-Scrolls
returns-in-Scrolls g c =
    let d = c.args.directory.now in
    let ks = c.args.buffers.now in
    let xs = c.args.sessions.now in
    let can = subst (CanDo d c.args.at ks xs) c.in-Scrolls.is c.requires.can in
    let both = written_done (Scrolls c.in-Scrolls.rows) (λ y. acted Other (session_rows c.in-Scrolls.rows y)) c.index-sessions-at-in-Scrolls.result _ c.requires c.in-Scrolls.is c.scroll.ensures (rows_uses c.in-Scrolls.rows) (λ id next h place found. (
      scrolled_so d ks xs next id c.args.at h place c.requires.within found (fresh_state xs c.args.at h found c.requires.fresh) c.in-Scrolls.rows (can h found),
      rows_quiet (state_of h.state) c.in-Scrolls.rows,
    )) in
    record { sound = both.0; done = both.1 _; err = tt; unasked = tt; may = tt }

pub returns-in-Sets : goal.returns-in-Sets
returns-in-Sets g c =
    let d = c.args.directory.now in
    let ks = c.args.buffers.now in
    let xs = c.args.sessions.now in
    let can = subst (CanDo d c.args.at ks xs) c.in-Sets.is c.requires.can in
    let both = written_done (Sets c.in-Sets.setting c.in-Sets.argument) (session_set c.in-Sets.setting c.in-Sets.argument) c.index-sessions-at-in-Sets.result _ c.requires c.in-Sets.is c.set.ensures (set_uses c.in-Sets.setting c.in-Sets.argument) (λ id next h place found. (
      set_done d ks xs next id c.args.at h place c.requires.within found c.requires.fresh c.in-Sets.setting c.in-Sets.argument true (can h found),
      setting_quiet (view_at d ks xs next h) c.in-Sets.argument true c.in-Sets.setting,
    )) in
    record { sound = both.0; done = both.1 _; err = tt; unasked = tt; may = tt }

pub returns-in-Asks : goal.returns-in-Asks
returns-in-Asks g c =
    let d = c.args.directory.now in
    let ks = c.args.buffers.now in
    let xs = c.args.sessions.now in
    let both = written_done (Asks c.in-Asks.question c.in-Asks.argument) (asking c.in-Asks.question c.in-Asks.argument) c.index-sessions-at-in-Asks.result _ c.requires c.in-Asks.is c.ask.ensures (λ h n i. refl) (λ id next h place found. (
      asked_done d ks xs next id c.args.at h place c.requires.within found c.requires.fresh c.in-Asks.question c.in-Asks.argument true,
      question_quiet (view_at d ks xs next h) c.in-Asks.argument true c.in-Asks.question,
    )) in
    record { sound = both.0; done = both.1 _; err = tt; unasked = tt; may = tt }

pub returns-in_ok-rearrange-in-Arranges-clause-done : goal.returns-in_ok-rearrange-in-Arranges-clause-done
returns-in_ok-rearrange-in-Arranges-clause-done g c =
    let d = c.args.directory.now in
    let ks = c.args.buffers.now in
    let xs = c.args.sessions.now in
    let run = Run (Rearrange c.in-Arranges.arrangement) c.in-Arranges.argument [] in
    quiet_done d c.args.at c.args.outcome.now (Arranges c.in-Arranges.arrangement c.in-Arranges.argument) ks _ xs _ _ c.in-Arranges.is (λ id next h place found. (
      c.in_ok-rearrange-in-Arranges.ensures.ok d id next place ∙ ap (applied (world_of d ks xs next) id) (outcome_answered d ks xs next id c.args.at h run true place c.requires.within found),
      arrangement_quiet (view_at d ks xs next h) c.in-Arranges.argument true c.in-Arranges.arrangement,
    ))

pub returns-in_err-rearrange-in-Arranges-clause-may : goal.returns-in_err-rearrange-in-Arranges-clause-may
returns-in_err-rearrange-in-Arranges-clause-may g c =
    let ks = c.args.buffers.now in
    let xs = c.args.sessions.now in
    let run = Run (Rearrange c.in-Arranges.arrangement) c.in-Arranges.argument [] in
    when_err _ (subst (λ o. TakesMemory c.args.at o ks xs) (sym c.in-Arranges.is)
    (λ d id next h place found. sym (ap may_be_refused (outcome_answered d ks xs next id c.args.at h run true place c.requires.within found)) ∙ c.in_err-rearrange-in-Arranges.ensures.may d id next place))
