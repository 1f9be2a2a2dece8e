use Rattle.mgs_buffers.proofs.MarkedLemmas.{OnErr-map}
use Rattle.mgs_plan.specs.Searching.{answer_act}
use Rattle.mgs_world.specs.Worlds.{state_at}
use Rattle.mgs_act.proofs.Done.{asked_at, can_here, did, marks_here, may_decided}
use Rattle.mgs_act.proofs.Switches.{when_ok}
use Rattle.mgs_act.proofs.acts.answer.Goals as goal

pub plan_answer-outcome-requires-clause-marks : goal.plan_answer-outcome-requires-clause-marks
plan_answer-outcome-requires-clause-marks g c = marks_here c.args.buffers.now c.args.sessions.now c.args.at c.index-sessions-at.result c.requires.within c.requires.sound

pub do_decided-requires : goal.do_decided-requires
do_decided-requires g c = record {
  sound = c.requires.sound;
  within = c.requires.within;
  fresh = c.requires.fresh;
  can = can_here c.args.directory.now c.args.at c.args.buffers.now c.args.sessions.now c.index-sessions-at.result c.plan_answer-outcome.result c.requires.within c.plan_answer-outcome.ensures.can;
}

pub returns-clause-ok : goal.returns-clause-ok
returns-clause-ok g c =
    when_ok c.do_decided.result (did c.args.directory.now c.args.at (answer_act c.args.given.question c.args.given.argument c.args.given.typed.now (state_at c.args.at c.args.sessions.now)) c.args.buffers.now c.args.sessions.now c.requires.within c.plan_answer-outcome.result c.index-sessions-at.result (asked_at c.args.directory.now c.args.buffers.now c.args.sessions.now c.args.at c.index-sessions-at.result c.args.given.question c.args.given.argument c.args.given.typed.now c.plan_answer-outcome.result c.requires.within (c.plan_answer-outcome.ensures.value c.args.sessions.now)) _ _ _ _) c.do_decided.ensures.done

pub returns-clause-err : goal.returns-clause-err
returns-clause-err g c = OnErr-map c.do_decided.result (λ same. same c.args.directory.now) c.do_decided.ensures.err

pub returns-clause-may : goal.returns-clause-may
returns-clause-may g c =
    OnErr-map c.do_decided.result (may_decided c.args.directory.now c.args.at (answer_act c.args.given.question c.args.given.argument c.args.given.typed.now (state_at c.args.at c.args.sessions.now)) c.args.buffers.now c.args.sessions.now c.requires.within c.plan_answer-outcome.result c.index-sessions-at.result (asked_at c.args.directory.now c.args.buffers.now c.args.sessions.now c.args.at c.index-sessions-at.result c.args.given.question c.args.given.argument c.args.given.typed.now c.plan_answer-outcome.result c.requires.within (c.plan_answer-outcome.ensures.value c.args.sessions.now))) c.do_decided.ensures.may
