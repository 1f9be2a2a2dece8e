use Rattle.std.proofs.Common.{◌≡◌, [], length, ◌∙◌, refl, sym, ap}
use Rattle.mgs_model.specs.Access.{decider, decision}
use Rattle.mgs_model.specs.declared.entry.Decision.TheVariants.{Granted}
use Rattle.mgs_buffers.specs.Found.{Named}
use Rattle.mgs_buffers.specs.MarkedBuffer.{marked_at}
use Rattle.mgs_edit.specs.declared.plan.Around.{Around}
use Rattle.mgs_plan.specs.Actions.{marks_in, mask_at, reading_mask_at}
use Rattle.mgs_plan.proofs.Granted.{action_granted, reading_granted}
use Rattle.mgs_plan.proofs.Plans.{granted}
use Rattle.mgs_plan.proofs.text_command.plan_outright.Goals as goal

pub plan_granted-requires-clause-killed : goal.plan_granted-requires-clause-killed
plan_granted-requires-clause-killed g c = sym c.around_reading-around.ensures.killed

pub plan_granted-requires-clause-mask : goal.plan_granted-requires-clause-mask
plan_granted-requires-clause-mask g c = c.needs-mask.ensures ∙ ap (mask_at c.args.command c.around_reading-around.result.place) c.text_len-size.ensures.value

pub returns-in-None : goal.returns-in-None
returns-in-None g c =
    let f : Named = c.args.found.now in
    let d = c.args.actor.now.directory.now in
    let user = c.args.actor.now.user.now in
    let b = (marked_at f.name f.all).buffer in
    let around = c.around_reading-around.result in
    let all : decision d b.owners user b.entries (reading_mask_at c.args.command around.place (length b.text)) ≡ Granted =
    sym (c.decide_all.ensures ∙ ap (decision d b.owners user b.entries) (c.needs_reading-all.ensures ∙ ap (reading_mask_at c.args.command around.place) c.text_len-size.ensures.value)) ∙ c.in-None.ensures.granted refl in
    let both = reading_granted (decider d b.owners user b.entries) c.args.command around.place (length b.text) all in
    let around_is = c.around_reading-around.ensures.value d user both.0 in
    record {
      value = λ state. granted d f.all user (marks_in f.name c.args.window_marks.now) c.args.given.now c.args.command [] c.args.kill.now around c.plan_granted.result state around_is
          (sym (ap (λ (a : Around). decision d b.owners user b.entries (mask_at c.args.command a.place (length b.text))) around_is) ∙ both.1) c.plan_granted.ensures.value;
      can = c.plan_granted.ensures.can;
      granted = action_granted d f.all user f.name c.needs-mask.result c.plan_granted.result c.plan_granted.ensures.by
          (ap (decision d b.owners user b.entries) (c.needs-mask.ensures ∙ ap (mask_at c.args.command around.place) c.text_len-size.ensures.value) ∙ both.1);
    }
