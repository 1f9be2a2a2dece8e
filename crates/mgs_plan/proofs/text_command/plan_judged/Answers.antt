use Rattle.std.proofs.Common.{◌≡◌, [], length, ◌∙◌, refl, sym, ap, subst}
use Rattle.mgs_model.specs.Access.{decision}
use Rattle.mgs_model.specs.declared.entry.Decision.{Decision}
use Rattle.mgs_buffers.specs.Found.{Named}
use Rattle.mgs_buffers.specs.MarkedBuffer.{marked_at}
use Rattle.mgs_edit.specs.declared.plan.Around.{Around}
use Rattle.mgs_plan.specs.Actions.{around_given, marks_in, mask_at}
use Rattle.mgs_plan.specs.Deciding.{Refuses}
use Rattle.mgs_plan.proofs.Granted.{action_granted}
use Rattle.mgs_plan.proofs.Plans.{denied, granted, needed}
use Rattle.mgs_plan.proofs.text_command.plan_judged.Goals as goal

pub plan_granted-requires-clause-mask : goal.plan_granted-requires-clause-mask
plan_granted-requires-clause-mask g c = c.needs-mask.ensures ∙ ap (mask_at c.args.command c.around-around.result.place) c.text_len-size.ensures.value

pub returns-in-None-clause-value : goal.returns-in-None-clause-value
returns-in-None-clause-value g c =
    let f : Named = c.args.found.now in
    let ks = f.all in
    let x = marks_in f.name c.args.window_marks.now in
    let b = (marked_at x.name ks).buffer in
    let given_here : Around = around_given c.args.actor.now.directory.now ks c.args.actor.now.user.now x c.args.given.now (length c.args.kill.now) in
    let decided : c.decide_all.result ≡ needed c.args.actor.now.directory.now ks c.args.actor.now.user.now x c.args.given.now c.args.command (length c.args.kill.now) =
    c.decide_all.ensures
    ∙ ap (decision c.args.actor.now.directory.now b.owners c.args.actor.now.user.now b.entries)
    (c.needs-mask.ensures ∙ ap (λ (a : Around). mask_at c.args.command a.place c.text_len-size.result) c.around-around.ensures.value ∙ ap (mask_at c.args.command given_here.place) c.text_len-size.ensures.value) in
    λ state. granted c.args.actor.now.directory.now ks c.args.actor.now.user.now x c.args.given.now c.args.command [] c.args.kill.now c.around-around.result c.plan_granted.result state
    c.around-around.ensures.value (sym decided ∙ c.in-None.ensures.granted refl) c.plan_granted.ensures.value

pub returns-in-None-clause-granted : goal.returns-in-None-clause-granted
returns-in-None-clause-granted g c =
    let f : Named = c.args.found.now in
    action_granted c.args.actor.now.directory.now f.all c.args.actor.now.user.now f.name c.needs-mask.result c.plan_granted.result c.plan_granted.ensures.by (sym c.decide_all.ensures ∙ c.in-None.ensures.granted refl)

pub returns-in-Some-clause-value : goal.returns-in-Some-clause-value
returns-in-Some-clause-value g c =
    let f : Named = c.args.found.now in
    let ks = f.all in
    let x = marks_in f.name c.args.window_marks.now in
    let b = (marked_at x.name ks).buffer in
    let given_here : Around = around_given c.args.actor.now.directory.now ks c.args.actor.now.user.now x c.args.given.now (length c.args.kill.now) in
    let decided : c.decide_all.result ≡ needed c.args.actor.now.directory.now ks c.args.actor.now.user.now x c.args.given.now c.args.command (length c.args.kill.now) =
    c.decide_all.ensures
    ∙ ap (decision c.args.actor.now.directory.now b.owners c.args.actor.now.user.now b.entries)
    (c.needs-mask.ensures ∙ ap (λ (a : Around). mask_at c.args.command a.place c.text_len-size.result) c.around-around.ensures.value ∙ ap (mask_at c.args.command given_here.place) c.text_len-size.ensures.value) in
    λ state. denied c.args.actor.now.directory.now ks c.args.actor.now.user.now x c.args.given.now c.args.command [] c.args.kill.now c.in-Some.message state
    (subst (λ (d : Decision). Refuses d c.in-Some.message) decided c.in-Some.ensures.denied)
