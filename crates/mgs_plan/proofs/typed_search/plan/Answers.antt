use Rattle.std.proofs.Common.{◌≡◌, ℕ, List, refl, sym, ap, subst, ◌∙◌}
use Rattle.mgs_model.specs.Access.{decision}
use Rattle.mgs_model.specs.declared.entry.Decision.{Decision}
use Rattle.mgs_buffers.specs.Found.{Named}
use Rattle.mgs_buffers.specs.MarkedBuffer.{marked_at}
use Rattle.mgs_plan.specs.Actions.{CanDoIn, IsSearchFor, IsSearchIn, marks_in}
use Rattle.mgs_plan.specs.Deciding.{IsActionGranted, Refuses}
use Rattle.mgs_plan.specs.declared.action.Action.TheVariants.{Fails}
use Rattle.mgs_plan.proofs.Granted.{action_granted}
use Rattle.mgs_plan.proofs.Searches.{reading_decided, search_denied, search_granted}
use Rattle.mgs_plan.proofs.typed_search.plan.Goals as goal

pub returns-in-None-clause-value : goal.returns-in-None-clause-value
returns-in-None-clause-value g c =
    let f : Named = c.find-found.result in
    let x = marks_in f.name c.args.window_marks.now in
    let b = (marked_at f.name f.all).buffer in
    let decided : c.decide_all.result ≡ reading_decided c.args.actor.now.directory.now f.all c.args.actor.now.user.now f.name =
    c.decide_all.ensures ∙ ap (decision c.args.actor.now.directory.now b.owners c.args.actor.now.user.now b.entries) c.of-mask.ensures in
    subst (λ (f : Named). IsSearchFor c.args.actor.now.directory.now f.all c.args.actor.now.user.now (marks_in f.name c.args.window_marks.now) c.args.direction c.args.pattern.now c.plan_granted.result) c.find-found.ensures
    (search_granted c.args.actor.now.directory.now f.all c.args.actor.now.user.now x c.args.direction c.args.pattern.now c.plan_granted.result
    (sym decided ∙ c.in-None.ensures.granted refl)
    (subst (λ (p : ℕ). IsSearchIn f.all f.name p c.args.direction c.args.pattern.now c.plan_granted.result) c.pos.ensures.value c.plan_granted.ensures.value))

pub returns-in-None-clause-can : goal.returns-in-None-clause-can
returns-in-None-clause-can g c = subst (λ (f : Named). (kill : List ℕ) → CanDoIn f.all f.name kill c.plan_granted.result) c.find-found.ensures c.plan_granted.ensures.can

pub returns-in-None-clause-granted : goal.returns-in-None-clause-granted
returns-in-None-clause-granted g c =
    let f : Named = c.find-found.result in
    subst (λ (f : Named). IsActionGranted c.args.actor.now.directory.now f.all c.args.actor.now.user.now f.name c.plan_granted.result) c.find-found.ensures
    (action_granted c.args.actor.now.directory.now f.all c.args.actor.now.user.now f.name c.of-mask.result c.plan_granted.result (c.plan_granted.ensures.by c.of-mask.result) (sym c.decide_all.ensures ∙ c.in-None.ensures.granted refl))

pub returns-in-Some-clause-value : goal.returns-in-Some-clause-value
returns-in-Some-clause-value g c =
    let f : Named = c.find-found.result in
    let x = marks_in f.name c.args.window_marks.now in
    let b = (marked_at f.name f.all).buffer in
    let decided : c.decide_all.result ≡ reading_decided c.args.actor.now.directory.now f.all c.args.actor.now.user.now f.name =
    c.decide_all.ensures ∙ ap (decision c.args.actor.now.directory.now b.owners c.args.actor.now.user.now b.entries) c.of-mask.ensures in
    subst (λ (f : Named). IsSearchFor c.args.actor.now.directory.now f.all c.args.actor.now.user.now (marks_in f.name c.args.window_marks.now) c.args.direction c.args.pattern.now (Fails c.in-Some.message)) c.find-found.ensures
    (search_denied c.args.actor.now.directory.now f.all c.args.actor.now.user.now x c.args.direction c.args.pattern.now c.in-Some.message
    (subst (λ (d : Decision). Refuses d c.in-Some.message) decided c.in-Some.ensures.denied))
