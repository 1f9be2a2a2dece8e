use Rattle.std.proofs.Common.{ap, refl, subst, sym}
use Rattle.mgs_model.specs.Acts.{there}
use Rattle.mgs_model.specs.declared.session.ByName.TheVariants.{SwitchToBuffer}
use Rattle.mgs_buffers.specs.MarkedBuffer.{HasBuffer}
use Rattle.mgs_plan.specs.declared.outcome.Outcome.TheVariants.{Shows}
use Rattle.mgs_plan.proofs.Named.{typed_free, typed_kept}
use Rattle.mgs_plan.proofs.switch.plan_switch.Goals as goal

pub returns-in-Some-clause-value : goal.returns-in-Some-clause-value
returns-in-Some-clause-value g c =
    typed_kept c.args.directory.now c.args.buffers.now c.args.session.now c.args.typed.now SwitchToBuffer 128 Shows c.in-Some.name c.judged.result refl
    c.in-Some.ensures.value (sym c.in-Some.ensures.there) (λ v n stored b found named. rw found refl) c.judged.ensures.value

pub returns-in-None-clause-value : goal.returns-in-None-clause-value
returns-in-None-clause-value g c =
    typed_free c.args.directory.now c.args.buffers.now c.args.session.now c.args.typed.now SwitchToBuffer 128 c.switch_new.result refl (sym c.in-None.ensures.there)
    (λ v n stored many none. rw none (ap (λ does. record { needs = there v c.args.typed.now 128; does = does }) (c.switch_new.ensures.value v stored many)))

pub returns-in-None-clause-can : goal.returns-in-None-clause-can
returns-in-None-clause-can g c = c.switch_new.ensures.can c.args.directory.now c.args.session.now

pub returns-in-Some-clause-can : goal.returns-in-Some-clause-can
returns-in-Some-clause-can g c =
    c.judged.ensures.can c.args.session.now (λ granted. subst (λ m. HasBuffer m c.args.buffers.now) (sym c.in-Some.ensures.value) (sym c.in-Some.ensures.there))
