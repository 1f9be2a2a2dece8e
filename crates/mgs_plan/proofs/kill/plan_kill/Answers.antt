use Rattle.std.proofs.Common.{ℕ, ◌∙◌, List, Option, ap, subst}
use Rattle.mgs_plan.specs.Killing.{IsKillRefused, name_meant}
use Rattle.mgs_plan.proofs.Kills.{kill_planned, kill_refused}
use Rattle.mgs_plan.proofs.kill.plan_kill.Goals as goal

pub returns-in-Ok-clause-value : goal.returns-in-Ok-clause-value
returns-in-Ok-clause-value g c =
    kill_planned c.args.directory.now c.args.buffers.now c.args.session.now c.args.typed.now c.in-Ok.name c.judged.result
    (c.in-Ok.ensures.name ∙ ap (λ s. name_meant s c.args.typed.now) c.subject.ensures) c.in-Ok.ensures.kept c.in-Ok.ensures.form c.judged.ensures.value

pub returns-in-Err-clause-value : goal.returns-in-Err-clause-value
returns-in-Err-clause-value g c =
    kill_refused c.args.directory.now c.args.buffers.now c.args.session.now c.args.typed.now c.in-Err.message
    (subst (λ (s : Option (List ℕ)). IsKillRefused c.args.buffers.now (name_meant s c.args.typed.now) c.in-Err.message) c.subject.ensures c.in-Err.ensures.none)

pub returns-in-Ok-clause-can : goal.returns-in-Ok-clause-can
returns-in-Ok-clause-can g c = c.judged.ensures.can c.args.session.now (λ granted. record { kept = c.in-Ok.ensures.kept; granted = granted })
