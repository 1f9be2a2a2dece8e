use Rattle.std.proofs.Common.{ℕ, ap, ◌∙◌}
use Rattle.mgs_model.specs.declared.echo_text.Message.TheVariants.{Replaced}
use Rattle.mgs_session.specs.Sessions.{told, unprompted}
use Rattle.mgs_core.proofs.Replaced.{replace_ends, replace_one, replace_skips}
use Rattle.mgs_core.proofs.typed_byte.step_replace.Goals as goal

pub returns-in-Ends : goal.returns-in-Ends
returns-in-Ends c directory ks =
    replace_ends directory ks c.args.session.now c.end_replacing.new.session c.args.place c.args.replacing c.args.byte c.requires.alone c.replace_key.result c.replace_key.ensures c.in-Ends.is c.requires.still (c.end_replacing.ensures ∙ ap (λ (n : ℕ). told (Replaced n) (unprompted c.args.session.now)) c.count.ensures.value)

pub returns-in-Replaces : goal.returns-in-Replaces
returns-in-Replaces c directory ks =
    replace_one directory ks c.args.session.now c.hold_on.new.session c.args.place c.args.replacing c.args.byte c.requires.alone c.in-Replaces.last c.replace_key.result c.replace_key.ensures c.in-Replaces.is c.hold_on.ensures

pub returns-in-Skips : goal.returns-in-Skips
returns-in-Skips c directory ks =
    replace_skips directory ks c.args.session.now c.hold_on-in-Skips.new.session c.args.place c.args.replacing c.args.byte c.requires.alone c.args.before.now c.replace_key.result c.replace_key.ensures c.in-Skips.is c.hold_on-in-Skips.ensures
