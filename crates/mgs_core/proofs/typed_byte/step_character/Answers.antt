use Rattle.std.proofs.Common.{◌∙◌, ap, sym}
use Rattle.mgs_model.specs.declared.echo_text.Message.TheVariants.{Says}
use Rattle.mgs_model.specs.declared.echo_text.Notice.TheVariants.{Silent}
use Rattle.mgs_model.specs.declared.sequence.Sequence.TheVariants.{Whole, Begun, Broken}
use Rattle.mgs_session.specs.declared.search.Aim.TheVariants.{Find}
use Rattle.mgs_session.specs.Seeking.{searching}
use Rattle.mgs_session.specs.Sessions.{told, unbound}
use Rattle.mgs_session.specs.declared.Session.{Session}
use Rattle.mgs_session.specs.declared.search.Search.{Search}
use Rattle.mgs_core.specs.ByteSteps.{search_for}
use Rattle.mgs_core.proofs.Sought.{character_held, search_breaks, search_puts, search_reads}
use Rattle.mgs_core.proofs.typed_byte.step_character.Goals as goal

pub returns-in-Begun : goal.returns-in-Begun
returns-in-Begun c before directory ks =
    let y = c.args.session.now in
    let f = c.args.sought in
    search_reads directory ks y c.hold_on.new.session c.args.place f f c.args.byte before c.requires.alone c.requires.past (sym c.feed_character-sequence.ensures.read ∙ c.in-Begun.is)
    (c.hold_on.ensures
    ∙ ap (λ (z : Session). searching (search_for c.args.place (Find f)) (told (Says Silent) z))
    (character_held y c.hold_keyboard.new.session c.feed_character-sequence.new.self c.feed_character-sequence.result Begun c.args.byte c.hold_keyboard.ensures c.feed_character-sequence.ensures.held c.in-Begun.is))

pub returns-in-Whole : goal.returns-in-Whole
returns-in-Whole c before directory ks =
    let y = c.args.session.now in
    let g = c.put-step.new.self in
    search_puts directory ks y c.hold_on-in-Whole.new.session c.args.place c.args.sought g c.args.byte before c.requires.alone c.in-Whole.c c.put-step.result c.requires.past
    (sym c.feed_character-sequence.ensures.read ∙ c.in-Whole.is) c.put-step.ensures.step c.put-step.ensures.sought
    (c.hold_on-in-Whole.ensures
    ∙ ap (λ (z : Session). searching (search_for c.args.place (Find g)) (told (Says Silent) z))
    (character_held y c.hold_keyboard.new.session c.feed_character-sequence.new.self c.feed_character-sequence.result (Whole c.in-Whole.c) c.args.byte c.hold_keyboard.ensures c.feed_character-sequence.ensures.held c.in-Whole.is))

pub returns-in-Broken : goal.returns-in-Broken
returns-in-Broken c before directory ks =
    let y = c.args.session.now in
    let f = c.args.sought in
    search_breaks directory ks y c.hold_unbound.new.session c.args.place f f c.args.byte before c.requires.alone c.requires.past (sym c.feed_character-sequence.ensures.read ∙ c.in-Broken.is)
    (c.hold_unbound.ensures
    ∙ ap (λ (t : Search). unbound (searching t c.hold_keyboard.new.session)) c.search_for.ensures
    ∙ ap (λ (z : Session). unbound (searching (search_for c.args.place (Find f)) z))
    (character_held y c.hold_keyboard.new.session c.feed_character-sequence.new.self c.feed_character-sequence.result Broken c.args.byte c.hold_keyboard.ensures c.feed_character-sequence.ensures.held c.in-Broken.is))
