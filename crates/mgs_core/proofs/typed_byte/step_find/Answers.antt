use Rattle.std.proofs.Common.{◌∙◌, refl, sym}
use Rattle.mgs_core.proofs.Sought.{foreign_step, read_again, read_at, search_ends, search_on, search_quits}
use Rattle.mgs_core.proofs.typed_byte.step_find.Goals as goal

pub returns-then-is_character_byte : goal.returns-then-is_character_byte
returns-then-is_character_byte c directory ks = c.step_character.ensures c.args.before.now directory ks

pub step_foreign-requires-clause-leaves : goal.step_foreign-requires-clause-leaves
step_foreign-requires-clause-leaves c =
    read_again c.args.session.now.state.pattern c.args.sought c.feed.new.self c.args.byte
    (read_at c.args.session.now.state.pattern _ c.args.sought c.feed.new.self c.args.byte _ _ c.as_slice.ensures.value c.feed.ensures c.in-Leaves.is)

pub returns-in-Ends : goal.returns-in-Ends
returns-in-Ends c directory ks =
    search_ends directory ks c.args.session.now c.leave_search.new.session c.args.place c.args.sought c.feed.new.self c.args.byte c.args.before.now c.requires.alone (sym c.is_character_byte.ensures ∙ c.if-is_character_byte.false)
    (read_at c.args.session.now.state.pattern _ c.args.sought c.feed.new.self c.args.byte _ _ c.as_slice.ensures.value c.feed.ensures c.in-Ends.is) c.leave_search.ensures

pub returns-in-Leaves : goal.returns-in-Leaves
returns-in-Leaves c directory ks =
    foreign_step directory ks c.args.session.now c.step_foreign.new.session c.args.place c.args.sought c.feed.new.self c.args.byte c.step_foreign.new.before c.step_foreign.result
    (read_at c.args.session.now.state.pattern _ c.args.sought c.feed.new.self c.args.byte _ _ c.as_slice.ensures.value c.feed.ensures c.in-Leaves.is)
    (c.step_foreign.ensures directory ks)

pub returns-in-Quits : goal.returns-in-Quits
returns-in-Quits c directory ks =
    search_quits directory ks c.args.session.now c.hold_on.new.session c.args.place c.args.sought c.feed.new.self c.args.byte c.args.before.now c.requires.alone (sym c.is_character_byte.ensures ∙ c.if-is_character_byte.false)
    (read_at c.args.session.now.state.pattern _ c.args.sought c.feed.new.self c.args.byte _ _ c.as_slice.ensures.value c.feed.ensures c.in-Quits.is) c.hold_on.ensures

pub returns-in_default : goal.returns-in_default
returns-in_default c directory ks =
    search_on directory ks c.args.session.now c.hold_on-in_default.new.session c.args.place c.args.sought c.feed.new.self c.args.byte c.args.before.now c.requires.alone c.feed.result (sym c.is_character_byte.ensures ∙ c.if-is_character_byte.false) c.in_default.not-Ends c.in_default.not-Quits c.in_default.not-Leaves
    (read_at c.args.session.now.state.pattern _ c.args.sought c.feed.new.self c.args.byte _ _ c.as_slice.ensures.value c.feed.ensures refl) c.hold_on-in_default.ensures
