use Rattle.std.proofs.Common.{ap, ◌∙◌, arith}
use Rattle.std.specs.List.{position_or_len}
use Rattle.mgs_engine.specs.Screens.{screen_id}
use Rattle.mgs_engine.proofs.Quits.{told_at}
use Rattle.mgs_engine.proofs.end.end_screen.Goals as goal

pub returns-then-at-len-clause-ended : goal.returns-then-at-len-clause-ended
returns-then-at-len-clause-ended c =
    c.push_reserved.ensures.items
    ∙ told_at c.args.id c.args.cause c.args.screens.now.items c.args.ended.now.items c.place_of-at.result
    (c.place_of-at.ensures.value ∙ ap (position_or_len (screen_id c.args.id)) c.deref.ensures.value)
    (omega (arith, c.if-at-len.true, c.len.ensures, c.args.screens.now.ok.0))
