use Rattle.std.proofs.Common.{◌≡◌, drop}
use Rattle.mgs_keeper.specs.Mending.{AreMended}
use Rattle.mgs_keeper.proofs.repair.mend_all.Given as goal

-- whatever the rest leads to, all lead to, unless one did not fit
abbrev pub invariant-loop-mending : goal.invariant-loop-mending
invariant-loop-mending g l = (last : _) → l.status ≡ 0
    → AreMended g.J.Journal.rows g.J.Journal.texts g.J.Journal.taken l.config l.mendings.may_discard (drop l.mending-index l.mendings.all.items) l.journal last
    → AreMended g.J.Journal.rows g.J.Journal.texts g.J.Journal.taken l.config l.mendings.may_discard l.mendings.all.items l.initial.journal last
