use Rattle.std.proofs.Common.{◌≡◌, subst, sym, arith}
use Rattle.mgs_cache.specs.Kept.{AreRight}
use Rattle.mgs_cache.proofs.Rightness.{right_none}
use Rattle.mgs_text_tests.proofs.judge.ask_twice.Goals as goal

-- nothing is kept for the fourth place yet
pub ask-requires-4 : goal.ask-requires-4
ask-requires-4 g c =
    let users = c.args.directory.now in
    let whose = c.owned-of_cat.result in
    let entries = c.args.together.now in
    c.ask-3.ensures.others 3 users whose entries (λ (e : 2 ≡ 3). omega arith)
    (c.ask-2.ensures.others 3 users whose entries (λ (e : 1 ≡ 3). omega arith)
    (c.ask.ensures.others 3 users whose entries (λ (e : 0 ≡ 3). omega arith)
    (subst (AreRight 3 users whose entries) (sym c.requires) (right_none 3 users whose entries))))
