use Rattle.std.proofs.Common.{ℕ, ◌<◌, List, get_or, arith, subst}
use Rattle.std.proofs.lemmas.List.{take_rest}
use Rattle.mgs_search.specs.Borders.{IsOther}
use Rattle.mgs_search.proofs.Borders.{read_on}
use Rattle.mgs_search.proofs.heads.next_read.Goals as goal

pub returns-clause-read : goal.returns-clause-read
returns-clause-read c =
    let piece : List ℕ = c.args.piece.now in
    let others = subst (λ (l : List ℕ). (t : ℕ) → t < c.passed.result → IsOther c.first_of.result (get_or l t 0)) (take_rest piece c.args.i) c.passed.ensures.none in
    read_on c.args.head.now piece c.first_of.result c.args.i c.passed.result c.args.stands c.first_of.ensures c.requires.some (omega arith) (omega arith) others
