use Rattle.std.proofs.Common.{◌≡◌, ℕ, ◌+◌, ◌<◌, List, length, arith, ap, ◌∙◌}
use Rattle.std.proofs.Math.Path.{subst}
use Rattle.mgs_model.specs.Searching.{first_match}
use Rattle.mgs_search.specs.Borders.{IsRead, lower_at}
use Rattle.mgs_search.proofs.Borders.{piece_lies, read_passed, read_over}
use Rattle.mgs_search.proofs.heads.next_headed.Goals as goal

pub overflow_sub-result : goal.overflow_sub-result
overflow_sub-result g c =
    let xs : List ℕ = g.T.Text.text c.args.text.now in
    let read = c.walk-walked.ensures.value (lower_at xs) c.args.from c.loop-i.i c.loop-i.invariant.read (piece_lies xs c.piece-piece.result.now c.loop-i.i c.piece-piece.ensures.piece) in
    omega (arith, read.within)

pub returns-then-stands-borders-clause-value : goal.returns-then-stands-borders-clause-value
returns-then-stands-borders-clause-value g c =
    let xs : List ℕ = g.T.Text.text c.args.text.now in
    let read = c.walk-walked.ensures.value (lower_at xs) c.args.from c.loop-i.i c.loop-i.invariant.read (piece_lies xs c.piece-piece.result.now c.loop-i.i c.piece-piece.ensures.piece) in
    λ chars begins_so. read_passed chars c.args.head.now xs c.args.from (c.loop-i.i + c.walk-walked.result.read) c.walk-walked.result.stands begins_so (omega (arith, c.walk-walked.ensures.read, c.piece-piece.ensures.within)) read

pub returns-then-stands-borders-clause-order : goal.returns-then-stands-borders-clause-order
returns-then-stands-borders-clause-order g c =
    let xs : List ℕ = g.T.Text.text c.args.text.now in
    let read = c.walk-walked.ensures.value (lower_at xs) c.args.from c.loop-i.i c.loop-i.invariant.read (piece_lies xs c.piece-piece.result.now c.loop-i.i c.piece-piece.ensures.piece) in
    omega (arith, read.within)

pub loop-i-preserved : goal.loop-i-preserved
loop-i-preserved g c =
    let xs : List ℕ = g.T.Text.text c.args.text.now in
    record {
      order = omega (arith, c.loop-i.invariant.order);
      within = omega (arith, c.walk-walked.ensures.read, c.piece-piece.ensures.within);
      below = omega (arith, c.walk-walked.ensures.stands);
      read = c.walk-walked.ensures.value (lower_at xs) c.args.from c.loop-i.i c.loop-i.invariant.read (piece_lies xs c.piece-piece.result.now c.loop-i.i c.piece-piece.ensures.piece);
    }

pub returns-clause-value : goal.returns-clause-value
returns-clause-value g c = λ chars begins_so.
    let head = c.args.head.now in
    let xs : List ℕ = g.T.Text.text c.args.text.now in
    let end : c.loop-i.i ≡ length xs = omega (arith, c.loop-i.invariant.within, c.len.ensures.value) in
    let some : c.loop-i.stands < length head = omega (arith, c.loop-i.invariant.below, c.requires.head) in
    ap (first_match chars xs) c.len-2.ensures.value
    ∙ read_over chars head xs c.args.from c.loop-i.stands begins_so some (subst (λ (n : ℕ). IsRead head (lower_at xs) c.args.from n c.loop-i.stands) end c.loop-i.invariant.read)
