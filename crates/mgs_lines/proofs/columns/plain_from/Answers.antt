use Rattle.std.proofs.Common.{◌+◌, ℕ, List, length, drop, arith}
use Rattle.std.proofs.lemmas.List.{length-take}
use Rattle.mgs_lines.proofs.Fits.{plain_behind}
use Rattle.mgs_lines.proofs.columns.plain_from.Goals as goal

pub returns-clause-plain : goal.returns-clause-plain
returns-clause-plain g c =
    let xs : List ℕ = g.T.Text.text c.args.text.now in
    let piece : List ℕ = c.piece-piece.result.now in
    let at : ℕ = c.args.at in
    plain_behind (drop at xs) piece (drop (at + length piece) xs) c.min-2.result c.plain_start.result c.piece-piece.ensures.piece (omega arith) (omega (arith, length-take c.min-2.result piece)) c.plain_start.ensures.plain
