use Rattle.std.proofs.Common.{rules, map}
use Rattle.std.specs.List.{slice_split}
use Rattle.mgs_rewind.specs.ListChanges.{is_semicolon, without_space}
use Rattle.mgs_rewind.proofs.Pieces.{entry_read, last_read}
use Rattle.mgs_rewind.proofs.list_change.split.Goals as goal

pub loop-at-preserved : goal.loop-at-preserved
loop-at-preserved c =
    entry_read c.loop-at.pieces.items c.push_piece.new.pieces.items (map without_space (slice_split is_semicolon c.args.text.now)) c.loop-at.rest.now c.after-rest.result.now c.in-Some.at
    (search rules) c.loop-at.invariant (search rules) c.after-rest.ensures

pub returns : goal.returns
returns c =
    last_read c.loop-at.pieces.items c.push_piece-2.new.pieces.items (map without_space (slice_split is_semicolon c.args.text.now)) c.loop-at.rest.now
    (search rules) c.loop-at.invariant (search rules)
