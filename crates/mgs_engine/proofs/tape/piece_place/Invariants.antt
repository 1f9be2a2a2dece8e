use Rattle.std.proofs.Common.{◌≡◌, ◌+◌, drop}
use Rattle.std.specs.List.{position_or_len}
use Rattle.mgs_engine.specs.Tapes.{has_piece_id}
use Rattle.mgs_engine.proofs.tape.piece_place.Given as goal

-- the pieces so far are others'
abbrev pub invariant-loop-piece : goal.invariant-loop-piece
invariant-loop-piece l = record {
  at : l.at ≡ l.piece-index;
  rest : position_or_len (has_piece_id l.id) l.pieces ≡ l.piece-index + position_or_len (has_piece_id l.id) (drop l.piece-index l.pieces);
}
