use Rattle.std.proofs.Common.{◌≡◌, ◌+◌, ◌≤◌, ◌++◌, drop, length}
use Rattle.std.specs.List.{count_by}
use Rattle.std.specs.Vec.{vec_capacity}
use Rattle.mgs_model.specs.Lines.{is_feed}
use Rattle.mgs_gap.specs.Feeds.{feeds_from}
use Rattle.mgs_gap.proofs.feeds.push_places.Given as goal

abbrev pub invariant-loop-i : goal.invariant-loop-i
invariant-loop-i l = record {
  items : l.places.items ++ feeds_from (l.from + l.i) (drop l.i l.chars) ≡ l.initial.places.items ++ feeds_from l.from l.chars;
  room : length l.places.items + count_by is_feed (drop l.i l.chars) ≤ vec_capacity l.places;
  capacity : vec_capacity l.places ≡ vec_capacity l.initial.places;
}
