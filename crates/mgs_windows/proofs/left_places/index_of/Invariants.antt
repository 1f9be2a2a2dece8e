use Rattle.std.proofs.Common.{◌≡◌, ◌+◌, drop}
use Rattle.std.specs.List.{position_or_len}
use Rattle.mgs_windows.specs.Panes.{is_place_in}
use Rattle.mgs_windows.proofs.left_places.index_of.Given as goal

-- the index is so many after the places that were passed
abbrev pub invariant-loop-place : goal.invariant-loop-place
invariant-loop-place l =
    (l.index ≡ l.place-index) × (position_or_len (is_place_in l.name) l.places ≡ l.place-index + position_or_len (is_place_in l.name) (drop l.place-index l.places))
