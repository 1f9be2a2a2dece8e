use Rattle.std.proofs.Common.{◌≡◌, drop}
use Rattle.std.specs.Prelude.{find}
use Rattle.mgs_windows.specs.Panes.{is_place_in}
use Rattle.mgs_arrange.proofs.shown_buffer.place_in.Given as goal

-- it is among the places that are left
abbrev pub invariant-loop-place : goal.invariant-loop-place
invariant-loop-place l = find (is_place_in l.name) l.places ≡ find (is_place_in l.name) (drop l.place-index l.places)
