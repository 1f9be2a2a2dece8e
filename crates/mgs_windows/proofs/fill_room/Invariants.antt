use Rattle.std.proofs.Common.{◌≡◌, take}
use Rattle.std.specs.Prelude.{vec_capacity}
use Rattle.mgs_windows.proofs.fill_room.Given as goal

-- the places that were passed are there
abbrev pub invariant-loop-place : goal.invariant-loop-place
invariant-loop-place l = (l.room.items ≡ take l.place-index l.places) × (vec_capacity l.room ≡ vec_capacity l.initial.room)
