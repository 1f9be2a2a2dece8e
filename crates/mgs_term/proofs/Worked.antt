-- A wide character in the last column, computed.
use Rattle.std.proofs.Common.{◌≡◌, false, [], ◌∷◌, replicate, refl}
use Rattle.mgs_model.proofs.Worked.{unicode_width}
use Rattle.mgs_model.specs.Cells.{own_columns}
use Rattle.mgs_term.specs.Screen.{Screen, blank_cell}
use Rattle.mgs_term.specs.Automaton.{fed, some_shown}
use Rattle.mgs_term.specs.declared.place.Place.TheVariants.{Ground, Inside, Refused}
use Rattle.mgs_term.proofs.Steps.{at}

abbrev last : Screen
last = record { rows = 6; cols = 20; cells = replicate 120 blank_cell; row = 0; col = 19; reversing = false; wrapping = false }

-- its first two bytes are taken
two_taken : fed (at last Ground) (0xE6 ∷ 0xBC ∷ []) ≡ at last (Inside 3 2 444)
unfolding some_shown own_columns unicode_width
two_taken = refl

-- and the third is not
third_refused : fed (at last Ground) (0xE6 ∷ 0xBC ∷ 0xA2 ∷ []) ≡ at last Refused
unfolding some_shown own_columns unicode_width
third_refused = refl
