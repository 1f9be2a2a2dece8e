-- Bytes that draw: accepted sequences one after another, each of a kind that may come where it comes.
use Rattle.std.specs.Prelude.{◌≡◌, ℕ, List, [], ◌∷◌, ◌+◌, true, map, length, slice_range, flat_map, Result, IsOk}
use Rattle.mgs_model.specs.Cells.{own_cells}
use Rattle.mgs_term.specs.declared.cell.Cell.{Cell}
use Rattle.mgs_term.specs.declared.operation.Operation.{Operation}
use Rattle.mgs_term.specs.declared.operation.Operation.TheVariants.{Goto, Clear, Erase, Reverse, Plain, Unwrap, Print}
use Rattle.mgs_term.specs.Screen.{Screen, cursor_cell}
use Rattle.mgs_term.specs.Sequences.{Accepts, has_room, after, spelling}
use Rattle.mgs_term.specs.Terminal.{Terminal, resting}

-- the operations lead from the screen s to t, each accepted and with room, and each one that may come at its screen
abbrev pub Leads : (Screen → Operation → Type 0) → List Operation → Screen → Screen → Type 0
Leads may [] s t = s ≡ t
Leads may (o ∷ os) s t = (Accepts s.rows s.cols s.wrapping o × (has_room s o ≡ true)) × may s o × Leads may os (after o s) t

-- the bytes spell such operations
abbrev pub Draws : (Screen → Operation → Type 0) → List ℕ → Screen → Screen → Type 0
Draws may bytes s t = (os : List Operation) × (bytes ≡ flat_map spelling os) × Leads may os s t

-- any operation may come
abbrev pub Anything : Screen → Operation → Type 0
Anything s o = Unit {0}

-- bytes that draw, between two sequences, are all taken, and leave the screen to which they lead
abbrev pub TakesDrawn : {A B : Type 0} → Terminal → List ℕ → Result A B → Terminal → Type 0
TakesDrawn old bytes result new = (s t : Screen) → old ≡ resting s → Draws Anything bytes s t → IsOk result × (new ≡ resting t)

-- what is printed is the goal's at its cells
abbrev pub IsFaithful : List Cell → Screen → Operation → Type 0
IsFaithful goal s (Print c) = map (λ x. x.character) (slice_range goal (cursor_cell s) (cursor_cell s + length (own_cells c))) ≡ own_cells c
IsFaithful goal s (Goto r c) = Unit {0}
IsFaithful goal s Clear = Unit {0}
IsFaithful goal s Erase = Unit {0}
IsFaithful goal s Reverse = Unit {0}
IsFaithful goal s Plain = Unit {0}
IsFaithful goal s Unwrap = Unit {0}
