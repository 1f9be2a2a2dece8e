-- A terminal between two sequences.
use Rattle.std.proofs.Common.{◌≡◌, ℕ, List, length, sym, ap, subst}
use Rattle.mgs_term.specs.Screen.{Screen}
use Rattle.mgs_term.specs.Terminal.{resting}
use Rattle.mgs_term.specs.Automaton.{Automaton, IsPlace, terminal_of}
use Rattle.mgs_term.specs.Drawing.{Draws}
use Rattle.mgs_term.specs.declared.operation.Operation.{Operation}
use Rattle.mgs_term.specs.declared.place.Place.TheVariants.{Ground}
use Rattle.mgs_term.proofs.Grammar.{is_ground}

pub rests_ground : (v : Automaton) (s : Screen) → IsPlace v.screen.rows v.screen.cols v.screen.wrapping v.place → terminal_of v ≡ resting s → v.place ≡ Ground
rests_ground v s fits e = is_ground v.screen.rows v.screen.cols v.screen.wrapping v.place fits (ap (λ x. length x.begun) e) (ap (λ x. x.refused) e)

pub rests_draws : (may : Screen → Operation → Type 0) (v : Automaton) (s t : Screen) (bytes : List ℕ) → terminal_of v ≡ resting s → Draws may bytes s t → Draws may bytes v.screen t
rests_draws may v s t bytes e draws = subst (λ x. Draws may bytes x t) (sym (ap (λ x. x.screen) e)) draws
