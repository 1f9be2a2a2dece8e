-- Bytes that draw lead the automaton where they say, and it stops at none of them.
use Rattle.std.proofs.Common.{◌≡◌, ℕ, ◌+◌, ◌<◌, List, [], ◌∷◌, length, refl, sym, ap, ◌∙◌, get_or, take, drop}
use Rattle.std.proofs.lemmas.List.{take_more, take-append-drop}
use Rattle.std.specs.List.{flat_map}
use Rattle.mgs_term.specs.Screen.{Screen, IsScreen}
use Rattle.mgs_term.specs.Sequences.{after, spelling}
use Rattle.mgs_term.specs.Automaton.{Automaton, stepped, fed}
use Rattle.mgs_term.specs.Drawing.{Leads, Draws}
use Rattle.mgs_term.specs.declared.operation.Operation.{Operation}
use Rattle.mgs_term.specs.declared.place.Place.TheVariants.{Ground, Refused}
use Rattle.mgs_term.proofs.Steps.{at, fed-append, fed-spelling}
use Rattle.mgs_term.proofs.Screens.{after_keeps}

-- Bytes that draw leave a terminal as they say, between two sequences.
pub fed-leads : (may : Screen → Operation → Type 0) (os : List Operation) (s t : Screen) → IsScreen s → Leads may os s t → fed (at s Ground) (flat_map spelling os) ≡ at t Ground
fed-leads may [] s t ok leads = ap (λ x. at x Ground) leads
fed-leads may (o ∷ os) s t ok leads = fed-spelling s o (flat_map spelling os) ok leads.0.0 leads.0.1 ∙ fed-leads may os (after o s) t (after_keeps s o ok leads.0.0) leads.2

pub fed-draws : (may : Screen → Operation → Type 0) (bytes : List ℕ) (s t : Screen) → IsScreen s → Draws may bytes s t → fed (at s Ground) bytes ≡ at t Ground
fed-draws may bytes s t ok draws = ap (fed (at s Ground)) draws.1 ∙ fed-leads may draws.0 s t ok draws.2

-- a refused terminal stays so
pub fed-refused : (s : Screen) (bs : List ℕ) → fed (at s Refused) bs ≡ at s Refused
fed-refused s [] = refl
fed-refused s (b ∷ bs) = fed-refused s bs

pub fed_more : (t : Automaton) (bs : List ℕ) (i : ℕ) → i < length bs → fed t (take (i + 1) bs) ≡ stepped (fed t (take i bs)) (get_or bs i 0)
fed_more t bs i lt = ap (fed t) (take_more bs i 0 lt) ∙ fed-append t (take i bs) (get_or bs i 0 ∷ [])

pub fed_stop : (t u : Automaton) (bs : List ℕ) (i : ℕ) (s : Screen) → i < length bs → u ≡ stepped (fed t (take i bs)) (get_or bs i 0) → u ≡ at s Refused → u ≡ fed t bs
fed_stop t u bs i s lt step stop =
    let one : fed t (take (i + 1) bs) ≡ at s Refused = fed_more t bs i lt ∙ sym step ∙ stop in
    stop ∙ sym (fed-refused s (drop (i + 1) bs)) ∙ ap (λ x. fed x (drop (i + 1) bs)) (sym one) ∙ sym (fed-append t (take (i + 1) bs) (drop (i + 1) bs)) ∙ ap (fed t) (take-append-drop (i + 1) bs)

pub drawn_ends : (may : Screen → Operation → Type 0) (v : Automaton) (bytes : List ℕ) (t : Screen) → IsScreen v.screen → v.place ≡ Ground → Draws may bytes v.screen t → fed v bytes ≡ at t Ground
drawn_ends may v bytes t ok ground draws = ap (λ p. fed (at v.screen p) bytes) ground ∙ fed-draws may bytes v.screen t ok draws

ground_refused : Ground ≡ Refused → ⊥
ground_refused e = absurd (cc)

pub drawn_never_stops : (may : Screen → Operation → Type 0) (v u : Automaton) (bytes : List ℕ) (s t : Screen) → IsScreen v.screen → v.place ≡ Ground → Draws may bytes v.screen t → u ≡ fed v bytes → u ≡ at s Refused → ⊥
drawn_never_stops may v u bytes s t ok ground draws is stop = ground_refused (ap (λ x. x.place) (sym (drawn_ends may v bytes t ok ground draws) ∙ sym is ∙ stop))
