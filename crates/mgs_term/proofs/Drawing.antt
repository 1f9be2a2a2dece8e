-- Bytes that draw, joined, and under a weaker rule.
use Rattle.std.proofs.Common.{◌≡◌, ℕ, List, [], ◌∷◌, ◌++◌, sym, ap, ◌∙◌, subst}
use Rattle.std.specs.List.{flat_map}
use Rattle.std.proofs.lemmas.Grind.{flat_map-append}
use Rattle.mgs_term.specs.Screen.{Screen}
use Rattle.mgs_term.specs.Sequences.{after, spelling}
use Rattle.mgs_term.specs.Drawing.{Leads, Draws, Anything}
use Rattle.mgs_term.specs.declared.operation.Operation.{Operation}

pub Leads-append : (may : Screen → Operation → Type 0) (xs ys : List Operation) (a b c : Screen) → Leads may xs a b → Leads may ys b c → Leads may (xs ++ ys) a c
Leads-append may [] ys a b c p q = subst (λ s. Leads may ys s c) (sym p) q
Leads-append may (o ∷ os) ys a b c p q = (p.0, p.1, Leads-append may os ys (after o a) b c p.2 q)

pub Leads-weaken : (may : Screen → Operation → Type 0) (xs : List Operation) (a b : Screen) → Leads may xs a b → Leads Anything xs a b
Leads-weaken may [] a b p = p
Leads-weaken may (o ∷ os) a b p = (p.0, tt, Leads-weaken may os (after o a) b p.2)

pub Draws-append : (may : Screen → Operation → Type 0) (xs ys : List ℕ) (a b c : Screen) → Draws may xs a b → Draws may ys b c → Draws may (xs ++ ys) a c
Draws-append may xs ys a b c p q = (p.0 ++ q.0, ap (λ z. z ++ ys) p.1 ∙ ap (λ z. flat_map spelling p.0 ++ z) q.1 ∙ sym (flat_map-append spelling p.0 q.0), Leads-append may p.0 q.0 a b c p.2 q.2)

pub Draws-weaken : (may : Screen → Operation → Type 0) (xs : List ℕ) (a b : Screen) → Draws may xs a b → Draws Anything xs a b
Draws-weaken may xs a b p = (p.0, p.1, Leads-weaken may p.0 a b p.2)

pub Draws-at : (may : Screen → Operation → Type 0) (xs ys : List ℕ) (a b t : Screen) → ys ≡ xs → b ≡ a → Draws may xs a t → Draws may ys b t
Draws-at may xs ys a b t e f draws = rw (e, f) draws
