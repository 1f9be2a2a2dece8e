-- A granted decision grants each wanted right.
use Rattle.std.proofs.Common.{◌≡◌, ℕ, List, [], ◌∷◌, Option, Some, None, refl, Bool, true, cond}
use Rattle.std.specs.Prelude.{find, filter_map}
use Rattle.std.specs.List.{cons_option}
use Rattle.mgs_model.specs.Access.{Decider, Nobody, Allows, Denies, allows, denial_of, is_nobody, decided, decision_by}
use Rattle.mgs_model.specs.declared.right.Right.{Right}
use Rattle.mgs_model.specs.declared.entry.Decision.TheVariants.{Granted}

abbrev denials : (Right → Decider) → List Right → List (ℕ × Right)
denials f wanted = filter_map (λ right. denial_of (f right) right) wanted

abbrev undecided : (Right → Decider) → List Right → Option Right
undecided f wanted = find (λ right. is_nobody (f right)) wanted

-- each of the rights has such a decider
abbrev pub Each : (Right → Decider) → (Decider → Bool) → List Right → Type 0
Each f p [] = Unit {0}
Each f p (right ∷ rights) = (p (f right) ≡ true) × Each f p rights

decided-granted : (ds : List (ℕ × Right)) (o : Option Right) → decided ds o ≡ Granted → (ds ≡ []) × (o ≡ None)
decided-granted [] None e = (refl, refl)
decided-granted [] (Some right) e = cc
decided-granted (first ∷ others) o e = cc

each_allowed : (f : Right → Decider) (wanted : List Right) → denials f wanted ≡ [] → undecided f wanted ≡ None → Each f allows wanted
each_allowed f [] none all = tt
each_allowed f (right ∷ wanted) none all =
    let by : (k : Decider) → cons_option (denial_of k right) (denials f wanted) ≡ [] → cond (is_nobody k) (Some right) (undecided f wanted) ≡ None → (allows k ≡ true) × Each f allows wanted =
    λ k. elim k as (λ k. cons_option (denial_of k right) (denials f wanted) ≡ [] → cond (is_nobody k) (Some right) (undecided f wanted) ≡ None → (allows k ≡ true) × Each f allows wanted) [
      | Nobody ↦ λ p q. cc
      | Allows n ↦ λ p q. (refl, each_allowed f wanted p q)
      | Denies n ↦ λ p q. cc
    ]
    in by (f right) none all

pub granted_each : (f : Right → Decider) (wanted : List Right) → decision_by f wanted ≡ Granted → Each f allows wanted
granted_each f wanted e =
    let nothing : (denials f wanted ≡ []) × (undecided f wanted ≡ None) = decided-granted (denials f wanted) (undecided f wanted) e in
    each_allowed f wanted nothing.0 nothing.1
