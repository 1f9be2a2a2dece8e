-- Sessions whose connections are to be written to: no bytes wait for those that are passed over.
use Rattle.std.proofs.Common.{◌≡◌, ℕ, ◌<◌, Bool, true, false, not, ◌&&◌, ◌==◌, cond, eqb-true, List, [], ◌∷◌, length, map, Option, Some, None, refl, sym, ap, subst, ◌∙◌, arith}
use Rattle.std.specs.Prelude.{find, nat_eq}
use Rattle.std.specs.Option.{option_map}
use Rattle.std.proofs.lemmas.Bool.{lt-ltb}
use Rattle.std.proofs.lemmas.Bool.Decides.{nat_tests}
use Rattle.mgs_core.specs.Held.{AreRising}
use Rattle.mgs_wire.specs.Calls.{IsBefore, PassesNoEnd}
use Rattle.mgs_engine.specs.declared.session_end.Cause.{Cause}
use Rattle.mgs_engine.specs.declared.session_screen.Screen.{Screen}
use Rattle.mgs_engine.specs.Due.{is_due}
use Rattle.mgs_engine.specs.Queues.{find_queue, waiting_in}
use Rattle.mgs_engine.specs.Screens.{queue_of, queues_of, shown_size}
use Rattle.mgs_engine.specs.Serving.{Serving, has_ended, is_to_tell}

-- an id below the first is not there
not_there : (id : ℕ) (x : Screen) (xs : List Screen) → AreRising (map shown_size (x ∷ xs)) → id < x.id → find_queue id (queues_of (x ∷ xs)) ≡ None
not_there id x [] r l =
    let other : nat_eq x.id id ≡ false = grind (arith, nat_tests, l) in
    ap (λ b. cond b (Some (queue_of x)) None) other
not_there id x (y ∷ ys) r l =
    let other : nat_eq x.id id ≡ false = grind (arith, nat_tests, l) in
    let next : x.id < y.id = r.0 0 (shown_size y) (omega arith) in
    ap (λ b. cond b (Some (queue_of x)) (find_queue id (queues_of (y ∷ ys)))) other ∙ not_there id y ys r.1 (omega (arith, l, next))

-- nothing waits in a queue that is not due, where its id is above
none_in : (xs : List ℕ) (empty : Bool) → empty ≡ (length xs == 0) → not empty ≡ false → xs ≡ []
none_in [] empty e f = refl
none_in (x ∷ xs) true e f = absurd (omega (arith, eqb-true (length (x ∷ xs)) 0 (sym e)))
none_in (x ∷ xs) false e f = absurd cc

none_due : (after : ℕ) (x : Screen) → after < x.id → is_due after x ≡ false → x.queue ≡ []
none_due after x l e = none_in x.queue (length x.queue == 0) refl (sym (ap (λ b. b && not (length x.queue == 0)) (lt-ltb after x.id l)) ∙ e)

pub none_passed : (after : ℕ) (xs : List Screen) → AreRising (map shown_size xs) → (id : ℕ) → after < id → IsBefore id (option_map (λ (x : Screen). x.id) (find (is_due after) xs)) → waiting_in (find_queue id (queues_of xs)) ≡ []
none_passed after [] r id l before = refl
none_passed after (x ∷ xs) r id l before =
    let rest : List ℕ = waiting_in (find_queue id (queues_of xs)) in
    let goal : Bool → Type 0 = λ b. is_due after x ≡ b → IsBefore id (option_map (λ (x : Screen). x.id) (cond b (Some x) (find (is_due after) xs))) → waiting_in (find_queue id (queues_of (x ∷ xs))) ≡ [] in
    let same : Bool → Type 0 = λ b. nat_eq x.id id ≡ b → is_due after x ≡ false → IsBefore id (option_map (λ (x : Screen). x.id) (find (is_due after) xs)) → waiting_in (cond b (Some (queue_of x)) (find_queue id (queues_of xs))) ≡ [] in
    let here : (b : Bool) → same b =
    λ b. elim b as same [
      | true ↦ λ e d p. none_due after x (grind (arith, nat_tests, l, e)) d
      | false ↦ λ e d p. none_passed after xs r.1 id l p
    ]
    in
    let go : (b : Bool) → goal b =
    λ b. elim b as goal [
      | true ↦ λ d p. ap waiting_in (not_there id x xs r p)
      | false ↦ λ d p. here (nat_eq x.id id) refl d p
    ]
    in go (is_due after x) refl before

-- none that ended and is to be told
pub no_end_passed : (after : ℕ) (result : Option ℕ) (es : List (ℕ × Cause)) (s t : Serving) → s ≡ t → es ≡ s.ended → ((id : ℕ) → after < id → IsBefore id result → has_ended id es ≡ false) → PassesNoEnd is_to_tell after result t
no_end_passed after result es s t seen told passed =
    λ id few above before. subst (λ (u : Serving). is_to_tell id u ≡ false) seen (subst (λ (xs : List (ℕ × Cause)). has_ended id xs ≡ false) told (passed id above before))
