-- Slots, and opens that are refused.
use Rattle.std.proofs.Common.{◌≡◌, ℕ, ◌+◌, ◌<◌, ◌≤◌, true, false, List, [], ◌∷◌, ◌++◌, length, map, Option, Some, None, refl, sym, ap, ◌∙◌, arith}
use Rattle.std.specs.Prelude.{nat_le, if◌then◌else◌}
use Rattle.std.specs.Option.{option_or}
use Rattle.std.proofs.lemmas.Bool.{le-leb}
use Rattle.std.proofs.lemmas.Bool.Decides.{nat_tests}
use Rattle.std.proofs.lemmas.List.{length-map, length_push}
use Rattle.mgs_model.specs.World.{World}
use Rattle.mgs_model.specs.Events.{open_fault}
use Rattle.mgs_model.specs.declared.errors.OpenFault.{OpenFault}
use Rattle.mgs_model.specs.declared.errors.OpenFault.TheVariants.{Full}
use Rattle.mgs_model.specs.declared.limits.TheConstants.{SESSION_LIMIT}
use Rattle.mgs_world.specs.Worlds.{session_size, sizes}
use Rattle.mgs_core.specs.Kept.{Kept}
use Rattle.mgs_engine.specs.declared.session_end.Cause.{Cause}
use Rattle.mgs_engine.specs.declared.session_screen.Screen.{Screen}
use Rattle.mgs_engine.specs.Screens.{shown_size}
use Rattle.mgs_engine.specs.Served.{HasSlots, serving_of}
use Rattle.mgs_engine.specs.Serving.{Serving, opening_fault, slots_used}

-- each open session has a screen
pub open_screens : (w : World) (xs : List Screen) → map shown_size xs ≡ sizes w → length w.sessions ≡ length xs
open_screens w xs e = sym (length-map w.sessions session_size) ∙ sym (ap length e) ∙ length-map xs shown_size

-- lists of the same lengths in the same room
pub same_slots : (xs ys : List Screen) (es : List (ℕ × Cause)) (m n k : ℕ) → map shown_size ys ≡ map shown_size xs → k ≡ m → HasSlots xs es m n → HasSlots ys es k n
same_slots xs ys es m n k e room h =
    let l : length ys ≡ length xs = sym (length-map ys shown_size) ∙ ap length e ∙ length-map xs shown_size in
    record { limit = h.limit; each = omega (arith, l, h.each); same = room ∙ h.same }

pub more_slots : (xs ys : List Screen) (z : Screen) (es : List (ℕ × Cause)) (m n k : ℕ) → ys ≡ xs ++ z ∷ [] → k ≡ m → HasSlots xs es m n → length xs + length es < SESSION_LIMIT → HasSlots ys es k n
more_slots xs ys z es m n k is room h l =
    let len : length ys ≡ length xs + 1 = ap length is ∙ length_push xs z in
    record { limit = h.limit; each = omega (arith, len, l, h.limit); same = room ∙ h.same }

-- FAULTS

pub fault_first : (s : Serving) (user : List ℕ) (rows cols : ℕ) (fault : OpenFault) → Some fault ≡ open_fault s.world user rows cols → Some fault ≡ opening_fault s user rows cols
fault_first s user rows cols fault e = ap (λ o. option_or o (if nat_le SESSION_LIMIT (slots_used s) then Some Full else None)) e

pub fault_last : (w : Kept) (xs : List Screen) (es : List (ℕ × Cause)) (user : List ℕ) (rows cols : ℕ) → map shown_size xs ≡ sizes w.world → None ≡ open_fault w.world user rows cols → SESSION_LIMIT ≤ length xs + length es → Some Full ≡ opening_fault (serving_of w xs es) user rows cols
fault_last w xs es user rows cols e n l =
    let used : nat_le SESSION_LIMIT (length w.world.sessions + length es) ≡ true = le-leb SESSION_LIMIT (length w.world.sessions + length es) (omega (arith, l, open_screens w.world xs e)) in
    ap (λ b. if b then Some Full else None) (sym used)
    ∙ ap (λ o. option_or o (if nat_le SESSION_LIMIT (length w.world.sessions + length es) then Some Full else None)) n

pub fault_none : (w : Kept) (xs : List Screen) (es : List (ℕ × Cause)) (user : List ℕ) (rows cols : ℕ) → map shown_size xs ≡ sizes w.world → None ≡ open_fault w.world user rows cols → length xs + length es < SESSION_LIMIT → None ≡ opening_fault (serving_of w xs es) user rows cols
fault_none w xs es user rows cols e n l =
    let same : length w.world.sessions ≡ length xs = open_screens w.world xs e in
    let used : nat_le SESSION_LIMIT (length w.world.sessions + length es) ≡ false = grind (arith, nat_tests, same, l) in
    ap (λ b. if b then Some Full else None) (sym used)
    ∙ ap (λ o. option_or o (if nat_le SESSION_LIMIT (length w.world.sessions + length es) then Some Full else None)) n

-- THE ANSWER

first_none : {A : Type 0} (a b : Option A) → option_or a b ≡ None → a ≡ None
first_none None b e = refl
first_none (Some x) b e = cc

never : (f : OpenFault) → None ≡ Some f → ⊥
never f e = cc
