-- No text passes its limit.
use Rattle.std.proofs.Common.{◌≡◌, ◌+◌, ◌-◌, ◌≤◌, ℕ, Bool, true, false, cond, List, [], ◌∷◌, ◌++◌, length, Some, ap, arith}
use Rattle.std.specs.Prelude.{find, Result, Ok, Err, OnOk, OnErr}
use Rattle.mgs_model.specs.Apply.{change_first}
use Rattle.mgs_buffers.proofs.Edits.{size_edited}
use Rattle.mgs_buffers.specs.MarkedBuffer.{MarkedBuffer, marked_named, marked_at, marked_or_none, marked_edited, without_marked, AreWithinLimit}

abbrev size : MarkedBuffer → ℕ
size k = length k.buffer.text

-- the kept text is within the limit
pub limit-at : (name : List ℕ) (ks : List MarkedBuffer) → AreWithinLimit ks → size (marked_at name ks) ≤ 1048576
limit-at name [] h = omega arith
limit-at name (k ∷ ks) h =
    let goal : Bool → Type 0 = λ b. size (marked_or_none (cond b (Some k) (find (marked_named name) ks))) ≤ 1048576 in
    elim (marked_named name k) as goal [ true ↦ h.0 | false ↦ limit-at name ks h.1 ]

-- a change that leaves the size of the text that it changes within the limit
pub limit-changed : (name : List ℕ) (f : MarkedBuffer → MarkedBuffer) (ks : List MarkedBuffer) → AreWithinLimit ks → size (f (marked_at name ks)) ≤ 1048576 → AreWithinLimit (change_first (marked_named name) f ks)
limit-changed name f [] h room = tt
limit-changed name f (k ∷ ks) h room =
    let goal : Bool → Type 0 = λ b. size (f (marked_or_none (cond b (Some k) (find (marked_named name) ks)))) ≤ 1048576 → AreWithinLimit (cond b (f k ∷ ks) (k ∷ change_first (marked_named name) f ks)) in
    let go : (b : Bool) → goal b = λ b. elim b as goal [ true ↦ λ r. (r, h.1) | false ↦ λ r. (h.0, limit-changed name f ks h.1 r) ] in
    go (marked_named name k) room

-- a change that keeps the text
pub limit-same : (name : List ℕ) (f : MarkedBuffer → MarkedBuffer) (ks : List MarkedBuffer) → ((k : MarkedBuffer) → (f k).buffer.text ≡ k.buffer.text) → AreWithinLimit ks → AreWithinLimit (change_first (marked_named name) f ks)
limit-same name f ks same h =
    let e : size (f (marked_at name ks)) ≡ size (marked_at name ks) = ap length (same (marked_at name ks)) in
    limit-changed name f ks h (omega (arith, e, limit-at name ks h))

-- an edit with room
pub limit-edited : (name : List ℕ) (a b : ℕ) (put : List ℕ) (ks : List MarkedBuffer) → AreWithinLimit ks → a ≤ b → b ≤ size (marked_at name ks) → size (marked_at name ks) + length put ≤ 1048576 + (b - a) → AreWithinLimit (change_first (marked_named name) (marked_edited a b put) ks)
limit-edited name a b put ks h order within room =
    limit-changed name (marked_edited a b put) ks h (omega (arith, order, within, room, size_edited a b put (marked_at name ks).buffer order within))

pub limit-added : (ks : List MarkedBuffer) (k : MarkedBuffer) → AreWithinLimit ks → size k ≤ 1048576 → AreWithinLimit (ks ++ k ∷ [])
limit-added [] k h room = (room, tt)
limit-added (x ∷ xs) k h room = (h.0, limit-added xs k h.1 room)

pub limit-removed : (name : List ℕ) (ks : List MarkedBuffer) → AreWithinLimit ks → AreWithinLimit (without_marked name ks)
limit-removed name [] h = h
limit-removed name (k ∷ ks) h =
    elim (marked_named name k) as (λ b. AreWithinLimit (cond b ks (k ∷ without_marked name ks))) [ true ↦ h.1 | false ↦ (h.0, limit-removed name ks h.1) ]

-- however a call ended
pub ended : {A E P Q X : Type 0} (r : Result A E) → OnOk r P → OnErr r Q → (P → X) → (Q → X) → X
ended (Ok x) p q on_ok on_err = on_ok p
ended (Err e) p q on_ok on_err = on_err q
