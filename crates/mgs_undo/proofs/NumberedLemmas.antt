-- Look-ups by serial are look-ups by place.
use Rattle.std.proofs.Common.{◌≡◌, ◌≢◌, true≢false, ◌<◌, ◌≤◌, ◌+◌, ◌-◌, ℕ, zero, suc, Bool, true, false, cond, List, [], ◌∷◌, length, take, slice_get, Some, None, refl, sym, ap, ◌∙◌, arith}
use Rattle.std.specs.Prelude.{find, ◌==◌}
use Rattle.std.specs.Option.{option_map}
use Rattle.std.proofs.lemmas.Bool.{eqb-true, eq-eqb}
use Rattle.mgs_model.specs.World.{Item}
use Rattle.mgs_undo.specs.declared.Edit.{Edit}
use Rattle.mgs_undo.specs.History.{History, has_serial}
use Rattle.mgs_undo.specs.Numbered.{item_of, numbered}

pub numbered-take : (k n : ℕ) (es : List Edit) → numbered n (take k es) ≡ take k (numbered n es)
numbered-take zero n es = refl
numbered-take (suc k) n [] = refl
numbered-take (suc k) n (e ∷ es) = ap (λ xs. item_of n e ∷ xs) (numbered-take k (n - 1) es)

pub slice_get-numbered : (n i : ℕ) (es : List Edit) → slice_get (numbered n es) i ≡ option_map (item_of (n - i)) (slice_get es i)
slice_get-numbered n i [] = refl
slice_get-numbered n zero (e ∷ es) = let same : n ≡ n - 0 = omega arith in ap (λ s. Some (item_of s e)) same
slice_get-numbered n (suc i) (e ∷ es) =
    let same : n - 1 - i ≡ n - suc i = omega arith in
    slice_get-numbered (n - 1) i es ∙ ap (λ s. option_map (item_of s) (slice_get es i)) same

-- none has a serial above the last
pub find_above : (n k : ℕ) (es : List Edit) → n < k → find (has_serial k) (numbered n es) ≡ None
find_above n k [] h = refl
find_above n k (e ∷ es) h =
    let go : (b : Bool) → (n == k) ≡ b → cond b (Some (item_of n e)) (find (has_serial k) (numbered (n - 1) es)) ≡ None =
    λ b. elim b as (λ b. (n == k) ≡ b → cond b (Some (item_of n e)) (find (has_serial k) (numbered (n - 1) es)) ≡ None) [
      | true ↦ λ t. absurd (omega (arith, eqb-true n k t))
      | false ↦ λ t. find_above (n - 1) k es (omega arith)
    ]
    in go (n == k) refl

pub find_numbered : (n k : ℕ) (es : List Edit) → length es ≤ n → k ≤ n → find (has_serial k) (numbered n es) ≡ option_map (item_of k) (slice_get es (n - k))
find_numbered n k [] few h = refl
find_numbered n k (e ∷ es) few h =
    let goal : Bool → Type 0 = λ b. (n == k) ≡ b → cond b (Some (item_of n e)) (find (has_serial k) (numbered (n - 1) es)) ≡ option_map (item_of k) (slice_get (e ∷ es) (n - k)) in
    let go : (b : Bool) → goal b =
    λ b. elim b as goal [
      | true ↦ λ t. let same : n ≡ k = eqb-true n k t in let none : n - k ≡ 0 = omega arith in rw (none, same) refl
      | false ↦ λ t.
          let apart : n ≢ k = λ s. absurd (true≢false (sym (eq-eqb n k s) ∙ t)) in
          let next : n - k ≡ suc (n - 1 - k) = omega arith in
          let fewer : length es ≤ n - 1 = omega arith in
          let below : k ≤ n - 1 = omega arith in
          rw next (find_numbered (n - 1) k es fewer below)
    ]
    in go (n == k) refl

abbrev pub history : List Item → ℕ → History
history items serial = record { items = items; serial = serial }

-- one edit more, in a block for 1,000
pub pushed : (n c : ℕ) (e : Edit) (es : List Edit) (h : History) → c ≡ 1000 → history (numbered n es) n ≡ h
    → history (numbered (n + 1) (take c (e ∷ es))) (n + 1) ≡ history (item_of (h.serial + 1) e ∷ take 999 h.items) (h.serial + 1)
pushed n c e es h room view =
    let back : n + 1 - 1 ≡ n = omega arith in
    ap (λ m. history (numbered (n + 1) (take m (e ∷ es))) (n + 1)) room
    ∙ ap (λ m. history (item_of (n + 1) e ∷ numbered m (take 999 es)) (n + 1)) back
    ∙ ap (λ xs. history (item_of (n + 1) e ∷ xs) (n + 1)) (numbered-take 999 n es)
    ∙ ap (λ (v : History). history (item_of (v.serial + 1) e ∷ take 999 v.items) (v.serial + 1)) view

-- what is pushed out is the oldest of 1,000
pub oldest : (n c : ℕ) (e : Edit) (es : List Edit) (h : History) → c ≡ 1000 → history (numbered n es) n ≡ h
    → option_map (item_of (h.serial - 999)) (slice_get (e ∷ es) c) ≡ slice_get h.items 999
oldest n c e es h room view =
    ap (λ m. option_map (item_of (h.serial - 999)) (slice_get (e ∷ es) m)) room
    ∙ ap (λ m. option_map (item_of (m - 999)) (slice_get es 999)) (sym (ap (λ (v : History). v.serial) view))
    ∙ sym (slice_get-numbered n 999 es)
    ∙ ap (λ (v : History). slice_get v.items 999) view
