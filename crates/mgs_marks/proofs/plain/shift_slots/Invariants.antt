use Rattle.std.proofs.Common.{◌≡◌, ◌<◌, ◌≤◌, ℕ, length}
use Rattle.std.specs.Option.{option_map}
use Rattle.mgs_model.specs.Text.{shift}
use Rattle.slab.specs.Slab.{get}
use Rattle.mgs_marks.proofs.plain.shift_slots.Given as goal

-- the marks of the slots that were passed are moved, and the others are as they were
abbrev pub invariant-loop-id : goal.invariant-loop-id
invariant-loop-id l = record {
  moved : (k : ℕ) → k < l.id → get l.slots k ≡ option_map (shift l.a l.b l.n) (get l.initial.slots k);
  others : (k : ℕ) → l.id ≤ k → get l.slots k ≡ get l.initial.slots k;
  same : length l.slots.slots ≡ length l.initial.slots.slots;
}
