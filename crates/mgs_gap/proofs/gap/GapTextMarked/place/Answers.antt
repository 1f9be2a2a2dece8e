use Rattle.std.proofs.Common.{◌≡◌, ℕ, ◌≤◌, ◌++◌, Some, set, length, subst, sym, ap, ap₂, ◌∙◌}
use Rattle.std.specs.Option.{option_map}
use Rattle.mgs_marks.specs.Marks.{position_in}
use Rattle.mgs_gap.specs.RawPlaces.{text_place, raw_place, IsRaw, marks_at}
use Rattle.mgs_gap.proofs.Marks.{map_set, position_set, slot_used}
use Rattle.mgs_gap.proofs.Shifts.{text_of_raw, is_raw}
use Rattle.mgs_gap.proofs.gap.GapTextMarked.place.Goals as goal

pub put_place-requires : goal.put_place-requires
put_place-requires c = let now = c.args.self.now in slot_used (text_place (length now.block.front) now.block.gap) now.places.slots c.args.id c.slot.result c.slot.ensures c.requires.used

pub invariant_of-self : goal.invariant_of-self
invariant_of-self c =
    let now = c.args.self.now in let n = length now.block.front in let g = now.block.gap in let len = length (now.block.front ++ now.block.back) in
    let r : c.to_raw-place.result ≡ raw_place n g c.args.p = c.to_raw-place.ensures ∙ ap₂ (λ x y. raw_place x y c.args.p) c.gap.ensures.start c.gap.ensures.width in
    record {
      lines = now.lines;
      raw = λ i. subst (λ ys. IsRaw n g (position_in ys i)) (sym c.put_place.ensures) (position_set (IsRaw n g) now.places.slots c.slot.result (Some c.to_raw-place.result) (rw r (is_raw n g c.args.p)) now.raw i);
      within = λ i. subst (λ ys. text_place n g (position_in ys i) ≤ len) (sym c.put_place.ensures)
          (position_set (λ p. text_place n g p ≤ len) now.places.slots c.slot.result (Some c.to_raw-place.result) (rw (r, text_of_raw n g c.args.p) c.requires.within) now.within i);
    }

pub returns-clause-marks : goal.returns-clause-marks
returns-clause-marks c =
    let now = c.args.self.now in let n = length now.block.front in let g = now.block.gap in
    let r : c.to_raw-place.result ≡ raw_place n g c.args.p = c.to_raw-place.ensures ∙ ap₂ (λ x y. raw_place x y c.args.p) c.gap.ensures.start c.gap.ensures.width in
    ap (marks_at n g) c.put_place.ensures ∙ map_set (option_map (text_place n g)) now.places.slots c.slot.result (Some c.to_raw-place.result)
    ∙ ap₂ (λ (i m : ℕ). set (marks_at n g now.places.slots) i (Some m)) c.slot.ensures (ap (text_place n g) r ∙ text_of_raw n g c.args.p)
