use Rattle.std.proofs.Common.{◌≤◌, ◌++◌, None, length, subst, sym, ap, ◌∙◌}
use Rattle.std.specs.Option.{option_map}
use Rattle.slab.specs.Slab.{get}
use Rattle.mgs_marks.specs.Marks.{position_in}
use Rattle.mgs_gap.specs.RawPlaces.{text_place, IsRaw}
use Rattle.mgs_gap.proofs.Marks.{mark_told, position_set, slot_used}
use Rattle.mgs_gap.proofs.Shifts.{raw_zero, zero_within}
use Rattle.mgs_gap.proofs.gap.GapTextMarked.drop_mark.Goals as goal

pub remove-requires : goal.remove-requires
remove-requires c = let now = c.args.self.now in slot_used (text_place (length now.block.front) now.block.gap) now.places.slots c.args.id c.slot.result c.slot.ensures c.requires

pub invariant_of-self : goal.invariant_of-self
invariant_of-self c =
    let now = c.args.self.now in let n = length now.block.front in let g = now.block.gap in let len = length (now.block.front ++ now.block.back) in
    record {
      lines = now.lines;
      raw = λ i. subst (λ ys. IsRaw n g (position_in ys i)) (sym c.remove.ensures.slots) (position_set (IsRaw n g) now.places.slots c.slot.result None (raw_zero n g) now.raw i);
      within = λ i. subst (λ ys. text_place n g (position_in ys i) ≤ len) (sym c.remove.ensures.slots) (position_set (λ p. text_place n g p ≤ len) now.places.slots c.slot.result None (zero_within n g len) now.within i);
    }

pub returns-clause-gone : goal.returns-clause-gone
returns-clause-gone c =
    let now = c.args.self.now in let f = text_place (length now.block.front) now.block.gap in let left = c.remove.new.self in
    mark_told f left.slots c.args.id ∙ ap (λ i. option_map f (get left i)) (sym c.slot.ensures) ∙ ap (option_map f) c.remove.ensures.updates.changed

pub returns-clause-others : goal.returns-clause-others
returns-clause-others c =
    let now = c.args.self.now in let f = text_place (length now.block.front) now.block.gap in
    λ k ne. mark_told f c.remove.new.self.slots k ∙ ap (option_map f) (c.remove.ensures.updates.others k (λ e. ne (e ∙ c.slot.ensures))) ∙ sym (mark_told f now.places.slots k)
