use Rattle.std.proofs.Common.{◌≡◌, ℕ, ◌≤◌, ◌++◌, Some, length, ap, ap₂, ◌∙◌, sym}
use Rattle.std.specs.Option.{option_map}
use Rattle.mgs_marks.specs.Marks.{mark_in}
use Rattle.mgs_gap.specs.RawPlaces.{text_place, raw_place, IsRaw}
use Rattle.mgs_gap.proofs.Marks.{mark_map, position_added}
use Rattle.mgs_gap.proofs.Shifts.{text_of_raw, is_raw}
use Rattle.mgs_gap.proofs.gap.GapTextMarked.add_mark.Goals as goal

pub returns-clause-added : goal.returns-clause-added
returns-clause-added c =
    let now = c.args.self.now in let n = length now.block.front in let g = now.block.gap in let f = text_place n g in
    let ys = c.add_place.new.places.slots in
    let r : c.to_raw.result ≡ raw_place n g c.args.p = c.to_raw.ensures ∙ ap₂ (λ x y. raw_place x y c.args.p) c.gap-gap.ensures.start c.gap-gap.ensures.width in
    mark_map f ys c.of.result ∙ ap (λ i. option_map f (mark_in ys i)) c.of.ensures ∙ ap (option_map f) c.in_ok-id.ensures.added ∙ ap (λ (m : ℕ). Some m) (ap f r ∙ text_of_raw n g c.args.p)

pub returns-clause-others : goal.returns-clause-others
returns-clause-others c =
    let now = c.args.self.now in let n = length now.block.front in let g = now.block.gap in let f = text_place n g in
    let ys = c.add_place.new.places.slots in
    λ k ne. mark_map f ys k ∙ ap (option_map f) (c.in_ok-id.ensures.others k (λ e. ne (e ∙ sym c.of.ensures))) ∙ sym (mark_map f now.places.slots k)

pub invariant_of-self : goal.invariant_of-self
invariant_of-self c =
    let now = c.args.self.now in let n = length now.block.front in let g = now.block.gap in let len = length (now.block.front ++ now.block.back) in
    let r : c.to_raw.result ≡ raw_place n g c.args.p = c.to_raw.ensures ∙ ap₂ (λ x y. raw_place x y c.args.p) c.gap-gap.ensures.start c.gap-gap.ensures.width in
    let old = now.places.slots in let new = c.add_place.new.places.slots in
    record {
      lines = now.lines;
      raw = position_added (IsRaw n g) old new c.to_raw.result c.add_place.result c.add_place.ensures.added c.add_place.ensures.others c.add_place.ensures.err (rw r (is_raw n g c.args.p)) now.raw;
      within = position_added (λ p. text_place n g p ≤ len) old new c.to_raw.result c.add_place.result c.add_place.ensures.added c.add_place.ensures.others c.add_place.ensures.err (rw (r, text_of_raw n g c.args.p) c.requires) now.within;
    }
