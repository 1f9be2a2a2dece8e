use Rattle.std.proofs.Common.{◌≡◌, ℕ, ◌+◌, ◌-◌, ◌≤◌, ◌++◌, Option, List, map, length, subst, sym, ap, ap₂, ◌∙◌, arith, length-append}
use Rattle.std.specs.Option.{option_map}
use Rattle.std.proofs.lemmas.Grind.{common_steps}
use Rattle.mgs_model.specs.Text.{shift_all}
use Rattle.mgs_marks.specs.Marks.{position_in}
use Rattle.mgs_gap.specs.RawPlaces.{text_place, IsRaw, moved, marks_at}
use Rattle.mgs_gap.proofs.Shifts.{marks_moved, marks_stay, moved_raw, moved_within, edited_length, edited_front_length, at_gap, insertion_raw, insertion_within}
use Rattle.mgs_gap.proofs.gap.GapTextText.replace.Goals as goal

-- what the walk over the marks left, by the gap's place and width before and after it
moved_list : (n' g' m' h' n g a b k m h : ℕ) (xs ns : List (Option ℕ)) → n' ≡ n → g' ≡ g → m' ≡ m → h' ≡ h → ns ≡ map (option_map (moved n' g' a b k m' h')) xs → ns ≡ map (option_map (moved n g a b k m h)) xs
moved_list n' g' m' h' n g a b k m h xs ns en eg em eh e =
    e ∙ ap₂ (λ x y. map (option_map (moved x y a b k m' h')) xs) en eg ∙ ap₂ (λ x y. map (option_map (moved n g a b k x y)) xs) em eh

-- An insertion at the gap: the marks stay.
pub invariant_of-self-then-leaves_marks-clause-raw : goal.invariant_of-self-then-leaves_marks-clause-raw
invariant_of-self-then-leaves_marks-clause-raw c =
    let now = c.args.self.now in let n = length now.block.front in let g = now.block.gap in let put = c.args.put.now in let e = c.edit_lined.new.block in
    let w = at_gap (length e.front) e.gap n g (length put) c.args.a c.args.b c.gap-old.result.start c.gap-old.result.width
    (edited_front_length (now.block.front ++ now.block.back) e.front e.back put c.args.a c.args.b c.in_ok-edit_lined.ensures.front (omega (arith, c.requires.order, c.requires.within)))
    c.in_ok-edit_lined.ensures.gap c.gap-old.ensures.start c.gap-old.ensures.width (c.leaves_marks.ensures.0 (grind (arith, common_steps))) in
    λ i. subst (λ (v : ℕ × ℕ). IsRaw v.0 v.1 (position_in now.places.slots i)) (ap₂ (λ (x y : ℕ). (x, y)) (sym w.0) (sym w.1)) (insertion_raw n g (length put) (position_in now.places.slots i) w.2 (now.raw i))

pub invariant_of-self-then-leaves_marks-clause-within : goal.invariant_of-self-then-leaves_marks-clause-within
invariant_of-self-then-leaves_marks-clause-within c =
    let now = c.args.self.now in let n = length now.block.front in let g = now.block.gap in let put = c.args.put.now in let e = c.edit_lined.new.block in
    let w = at_gap (length e.front) e.gap n g (length put) c.args.a c.args.b c.gap-old.result.start c.gap-old.result.width
    (edited_front_length (now.block.front ++ now.block.back) e.front e.back put c.args.a c.args.b c.in_ok-edit_lined.ensures.front (omega (arith, c.requires.order, c.requires.within)))
    c.in_ok-edit_lined.ensures.gap c.gap-old.ensures.start c.gap-old.ensures.width (c.leaves_marks.ensures.0 (grind (arith, common_steps))) in
    let whole = now.block.front ++ now.block.back in
    let size : length whole + length put ≡ length (e.front ++ e.back) = omega (arith, w.4, edited_length whole e.front e.back put c.args.a c.args.b c.in_ok-edit_lined.ensures.front c.in_ok-edit_lined.ensures.back c.requires.order c.requires.within) in
    λ i. subst (λ (v : (ℕ × ℕ) × ℕ). text_place v.0.0 v.0.1 (position_in now.places.slots i) ≤ v.1) (ap₂ (λ (x : ℕ × ℕ) (y : ℕ). (x, y)) (ap₂ (λ (x y : ℕ). (x, y)) (sym w.0) (sym w.1)) size)
    (insertion_within n g (length put) (length whole) (position_in now.places.slots i) w.2 (omega (arith, length-append now.block.front now.block.back)) (now.within i))

pub returns-then-leaves_marks-clause-marks : goal.returns-then-leaves_marks-clause-marks
returns-then-leaves_marks-clause-marks c =
    let now = c.args.self.now in let n = length now.block.front in let g = now.block.gap in let put = c.args.put.now in let e = c.edit_lined.new.block in
    let w = at_gap (length e.front) e.gap n g (length put) c.args.a c.args.b c.gap-old.result.start c.gap-old.result.width
    (edited_front_length (now.block.front ++ now.block.back) e.front e.back put c.args.a c.args.b c.in_ok-edit_lined.ensures.front (omega (arith, c.requires.order, c.requires.within)))
    c.in_ok-edit_lined.ensures.gap c.gap-old.ensures.start c.gap-old.ensures.width (c.leaves_marks.ensures.0 (grind (arith, common_steps))) in
    ap₂ (λ m h. marks_at m h now.places.slots) w.0 w.1 ∙ marks_stay n g (length put) now.places.slots w.2 now.raw
    ∙ ap₂ (λ x y. shift_all x y (length put) (marks_at n g now.places.slots)) (sym w.3) (sym w.3 ∙ w.4)

pub invariant_of-self-2 : goal.invariant_of-self-2
invariant_of-self-2 c =
    let now = c.args.self.now in let n = length now.block.front in let g = now.block.gap in let a = c.args.a in let b = c.args.b in let put = c.args.put.now in
    let e = c.edit_lined.new.block in
    let m = length e.front in let h = e.gap in let xs = now.places.slots in let whole = now.block.front ++ now.block.back in
    let f = moved n g a b (length put) m h in
    let gone : c.move_places.new.places.slots ≡ map (option_map f) xs = moved_list c.gap-old.result.start c.gap-old.result.width c.before-2.result c.gap.result n g a b (length put) m h xs c.move_places.new.places.slots
    c.gap-old.ensures.start c.gap-old.ensures.width c.before-2.ensures c.gap.ensures c.move_places.ensures in
    let size : length (e.front ++ e.back) ≡ length whole - (b - a) + length put = edited_length whole e.front e.back put a b c.in_ok-edit_lined.ensures.front c.in_ok-edit_lined.ensures.back c.requires.order c.requires.within in
    record {
      lines = (c.in_ok-edit_lined.ensures.feeds, c.in_ok-edit_lined.ensures.room now.lines.1);
      raw = λ i. subst (λ ys. IsRaw m h (position_in ys i)) (sym gone) (moved_raw n g a b (length put) m h (length whole) xs c.requires.order c.requires.within now.within i);
      within = λ i. subst (λ ys. text_place m h (position_in ys i) ≤ length (e.front ++ e.back)) (sym gone)
          (subst (λ k. text_place m h (position_in (map (option_map f) xs) i) ≤ k) (sym size) (moved_within n g a b (length put) m h (length whole) xs c.requires.order c.requires.within now.within i));
    }

pub returns-clause-marks : goal.returns-clause-marks
returns-clause-marks c =
    let now = c.args.self.now in let n = length now.block.front in let g = now.block.gap in let a = c.args.a in let b = c.args.b in let put = c.args.put.now in
    let e = c.edit_lined.new.block in
    let m = length e.front in let h = e.gap in let xs = now.places.slots in
    let f = moved n g a b (length put) m h in
    let gone : c.move_places.new.places.slots ≡ map (option_map f) xs = moved_list c.gap-old.result.start c.gap-old.result.width c.before-2.result c.gap.result n g a b (length put) m h xs c.move_places.new.places.slots
    c.gap-old.ensures.start c.gap-old.ensures.width c.before-2.ensures c.gap.ensures c.move_places.ensures in
    ap (marks_at m h) gone ∙ marks_moved n g a b (length put) m h xs
