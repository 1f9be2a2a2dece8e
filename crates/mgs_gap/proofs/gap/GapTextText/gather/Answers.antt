use Rattle.std.proofs.Common.{◌≡◌, ◌++◌, ◌+◌, map, length, ap, ◌∙◌, arith, length-append}
use Rattle.std.specs.Option.{option_map}
use Rattle.mgs_gap.specs.RawPlaces.{moved, marks_at}
use Rattle.mgs_gap.proofs.Gathering.{marks_still, places_moved, still_raw, still_within}
use Rattle.mgs_gap.proofs.gap.GapTextText.gather.Goals as goal

pub invariant_of-self : goal.invariant_of-self
invariant_of-self c =
    let now = c.args.self.now in let n = length now.block.front in let g = now.block.gap in let whole = now.block.front ++ now.block.back in let e = length whole in
    let to = c.gather_lined.new.block in let m = length to.front in let h = to.gap in let xs = now.places.slots in
    let end : c.before-2.result + c.after-2.result ≡ e = omega (arith, c.before-2.ensures, c.after-2.ensures.value, length-append now.block.front now.block.back) in
    let held : c.move_places.new.places.slots ≡ map (option_map (moved n g e e 0 m h)) xs =
    places_moved c.gap-old.result.start c.gap-old.result.width c.before-3.result c.gap.result (c.before-2.result + c.after-2.result) n g e m h xs c.move_places.new.places.slots
    c.gap-old.ensures.start c.gap-old.ensures.width c.before-3.ensures c.gap.ensures end c.move_places.ensures in
    record {
      lines = (c.gather_lined.ensures.feeds, c.gather_lined.ensures.room);
      raw = still_raw n g e m h xs c.move_places.new.places.slots now.within held;
      within = still_within n g e m h (length (to.front ++ to.back)) xs c.move_places.new.places.slots now.within held
          (length-append to.front to.back ∙ omega (arith, ap length c.gather_lined.ensures.front, ap length c.gather_lined.ensures.back));
    }

pub returns-clause-marks : goal.returns-clause-marks
returns-clause-marks c =
    let now = c.args.self.now in let n = length now.block.front in let g = now.block.gap in let whole = now.block.front ++ now.block.back in let e = length whole in
    let to = c.gather_lined.new.block in let m = length to.front in let h = to.gap in let xs = now.places.slots in
    let end : c.before-2.result + c.after-2.result ≡ e = omega (arith, c.before-2.ensures, c.after-2.ensures.value, length-append now.block.front now.block.back) in
    let held : c.move_places.new.places.slots ≡ map (option_map (moved n g e e 0 m h)) xs =
    places_moved c.gap-old.result.start c.gap-old.result.width c.before-3.result c.gap.result (c.before-2.result + c.after-2.result) n g e m h xs c.move_places.new.places.slots
    c.gap-old.ensures.start c.gap-old.ensures.width c.before-3.ensures c.gap.ensures end c.move_places.ensures in
    ap (marks_at m h) held ∙ marks_still n g e m h xs now.within
