use Rattle.std.proofs.Common.{◌≡◌, ◌≤◌, ℕ, refl, subst, sym, ap, arith, List, Option, Some}
use Rattle.mgs_buffers.specs.MarkedBuffer.{MarkedBuffer}
use Rattle.mgs_windows.specs.declared.WindowMarks.{WindowMarks}
use Rattle.mgs_world.specs.Sound.{IsShownSound, in_use, window_marks_uses}
use Rattle.mgs_world.specs.WindowMarks.{WindowMarksDropped}
use Rattle.mgs_world.proofs.Soundness.{mark_is_kept, shown_point}
use Rattle.mgs_world.proofs.WindowMarks.{marked_marked_kept, top_still_used, mark_still_used, window_marks_dropped, marked_window_marks_dropped}
use Rattle.mgs_world.proofs.window_marks.drop_window_marks.Goals as goal

within : (ks : List MarkedBuffer) (o : Option WindowMarks) (x : WindowMarks) → IsShownSound ks o → o ≡ Some x → (m : List ℕ) (i : ℕ) → window_marks_uses m i (Some x) ≤ in_use m i ks
within ks o x sound is m i = let e : window_marks_uses m i o ≡ window_marks_uses m i (Some x) = ap (window_marks_uses m i) is in omega (arith, sound.once m i, e)

pub drop_mark-requires-clause-kept : goal.drop_mark-requires-clause-kept
drop_mark-requires-clause-kept g c =
    let x = c.in-Some.window_marks in
    mark_is_kept x.name x.point c.args.buffers.now (shown_point c.args.buffers.now c.args.shows x c.requires c.in-Some.is)

pub drop_mark-requires-2-clause-kept : goal.drop_mark-requires-2-clause-kept
drop_mark-requires-2-clause-kept g c =
    let x = c.in-Some.window_marks in
    let mark = shown_point c.args.buffers.now c.args.shows x c.requires c.in-Some.is in
    marked_marked_kept x.name c.drop_mark.ensures.marks c.args.buffers.now c.drop_mark.new.self (mark_is_kept x.name x.point c.args.buffers.now mark) c.drop_mark.ensures.shape

pub drop_mark-requires-2-clause-mark : goal.drop_mark-requires-2-clause-mark
drop_mark-requires-2-clause-mark g c =
    let x = c.in-Some.window_marks in
    let mark = shown_point c.args.buffers.now c.args.shows x c.requires c.in-Some.is in
    top_still_used x.name x c.args.buffers.now c.drop_mark.new.self refl (mark_is_kept x.name x.point c.args.buffers.now mark) (within c.args.buffers.now c.args.shows x c.requires c.in-Some.is) mark c.drop_mark.ensures

pub drop_mark-requires-in-Some-mark-clause-kept : goal.drop_mark-requires-in-Some-mark-clause-kept
drop_mark-requires-in-Some-mark-clause-kept g c =
    let x = c.in-Some.window_marks in
    let mark = shown_point c.args.buffers.now c.args.shows x c.requires c.in-Some.is in
    marked_marked_kept x.name c.drop_mark-2.ensures.marks c.drop_mark.new.self c.drop_mark-2.new.self
    (marked_marked_kept x.name c.drop_mark.ensures.marks c.args.buffers.now c.drop_mark.new.self (mark_is_kept x.name x.point c.args.buffers.now mark) c.drop_mark.ensures.shape)
    c.drop_mark-2.ensures.shape

pub drop_mark-requires-in-Some-mark-clause-mark : goal.drop_mark-requires-in-Some-mark-clause-mark
drop_mark-requires-in-Some-mark-clause-mark g c =
    let x = c.in-Some.window_marks in
    let ks = c.args.buffers.now in
    let mark = shown_point ks c.args.shows x c.requires c.in-Some.is in
    let kept = mark_is_kept x.name x.point ks mark in
    let inside = within ks c.args.shows x c.requires c.in-Some.is in
    mark_still_used x.name x c.in-Some-mark.mark ks c.drop_mark.new.self c.drop_mark-2.new.self refl c.in-Some-mark.is kept inside mark c.drop_mark.ensures
    (top_still_used x.name x ks c.drop_mark.new.self refl kept inside mark c.drop_mark.ensures) c.drop_mark-2.ensures

pub returns-in-Some-mark : goal.returns-in-Some-mark
returns-in-Some-mark g c =
    let x = c.in-Some.window_marks in
    let ks = c.args.buffers.now in
    let mark = shown_point ks c.args.shows x c.requires c.in-Some.is in
    let kept = mark_is_kept x.name x.point ks mark in
    let inside = within ks c.args.shows x c.requires c.in-Some.is in
    let top = top_still_used x.name x ks c.drop_mark.new.self refl kept inside mark c.drop_mark.ensures in
    subst (λ (o : Option WindowMarks). WindowMarksDropped o ks c.drop_mark-in-Some-mark.new.self) (sym c.in-Some.is)
    (marked_window_marks_dropped x.name x c.in-Some-mark.mark ks c.drop_mark.new.self c.drop_mark-2.new.self c.drop_mark-in-Some-mark.new.self refl c.in-Some-mark.is kept mark c.drop_mark.ensures top c.drop_mark-2.ensures
    (mark_still_used x.name x c.in-Some-mark.mark ks c.drop_mark.new.self c.drop_mark-2.new.self refl c.in-Some-mark.is kept inside mark c.drop_mark.ensures top c.drop_mark-2.ensures) c.drop_mark-in-Some-mark.ensures)

pub returns-in-None : goal.returns-in-None
returns-in-None g c =
    let x = c.in-Some.window_marks in
    let ks = c.args.buffers.now in
    let mark = shown_point ks c.args.shows x c.requires c.in-Some.is in
    let kept = mark_is_kept x.name x.point ks mark in
    let inside = within ks c.args.shows x c.requires c.in-Some.is in
    subst (λ (o : Option WindowMarks). WindowMarksDropped o ks c.drop_mark-2.new.self) (sym c.in-Some.is)
    (window_marks_dropped x.name x ks c.drop_mark.new.self c.drop_mark-2.new.self refl c.in-None.is kept mark c.drop_mark.ensures (top_still_used x.name x ks c.drop_mark.new.self refl kept inside mark c.drop_mark.ensures) c.drop_mark-2.ensures)
