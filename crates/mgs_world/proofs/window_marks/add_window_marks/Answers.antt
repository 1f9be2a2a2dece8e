use Rattle.std.proofs.Common.{◌≡◌, ◌≤◌, ℕ, List, length, Option, Some, None, sym, subst}
use Rattle.std.specs.Prelude.{Result, Ok, Err, IfOk, IfSome}
use Rattle.mgs_model.specs.World.{Buffer}
use Rattle.mgs_buffers.specs.MarkedBuffer.{MarkedBuffer, HasBuffer, MarkAdded, marked_at}
use Rattle.mgs_windows.specs.declared.WindowMarks.{WindowMarks}
use Rattle.mgs_world.specs.WindowMarks.{MarkAddedBeside, WindowMarksAdded}
use Rattle.mgs_world.proofs.WindowMarks.{buffer_same, window_mark_added}
use Rattle.mgs_world.proofs.window_marks.add_window_marks.Goals as goal

-- the mark comes beside point and top
beside : {E : Type 0} (r : Result WindowMarks E) (n : List ℕ) (p q t : ℕ) (m : Option ℕ) (x : WindowMarks) (a c d : List MarkedBuffer) → m ≡ Some q → HasBuffer n c → WindowMarksAdded n p None t x a c → x.mark ≡ None
    → IfOk r (λ y. MarkAddedBeside x q y c d) → IfOk r (λ y. WindowMarksAdded n p m t y a d)
beside (Err e) n p q t m x a c d is kept h unmarked got = got
beside (Ok y) n p q t m x a c d is kept h unmarked got =
    let added : MarkAdded n q got.0 c d = subst (λ (k : List ℕ). MarkAdded k q got.0 c d) h.named got.1 in
    subst (λ (o : Option ℕ). WindowMarksAdded n p o t y a d) (sym is)
    (subst (λ (z : WindowMarks). WindowMarksAdded n p (Some q) t z a d) (sym got.2) (window_mark_added n p q t got.0 x a c d kept h unmarked added))

pub add_mark_beside-requires-clause-within : goal.add_mark_beside-requires-clause-within
add_mark_beside-requires-clause-within g c =
    let h = c.in_ok-window_marks.ensures.ok in
    let n = c.args.name.now in
    let most : c.in-Some.mark ≤ length (marked_at n c.args.buffers.now).buffer.text =
    subst (λ (o : Option ℕ). IfSome o (λ (m : ℕ). m ≤ length (marked_at n c.args.buffers.now).buffer.text)) c.in-Some.is c.requires.mark in
    subst (λ (k : List ℕ). c.in-Some.mark ≤ length (marked_at k c.add_point_and_top.new.buffers).buffer.text) (sym h.named)
    (subst (λ (b : Buffer). c.in-Some.mark ≤ length b.text) (sym (buffer_same n c.args.buffers.now c.add_point_and_top.new.buffers c.requires.kept h.buffers).1) most)

pub returns-in-Some-clause-ok : goal.returns-in-Some-clause-ok
returns-in-Some-clause-ok g c =
    let h = c.in_ok-window_marks.ensures.ok in
    let n = c.args.name.now in
    beside c.add_mark_beside.result n c.args.point c.in-Some.mark c.args.top c.args.mark c.in_ok-window_marks.window_marks c.args.buffers.now c.add_point_and_top.new.buffers c.add_mark_beside.new.buffers c.in-Some.is
    (buffer_same n c.args.buffers.now c.add_point_and_top.new.buffers c.requires.kept h.buffers).0 h c.in_ok-window_marks.ensures.unmarked c.add_mark_beside.ensures.ok
