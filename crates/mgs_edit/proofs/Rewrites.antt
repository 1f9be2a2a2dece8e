-- A rewriting of mgs_fill is read as the change that it becomes, and can be done where that can.
use Rattle.std.proofs.Common.{◌≡◌, ℕ, ◌+◌, ◌-◌, ◌≤◌, List, length, refl, sym, ap, subst, ◌∙◌}
use Rattle.std.specs.Prelude.{slice_range, Result, Ok, Err, IfOk}
use Rattle.mgs_model.specs.Plans as model
use Rattle.mgs_model.specs.Plans.{alteration}
use Rattle.mgs_model.specs.declared.echo_text.Message.{Message}
use Rattle.mgs_model.specs.declared.session.Alteration.{Alteration}
use Rattle.mgs_fill.specs.Rewriting as fill
use Rattle.mgs_fill.specs.Rewriting.{IsRewrite, PointWithin, RewriteWithin, WrittenWithin, answer_read, point_at, rewrite_read}
use Rattle.mgs_fill.specs.declared.rewrite.Given.{Given}
use Rattle.mgs_fill.specs.declared.rewrite.Point.{Point}
use Rattle.mgs_fill.specs.declared.rewrite.Point.TheVariants.{Stays, To, Behind}
use Rattle.mgs_fill.specs.declared.rewrite.Rewrite.{Rewrite}
use Rattle.mgs_fill.specs.declared.rewrite.Written.{Written}
use Rattle.mgs_fill.specs.declared.rewrite.Written.TheVariants.{Nothing, Space, Cased, Filled}
use Rattle.mgs_edit.specs.Reading.{ChangeWithin, GoesWithin, IsChange, PutWithin, change_read, edit_read, finish_read, put_read, surrounded}
use Rattle.mgs_edit.specs.Rewriting.{changed, changed_or, finish_for, given_of, goes_for, put_for}
use Rattle.mgs_edit.specs.declared.plan.Around.{Around}
use Rattle.mgs_edit.specs.declared.plan.Change.{Change}

-- READ

put_same : (text kill : List ℕ) (a b : ℕ) (w : Written) → put_read text kill (put_for a b w) ≡ fill.chars_written (slice_range text a b) w
put_same text kill a b Nothing = refl
put_same text kill a b Space = refl
put_same text kill a b (Cased case) = refl
put_same text kill a b (Filled column len) = refl

finish_same : (text kill : List ℕ) (behind : ℕ) (p : Point) → finish_read text kill behind (finish_for p) ≡ record model.stays { point = point_at behind p }
finish_same text kill behind Stays = refl
finish_same text kill behind (To p) = refl
finish_same text kill behind Behind = refl

change_same : (text kill : List ℕ) (r : Rewrite) → change_read text kill (changed r) ≡ rewrite_read text r
change_same text kill r =
    ap (λ (put : List ℕ). model.replaces r.from r.to put (finish_read text kill (r.from + length put) (finish_for r.point))) (put_same text kill r.from r.to r.written)
    ∙ ap (λ (f : model.Finish). model.replaces r.from r.to (fill.put_for text r) f) (finish_same text kill (r.from + length (fill.put_for text r)) r.point)

answer_same : (text kill : List ℕ) (answer : Result Rewrite Message) → edit_read text kill (changed_or answer) ≡ answer_read text answer
answer_same text kill (Ok r) = ap (λ (c : model.Change). Ok c) (change_same text kill r)
answer_same text kill (Err message) = refl

pub is_change : (answer : Result Rewrite Message) (r : Result Change Message) → r ≡ changed_or answer → (command : Alteration) (x : Around) (text : List ℕ) (g : Given) → g ≡ given_of x → IsRewrite (alteration command) g text answer → IsChange (alteration command) x text r
is_change answer r is command x text g same h = λ rest.
    ap (edit_read text rest.kill) is ∙ answer_same text rest.kill answer
    ∙ (subst (λ (k : Given). IsRewrite (alteration command) k text answer) same h) (surrounded x (length text) rest)

-- DONE

put_within : (text : List ℕ) (a b : ℕ) (w : Written) → a ≤ b → b ≤ length text → WrittenWithin (slice_range text a b) w → PutWithin text (put_for a b w)
put_within text a b Nothing order within h = tt
put_within text a b Space order within h = tt
put_within text a b (Cased case) order within h = (order, within)
put_within text a b (Filled column len) order within h = (order, within, h)

goes_within : (size : ℕ) (p : Point) → PointWithin size p → GoesWithin size (goes_for p)
goes_within size Stays h = tt
goes_within size (To p) h = h
goes_within size Behind h = tt

change_within : (text kill : List ℕ) (r : Rewrite) → RewriteWithin text r → ChangeWithin text kill (changed r)
change_within text kill r h =
    let point : GoesWithin (length text - (r.to - r.from) + length (put_read text kill (put_for r.from r.to r.written))) (goes_for r.point) =
    subst (λ (put : List ℕ). GoesWithin (length text - (r.to - r.from) + length put) (goes_for r.point)) (sym (put_same text kill r.from r.to r.written)) (goes_within (length text - (r.to - r.from) + length (fill.put_for text r)) r.point h.point) in
    record { order = h.order; within = h.within; put = put_within text r.from r.to r.written h.order h.within h.written; finish = record { point = point; mark = tt; top = tt; kill = tt } }

answer_within : (text kill : List ℕ) (answer : Result Rewrite Message) → IfOk answer (RewriteWithin text) → IfOk (changed_or answer) (ChangeWithin text kill)
answer_within text kill (Ok r) h = change_within text kill r h
answer_within text kill (Err message) h = tt

pub is_within : (answer : Result Rewrite Message) (r : Result Change Message) → r ≡ changed_or answer → (text kill : List ℕ) → IfOk answer (RewriteWithin text) → IfOk r (ChangeWithin text kill)
is_within answer r is text kill h = subst (λ (c : Result Change Message). IfOk c (ChangeWithin text kill)) (sym is) (answer_within text kill answer h)
