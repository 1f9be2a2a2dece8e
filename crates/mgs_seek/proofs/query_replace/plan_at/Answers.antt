use Rattle.std.proofs.Common.{◌≡◌, ℕ, ◌<◌, ◌≤◌, ◌^◌, min, length, List, sym, ap, subst, ◌∙◌, arith}
use Rattle.mgs_buffers.specs.MarkedBuffer.{marked_at}
use Rattle.mgs_session.specs.declared.search.Edited.{Edited}
use Rattle.mgs_seek.specs.Planning.{IsPlan, edit_planned, put_by}
use Rattle.mgs_seek.proofs.Puts.{within_text}
use Rattle.mgs_seek.proofs.query_replace.plan_at.Goals as goal

pub is_full-requires-clause-within : goal.is_full-requires-clause-within
is_full-requires-clause-within g c =
    let x = c.args.window_marks.now in
    let ks = c.args.buffers.now in
    let r = c.args.replacing.now in
    let text = (marked_at x.name ks).buffer.text in
    let inside : c.min-anchor.result ≤ length text = omega (arith, c.min-anchor.ensures, c.text_len_at-size.ensures.value) in
    let to = ap (λ (q : Edited). q.to) c.edit_planned-edit.ensures.value in
    omega (arith, to, within_text c.args.last c.min-anchor.result r text c.plan-plan.result inside (subst (λ (t : List ℕ). IsPlan t c.min-anchor.result r c.args.last c.plan-plan.result) c.text_at.ensures.text c.plan-plan.ensures))

pub returns-clause-ok : goal.returns-clause-ok
returns-clause-ok g c =
    let x = c.args.window_marks.now in
    let ks = c.args.buffers.now in
    let r = c.args.replacing.now in
    let text = (marked_at x.name ks).buffer.text in
    let size = c.text_len_at-size.ensures.value in
    let anchor : c.min-anchor.result ≡ min c.args.anchor (length text) = c.min-anchor.ensures ∙ ap (min c.args.anchor) size in
    let b = c.plan-plan.result.replaces in
    record {
      place = c.place_of-place.ensures.value;
      edit = c.edit_planned-edit.ensures.value ∙ ap (λ (n : ℕ). edit_planned n c.min-anchor.result r b) size ∙ ap (λ (n : ℕ). edit_planned (length text) n r b) anchor;
      plan =
          subst (λ (n : ℕ). IsPlan text n r c.args.last c.plan-plan.result) anchor
          (subst (λ (t : List ℕ). IsPlan t c.min-anchor.result r c.args.last c.plan-plan.result) c.text_at.ensures.text c.plan-plan.ensures);
      room = sym (c.is_full.ensures (put_by b r.put) (sym (ap (λ (q : Edited). q.added) c.edit_planned-edit.ensures.value))) ∙ c.if-is_full.false;
      fits = omega (arith, c.edit_planned-edit.ensures.few, ap (λ (q : Edited). q.size) c.edit_planned-edit.ensures.value, c.text_len_at-size.ensures.limit);
      count = subst (λ (n : ℕ). n < 2 ^ 64) c.count.ensures.value c.count.ensures.small;
    }
