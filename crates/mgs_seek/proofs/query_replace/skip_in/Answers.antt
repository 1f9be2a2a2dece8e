use Rattle.std.proofs.Common.{ℕ, ◌<◌, ◌^◌, min, length, sym, ap, subst, ◌∙◌}
use Rattle.mgs_buffers.specs.MarkedBuffer.{marked_at}
use Rattle.mgs_search.specs.Planned.{IsSkipped}
use Rattle.mgs_world.specs.Worlds.{aim_old}
use Rattle.mgs_seek.proofs.Skips.{as_read, only_skipped, skip_does, skip_fails, within_read}
use Rattle.mgs_seek.proofs.query_replace.skip_in.Goals as goal

pub returns-in-Err-clause-does : goal.returns-in-Err-clause-does
returns-in-Err-clause-does g c = λ s r held aim. rw c.fail.ensures (skip_fails c.args.directory.now c.args.buffers.now c.args.session.now c.in-Err.message r.put c.in-Err.ensures.err)

pub returns-in-Some : goal.returns-in-Some
returns-in-Some g c =
    let d = c.args.directory.now in
    let ks = c.args.buffers.now in
    let h = c.args.session.now in
    let x = c.in-Ok.window_marks in
    let s = c.in-Some.search in
    let text = (marked_at x.name ks).buffer.text in
    let next = c.skip_match-next.result in
    let shown = sym c.take_replacing.ensures.search ∙ c.in-Some.is in
    let few = subst (λ (n : ℕ). n < 2 ^ 64) c.replaced_count.ensures.value c.replaced_count.ensures.small in
    let small = within_read next _ (aim_old s.aim) _ text c.replaced_text.ensures.value c.text_at.ensures.text c.skip_match-next.ensures.within in
    let planned = as_read (λ q t p. IsSkipped q t p next) _ (aim_old s.aim) _ text _ (min s.anchor (length text)) c.replaced_text.ensures.value c.text_at.ensures.text (c.min-anchor.ensures ∙ ap (min s.anchor) c.text_len_at.ensures.value) c.skip_match-next.ensures.plan in
    record {
      only = rw (c.meet.ensures.buffers, c.meet.ensures.session, c.take_replacing.ensures.rest) (only_skipped d ks h x s c.requires c.in-Ok.ensures.ok shown few next small planned);
      does = λ t r held aim. rw (c.meet.ensures.buffers, c.meet.ensures.session, c.take_replacing.ensures.rest) (skip_does d ks h x s c.requires c.in-Ok.ensures.ok shown few next small planned t r held aim);
    }
