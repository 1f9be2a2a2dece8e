use Rattle.std.proofs.Common.{◌≤◌, ℕ, length, subst, [], refl}
use Rattle.mgs_buffers.specs.MarkedBuffer.{mark_at, marked_at}
use Rattle.mgs_model.specs.declared.session.Seeking.TheVariants.{StartSearch}
use Rattle.mgs_seek.specs.Beginning.{searching_state}
use Rattle.mgs_seek.proofs.Starts.{begin_does, start_fails}
use Rattle.mgs_seek.proofs.incremental_search.begin_in.Goals as goal

pub returns-in-Err-clause-does : goal.returns-in-Err-clause-does
returns-in-Err-clause-does g c = λ n.
    rw c.fail.ensures (start_fails c.args.directory.now c.args.buffers.now c.args.session.now (searching_state c.args.direction) (StartSearch c.args.direction) n [] c.requires.fresh c.in-Err.message refl c.in-Err.ensures.err)

pub returns-in-Ok-clause-does : goal.returns-in-Ok-clause-does
returns-in-Ok-clause-does g c = λ n.
    let ks = c.args.buffers.now in
    let x = c.in-Ok.window_marks in
    let small : mark_at x.name ks x.point ≤ length (marked_at x.name ks).buffer.text = subst (λ (p : ℕ). p ≤ length (marked_at x.name ks).buffer.text) c.pos-place.ensures.value c.pos-place.ensures.within in
    rw (c.go_on.ensures, c.new.ensures, c.pos-place.ensures.value) (begin_does c.args.directory.now ks c.args.session.now c.args.direction c.requires.sound c.requires.fresh x c.in-Ok.ensures.ok small n)
