use Rattle.std.proofs.Common.{◌≡◌, ℕ, List, refl, ◌∙◌, ap, arith}
use Rattle.sqlite_wal.specs.Format.{stored_sum, commit_size}
use Rattle.sqlite_wal.specs.Recovery.{frame, Passes}
use Rattle.sqlite_wal.proofs.PartLemmas.{frames_len-zero}
use Rattle.mgs_tables.proofs.LogFrames.{next_frame, sum_after, size_at, up_to}
use Rattle.mgs_tables.proofs.log_check.end_of_frames.Goals as goal

pub loop-end-init : goal.loop-end-init
loop-end-init c = (
  omega (arith, frames_len-zero c.args.page_size),
  c.requires.long,
  omega arith,
  λ i h. absurd (omega (arith, h)),
  c.get_sum.ensures ∙ ap (λ (h : List ℕ). stored_sum h 24) c.requires.head,
  λ _. refl,
  λ i h. absurd (omega (arith, h)),
)

pub loop-end-preserved : goal.loop-end-preserved
loop-end-preserved c =
    let log = c.args.log.now in
    let size = c.args.page_size in
    let i = c.loop-end.end.frames in
    let inv = c.loop-end.invariant in
    let within = c.passes.ensures.within c.loop-end-test.true in
    let valid : Passes size log i = (c.passes.ensures.passes i inv.0 inv.4).0 c.loop-end-test.true in (
      next_frame size _ i inv.0,
      omega (arith, within),
      omega (arith, inv.2),
      up_to (Passes size log) i inv.3 valid,
      c.get_sum-in-loop-end.ensures ∙ sum_after log size _ i inv.0,
      λ none. absurd (omega (arith, none)),
      λ j last.
          let same : i ≡ j = omega (arith, last) in
          c.get_be32.ensures ∙ size_at log size _ i inv.0 ∙ ap (λ (n : ℕ). commit_size (frame size log n)) same,
    )
