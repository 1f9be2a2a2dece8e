use Rattle.std.proofs.Common.{◌≡◌, ℕ, ◌+◌, ◌-◌, ◌≤◌, length, take, drop, sym, ◌∙◌, ap, arith}
use Rattle.sqlite_wal.specs.Format.{part}
use Rattle.sqlite_wal.specs.Recovery.{frame_at, frame}
use Rattle.sqlite_wal.proofs.FormatLemmas.{part_is}
use Rattle.mgs_tables.proofs.LogFrames.{same_frame}
use Rattle.mgs_tables.proofs.log_check.passes.Goals as goal

pub returns-clause-passes : goal.returns-clause-passes
returns-clause-passes c i is_at is_before =
    let log = c.args.log.now in
    let n = 24 + c.args.page_size in
    let len : (c.args.at + (24 + c.args.page_size)) - c.args.at ≡ 24 + c.args.page_size = omega arith in
    let read : frame c.args.page_size log i ≡ take ((c.args.at + (24 + c.args.page_size)) - c.args.at) (drop c.args.at log) =
    ap (λ (a : ℕ). part log a n) (sym is_at) ∙ part_is log c.args.at n ∙ ap (λ (m : ℕ). take m (drop c.args.at log)) (sym len) in
    let within : frame_at c.args.page_size i + (24 + c.args.page_size) ≤ length log = omega (arith, is_at, c.if-at-log.false, c.if-log-at.false) in (
      λ yes'. record { within = within; passes = same_frame _ _ _ _ _ _ c.requires.head is_before (sym read) (c.is_frame.ensures.0 yes') },
      λ p. c.is_frame.ensures.1 (same_frame _ _ _ _ _ _ (sym c.requires.head) (sym is_before) read p.passes),
    )
