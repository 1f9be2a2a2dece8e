use Rattle.std.proofs.Common.{◌+◌, ◌≤◌, length, arith}
use Rattle.sqlite_wal.proofs.PartLemmas.{frames_len-zero}
use Rattle.mgs_tables.proofs.LogFrames.{next_frame}
use Rattle.mgs_tables.proofs.CarriedOver.{frame_within, zero_newest, next_newest}
use Rattle.mgs_tables.proofs.carried_over.newest_pages.Goals as goal

pub loop-i-init : goal.loop-i-init
loop-i-init c =
    let size = c.args.page_size in
    let log = c.args.log.now in (
      omega (arith, frames_len-zero size),
      omega arith,
      λ some. frame_within size 0 c.args.frames 32 (length log) some (omega (arith, frames_len-zero size)) c.requires.within,
      zero_newest size log c.args.count c.in-Ok.newest.items (c.in-Ok.ensures.items_if_clones_equal (λ y same. same)) c.requires.some,
    )

pub loop-i-preserved : goal.loop-i-preserved
loop-i-preserved c =
    let size = c.args.page_size in
    let log = c.args.log.now in
    let i = c.loop-i.i in
    let at = c.loop-i.at in
    let inv = c.loop-i.invariant in
    let next = next_frame size at i inv.0 in
    let within : at + (24 + size) ≤ length log = inv.2 c.loop-i-test.true in (
      next,
      omega (arith, c.loop-i-test.true),
      λ more. frame_within size (i + 1) c.args.frames (at + (24 + size)) (length log) more next c.requires.within,
      next_newest size log c.args.count i at c.loop-i.newest.items c.note_page.new.newest.items inv.3 inv.0 within c.note_page.ensures.len
          (rw (← c.get_be32.ensures) c.note_page.ensures.noted) c.note_page.ensures.past,
    )
