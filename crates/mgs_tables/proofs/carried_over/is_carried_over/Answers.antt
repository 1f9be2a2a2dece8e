use Rattle.std.proofs.Common.{◌≡◌, ◌/◌, ◌<◌, length, sym, refl, subst, arith}
use Rattle.std.proofs.lemmas.Bool.{false≢true}
use Rattle.sqlite_wal.proofs.PartLemmas.{frames_len-zero}
use Rattle.mgs_tables.specs.LogCheck.{IsCarriedOver, AreNewest}
use Rattle.mgs_tables.proofs.CarriedOver.{frame_within, count_last, carried_none, carried_from, carried_page, carried_count}
use Rattle.mgs_tables.proofs.carried_over.is_carried_over.Goals as goal

pub returns-then-used-eq0-clause-carried : goal.returns-then-used-eq0-clause-carried
returns-then-used-eq0-clause-carried c =
    let u = c.args.used in (
      λ _. subst (IsCarriedOver u.page_size c.args.log.now c.args.db.now) (sym c.if-used-eq0.true) (carried_none u.page_size c.args.log.now c.args.db.now),
      λ _. refl,
    )

pub returns-then-db-page_size-clause-carried : goal.returns-then-db-page_size-clause-carried
returns-then-db-page_size-clause-carried c =
    let u = c.args.used in
    let there = count_last u.page_size c.args.log.now c.args.db.now u.frames u.size c.if-used-eq0.false c.requires.commit in (
      λ no'. absurd (false≢true no'),
      λ carried. absurd (c.if-db-page_size.true (carried_count u.page_size c.args.log.now c.args.db.now u.frames u.size there carried)),
    )

pub newest_pages-requires-clause-some : goal.newest_pages-requires-clause-some
newest_pages-requires-clause-some c =
    let u = c.args.used in
    let some : 0 < u.frames = omega (arith, c.if-used-eq0.false) in
    omega (arith, frame_within u.page_size 0 u.frames 32 (length c.args.log.now) some (omega (arith, frames_len-zero u.page_size)) (omega (arith, c.requires.used.within)))

pub returns-clause-carried : goal.returns-clause-carried
returns-clause-carried c =
    let u = c.args.used in
    let log = c.args.log.now in
    let db = c.args.db.now in
    let there = count_last u.page_size log db u.frames u.size c.if-used-eq0.false c.requires.commit in
    let in_file : length db / u.page_size ≡ u.size = c.if-db-page_size.false in
    let whole = c.has_pages.ensures u.frames (subst (AreNewest u.page_size log u.size u.frames) (sym c.deref.ensures.value) c.in_ok-newest.ensures.newest) in (
      λ yes'. carried_from u.page_size log db u.frames u.size there in_file (whole.0 yes'),
      λ carried. whole.1 (λ n low high. carried_page u.page_size log db u.frames u.size n there in_file carried low high),
    )
