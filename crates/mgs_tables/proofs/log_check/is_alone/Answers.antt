use Rattle.std.proofs.Common.{◌≡◌, ◌⊎◌, ℕ, ◌+◌, ◌≤◌, ◌<◌, length, sym, refl, ◌∙◌, arith, inl, inr}
use Rattle.std.proofs.lemmas.Bool.{false≢true, cases_lt}
use Rattle.sqlite_wal.specs.Format.{commit_size}
use Rattle.sqlite_wal.specs.Recovery.{frame_at, frame, Passes}
use Rattle.mgs_tables.proofs.LogFrames.{next_frame, later_frame, few_frames, sum_after, size_at, up_to, spill_at}
use Rattle.mgs_tables.proofs.log_check.is_alone.Goals.{else-goes_on-via-then-goes_on+then-stands+else-get_be32-ne0, else-goes_on-via-then-goes_on+else-stands, else-goes_on-via-else-goes_on}
use Rattle.mgs_tables.proofs.log_check.is_alone.Goals as goal

pub returns-then-log-len : goal.returns-then-log-len
returns-then-log-len c = (λ _ short. absurd (omega (arith, c.if-log-len.true, short, spill_at c.args.page_size)), λ _. refl)

pub loop-at-init : goal.loop-at-init
loop-at-init c = (
  c.requires.start,
  c.requires.within,
  omega arith,
  omega (arith, c.requires.start, few_frames c.args.page_size c.args.k),
  refl,
  (λ _. inl refl, λ _. refl),
  λ i low high. absurd (omega (arith, low, high)),
)

pub returns-then-get_be32-ne0 : goal.returns-then-get_be32-ne0
returns-then-get_be32-ne0 c =
    let log = c.args.log.now in
    let size = c.args.page_size in
    let j = c.loop-at.j in
    let inv = c.loop-at.invariant in
    let short : length log < frame_at size 2000 = omega (arith, c.if-log-len.false, spill_at size) in
    let goes_on : Passes size log (j + 1) = (c.passes-goes_on.ensures.passes (j + 1) (next_frame size _ j inv.0) (c.get_sum.ensures ∙ sum_after log size _ j inv.0)).0 c.if-goes_on.true in (
      λ no'. absurd (false≢true no'),
      λ alone. absurd (c.if-get_be32-ne0.true (c.get_be32.ensures ∙ size_at log size _ j inv.0 ∙ alone short j inv.2 (inv.5.0 c.if-stands.true) goes_on)),
    )

pub loop-at-preserved : goal.loop-at-preserved
loop-at-preserved c =
    let log = c.args.log.now in
    let size = c.args.page_size in
    let j = c.loop-at.j in
    let inv = c.loop-at.invariant in
    let next = c.passes-goes_on.ensures.passes (j + 1) (next_frame size _ j inv.0) (c.get_sum.ensures ∙ sum_after log size _ j inv.0) in
    let last : (j ≡ c.args.k) ⊎ Passes size log j → Passes size log (j + 1) → commit_size (frame size log j) ≡ 0 = λ stands goes_on. elim (c.else-goes_on.branch) [
      | else-goes_on-via-then-goes_on+then-stands+else-get_be32-ne0 w ↦ sym (size_at log size _ j inv.0) ∙ sym w.get_be32.ensures ∙ w.if-get_be32-ne0.false
      | else-goes_on-via-then-goes_on+else-stands w ↦ absurd (false≢true (sym w.if-stands.false ∙ inv.5.1 stands))
      | else-goes_on-via-else-goes_on w ↦ absurd (false≢true (sym w.if-goes_on.false ∙ next.1 goes_on))
    ] in (
      next_frame size _ j inv.0,
      omega (arith, c.loop-at-test.true),
      omega (arith, inv.2),
      omega (arith, inv.3),
      refl,
      (λ yes'. inr (next.0 yes'), λ either. elim either [ inl same ↦ absurd (omega (arith, same, inv.2)) | inr passes ↦ next.1 passes ]),
      λ i low high.
          up_to (λ (n : ℕ). c.args.k ≤ n → (n ≡ c.args.k) ⊎ Passes size log n → Passes size log (n + 1) → commit_size (frame size log n) ≡ 0) j
          (λ n below from. inv.6 n from below) (λ _. last) i high low,
    )

pub returns : goal.returns
returns c =
    let log = c.args.log.now in
    let size = c.args.page_size in
    let j = c.loop-at.j in
    let inv = c.loop-at.invariant in (
      λ _ short i low stands goes_on.
          elim (cases_lt i j) [
            | inl below ↦ inv.6 i low below stands goes_on
            | inr above ↦ absurd (omega (arith, c.loop-at-test.false, inv.0, goes_on.within, later_frame size (j + 1) (i + 1) (omega (arith, above)), next_frame size _ j inv.0))
          ],
      λ _. refl,
    )
