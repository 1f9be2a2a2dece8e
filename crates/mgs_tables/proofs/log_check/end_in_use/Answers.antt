use Rattle.std.proofs.Common.{◌≡◌, ℕ, ◌+◌, slice_index, sym, ◌∙◌, ap, arith}
use Rattle.std.proofs.lemmas.Bool.{false≢true}
use Rattle.sqlite_wal.specs.Recovery.{frame_at}
use Rattle.mgs_tables.proofs.LogFrames.{same_end, commits_last}
use Rattle.mgs_tables.proofs.log_check.end_in_use.Goals.{then-end-eq0-via-then-end-eq0, then-end-eq0-via-else-end-eq0+then-log-end-le-GATE, then-end-eq0-via-else-end-eq0+else-log-end-le-GATE+then-log-end-ne0}
use Rattle.mgs_tables.proofs.log_check.end_in_use.Goals as goal

pub returns-then-end-eq0-clause-none : goal.returns-then-end-eq0-clause-none
returns-then-end-eq0-clause-none c = λ _ k is.
    let log = c.args.log.now in
    let size = c.args.page_size in
    let end = c.end_of_frames-end.result in
    let said = c.end_of_frames-end.ensures in
    let here : k ≡ end.frames = same_end log size k end.frames is said.passes said.stops in
    let at : frame_at size k ≡ end.at = ap (λ (k : ℕ). frame_at size k) here ∙ sym said.at in
    elim (c.then-end-eq0.branch) [
      | then-end-eq0-via-then-end-eq0 w ↦ commits_last log size end.frames end.size said.first said.commit (λ i last. is.commits i (last ∙ sym here)) w.if-end-eq0.true
      | then-end-eq0-via-else-end-eq0+then-log-end-le-GATE w ↦ absurd (omega (arith, is.within, at, w.if-log-end-le-GATE.true, said.within))
      | then-end-eq0-via-else-end-eq0+else-log-end-le-GATE+then-log-end-ne0 w ↦ w.if-log-end-ne0.true (ap (λ (a : ℕ). slice_index log (a + 8)) (sym at) ∙ is.shut)
    ]

pub returns-then-not-is_alone-clause-none : goal.returns-then-not-is_alone-clause-none
returns-then-not-is_alone-clause-none c = λ _ k is.
    let said = c.end_of_frames-end.ensures in
    let here : k ≡ c.end_of_frames-end.result.frames = same_end c.args.log.now c.args.page_size k c.end_of_frames-end.result.frames is said.passes said.stops in
    false≢true (sym c.if-not-is_alone.true ∙ c.is_alone.ensures.1 (rw (← here) is.alone))
