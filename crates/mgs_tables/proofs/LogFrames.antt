-- The frames of a log by their offsets.
use Rattle.std.proofs.Common.{◌≡◌, ◌≢◌, ℕ, zero, suc, ◌+◌, ◌*◌, ◌<◌, ◌≤◌, List, slice_index, sym, refl, ◌∙◌, ap, ap₂, arith, add-one, inl, inr}
use Rattle.std.proofs.lemmas.Bool.{cases_eq, cases_lt}
use Rattle.mgs_tables.specs.LogCheck.{spill, IsInUse}
use Rattle.sqlite_wal.specs.Format.{part, be32, stored_sum, commit_size, IsFrame}
use Rattle.sqlite_wal.specs.Recovery.{frames_len, frame_at, frame, header, sum_before, Passes}
use Rattle.sqlite_wal.proofs.PartLemmas.{slice_index-part, frames_len-suc, frames_len-le}
use Rattle.sqlite_wal.proofs.FormatLemmas.{pair, be32-part}

pub same_frame : (h h' : List ℕ) (s s' : ℕ × ℕ) (f f' : List ℕ) → h ≡ h' → s ≡ s' → f ≡ f' → IsFrame h s f → IsFrame h' s' f'
same_frame h h' s s' f f' a b c is = rw (← a, ← b, ← c) is

-- the frame after one
pub next_frame : (page_size at i : ℕ) → at ≡ frame_at page_size i → at + (24 + page_size) ≡ frame_at page_size (i + 1)
next_frame page_size at i is =
    let more : frame_at page_size (i + 1) ≡ frame_at page_size i + (24 + page_size) = ap (λ (k : ℕ). frame_at page_size k) (add-one i) ∙ omega (arith, frames_len-suc page_size i) in
    omega (arith, is, more)

-- a frame's number is less than its offset
pub few_frames : (page_size i : ℕ) → i ≤ frame_at page_size i
unfolding frames_len
few_frames page_size i =
    let less : i ≤ i * (24 + page_size) = grind arith in
    omega arith

pub later_frame : (page_size i j : ℕ) → i ≤ j → frame_at page_size i ≤ frame_at page_size j
later_frame page_size i j h = omega (arith, frames_len-le page_size i j h)

-- the sum that a frame stores is what the next one goes on from
pub sum_after : (log : List ℕ) (page_size at i : ℕ) → at ≡ frame_at page_size i → stored_sum log (at + 16) ≡ sum_before page_size log (i + 1)
sum_after log page_size at i is =
    let first : at + 16 ≡ frame_at page_size i + 16 = omega (arith, is) in
    let second : at + 16 + 4 ≡ frame_at page_size i + 20 = omega (arith, is) in
    ap₂ pair (ap (be32 log) first ∙ sym (be32-part log (frame_at page_size i) (24 + page_size) 16 (omega arith)))
    (ap (be32 log) second ∙ sym (be32-part log (frame_at page_size i) (24 + page_size) 20 (omega arith)))
    ∙ ap (sum_before page_size log) (sym (add-one i))

pub size_at : (log : List ℕ) (page_size at i : ℕ) → at ≡ frame_at page_size i → be32 log (at + 4) ≡ commit_size (frame page_size log i)
size_at log page_size at i is =
    let here : at + 4 ≡ frame_at page_size i + 4 = omega (arith, is) in
    ap (be32 log) here ∙ sym (be32-part log (frame_at page_size i) (24 + page_size) 4 (omega arith))

-- a frame that passes has its gate open
pub gate_open : (log : List ℕ) (page_size i : ℕ) → Passes page_size log i → slice_index log (frame_at page_size i + 8) ≡ slice_index log 16
gate_open log page_size i passes =
    let at = frame_at page_size i in
    let of_frame : slice_index (part (frame page_size log i) 8 8) 0 ≡ slice_index log (at + 8) =
    slice_index-part (frame page_size log i) 8 8 0 (omega arith) ∙ slice_index-part log at (24 + page_size) 8 (omega arith) in
    let of_head : slice_index (part (header log) 16 8) 0 ≡ slice_index log 16 =
    slice_index-part (header log) 16 8 0 (omega arith) ∙ slice_index-part log 0 32 16 (omega arith) in
    sym of_frame ∙ ap (λ (p : List ℕ). slice_index p 0) passes.passes.salt ∙ of_head

-- what holds of each below n and of n holds of each up to n
pub up_to : (P : ℕ → Type 0) (n : ℕ) → ((i : ℕ) → i < n → P i) → P n → (i : ℕ) → i < n + 1 → P i
up_to P n below last i h = elim (cases_eq i n) [ inl same ↦ rw same last | inr differs ↦ below i (omega (arith, h, differs)) ]

-- where the frames begin of which a transaction is written in parts
pub spill_at : (page_size : ℕ) → frame_at page_size spill ≡ 32 + 2000 * (24 + page_size)
unfolding frames_len
spill_at page_size = refl

-- a log that is in use has the frames that pass, and no more
pub same_end : (log : List ℕ) (page_size k end : ℕ) → IsInUse page_size log k → ((i : ℕ) → i < end → Passes page_size log i) → (Passes page_size log end → ⊥) → k ≡ end
same_end log page_size k end is passes stops =
    elim (cases_eq k end) [
      | inl same ↦ same
      | inr differs ↦ elim (cases_lt k end) [
        | inl less ↦ absurd (is.salt (sym (gate_open log page_size k (passes k less)) ∙ is.shut))
        | inr more ↦ absurd (stops (is.passes end (omega (arith, more, differs))))
      ]
    ]

-- the size that a scan ends with is that of its last commit
pub commits_last : (log : List ℕ) (page_size frames size : ℕ) → (frames ≡ 0 → size ≡ 1) → ((i : ℕ) → i + 1 ≡ frames → size ≡ commit_size (frame page_size log i))
    → ((i : ℕ) → i + 1 ≡ frames → commit_size (frame page_size log i) ≢ 0) → size ≢ 0
commits_last log page_size zero size first commit commits none = absurd (omega (arith, first refl, none))
commits_last log page_size (suc i) size first commit commits none = commits i (add-one i) (sym (commit i (add-one i)) ∙ none)
