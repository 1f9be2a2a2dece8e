-- What a crash can leave of the log beside the file of the tables. Anything else is damage.
use Rattle.std.specs.Prelude.{◌≡◌, ◌≢◌, ◌⊎◌, ℕ, ◌+◌, ◌<◌, ◌≤◌, ◌==◌, if◌then◌else◌, List, [], length, slice_index, slice_set}
use Rattle.sqlite_wal.specs.Format.{part, be32, IsHeader, commit_size}
use Rattle.sqlite_wal.specs.PageSize.{IsPageSize}
use Rattle.sqlite_wal.specs.Recovery.{frame_at, frame, header, Passes, file_page, page_after, pages_after}

-- The byte that opens frame i to recovery, its gate, is the first byte of the frame's salt. It is written last, once the frames of its
-- transaction are on the disk.
abbrev pub gate : ℕ → List ℕ → ℕ → ℕ
gate page_size log i = slice_index log (frame_at page_size i + 8)

-- so many frames are written by one transaction in parts, and fewer at once
abbrev pub spill : ℕ
spill = 2000

-- The log has no frame yet and is being begun: the first byte of its header, which is written last, is 0.
abbrev pub IsBegun : List ℕ → Type 0
IsBegun log = (slice_index log 0 ≡ 0) × (length log < 56)

-- No transaction follows on another one behind the shut gate of frame k: if frame k, or a frame behind it that passes, is the last of a
-- transaction, then the frame after it does not pass. One that is written in parts makes the file longer than this.
abbrev pub IsAlone : ℕ → List ℕ → ℕ → Type 0
IsAlone page_size log k =
    length log < frame_at page_size spill → (j : ℕ) → k ≤ j → (j ≡ k) ⊎ Passes page_size log j → Passes page_size log (j + 1)
    → commit_size (frame page_size log j) ≡ 0

-- The header is right, the first k frames pass and end with a transaction, the gate behind them is shut, and one transaction at most
-- stands behind it.
pub record IsInUse (page_size : ℕ) (log : List ℕ) (k : ℕ) : Type 0 where
  pub long : 32 ≤ length log
  pub head : IsHeader page_size (header log)
  pub size : IsPageSize page_size
  pub salt : slice_index log 16 ≢ 0
  pub passes : (i : ℕ) → i < k → Passes page_size log i
  pub commits : (i : ℕ) → i + 1 ≡ k → commit_size (frame page_size log i) ≢ 0
  pub within : frame_at page_size k + 8 < length log
  pub shut : gate page_size log k ≡ 0
  pub alone : IsAlone page_size log k

-- the log is in use, for pages of some size and with some number of frames
abbrev pub IsUsed : List ℕ → Type 0
IsUsed log = (page_size k : ℕ) × IsInUse page_size log k

-- the file alone has the pages that it has with the first k frames of the log
abbrev pub IsCarriedOver : ℕ → List ℕ → List ℕ → ℕ → Type 0
IsCarriedOver page_size log db k = pages_after page_size log db k ≡ pages_after page_size [] db 0

-- the log with the first byte of a header
abbrev pub with_first : List ℕ → List ℕ
with_first log = slice_set log 0 0x37

-- The log is being begun again: its first byte is 0, and with the right one it is in use. That byte is set to 0 once the file has what the
-- frames have. The new header and the first gate stand in one sector, which a crash leaves as it was before or after.
abbrev pub IsBegunAgain : List ℕ → List ℕ → Type 0
IsBegunAgain log db =
    (slice_index log 0 ≡ 0) × ((page_size k : ℕ) × IsInUse page_size (with_first log) k × IsCarriedOver page_size (with_first log) db k)

-- a crash can leave this log beside this file, and damage alone any other
abbrev pub IsLog : List ℕ → List ℕ → Type 0
IsLog log db = IsBegun log ⊎ (IsUsed log ⊎ IsBegunAgain log db)

-- the bytes of page n: those of the log from an offset on, or those of the file if the offset is 0
abbrev pub page_at : ℕ → List ℕ → List ℕ → ℕ → ℕ → List ℕ
page_at page_size log db n at = if at == 0 then file_page page_size db n else part log at page_size

-- for each page up to the count, the offset of its bytes in the last of the first k frames that has it, or 0
pub record AreNewest (page_size : ℕ) (log : List ℕ) (count k : ℕ) (newest : List ℕ) : Type 0 where
  pub all : length newest ≡ count + 1
  pub each : (db : List ℕ) (n : ℕ) → n ≤ count → page_after page_size log db n k ≡ page_at page_size log db n (slice_index newest n)
  pub within : (n : ℕ) → slice_index newest n + page_size ≤ length log

-- no table was made beside this log: it is being begun, or it has its header alone and the count of checkpoints that the first log has
abbrev pub IsFirst : List ℕ → Type 0
IsFirst log = (length log ≤ 41) × ((slice_index log 0 ≡ 0) ⊎ ((length log ≡ 41) × (be32 log 12 ≡ 0xffff_ffff)))

-- a file of a byte or none is one that is being made, beside a log that is as new
abbrev pub HasFile : List ℕ → List ℕ → Type 0
HasFile log db = length db ≤ 1 → IsFirst log
