-- What the places of a block own, and what a reference to them lends.
use Rattle.std.specs.Prelude.{ℕ, ◌+◌, ◌*◌, ◌^◌, List, [], ◌∷◌, length, Option, Some, None}
use base.Fraction.{full_share}
use base.Fml.{Lft, Fml, ftrue, ffalse, fsep, flt, froom}
use mir.Syntax.{Ty, w32, ty_int, ty_array}
use denote.Memory.{part_at, shared_of}
use denote.RawPtr.{Ptr, block_ptr, null_ptr}
use denote.Sharing.{nothing, said, beside}
use denote.Text.{Char}

-- the bytes of n characters
abbrev pub block_type : ℕ → Ty
block_type n = ty_array (ty_int w32) n

-- one place, o bytes into the block b: a character, or room for one
abbrev pub slot : ℕ → ℕ → Option ℕ → Fml
slot b o (Some c) = part_at Char full_share c b o
slot b o None = froom (ty_int w32) b o

-- places side by side
abbrev pub slots : ℕ → ℕ → List (Option ℕ) → Fml
slots b o [] = ftrue
slots b o (c ∷ cs) = fsep (slot b o c) (slots b (o + 4) cs)

abbrev pub slot_lent : ℕ → ℕ → Option ℕ → Lft → Fml
slot_lent b o (Some c) = shared_of Char c b o
slot_lent b o None = nothing

abbrev pub slots_lent : ℕ → ℕ → List (Option ℕ) → Lft → Fml
slots_lent b o [] = nothing
slots_lent b o (c ∷ cs) = beside (slot_lent b o c) (slots_lent b (o + 4) cs)

-- the places take fewer than 2 ^ 63 bytes
abbrev pub fit : List (Option ℕ) → Fml
fit cs = flt (length cs * 4) (2 ^ 63)

abbrev pub cells_own : Ptr → List (Option ℕ) → Fml
cells_own (block_ptr b o) cs = fsep (fit cs) (slots b o cs)
cells_own null_ptr cs = ffalse

abbrev pub cells_lent : Ptr → List (Option ℕ) → Lft → Fml
cells_lent (block_ptr b o) cs = beside (said (fit cs)) (slots_lent b o cs)
cells_lent null_ptr cs = said ffalse
