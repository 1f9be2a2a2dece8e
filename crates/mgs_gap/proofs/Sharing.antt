-- A reference to the places is made where one to each character is.
use Prim.Native.Nat.{ℕ, ◌+◌}
use Rattle.std.specs.Prelude.{List, [], ◌∷◌, Option, Some, None}
use borrow.Table.Char.{char_laws}
use seplogic.Ra.Ura.{Ura}
use base.Fml.{Lft, Incl, ftrue, ffalse}
use types.Logic.{Logic}
use denote.RawPtr.{Ptr, block_ptr, null_ptr}
use denote.Sharing.{ShrLaws, said}
use denote.SharingLaws.{beside_shr_laws, nothing_shr_laws, said_shr_laws}
use denote.Shares.{Shares-less}
use denote.Struct.Lending.{Lends, Lends-both, Lends-nothing, Lends-said, Lends-false}
use denote.Text.{Char}
use Rattle.mgs_gap.specs.Ownership.{slot, slots, slot_lent, slots_lent, fit, cells_own, cells_lent}

slot_lent_laws : (b o : ℕ) (c : Option ℕ) → ShrLaws (slot_lent b o c)
slot_lent_laws b o (Some c) = char_laws.shr_laws c b o
slot_lent_laws b o None = nothing_shr_laws

slots_lent_laws : (b o : ℕ) (cs : List (Option ℕ)) → ShrLaws (slots_lent b o cs)
slots_lent_laws b o [] = nothing_shr_laws
slots_lent_laws b o (c ∷ cs) = beside_shr_laws _ _ (slot_lent_laws b o c) (slots_lent_laws b (o + 4) cs)

pub cells_lent_laws : (p : Ptr) (cs : List (Option ℕ)) → ShrLaws (cells_lent p cs)
cells_lent_laws (block_ptr b o) cs = beside_shr_laws _ _ (said_shr_laws (fit cs) tt) (slots_lent_laws b o cs)
cells_lent_laws null_ptr cs = said_shr_laws ffalse tt

module _ {M : Type 1} {𝓤 : Ura M} (𝓛 : Logic 𝓤) (l : Lft) (inc : Incl l Char.lives) where
  Lends-slot : (b o : ℕ) (c : Option ℕ) → Lends 𝓛 (slot b o c) (slot_lent b o c) l
  Lends-slot b o (Some c) = λ κ ts. Shares-less 𝓛 Char Char.lives l inc (char_laws.shares 𝓛) c κ ts b o
  Lends-slot b o None = Lends-nothing 𝓛 (slot b o None) l

  Lends-slots : (b o : ℕ) (cs : List (Option ℕ)) → Lends 𝓛 (slots b o cs) (slots_lent b o cs) l
  Lends-slots b o [] = Lends-nothing 𝓛 ftrue l
  Lends-slots b o (c ∷ cs) = Lends-both 𝓛 (slot b o c) (slots b (o + 4) cs) (slot_lent b o c) (slots_lent b (o + 4) cs) l (Lends-slot b o c) (Lends-slots b (o + 4) cs)

  pub Lends-cells : (p : Ptr) (cs : List (Option ℕ)) → Lends 𝓛 (cells_own p cs) (cells_lent p cs) l
  Lends-cells (block_ptr b o) cs = Lends-both 𝓛 (fit cs) (slots b o cs) (said (fit cs)) (slots_lent b o cs) l (Lends-said 𝓛 (fit cs) tt l) (Lends-slots b o cs)
  Lends-cells null_ptr cs = Lends-false 𝓛 (said ffalse) l
