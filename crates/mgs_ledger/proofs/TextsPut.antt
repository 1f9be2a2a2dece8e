-- Texts that are put, one after another.
use Rattle.std.proofs.Common.{List, [], ◌∷◌, Option, None, Some, refl, subst}
use Rattle.std.specs.Prelude.{Result, Ok, Err, OnOk}
use Rattle.sqlite.specs.Store.{Ghosts}
use Rattle.sqlite.specs.Held.{Held}
use Rattle.mgs_journal.specs.Rows.{KeptRights}
use Rattle.mgs_journal.specs.Texts.{KeptText}
use Rattle.mgs_ledger.specs.NewFile.{AreTextsPut}

pub clean_last : {T E C : Type 0} (result : Result T E) (P : Type 0) → (C → OnOk result P) → OnOk result (C → P)
clean_last (Ok value) P done = done
clean_last (Err error) P done = tt

pub put_then : {S : Type 0} (g : Ghosts S) (k : KeptRights) (ks : List KeptRights) (t : Option KeptText) (ts : List (Option KeptText)) (old mid new : Held S)
    → AreTextsPut g (k ∷ []) (t ∷ []) old mid → AreTextsPut g ks ts mid new → AreTextsPut g (k ∷ ks) (t ∷ ts) old new
put_then g k ks None ts old mid new one more = subst (λ h. AreTextsPut g ks ts h new) one more
put_then g k ks (Some t) ts old mid new one more = (one.0, one.1, subst (λ h. AreTextsPut g ks ts h new) one.2 more)

pub put_no_more : {S : Type 0} (g : Ghosts S) (ks : List KeptRights) (old : Held S) → AreTextsPut g ks [] old old
put_no_more g [] old = refl
put_no_more g (k ∷ ks) old = refl
