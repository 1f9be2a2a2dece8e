-- One deed of an event is told, and then the others.
use Rattle.std.proofs.Common.{◌≡◌, ℕ, ◌+◌, ◌<◌, List, ◌∷◌, ◌++◌, drop, get_or, length, Option, sym, ap, ◌∙◌}
use Rattle.std.proofs.lemmas.List.{append_assoc, drop_more}
use Rattle.mgs_births.specs.declared.deed.Deed.{Deed}
use Rattle.mgs_journal.specs.declared.Told.{Told}
use Rattle.mgs_keep.specs.Ends.{listed}
use Rattle.mgs_keep.specs.Keeping.{all_told, deed_told}

pub told_more : (user : List ℕ) (ds : List Deed) (i : ℕ) (d : Deed) (told : Option Told) (before whole : List Told) → i < length ds → d ≡ get_or ds i d → told ≡ deed_told user d
    → before ++ all_told user (drop i ds) ≡ whole → (before ++ listed told) ++ all_told user (drop (i + 1) ds) ≡ whole
told_more user ds i d told before whole within is made all =
    let split : drop i ds ≡ d ∷ drop (i + 1) ds = drop_more ds i d within ∙ ap (λ (x : Deed). x ∷ drop (i + 1) ds) (sym is) in
    append_assoc before (listed told) (all_told user (drop (i + 1) ds))
    ∙ ap (λ (t : Option Told). before ++ (listed t ++ all_told user (drop (i + 1) ds))) made
    ∙ ap (λ (xs : List Deed). before ++ all_told user xs) (sym split)
    ∙ all
