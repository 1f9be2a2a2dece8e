-- What is on a tape, deed by deed.
use Rattle.std.proofs.Common.{◌≡◌, ℕ, ◌+◌, ◌≤◌, ◌<◌, Bool, true, false, cond, List, [], ◌∷◌, ◌++◌, length, Option, Some, None, refl, sym, ap, ◌∙◌, arith, append-nil, append_assoc}
use Rattle.std.specs.Prelude.{nat_lt}
use Rattle.std.proofs.lemmas.Bool.{lt-ltb, ltb-true}
use Rattle.std.proofs.lemmas.List.{length-append}
use Rattle.mgs_model.specs.Outcome.{SetList, SetOwners, Create, Kill, Save}
use Rattle.mgs_births.specs.Reports.{Report, Did, Refused}
use Rattle.mgs_births.specs.Tapes.{Tape, tape_after, tape_told, tape_with}
use Rattle.mgs_births.specs.Deeds.{DeedsAreKept, DeedsAreLost, deeds_of, deeds_told}
use Rattle.mgs_births.specs.declared.deed.Deed.{Deed}

abbrev tape_by : List Deed → Tape → Tape
tape_by [] t = t
tape_by (d ∷ ds) t = tape_by ds (tape_with d t)

by_twice : (ds es : List Deed) (t : Tape) → tape_by (ds ++ es) t ≡ tape_by es (tape_by ds t)
by_twice [] es t = refl
by_twice (d ∷ ds) es t = by_twice ds es (tape_with d t)

told_by : (r : Report) (t : Tape) → tape_told r t ≡ tape_by (deeds_told r) t
told_by (Did (SetList name entries)) t = refl
told_by (Did (SetOwners name new)) t = refl
told_by (Did (Create name owner)) t = refl
told_by (Did (Kill name)) t = refl
told_by (Did (Save name text)) t = refl
told_by (Did _) t = refl
told_by (Refused buffer d) t = refl

after_by : (rs : List Report) (t : Tape) → tape_after rs t ≡ tape_by (deeds_of rs) t
after_by [] t = refl
after_by (r ∷ rs) t = after_by rs (tape_told r t) ∙ ap (tape_by (deeds_of rs)) (told_by r t) ∙ sym (by_twice (deeds_told r) (deeds_of rs) t)

abbrev taped : ℕ → Option (List Deed) → Tape
taped room o = record { room = room; deeds = o }

kept_by : (ds es : List Deed) (room : ℕ) → length es + length ds ≤ room → (tape_by ds (taped room (Some es))).deeds ≡ Some (es ++ ds)
kept_by [] es room h = ap (λ (xs : List Deed). Some xs) (sym (append-nil es))
kept_by (d ∷ ds) es room h =
    ap (λ (b : Bool). (tape_by ds (taped room (cond b (Some (es ++ d ∷ [])) None))).deeds) (lt-ltb (length es) room (omega (arith, h)))
    ∙ kept_by ds (es ++ d ∷ []) room (omega (arith, h, length-append es (d ∷ [])))
    ∙ ap (λ (xs : List Deed). Some xs) (append_assoc es (d ∷ []) ds)

lost_all : (ds : List Deed) (room : ℕ) → (tape_by ds (taped room None)).deeds ≡ None
lost_all [] room = refl
lost_all (d ∷ ds) room = lost_all ds room

lost_by : (ds es : List Deed) (room : ℕ) → length es ≤ room → room < length es + length ds → (tape_by ds (taped room (Some es))).deeds ≡ None
lost_by [] es room h l = absurd (omega (arith, h, l))
lost_by (d ∷ ds) es room h l = by (nat_lt (length es) room) refl (λ less. lost_by ds (es ++ d ∷ []) room (omega (arith, less, length-append es (d ∷ []))) (omega (arith, l, length-append es (d ∷ []))))
  where
    by : (b : Bool) → nat_lt (length es) room ≡ b → (length es < room → (tape_by ds (taped room (Some (es ++ d ∷ [])))).deeds ≡ None) → (tape_by ds (taped room (cond b (Some (es ++ d ∷ [])) None))).deeds ≡ None
    by true e more = more (ltb-true (length es) room e)
    by false e more = lost_all ds room

pub deeds_are_kept : DeedsAreKept
deeds_are_kept rs room h = ap (λ (t : Tape). t.deeds) (after_by rs (taped room (Some []))) ∙ kept_by (deeds_of rs) [] room (omega (arith, h))

pub deeds_are_lost : DeedsAreLost
deeds_are_lost rs room h = ap (λ (t : Tape). t.deeds) (after_by rs (taped room (Some []))) ∙ lost_by (deeds_of rs) [] room (omega arith) (omega (arith, h))
