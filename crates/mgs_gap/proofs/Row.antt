-- One place of a row, or a run of places, is taken out and put back.
use Rattle.std.proofs.Common.{◌≡◌, ℕ, zero, suc, ◌+◌, ◌*◌, ◌<◌, ◌≤◌, List, [], ◌∷◌, ◌++◌, Option, Some, None, map, replicate, length, take, set, get_or, refl, sym, ap, subst, ◌∙◌, w32, arith}
use lib.ListN.{drop, take-append-drop, length-take}
use lib.Seq.{drop-cons, set_split}
use native.Mathlib.Nat.{zero-mul, suc-mul}
use seplogic.Ra.Ura.{Ura}
use mir.Syntax.{ty_int}
use mir.Val.{Val}
use base.Fraction.{full_share}
use base.Logic.{ent, sep, via, snd∗, mono_r, id⊢}
use base.Fml.{Fml, Lft, ftrue, fsep, fat, froom}
use types.Logic.{Logic, sem}
use types.Kit.{‵, ◌⊛◌, ◌$◌, ◌∵◌, !, qed, move, keep, by, some, pick, drop as skip, use1, use2, split, fsplit, fjoin, frame, rewrite, done}
use denote.Slice.{elements_shared}
use denote.Text.{Char}
use denote.Steps.{nothing}
use borrow.Table.OneValue.{part_out}
use Rattle.mgs_gap.specs.Ownership.{block_type, slot, slots, slot_lent, slots_lent}

module _ {M : Type 1} {𝓤 : Ura M} (𝓛 : Logic 𝓤) (b : ℕ) where
  open 𝓛 use {H}

  abbrev Row : ℕ → List (Option ℕ) → Fml
  Row = slots b

  pub cut : (xs ys : List (Option ℕ)) (o at : ℕ) → at ≡ length xs * 4 + o → ent 𝓤 (sem 𝓛 (Row o (xs ++ ys))) (sep 𝓤 (sem 𝓛 (Row o xs)) (sem 𝓛 (Row at ys)))
  cut [] ys o at e = qed 𝓛 (‵ (Row o ys) ∷ []) ∵ rewrite ! 0 (λ (k : ℕ). ‵ (Row k ys)) {x = at} (omega (arith, zero-mul 4)) refl $ nothing ! $ done !
  cut (x ∷ xs) ys o at e = let more : at ≡ suc (length xs) * 4 + o = e in qed 𝓛 (‵ (Row o (x ∷ xs ++ ys)) ∷ []) ∵ fsplit ! $ move ! (1 ∷ []) $
      use1 𝓛 (‵ (Row (o + 4) xs) ⊛ ‵ (Row at ys)) (cut xs ys (o + 4) at (omega (arith, suc-mul (length xs) 4))) $ split ! $ move ! (2 ∷ 0 ∷ []) $ fjoin ! $ done !

  pub glue : (xs ys : List (Option ℕ)) (o at : ℕ) → at ≡ length xs * 4 + o → ent 𝓤 (sep 𝓤 (sem 𝓛 (Row o xs)) (sem 𝓛 (Row at ys))) (sem 𝓛 (Row o (xs ++ ys)))
  glue [] ys o at e = qed 𝓛 (‵ ftrue ∷ ‵ (Row at ys) ∷ []) ∵ skip ! $ rewrite ! 0 (λ (k : ℕ). ‵ (Row k ys)) {x = o} (omega (arith, zero-mul 4)) refl $ done !
  glue (x ∷ xs) ys o at e = let more : at ≡ suc (length xs) * 4 + o = e in qed 𝓛 (‵ (Row o (x ∷ xs)) ∷ ‵ (Row at ys) ∷ []) ∵ fsplit ! $ move ! (1 ∷ 2 ∷ []) $
      use2 𝓛 (‵ (Row (o + 4) (xs ++ ys))) (glue xs ys (o + 4) at (omega (arith, suc-mul (length xs) 4))) $ move ! (1 ∷ 0 ∷ []) $ fjoin ! $ done !

  -- a place gives the room of its character up
  pub emptied : (o : ℕ) (c : Option ℕ) → ent 𝓤 (sem 𝓛 (slot b o c)) (sem 𝓛 (slot b o None))
  emptied o None = id⊢ 𝓤 _
  emptied o (Some c) = qed 𝓛 (‵ (slot b o (Some c)) ∷ []) ∵ use1 𝓛 (some (λ (v : Val). ‵ (fat full_share (ty_int w32) b o v) ⊛ ‵ (Char.own_val c (v ∷ [])))) (part_out 𝓛 Char refl full_share c b o) $
      pick ! (λ v. split ! $ move ! (1 ∷ []) $ skip ! $ use1 𝓛 (‵ (froom (ty_int w32) b o)) (𝓛.laws.at_room (ty_int w32) b o v) $ done !)

  module _ (o : ℕ) (cs : List (Option ℕ)) (i : ℕ) where
    -- the places but for the i-th
    abbrev pub Besides : Fml
    Besides = fsep (Row o (take i cs)) (Row (i * 4 + o + 4) (drop (suc i) cs))

    before : i ≤ length cs → i * 4 + o ≡ length (take i cs) * 4 + o
    before le = let long : i ≡ length (take i cs) = omega (arith, length-take i cs) in ap (λ k. k * 4 + o) long

    pub room_out : i < length cs → ent 𝓤 (sem 𝓛 (Row o cs)) (sep 𝓤 (sem 𝓛 (slot b (i * 4 + o) None)) (sem 𝓛 Besides))
    room_out lt = qed 𝓛 (‵ (Row o cs) ∷ []) ∵
        rewrite ! 0 (λ (l : List (Option ℕ)). ‵ (Row o l)) (sym (take-append-drop i cs) ∙ ap (λ l. take i cs ++ l) (drop-cons cs i None lt)) refl $
        use1 𝓛 (‵ (Row o (take i cs)) ⊛ ‵ (Row (i * 4 + o) (get_or cs i None ∷ drop (suc i) cs))) (cut (take i cs) (get_or cs i None ∷ drop (suc i) cs) o (i * 4 + o) (before (omega arith))) $
        split ! $ move ! (1 ∷ []) $ fsplit ! $ use1 𝓛 (‵ (slot b (i * 4 + o) None)) (emptied (i * 4 + o) (get_or cs i None)) $ move ! (2 ∷ 1 ∷ []) $ fjoin ! $ move ! (1 ∷ []) $ done !

    pub slot_in : i < length cs → (c : Option ℕ) → ent 𝓤 (sep 𝓤 (sem 𝓛 (slot b (i * 4 + o) c)) (sem 𝓛 Besides)) (sem 𝓛 (Row o (set cs i c)))
    slot_in lt c = qed 𝓛 (‵ (slot b (i * 4 + o) c) ∷ ‵ Besides ∷ []) ∵ move ! (1 ∷ []) $ fsplit ! $ move ! (2 ∷ 1 ∷ []) $ fjoin ! $ move ! (1 ∷ 0 ∷ []) $
        use2 𝓛 (‵ (Row o (take i cs ++ c ∷ drop (suc i) cs))) (glue (take i cs) (c ∷ drop (suc i) cs) o (i * 4 + o) (before (omega arith))) $
        rewrite ! 0 (λ (l : List (Option ℕ)). ‵ (Row o l)) (sym (set_split cs i c lt)) refl $ done !

  -- a block is born as a row of empty places, and given back as room
  pub of_room : (n o : ℕ) → ent 𝓤 (H.room (block_type n) b o) (sem 𝓛 (Row o (replicate n None)))
  of_room zero o = qed 𝓛 (‵ (froom (block_type 0) b o) ∷ []) ∵ keep ! [] $ done !
  of_room (suc n) o = qed 𝓛 (‵ (froom (block_type (suc n)) b o) ∷ []) ∵
      use1 𝓛 (‵ (froom (ty_int w32) b o) ⊛ ‵ (froom (block_type n) b (o + 4))) (𝓛.laws.room_uncons (ty_int w32) n b o) $ split ! $ frame ! $ by ! (of_room n (o + 4))

  pub to_room : (cs : List (Option ℕ)) (o : ℕ) → ent 𝓤 (sem 𝓛 (Row o cs)) (H.room (block_type (length cs)) b o)
  to_room [] o = 𝓛.laws.room_nil (ty_int w32) b o
  to_room (c ∷ cs) o = qed 𝓛 (‵ (slot b o c) ∷ ‵ (Row (o + 4) cs) ∷ []) ∵
      use1 𝓛 (‵ (slot b o None)) (emptied o c) $ move ! (1 ∷ []) $
      use1 𝓛 (‵ (froom (block_type (length cs)) b (o + 4))) (to_room cs (o + 4)) $ move ! (1 ∷ []) $ by ! (𝓛.laws.room_cons (ty_int w32) (length cs) b o)

  module _ (κ : Lft) where
    abbrev Seen : ℕ → List (Option ℕ) → Fml
    Seen o cs = slots_lent b o cs κ

    from_on : (cs : List (Option ℕ)) (i o at : ℕ) → i ≤ length cs → at ≡ i * 4 + o → ent 𝓤 (sem 𝓛 (Seen o cs)) (sem 𝓛 (Seen at (drop i cs)))
    from_on cs zero o at le e = let same : o ≡ at = omega (arith, zero-mul 4) in subst (λ k. ent 𝓤 (sem 𝓛 (Seen o cs)) (sem 𝓛 (Seen k cs))) same (id⊢ 𝓤 _)
    from_on [] (suc i) o at le e = absurd (omega arith)
    from_on (c ∷ cs) (suc i) o at le e =
        via 𝓤 (sem 𝓛 (Seen (o + 4) cs)) (snd∗ 𝓤 (sem 𝓛 (slot_lent b o c κ)) (sem 𝓛 (Seen (o + 4) cs))) (from_on cs i (o + 4) at (omega arith) (omega (arith, suc-mul i 4)))

    up_to : (xs : List ℕ) (rest : List (Option ℕ)) (o : ℕ) → ent 𝓤 (sem 𝓛 (Seen o (map Some xs ++ rest))) (sem 𝓛 (elements_shared Char xs b o κ))
    up_to [] rest o = qed 𝓛 (‵ (Seen o rest) ∷ []) ∵ keep ! [] $ done !
    up_to (x ∷ xs) rest o = mono_r 𝓤 (sem 𝓛 (slot_lent b o (Some x) κ)) (up_to xs rest (o + 4))

    pub run_seen : (o : ℕ) (cs : List (Option ℕ)) (i n : ℕ) (xs : List ℕ) → i ≤ length cs → take n (drop i cs) ≡ map Some xs
        → ent 𝓤 (sem 𝓛 (Seen o cs)) (sem 𝓛 (elements_shared Char xs b (i * 4 + o) κ))
    run_seen o cs i n xs le e = qed 𝓛 (‵ (Seen o cs) ∷ []) ∵ use1 𝓛 (‵ (Seen (i * 4 + o) (drop i cs))) (from_on cs i o (i * 4 + o) le refl) $
        rewrite ! 0 (λ (l : List (Option ℕ)). ‵ (Seen (i * 4 + o) l)) (sym (take-append-drop n (drop i cs)) ∙ ap (λ l. l ++ drop n (drop i cs)) e) refl $ by ! (up_to xs (drop n (drop i cs)) (i * 4 + o))
