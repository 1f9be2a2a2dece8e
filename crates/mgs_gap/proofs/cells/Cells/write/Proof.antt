use Rattle.std.proofs.Common.{◌+◌, ◌*◌, ◌<◌, ◌^◌, List, [], ◌∷◌, Some, None, length, set, length-set, refl, sym, ap, subst, ◌∙◌, w32, w64, arith}
use Rattle.std.proofs.raw_atomic.Walks.{proved}
use base.Fraction.{full_share}
use base.Logic.{id⊢}
use base.Fml.{ftrue, flft}
use mir.Syntax.{named}
use mir.Val.{Val, vunit, vint}
use contract.Running.{tables}
use contract.Monad.{fact}
use types.Kit.{‵, raw, ◌⊛◌, at_ret, ◌$◌, ◌∵◌, !, qed, done, move, keep, use1, use2, split, join, fsplit, fsplit3, fjoin, flt_l, flt_i, feq_i, rewrite, suffices, frame, group}
use types.Run.{init, enter, of_opd, lit, unit_lit, bin, load, stop, fld, assigns_last, first, blocks, exec, returns}
use types.ByLocal.{alloc_all, pass_all, free_all, look_at, get, through, sets, env}
use types.Part.{whole, sub, look_in}
use denote.Builtin.{usize}
use denote.Text.{Char, char-laws}
use denote.Exit.{yes}
use denote.Laws.{shows}
use denote.Plain.{uint_vals, uint_Tells}
use denote.RawPtr.{Ptr, in_a_block}
use denote.Ref.{MutRef, mut_vals, mut_Tells}
use denote.Memory.{cell_at}
use denote.Signature.{plain}
use denote.Steps.{nothing, opens, closes, heard, peeks}
use denote.Triple.Walked.{Stays, walk_of, says, stay_dropped, Goes-dropped, stay_ref, Goes-ref, ends_at}
use borrow.Table.OneValue.{part_in}
use Rattle.std.proofs.VecSteps.Shapes.{after}
use Rattle.mgs_gap.specs.Ownership.{slot, slots, cells_own}
use Rattle.mgs_gap.proofs.Row.{Besides, room_out, slot_in}
use Rattle.mgs_gap.specs.contracts.cells.Cells.write as f
use Rattle.mgs_gap.proofs.cells.Cells.write.Statement.{statement}
use Rattle.mgs_gap.proofs.cells.Cells.write.Code as code
use Rattle.mgs_gap.specs.contracts.cells.Cells.{the_row as R}
use Rattle.mgs_gap.proofs.cells.Cells.TheLaws.{lowers}

abbrev stayed : Stays f.ended.signature.params f.ended.kept
stayed = (stay_ref (0 ∷ []) tt (plain (λ _. R)), (stay_dropped _ yes, (stay_dropped _ yes, tt)))

pub write_spec : {M : Type 1} → statement M
write_spec 𝓤 𝓛 𝓜 𝓡 wired =
    let c = f.clauses 𝓛 𝓜.mem 𝓡.returns in let W = walk_of 𝓛 f.ended stayed c in let 𝓣 = tables 𝓤 𝓛.H 𝓜 𝓡 𝓡.env in
    proved 𝓛 f.ended stayed c 𝓜 𝓡 (Goes-ref 𝓛 1 0 tt (plain (λ _. R)), (Goes-dropped 𝓛 1 (plain (λ _. usize)) yes (λ κs x w. refl), (Goes-dropped 𝓛 1 (plain (λ _. Char)) yes (λ κs x w. refl), tt)))
    f.Key.name code.function (code.unfolded 𝓤 𝓛.H 𝓜 𝓡 wired)
    (λ κs. (mut_vals, (uint_vals w64, (uint_vals w32, tt)))) (λ κs. (mut_Tells (named 0) κs.0 R, (uint_Tells w64, (char-laws.tells, tt)))) (λ κs qs bounds a _ are.
    let b = a.0.ref_ptr.0 in let o = a.0.ref_ptr.1 in let h = a.0.now in let i = a.1.0 in let ch = a.1.1.0 in let vs = mut_vals a.0 in
    let y : W.Ghost = ((κs, qs, bounds, a, (vs, (uint_vals w64 i, (uint_vals w32 ch, tt)))), tt) in
    let new = set h.slots i (Some ch) in
    qed 𝓛 (((‵ (flft κs.0 qs.0) ⊛ ‵ ftrue) ⊛ ‵ ((MutRef (named 0) κs.0 R).own_val a.0 vs) ⊛ ‵ (usize.own_val i (uint_vals w64 i)) ⊛ ‵ (Char.own_val ch (uint_vals w32 ch)) ⊛ ‵ ftrue)
    ∷ raw (fact 𝓤 (i < length h.slots)) ∷ []) ∵
    move ! (1 ∷ []) $ heard ! _ (λ within.
    split ! $ split ! $ move ! (2 ∷ []) $ split ! $ move ! (1 ∷ []) $ split ! $ move ! (1 ∷ []) $ split ! $ keep ! (3 ∷ 4 ∷ 0 ∷ []) $
    -- [self; its token; the character]
    enter ! _ _ _ _ _ $ alloc_all ! (λ l. pass_all ! refl ((tt, tt), ((tt, record { fits = are.1.0.1 }), ((tt, record { fits = are.1.1.0.0.1 }), tt))) $
    fsplit3 ! $ move ! (1 ∷ 2 ∷ 3 ∷ []) $ opens ! tt R b o (λ us.
    move ! (1 ∷ []) $ peeks ! R _ (shows 𝓛 R) h us (λ is. fsplit ! $ move ! (1 ∷ []) $
    in_a_block ! h.at (λ p. cells_own p h.slots) (id⊢ 𝓤 _) (λ b' o' e. fsplit ! $ flt_l ! (λ small.
    let word = lowers.val_is h us is ∙ ap (λ (p : Ptr). lowers.lowered (record h { at = p }) ∷ []) e in
    let Cell = λ (ws : List Val). ‵ (cell_at full_share R.mir ws b o) in
    let far : i * 4 < 2 ^ 64 = omega (arith, small, within) in
    rewrite ! 2 Cell word refl $
    use1 𝓛 (‵ (slot b' (i * 4 + o') None) ⊛ ‵ (Besides 𝓛 b' o' h.slots i)) (room_out 𝓛 b' o' h.slots i within) $ split ! $
    -- [the room; the other places; what the fields own; self's cell; the open borrow, in three entries; self's first part; the character]
    first ! $ blocks ! $
    sets ! (of_opd ! (load ! (through ! refl (fld ! refl (stop !))) (look_in ! 3 (sub ! 0 refl (whole !))))) refl (tt, tt) $
    sets ! (bin ! (get ! refl) (lit ! tt) (record { fits = far })) refl (tt, record { fits = far }) $
    sets ! (bin ! (get ! refl) (get ! refl) tt) refl (tt, tt) $
    assigns_last ! (of_opd ! (get ! refl)) (through ! refl (stop !)) (init ! 0 refl (tt, record { fits = are.1.1.0.0.1 })) $
    exec ! 𝓣.C 𝓣.Λ (env code.Mir.locals l) (after 1 (code.function).body) (at_ret _ (W.post y)) $ sets ! (of_opd ! (unit_lit !)) refl (tt, tt) $
    move ! (0 ∷ 8 ∷ []) $ use2 𝓛 (‵ (slot b' (i * 4 + o') (Some ch))) (part_in 𝓛 Char refl full_share ch b' (i * 4 + o') (vint w32 ch)) $
    use2 𝓛 (‵ (slots b' o' new)) (slot_in 𝓛 b' o' h.slots i within (Some ch)) $
    flt_i ! (length new * 4) (2 ^ 63) (subst (λ k. k * 4 < 2 ^ 63) (sym (length-set h.slots i (Some ch))) small) $ fjoin ! $
    rewrite ! 0 (λ (p : Ptr). ‵ (cells_own p new)) (sym e) refl $ rewrite ! 2 Cell (sym word) refl $
    move ! (1 ∷ []) $ fjoin ! $ move ! (1 ∷ []) $ closes ! tt R (record h { slots = new }) us b o $
    returns ! (look_at ! 0 refl) $ free_all ! refl $ move ! (3 ∷ []) $
    suffices ! _ (ends_at 𝓛 f.ended stayed c y vunit tt (record h { slots = new }, (tt, (tt, tt))) (tt, (tt, (tt, tt)))) $ says ! (refl, refl) $
    group ! 3 $ nothing ! $ nothing ! $ join ! $ nothing ! $ join ! $ move ! (1 ∷ 0 ∷ []) $ join ! $ nothing ! $ move ! (2 ∷ 0 ∷ []) $ join ! $ frame ! $ frame ! $
    feq_i ! _ (vunit ∷ []) _ refl $ done !)))))))
