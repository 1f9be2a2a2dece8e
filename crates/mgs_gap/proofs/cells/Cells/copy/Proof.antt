use Rattle.std.proofs.Common.{◌≡◌, ℕ, ◌+◌, ◌*◌, ◌<◌, ◌≤◌, ◌^◌, List, [], ◌∷◌, length, refl, sym, ap, subst, ◌∙◌, w64, arith}
use Rattle.std.proofs.raw_atomic.Walks.{proved}
use base.Fraction.{full_share}
use base.Logic.{emp, id⊢}
use base.Fml.{ftrue, flft, fsep}
use lib.Dec.{T}
use mir.Syntax.{named, ty_unit}
use mir.Val.{Val, vunit, has_ty, WT}
use contract.BorrowLft.{◌⊑◌, ⊑_refl}
use contract.Running.{tables}
use contract.Monad.{fact, fact_i}
use types.Kit.{‵, raw, ◌⊛◌, some, later, at_ret, ◌$◌, ◌∵◌, !, qed, done, move, keep, drop, use0, use1, use2, split, join, fsplit, fsplit3, fjoin, flt_l, flt_i, feq_i, feq_l, pick, await, rewrite, suffices, frame, group}
use types.Run.{enter, of_opd, lit, unit_lit, bin, load, stop, fld, first, blocks, exec, returns, no_more, and_then}
use types.ByLocal.{alloc_all, pass_all, free_all, look_at, get, through, sets, lands_last, env}
use types.Part.{whole, sub, look_in}
use denote.Builtin.{usize, unit}
use denote.Exit.{yes}
use denote.Laws.{shows}
use denote.Plain.{uint_vals, uint_Tells}
use denote.RattleType.{owns}
use denote.RawPtr.{Ptr, RawPtr, block_ptr, count_of, in_a_block, rawptr_vals}
use denote.Ref.{MutRef, mut_vals, mut_Tells}
use denote.Memory.{cell_at}
use denote.Shadow.{pure_i}
use denote.Signature.{plain}
use denote.Steps.{nothing, only, opens, closes, heard, peeks}
use denote.Text.{Char}
use denote.Triple.Call.{calls_at_last}
use denote.Triple.Spec.{triple_of}
use denote.Triple.Table.{framed}
use denote.Triple.Walked.{Stays, walk_of, says, stay_dropped, Goes-dropped, stay_ref, Goes-ref, ends_at}
use borrow.Table.Char.{char_laws}
use Rattle.std.proofs.VecSteps.Shapes.{after}
use Rattle.core.specs.Ptr.{IsShiftWithinBlock, memory_before_copy, memory_after_copy}
use Rattle.core.specs.contracts.ptr.copy as g
use Rattle.core.proofs.ptr.copy.Met.{met}
use Rattle.mgs_gap.specs.Ownership.{slots, cells_own}
use Rattle.mgs_gap.specs.Places.{IsRun}
use Rattle.mgs_gap.proofs.Copies.{R as C, way}
use Rattle.mgs_gap.specs.contracts.cells.Cells.copy as f
use Rattle.mgs_gap.proofs.cells.Cells.copy.Statement.{statement}
use Rattle.mgs_gap.proofs.cells.Cells.copy.Code as code
use Rattle.mgs_gap.specs.contracts.cells.Cells.{the_row as R}
use Rattle.mgs_gap.proofs.cells.Cells.TheLaws.{lowers}

abbrev stayed : Stays f.ended.signature.params f.ended.kept
stayed = (stay_ref (0 ∷ []) tt (plain (λ _. R)), (stay_dropped _ yes, (stay_dropped _ yes, (stay_dropped _ yes, tt))))

pub copy_spec : {M : Type 1} → statement M
copy_spec 𝓤 𝓛 𝓜 𝓡 wired =
    let c = f.clauses 𝓛 𝓜.mem 𝓡.returns in let W = walk_of 𝓛 f.ended stayed c in let 𝓣 = tables 𝓤 𝓛.H 𝓜 𝓡 𝓡.env in
    let goes = Goes-dropped 𝓛 1 (plain (λ _. usize)) yes (λ κs x w. refl) in
    proved 𝓛 f.ended stayed c 𝓜 𝓡 (Goes-ref 𝓛 1 0 tt (plain (λ _. R)), (goes, (goes, (goes, tt))))
    f.Key.name code.function (code.unfolded 𝓤 𝓛.H 𝓜 𝓡 wired)
    (λ κs. (mut_vals, (uint_vals w64, (uint_vals w64, (uint_vals w64, tt))))) (λ κs. (mut_Tells (named 0) κs.0 R, (uint_Tells w64, (uint_Tells w64, (uint_Tells w64, tt))))) (λ κs qs bounds a _ are.
    let b = a.0.ref_ptr.0 in let o = a.0.ref_ptr.1 in let h = a.0.now in let from : ℕ = a.1.0 in let to : ℕ = a.1.1.0 in let n : ℕ = a.1.1.1.0 in let vs = mut_vals a.0 in
    let y : W.Ghost = ((κs, qs, bounds, a, (vs, (uint_vals w64 from, (uint_vals w64 to, (uint_vals w64 n, tt))))), tt) in
    let Asked : Type 0 = (count_of h.at ≡ 0) × IsRun h.slots from n × (to + n ≤ length h.slots) in
    qed 𝓛 (((‵ (flft κs.0 qs.0) ⊛ ‵ ftrue) ⊛ ‵ ((MutRef (named 0) κs.0 R).own_val a.0 vs) ⊛ ‵ (usize.own_val from (uint_vals w64 from)) ⊛ ‵ (usize.own_val to (uint_vals w64 to)) ⊛ ‵ (usize.own_val n (uint_vals w64 n)) ⊛ ‵ ftrue)
    ∷ raw (fact 𝓤 Asked) ∷ []) ∵
    move ! (1 ∷ []) $ heard ! Asked (λ asked.
    split ! $ split ! $ move ! (2 ∷ []) $ split ! $ keep ! (0 ∷ 2 ∷ []) $
    -- [self; its token]
    enter ! _ _ _ _ _ $ alloc_all ! (λ l. pass_all ! refl ((tt, tt), ((tt, record { fits = are.1.0.1 }), ((tt, record { fits = are.1.1.0.1 }), ((tt, record { fits = are.1.1.1.0.1 }), tt)))) $
    fsplit3 ! $ move ! (1 ∷ 2 ∷ 3 ∷ []) $ opens ! tt R b o (λ us.
    move ! (1 ∷ []) $ peeks ! R _ (shows 𝓛 R) h us (λ is. fsplit ! $ move ! (1 ∷ []) $
    in_a_block ! h.at (λ p. cells_own p h.slots) (id⊢ 𝓤 _) (λ b' o' e. fsplit ! $ flt_l ! (λ small.
    let word = lowers.val_is h us is ∙ ap (λ (p : Ptr). lowers.lowered (record h { at = p }) ∷ []) e in
    let Cell = λ (ws : List Val). ‵ (cell_at full_share R.mir ws b o) in
    let low : o' ≡ 0 = sym (ap count_of e) ∙ asked.0 in
    let far : from * 4 < 2 ^ 64 = omega (arith, small, asked.1.0) in let far' : to * 4 < 2 ^ 64 = omega (arith, small, asked.2) in
    let src : Ptr = block_ptr b' (from * 4 + o') in let dst : Ptr = block_ptr b' (to * 4 + o') in let xs : List ℕ = asked.1.1.0 in
    let w = way 𝓛 b' h.slots o' from to n xs low small asked.1.0 asked.2 asked.1.1.1 in
    let Apart : Type 0 = IsShiftWithinBlock C w.up w.distance n src dst in
    let G = triple_of 𝓛 (g.signature Char) (g.spec Char 𝓛 𝓜.mem 𝓡.returns) in
    let z : G.Ghost = ((([], tt), (full_share, tt), tt, (src, (dst, (n, tt))), (rawptr_vals src, (rawptr_vals dst, (uint_vals w64 n, tt)))), record { up = w.up; distance = w.distance; items = xs }) in
    rewrite ! 2 Cell word refl $
    use1 𝓛 (‵ (memory_before_copy C w.up w.distance n src dst xs) ⊛ ‵ w.rest) w.out $ split ! $
    -- [what the copy takes; the other places; what the fields own; self's cell; the open borrow, in three entries; self's first part]
    first ! $ blocks ! $
    sets ! (of_opd ! (load ! (through ! refl (fld ! refl (stop !))) (look_in ! 3 (sub ! 0 refl (whole !))))) refl (tt, tt) $
    sets ! (bin ! (get ! refl) (lit ! tt) (record { fits = far })) refl (tt, record { fits = far }) $
    sets ! (bin ! (get ! refl) (get ! refl) tt) refl (tt, tt) $
    sets ! (of_opd ! (get ! refl)) refl (tt, tt) $
    sets ! (of_opd ! (load ! (through ! refl (fld ! refl (stop !))) (look_in ! 3 (sub ! 0 refl (whole !))))) refl (tt, tt) $
    sets ! (bin ! (get ! refl) (lit ! tt) (record { fits = far' })) refl (tt, record { fits = far' }) $
    sets ! (bin ! (get ! refl) (get ! refl) tt) refl (tt, tt) $
    use0 𝓛 (raw (fact 𝓤 Apart)) (fact_i 𝓤 Apart (emp 𝓤) w.apart) $ join ! $
    use0 𝓛 (raw (fact 𝓤 ([] ⊑ Char.lives))) (fact_i 𝓤 ([] ⊑ Char.lives) (emp 𝓤) (⊑_refl [])) $ join ! $
    pure_i ! (owns (RawPtr ∷ RawPtr ∷ usize ∷ []) z.0.3 z.0.4) (tt, (tt, ((tt, tt), tt))) (refl, (refl, ((refl, are.1.1.1.0.1), tt))) $
    nothing ! $ use0 𝓛 (‵ (flft [] full_share)) (𝓛.lfts.lft-nil full_share) $ join ! $ join ! $ join ! $
    use1 𝓛 (raw (G.pre z)) (id⊢ 𝓤 _) $
    calls_at_last ! (framed 𝓤 𝓛.H 𝓜 𝓣) G (met 𝓤 𝓛 𝓜 𝓡 (code.calls-core::ptr::copy 𝓡.env wired) Char char_laws) z (and_then ! (get ! refl) (and_then ! (get ! refl) (and_then ! (get ! refl) (no_more !)))) (λ v.
    use1 𝓛 (later (some (λ (r : Unit {0}). ((‵ (flft [] full_share) ⊛ ‵ ftrue) ⊛ ‵ (unit.own_val r (v ∷ []))) ⊛ some (λ (ws : Unit {0} × (Unit {0} × (Unit {0} × Unit {0}))). ‵ (fsep ftrue (fsep ftrue (fsep ftrue ftrue))) ⊛ ‵ (memory_after_copy C w.up w.distance n src dst xs))))) (id⊢ 𝓤 _) $
    await ! tt $ pick ! (λ r. split ! $ split ! $ drop ! $ feq_l ! (λ is_unit. pick ! (λ ws. split ! $ drop ! $
    -- [what the copy left; the other places; the rest as before]
    lands_last ! refl (subst (λ (u : Val). T (has_ty ty_unit u) × WT u) (sym (ap only is_unit)) (tt, tt)) $
    exec ! 𝓣.C 𝓣.Λ (env code.Mir.locals l) (after 1 (code.function).body) (at_ret _ (W.post y)) $ sets ! (of_opd ! (unit_lit !)) refl (tt, tt) $
    use2 𝓛 (‵ (slots b' o' w.news)) w.back $
    flt_i ! (length w.news * 4) (2 ^ 63) (subst (λ k. k * 4 < 2 ^ 63) (sym w.long) small) $ fjoin ! $
    rewrite ! 0 (λ (p : Ptr). ‵ (cells_own p w.news)) (sym e) refl $ rewrite ! 2 Cell (sym word) refl $
    move ! (1 ∷ []) $ fjoin ! $ move ! (1 ∷ []) $ closes ! tt R (record h { slots = w.news }) us b o $
    returns ! (look_at ! 0 refl) $ free_all ! refl $ move ! (3 ∷ []) $
    suffices ! _ (ends_at 𝓛 f.ended stayed c y vunit tt (record h { slots = w.news }, (tt, (tt, (tt, tt)))) (tt, (tt, (tt, (tt, tt))))) $ says ! (refl, (w.raises, w.lowers)) $
    group ! 3 $ nothing ! $ nothing ! $ join ! $ nothing ! $ join ! $ nothing ! $ join ! $ move ! (1 ∷ 0 ∷ []) $ join ! $ nothing ! $ move ! (2 ∷ 0 ∷ []) $ join ! $ frame ! $ frame ! $
    feq_i ! _ (vunit ∷ []) _ refl $ done !)))))))))))
