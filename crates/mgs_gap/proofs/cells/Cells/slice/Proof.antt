use Rattle.std.proofs.Common.{ℕ, ◌≡◌, ◌+◌, ◌*◌, ◌<◌, ◌^◌, List, [], ◌∷◌, Option, Some, length, drop, length-take, length-drop, refl, sym, ap, w64, arith}
use Rattle.std.proofs.lemmas.List.{length-map}
use Rattle.std.proofs.raw_atomic.Walks.{proved}
use base.Logic.{id⊢}
use base.Fml.{ftrue, flft}
use mir.Syntax.{named, ty_ptr}
use mir.Val.{Val}
use contract.Running.{tables}
use contract.Monad.{fact}
use types.Kit.{‵, raw, ◌⊛◌, at_ret, ◌$◌, ◌∵◌, !, qed, done, move, keep, drop as skip, use1, split, join, fsplit, fjoin, flt_l, flt_i, feq_i, feq_l, rewrite, suffices, frame}
use types.Run.{enter, of_opd, lit, bin, load, look, stop, fld, first, blocks, exec, returns, no_more, and_then}
use types.ByLocal.{alloc_all, pass_all, free_all, look_at, get, through, sets, sets_last, env}
use types.Part.{agg}
use denote.Builtin.{RefOf, usize}
use denote.Signature.{plain}
use denote.Text.{Char}
use denote.Exit.{yes}
use denote.Plain.{uint_vals, uint_Tells}
use denote.RawPtr.{Ptr, RawPtr, block_ptr, coded_ptr, ptr_own, rawptr_pure, ptr_val, in_a_block}
use denote.Ref.{ShrRef, shr_vals, shr_Tells}
use denote.Memory.{cell_at, hidden_shr}
use denote.Copied.{plain_Copied}
use denote.Opens.{hide, unhide}
use denote.Slice.{elements_shared, slice_val}
use denote.Steps.{nothing, heard, looks, shuts}
use denote.Struct.Laws.{RawPtr-laws}
use denote.Triple.Walked.{Stays, walk_of, says, stay_dropped, Goes-dropped, ends_at}
use Rattle.std.proofs.VecSteps.Shapes.{after}
use Rattle.mgs_gap.specs.Ownership.{cells_lent}
use Rattle.mgs_gap.specs.Places.{IsRun}
use Rattle.mgs_gap.proofs.Row.{run_seen}
use Rattle.mgs_gap.specs.contracts.cells.Cells.slice as f
use Rattle.mgs_gap.proofs.cells.Cells.slice.Statement.{statement}
use Rattle.mgs_gap.proofs.cells.Cells.slice.Code as code
use Rattle.mgs_gap.specs.contracts.cells.Cells.{the_row as R}

abbrev stayed : Stays f.ended.signature.params f.ended.kept
stayed = (stay_dropped (RefOf (0 ∷ []) tt (plain (λ _. R)) (λ _. tt)) yes, (stay_dropped (plain (λ _. usize)) yes, (stay_dropped (plain (λ _. usize)) yes, tt)))

pub slice_spec : {M : Type 1} → statement M
slice_spec 𝓤 𝓛 𝓜 𝓡 wired =
    let c = f.clauses 𝓛 𝓜.mem 𝓡.returns in let W = walk_of 𝓛 f.ended stayed c in let 𝓣 = tables 𝓤 𝓛.H 𝓜 𝓡 𝓡.env in
    proved 𝓛 f.ended stayed c 𝓜 𝓡 (Goes-dropped 𝓛 1 (RefOf (0 ∷ []) tt (plain (λ _. R)) (λ _. tt)) yes (λ κs x w. refl), (Goes-dropped 𝓛 1 (plain (λ _. usize)) yes (λ κs x w. refl), (Goes-dropped 𝓛 1 (plain (λ _. usize)) yes (λ κs x w. refl), tt)))
    f.Key.name code.function (code.unfolded 𝓤 𝓛.H 𝓜 𝓡 wired)
    (λ κs. (shr_vals, (uint_vals w64, (uint_vals w64, tt)))) (λ κs. (shr_Tells (named 0) κs.0 R, (uint_Tells w64, (uint_Tells w64, tt)))) (λ κs qs bounds a _ are.
    let κ = κs.0 in let b = a.0.ref_ptr.0 in let o = a.0.ref_ptr.1 in let h = a.0.now in let i = a.1.0 in let n = a.1.1.0 in let vs = shr_vals a.0 in
    let y : W.Ghost = ((κs, qs, bounds, a, (vs, (uint_vals w64 i, (uint_vals w64 n, tt)))), tt) in
    qed 𝓛 (((‵ (flft κ qs.0) ⊛ ‵ ftrue) ⊛ ‵ ((ShrRef (named 0) κ R).own_val a.0 vs) ⊛ ‵ (usize.own_val i (uint_vals w64 i)) ⊛ ‵ (usize.own_val n (uint_vals w64 n)) ⊛ ‵ ftrue)
    ∷ raw (fact 𝓤 (IsRun h.slots i n)) ∷ []) ∵
    move ! (1 ∷ []) $ heard ! _ (λ asked.
    let xs = asked.1.0 in let filled = asked.1.1 in
    let long : length xs ≡ n = omega (arith, asked.0, ap (λ (l : List (Option ℕ)). length l) filled, length-map xs Some, length-take n (drop i h.slots), length-drop i h.slots) in
    split ! $ split ! $ move ! (2 ∷ []) $ split ! $ keep ! (0 ∷ 2 ∷ []) $ fsplit ! $ skip ! $
    -- [what a reference to the cells shows; its token]
    enter ! _ _ _ _ _ $ alloc_all ! (λ l. pass_all ! refl ((tt, tt), ((tt, record { fits = are.1.0.1 }), ((tt, record { fits = are.1.1.0.1 }), tt))) $
    unhide ! $ fsplit ! $ move ! (1 ∷ []) $ in_a_block ! h.at (λ p. cells_lent p h.slots κ) (id⊢ 𝓤 _) (λ b' o' e. fsplit ! $ flt_l ! (λ small.
    let far : i * 4 < 2 ^ 64 = omega (arith, small, asked.0) in let at : ℕ × ℕ = (b', i * 4 + o') in
    move ! (1 ∷ []) $ fsplit ! $ move ! (1 ∷ []) $ skip ! $ fsplit ! $ move ! (1 ∷ []) $ skip ! $ hide ! $
    rewrite ! 0 (λ (p : Ptr). ‵ (hidden_shr RawPtr κ p b (o + 0))) e refl $
    -- [the field; the places; the token]
    move ! (0 ∷ 2 ∷ []) $ looks ! tt RawPtr (plain_Copied 𝓛 Ptr coded_ptr (ty_ptr ∷ []) ptr_own rawptr_pure ptr_val RawPtr-laws.tells).opens (block_ptr b' o') b (o + 0) (λ part us. move ! (1 ∷ []) $ feq_l ! (λ is.
    rewrite ! 0 (λ (ws : List Val). ‵ (cell_at part RawPtr.mir ws b (o + 0))) is refl $ move ! (2 ∷ []) $ skip ! $
    first ! $ blocks ! $
    sets ! (of_opd ! (load ! (through ! refl (fld ! refl (stop !))) (look ! 0 refl))) refl (tt, tt) $
    sets ! (bin ! (get ! refl) (lit ! tt) (record { fits = far })) refl (tt, record { fits = far }) $
    sets ! (bin ! (get ! refl) (get ! refl) tt) refl (tt, tt) $
    feq_i ! (List Val) (ptr_val (block_ptr b' o') ∷ []) (ptr_val (block_ptr b' o') ∷ []) refl $ move ! (1 ∷ 0 ∷ []) $ shuts ! tt RawPtr part (block_ptr b' o') (ptr_val (block_ptr b' o') ∷ []) b (o + 0) $
    -- [the token; the places]
    move ! (1 ∷ []) $ use1 𝓛 (‵ (elements_shared Char xs b' (i * 4 + o') κ)) (run_seen 𝓛 b' κ o' h.slots i n xs (omega (arith, asked.0)) filled) $ hide ! $
    sets_last ! (agg ! (and_then ! (get ! refl) (and_then ! (get ! refl) (no_more !)))) refl (tt, (tt, (record { fits = are.1.1.0.1 }, tt))) $
    exec ! 𝓣.C 𝓣.Λ (env code.Mir.locals l) (after 1 (code.function).body) (at_ret _ (W.post y)) $ sets ! (of_opd ! (get ! refl)) refl (tt, (tt, (record { fits = are.1.1.0.1 }, tt))) $
    flt_i ! (length xs * 4) (2 ^ 63) (omega (arith, small, asked.0, long)) $ flt_i ! (length xs) (2 ^ 64) (omega (arith, small, asked.0, long)) $ fjoin ! $
    feq_i ! (List Val) (slice_val at n ∷ []) (slice_val at (length xs) ∷ []) (ap (λ k. slice_val at k ∷ []) (sym long)) $ fjoin ! $ fjoin ! $
    returns ! (look_at ! 0 refl) $ free_all ! refl $ keep ! (1 ∷ 0 ∷ []) $
    suffices ! _ (ends_at 𝓛 f.ended stayed c y (slice_val at n) (record { ref_ptr = at; now = xs }) (tt, (tt, (tt, tt))) (tt, (tt, (tt, tt)))) $ says ! filled $
    nothing ! $ move ! (1 ∷ 0 ∷ []) $ join ! $ frame ! $ nothing ! $ nothing ! $ fjoin ! $ nothing ! $ fjoin ! $ nothing ! $ fjoin ! $ done !)))))))
