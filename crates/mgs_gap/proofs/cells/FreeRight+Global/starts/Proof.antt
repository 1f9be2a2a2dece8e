-- A pointer that the heap takes back is the start of its block.
use Rattle.std.proofs.Common.{◌≡◌, [], ◌∷◌, refl}
use Rattle.std.proofs.GlobalToken.{dealloc_token_start}
use Rattle.std.proofs.raw_atomic.Walks.{proved}
use base.Fml.{Fml, ftrue, flft}
use base.Logic.{guard_i}
use mir.Syntax.{named}
use mir.Val.{vunit}
use contract.Monad.{fact_use}
use types.Kit.{‵, ◌⊛◌, given, ◌$◌, ◌∵◌, !, qed, done, move, keep, use1, split, join, learn, fsplit, fsplit3, fjoin, feq_i, suffices, frame, group}
use types.Logic.{sem}
use types.Run.{enter, of_opd, unit_lit, returns}
use types.ByLocal.{alloc_all, pass_all, free_all, look_at, sets}
use denote.RattleType.{RattleType}
use denote.RawPtr.{count_of}
use denote.Ref.{MutRef, mut_vals, mut_Tells}
use denote.Signature.{plain}
use denote.Steps.{nothing, opens, closes}
use denote.Triple.Walked.{Stays, walk_of, says, stay_ref, Goes-ref, ends_at}
use Rattle.std.specs.contracts.alloc.Global as heap
use Rattle.std.specs.contracts.impls.GlobalAllocator.TheImpl.{ghosts}
use Rattle.mgs_gap.specs.Ownership.{block_type}
use Rattle.mgs_gap.specs.contracts.cells.FreeRight as right
use Rattle.mgs_gap.specs.contracts.cells.FreeRight+Global.starts as f
use Rattle.mgs_gap.proofs.cells.FreeRight+Global.starts.Statement.{statement}
use Rattle.mgs_gap.proofs.cells.FreeRight+Global.starts.Code as code

abbrev R : RattleType
R = right.the_row heap.the_row ghosts

abbrev stayed : Stays f.ended.signature.params f.ended.kept
stayed = (stay_ref (0 ∷ []) tt (plain (λ _. R)), tt)

pub starts_spec : {M : Type 1} → statement M
starts_spec 𝓤 𝓛 𝓜 𝓡 wired =
    let c = f.clauses 𝓛 𝓜.mem 𝓡.returns in let W = walk_of 𝓛 f.ended stayed c in
    proved 𝓛 f.ended stayed c 𝓜 𝓡 (Goes-ref 𝓛 1 0 tt (plain (λ _. R)), tt)
    f.Key.name code.function (code.unfolded 𝓤 𝓛.H 𝓜 𝓡 wired)
    (λ κs. (mut_vals, tt)) (λ κs. (mut_Tells (named 0) κs.0 R, tt)) (λ κs qs bounds a _ are.
    let b = a.0.ref_ptr.0 in let o = a.0.ref_ptr.1 in let h = a.0.now in let vs = mut_vals a.0 in
    let y : W.Ghost = ((κs, qs, bounds, a, (vs, tt)), tt) in
    let Token : Fml = ghosts.dealloc_token h.alloc (block_type h.len) h.at in
    qed 𝓛 (((‵ (flft κs.0 qs.0) ⊛ ‵ ftrue) ⊛ ‵ ((MutRef (named 0) κs.0 R).own_val a.0 vs) ⊛ ‵ ftrue) ∷ ‵ ftrue ∷ []) ∵
    split ! $ split ! $ move ! (2 ∷ []) $ split ! $ keep ! (0 ∷ 2 ∷ []) $
    enter ! _ _ _ _ _ $ alloc_all ! (λ l. pass_all ! refl ((tt, tt), tt) $
    fsplit3 ! $ move ! (1 ∷ 2 ∷ 3 ∷ []) $ opens ! tt R b o (λ us. move ! (1 ∷ []) $ fsplit ! $ move ! (1 ∷ []) $
    -- [the right; what the fields own; self's cell; the open borrow, in three entries; self's first part]
    use1 𝓛 (given (count_of h.at ≡ 0) (‵ Token)) (fact_use 𝓤 (count_of h.at ≡ 0) (dealloc_token_start 𝓛 h.alloc (block_type h.len) h.at) (guard_i 𝓤 (count_of h.at ≡ 0) (sem 𝓛 Token))) $ learn ! (λ start.
    move ! (1 ∷ []) $ fjoin ! $ move ! (1 ∷ []) $ closes ! tt R h us b o $
    sets ! (of_opd ! (unit_lit !)) refl (tt, tt) $ returns ! (look_at ! 0 refl) $ free_all ! refl $ move ! (3 ∷ []) $
    suffices ! _ (ends_at 𝓛 f.ended stayed c y vunit tt (h, tt) (tt, tt)) $ says ! (refl, start) $
    group ! 3 $ nothing ! $ move ! (1 ∷ 0 ∷ []) $ join ! $ nothing ! $ move ! (2 ∷ 0 ∷ []) $ join ! $ frame ! $ frame ! $
    feq_i ! _ (vunit ∷ []) _ refl $ done !))))
