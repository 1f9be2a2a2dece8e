use Rattle.std.proofs.Common.{◌≡◌, ◌∙◌, Err, sym, subst, map, inl, inr, drop, slice_get, arith}
use Rattle.std.proofs.lemmas.List.{drop_more}
use Rattle.sqlite.specs.State.{HasCleanDisk}
use Rattle.sqlite.specs.Held.{state}
use Rattle.sqlite.proofs.StateLemmas.{survives_then}
use Rattle.sqlite.proofs.InsideLemmas.{keeps_then}
use Rattle.std.proofs.lemmas.Result.{err_from_is_err_and}
use Rattle.mgs_tables.specs.declared.rows.Fault.TheVariants.{NoBuffer}
use Rattle.mgs_tables.specs.Changes.{RunChanges, FindsNoneAmong, statement_of}
use Rattle.mgs_tables.proofs.row_changes.change_all.Goals as goal

pub loop-change-preserved : goal.loop-change-preserved
loop-change-preserved g c =
    let old = state g.S.Store c.args.tx.now.conn.now in
    let was = c.loop-change.tx.conn.now in
    let new = c.change_row.new.tx.conn.now in
    let step = c.change_row.ensures.survives in
    let more = sym (drop_more c.args.changes.now c.loop-change.change-index _ c.loop-change-test.true) in (
      c.change_row.ensures.same_reference ∙ c.loop-change.invariant.0,
      survives_then old (state g.S.Store was) (state g.S.Store new) _ _ (λ _. ⊥) (λ _ db none. none) (λ _ db none. none) c.loop-change.invariant.1 step,
      λ clean inside.
          let had = c.loop-change.invariant.2 (omega (arith, step.clean)) inside in
          let ran = c.in_ok-change_row.ensures.runs clean had.0 in (
            ran.1.mode,
            keeps_then old (state g.S.Store was) (state g.S.Store new) had.1 (record { was_open = λ _. ran.1.was_open; committed = λ _. ran.1.committed_is }),
            λ last rest. had.2 last (subst (λ xs. RunChanges g.S.Store (map statement_of xs) was last) more (new, ran.0, rest)),
            λ none. had.3 (subst (λ xs. FindsNoneAmong g.S.Store (map statement_of xs) was) more (inr (new, ran.0, none))),
          ),
    )

pub returns-in_err-change_row-clause-missing : goal.returns-in_err-change_row-clause-missing
returns-in_err-change_row-clause-missing g c clean inside none =
    let was = c.loop-change.tx.conn.now in
    let new = c.change_row.new.tx.conn.now in
    let step = c.change_row.ensures.survives in
    let more = sym (drop_more c.args.changes.now c.loop-change.change-index _ c.loop-change-test.true) in
    let had = c.loop-change.invariant.2 (omega (arith, step.clean)) inside in
    let out = err_from_is_err_and c.from_residual.result c.from_residual.ensures.1 in
    let missed : Err c.in_err-change_row.field-0.0 ≡ Err NoBuffer = cc in
    had.3 (subst (λ xs. FindsNoneAmong g.S.Store (map statement_of xs) was) more (inl (new, c.in_err-change_row.ensures.missing clean had.0 missed)))
