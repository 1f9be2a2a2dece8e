use Rattle.std.proofs.Common.{◌≡◌, ◌∙◌, List, [], ◌∷◌, length, refl, sym, ap}
use Rattle.std.proofs.lemmas.Bool.{eqb-true}
use Rattle.std.specs.Prelude.{OnOk, Result, Ok, Err}
use Rattle.mgs_journal.specs.Changes.{rows_changed}
use Rattle.mgs_keep.proofs.Asking.{changed_kept, over_kept}
use Rattle.mgs_keep.proofs.access_changes.keep_all.Goals as goal

none : {A : Type 0} (xs : List A) → length xs ≡ 0 → xs ≡ []
none [] e = refl
none (x ∷ xs) e = cc

made : {T E P Q : Type 0} (r : Result T E) → (P → Q) → OnOk r P → OnOk r Q
made (Ok t) so p = so p
made (Err e) so p = tt

pub returns-then-is_empty-clause-kept : goal.returns-then-is_empty-clause-kept
returns-then-is_empty-clause-kept g c =
    over_kept g.J.Journal.does g.J.Journal.rows c.args.engine.now c.args.journal.now c.differences-changes.result.items c.differences-changes.ensures (none c.differences-changes.result.items (eqb-true _ 0 (sym c.is_empty.ensures ∙ c.if-is_empty.true)))

pub returns-clause-kept : goal.returns-clause-kept
returns-clause-kept g c =
    made c.change.result (λ rows. changed_kept g.J.Journal.does g.J.Journal.rows c.args.engine.now c.args.journal.now c.change.new.self c.differences-changes.result.items c.differences-changes.ensures (rows ∙ ap (λ cs. rows_changed cs (g.J.Journal.rows c.args.journal.now)) c.as_slice.ensures.value)) c.change.ensures.rows
