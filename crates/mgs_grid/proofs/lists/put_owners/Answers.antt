use Rattle.std.proofs.Common.{List, ℕ, ◌++◌, sym, ap, subst, ◌∙◌, append-nil}
use Rattle.mgs_model.specs.Draw.{group_text}
use Rattle.mgs_grid.specs.Cells.{Wrote}
use Rattle.mgs_grid.proofs.CellLemmas.{wrote_more}
use Rattle.mgs_grid.proofs.lists.put_owners.Goals as goal

pub returns-in-None : goal.returns-in-None
returns-in-None c =
    let o = c.args.owners.now in
    subst (λ (text : List ℕ). Wrote c.args.row.now c.args.column text c.put_name-end.new.row c.put_name-end.result) (sym (append-nil o.owner) ∙ ap (λ g. o.owner ++ group_text g) (sym c.in-None.is)) c.put_name-end.ensures.wrote

pub returns-in-Some : goal.returns-in-Some
returns-in-Some c =
    let o = c.args.owners.now in
    subst (λ (text : List ℕ). Wrote c.args.row.now c.args.column text c.put_name.new.row c.put_name.result) (ap (λ g. o.owner ++ group_text g) (sym c.in-Some.is)) (wrote_more c.put_name-end.ensures.wrote (wrote_more c.put_bytes-at_group.ensures.wrote c.put_name.ensures.wrote))
