use Rattle.std.proofs.Common.{◌≡◌, [], refl, subst₂, rules}
use Rattle.std.proofs.lemmas.Result.{on_ok_weaker}
use Rattle.mgs_ledger.specs.Snapshots.{IsTextPut}
use Rattle.mgs_ledger.proofs.TextsPut.{clean_last}
use Rattle.mgs_ledger.proofs.new_file.put_one.Goals as goal

pub returns : goal.returns
returns g c =
    let name : c.row.inside.name ≡ c.args.row.now.rules.name = search rules in
    on_ok_weaker c.keep_text.result
    (λ put. (
      c.keep_text.new.conn,
      (λ clean. subst₂ (λ n t. IsTextPut g.S.Store n t [] c.args.conn.now c.keep_text.new.conn) name c.snapshot_in.ensures (record { ran = put clean })),
      refl,
    ))
    (clean_last c.keep_text.result _ c.keep_text.ensures.done)
