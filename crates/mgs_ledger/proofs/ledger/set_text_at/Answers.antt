use Rattle.std.proofs.Common.{◌≡◌, ◌∙◌, subst₂, rules}
use Rattle.std.proofs.lemmas.Option.{get_or_from_slice_get}
use Rattle.mgs_ledger.specs.Snapshots.{IsTextPut}
use Rattle.mgs_ledger.proofs.ledger.set_text_at.Goals as goal

pub returns-clause-committed : goal.returns-clause-committed
returns-clause-committed g c clean = record {
  put = λ k at.
      let row : c.index-rows-i.result ≡ k = c.index-rows-i.is ∙ get_or_from_slice_get c.args.rows.now c.args.i k c.index-rows-i.result at in
      let name : c.row.inside.name ≡ k.rules.name = search rules in
      subst₂ (λ n t. IsTextPut g.S.Store n t c.args.log.now.gathered.items c.args.log.now.conn c.keep_text.new.self.conn) name c.snapshot_in.ensures
      (c.in_ok-keep_text.ensures.committed clean);
}
