use Rattle.std.proofs.Common.{◌≡◌, ◌∷◌, map, subst, rules}
use Rattle.sqlite.specs.declared.types.Value.TheVariants.{Text}
use Rattle.sqlite.specs.Held.{state}
use Rattle.mgs_tables.specs.Both.{RanWith}
use Rattle.mgs_tables.specs.Texts.{replace_text}
use Rattle.mgs_ledger.specs.Gathering.{told_row}
use Rattle.mgs_ledger.specs.Keeping.{word_values}
use Rattle.mgs_ledger.specs.Snapshots.{text_values}
use Rattle.mgs_ledger.proofs.log.Log.keep_text.Goals as goal

pub returns-clause-committed : goal.returns-clause-committed
returns-clause-committed g c clean =
    let now = (state g.S.Store c.keep_text.new.conn).committed in
    let told : map word_values c.as_slice-2.result.now ≡ map told_row c.args.self.now.gathered.items = search rules in
    record {
      ran = subst (λ rows. RanWith g.S.Store replace_text (Text c.args.name.now ∷ text_values c.args.text.now) rows c.args.self.now.conn now) told
          (c.in_ok-keep_text.ensures.done clean);
    }
