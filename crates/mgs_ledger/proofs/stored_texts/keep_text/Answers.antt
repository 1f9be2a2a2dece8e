use Rattle.std.proofs.Common.{◌≡◌, ◌∷◌, map, subst, rules}
use Rattle.sqlite.specs.declared.types.Value.TheVariants.{Text}
use Rattle.sqlite.specs.Held.{state}
use Rattle.mgs_tables.specs.Both.{RanWith}
use Rattle.mgs_tables.specs.Texts.{replace_text}
use Rattle.mgs_tables.specs.Rows.{event_values, text_values as row_values}
use Rattle.mgs_ledger.specs.Keeping.{word_values}
use Rattle.mgs_ledger.specs.Snapshots.{text_values}
use Rattle.mgs_ledger.proofs.stored_texts.keep_text.Goals as goal

pub returns-clause-done : goal.returns-clause-done
returns-clause-done g c clean =
    let now = (state g.S.Store c.put_text.new.conn).committed in
    let events = map event_values c.as_slice.result.now in
    let told : events ≡ map word_values c.args.all.now = search rules in
    let same : row_values c.row_of.result ≡ Text c.args.name.now ∷ text_values c.args.text.now = search rules in
    subst (λ rows. RanWith g.S.Store replace_text (Text c.args.name.now ∷ text_values c.args.text.now) rows c.args.conn.now now) told
    (subst (λ row. RanWith g.S.Store replace_text row events c.args.conn.now now) same (c.in_ok-put_text.ensures.both clean))
