use Rattle.std.proofs.Common.{◌≡◌, ◌∷◌, map, subst, subst₂, to_z, of_z, w64, rules}
use Rattle.sqlite.specs.declared.types.Value.TheVariants.{Int}
use Rattle.sqlite.specs.Held.{state}
use Rattle.mgs_tables.specs.Both.{RanWith}
use Rattle.mgs_tables.specs.Rows.{event_values}
use Rattle.mgs_tables.specs.Texts.{insert_numbered}
use Rattle.mgs_ledger.specs.Keeping.{word_values}
use Rattle.mgs_ledger.proofs.new_file.put_first.Goals as goal

pub returns : goal.returns
returns g c clean =
    let now = (state g.S.Store c.put_numbered.new.conn).committed in
    let others = map event_values c.as_slice.result.now in
    let told : others ≡ map word_values c.args.others.now = search rules in
    let fits : to_z w64 (of_z w64 c.args.number) ≡ c.args.number = search rules in
    subst₂ (λ first others. RanWith g.S.Store insert_numbered (Int c.args.number ∷ first) others c.args.conn.now now) c.row.ensures told
    (subst (λ n. RanWith g.S.Store insert_numbered (Int n ∷ event_values c.row.result) others c.args.conn.now now) fits (c.in_ok-put_numbered.ensures.both clean))
