use Rattle.std.proofs.Common.{◌≡◌, ◌+ℤ◌, map, pos, subst, to_z, of_z, w64, rules}
use Rattle.mgs_ledger.specs.Keeping.{word_values}
use Rattle.mgs_ledger.specs.NewFile.{IsFilled, file_event, first_events}
use Rattle.mgs_ledger.proofs.new_file.filled_tables.Goals as goal

pub returns : goal.returns
returns g c =
    let words = c.in_ok-words.words in
    let at_fits : to_z w64 (of_z w64 c.args.at) ≡ c.args.at = search rules in
    let next : to_z w64 (of_z w64 c.in-Some.number) ≡ c.args.last +ℤ pos 1 = search rules in
    let first = subst (λ n. word_values words.first ≡ file_event n c.args.file) at_fits c.in_ok-words.ensures.first in
    let others = subst (λ n. map word_values words.others.items ≡ first_events n c.args.rows.now c.args.taken.now) at_fits c.in_ok-words.ensures.others in
    subst (λ n. IsFilled g.S.Store c.args.at n c.args.file c.args.rows.now c.args.texts.now c.args.taken.now c.args.conn c.fill.new.conn) next
    (c.in_ok-fill.ensures c.args.at c.args.file c.args.taken.now first others)
