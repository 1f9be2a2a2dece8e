use Rattle.std.proofs.Common.{◌≡◌, ◌∙◌, ◌∷◌, ap, map, subst, subst₂, to_z, of_z, w64, rules}
use Rattle.std.proofs.lemmas.Result.{on_ok_weaker}
use Rattle.sqlite.specs.declared.types.Value.TheVariants.{Int}
use Rattle.sqlite.specs.Held.{state}
use Rattle.mgs_tables.specs.Both.{RanWith}
use Rattle.mgs_tables.specs.Texts.{insert_numbered}
use Rattle.mgs_ledger.specs.Keeping.{word_values}
use Rattle.mgs_ledger.proofs.new_file.fill.Goals as goal

pub returns : goal.returns
returns g c at file taken first others =
    let before = c.put_rows.new.conn in
    let now = (state g.S.Store c.put_first.new.conn).committed in
    let fits : to_z w64 (of_z w64 c.args.number) ≡ c.args.number = search rules in
    on_ok_weaker c.put_texts.result
    (λ put. record {
      mid = before;
      later = c.put_first.new.conn;
      added = c.in_ok-put_rows.ensures;
      told = λ clean.
          subst₂ (λ one more. RanWith g.S.Store insert_numbered (Int c.args.number ∷ one) more before now) first (ap (map word_values) c.as_slice.ensures.value ∙ others)
          (subst (λ n. RanWith g.S.Store insert_numbered (Int n ∷ word_values c.args.words.now.first) (map word_values c.as_slice.result.now) before now) fits (c.in_ok-put_first.ensures clean));
      put = put;
    })
    c.put_texts.ensures
