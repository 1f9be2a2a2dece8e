use Rattle.std.proofs.Common.{ℕ, ◌+◌, ◌-◌, List, length, ap, sym, ◌∙◌}
use Rattle.std.specs.Option.{option_map}
use Rattle.std.proofs.lemmas.List.{length-take-le}
use Rattle.mgs_search.proofs.Edited.{replaced_so}
use Rattle.mgs_search.proofs.query_matches.replace_match.Goals as goal

pub returns : goal.returns
returns g c = λ rest.
    let text : List ℕ = g.T.Text.text c.args.text.now in
    let to : ℕ = c.args.anchor + length c.args.put.now in
    let from : ℕ = c.args.anchor + length c.args.old.now in
    replaced_so c.args.anchor c.args.old.now c.args.put.now text c.moved-next.result rest (length-take-le c.args.anchor text c.requires.anchor) (sym c.matches_at.ensures.value ∙ c.if-not-matches_at.false) (c.moved-next.ensures ∙ ap (option_map (λ m. m - from + to)) c.find_forward-2.ensures.value)
