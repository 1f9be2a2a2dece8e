use Rattle.mgs_grid.proofs.CellLemmas.{wrote_more}
use Rattle.mgs_grid.proofs.lists.put_listed.Goals as goal

pub returns : goal.returns
returns c =
    let name = wrote_more c.put_bytes-at_name.ensures.wrote c.put_name-end.ensures.wrote in
    let owners = wrote_more c.put_bytes-at_owners.ensures.wrote c.put_owners.ensures in
    wrote_more c.put_flag-at_size.ensures.wrote (wrote_more (wrote_more c.put_size-end.ensures.wrote name) owners)
