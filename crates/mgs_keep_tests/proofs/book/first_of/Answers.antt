use Rattle.mgs_keep_tests.proofs.Places.{place_found}
use Rattle.mgs_keep_tests.proofs.book.first_of.Goals as goal

pub returns-clause-value : goal.returns-clause-value
returns-clause-value c = place_found c.args.name.now c.args.rows.now c.row_place.result c.row_place.ensures.value
