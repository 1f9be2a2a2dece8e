use Rattle.std.proofs.Common.{arith}
use Rattle.mgs_search.proofs.Borders.{read_on_back}
use Rattle.mgs_search.proofs.heads.next_read_back.Goals as goal

pub returns-clause-read : goal.returns-clause-read
returns-clause-read g c = λ read. read_on_back c.args.tail.now (g.T.Text.text c.args.text.now) c.first_of.result c.args.top c.args.i c.passed_back.result c.args.stands c.first_of.ensures c.requires.some (omega arith) c.passed_back.ensures.none read
