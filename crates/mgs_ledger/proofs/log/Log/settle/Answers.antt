use Rattle.std.proofs.Common.{◌≡◌, [], subst, sym, to_z, of_z, w64, rules}
use Rattle.sqlite.specs.Held.{state}
use Rattle.mgs_tables.specs.Reading.{ShowsNumber}
use Rattle.mgs_tables.specs.Texts.{select_newest}
use Rattle.mgs_ledger.proofs.log.Log.settle.Goals as goal

pub returns-clause-settled : goal.returns-clause-settled
returns-clause-settled g c =
    let mid = c.commit.new.self.conn in
    let new = c.newest.new.conn in
    let fits : to_z w64 (of_z w64 c.in_ok-last.last) ≡ c.in_ok-last.last = search rules in
    record {
      mid = mid;
      committed = c.in_ok-commit.ensures.committed;
      newest = λ clean. subst (λ n. ShowsNumber select_newest [] (state g.S.Store mid) (state g.S.Store new) n) (sym fits) (c.in_ok-last.ensures.shown clean);
    }
