use Rattle.std.proofs.Common.{arith}
use Rattle.sqlite.specs.State.{HasCleanDisk}
use Rattle.sqlite.specs.Held.{state}
use Rattle.mgs_tables.proofs.open_file.bring_from_1.Goals as goal

pub returns-clause-tables : goal.returns-clause-tables
returns-clause-tables g c clean =
    let second : HasCleanDisk (state g.S.Store c.grow_to_2.new.conn) = omega (arith, c.grow_to_3.ensures.crash.clean) in
    let early : HasCleanDisk (state g.S.Store c.test_count.new.conn) = omega (arith, c.grow_to_2.ensures.crash.clean) in
    record {
      mid = c.test_count.new.conn;
      second = c.grow_to_2.new.conn;
      tables = c.in_ok-test_count.ensures.tables early;
      texts = c.in_ok-grow_to_2.ensures.grown second;
      grown = c.in_ok-grow_to_3.ensures.grown clean;
    }
