use Rattle.std.proofs.Common.{◌≡◌, pos, inl, inr, arith, rules}
use Rattle.std.proofs.lemmas.Result.{on_ok_weaker}
use Rattle.sqlite.specs.State.{HasCleanDisk}
use Rattle.sqlite.specs.Held.{state}
use Rattle.mgs_tables.proofs.open_file.prepare.Goals as goal

pub returns-then-branch-eq0-clause-ready : goal.returns-then-branch-eq0-clause-ready
returns-then-branch-eq0-clause-ready g c clean =
    let early : HasCleanDisk (state g.S.Store c.object_count.new.conn) = omega (arith, c.make.ensures.crash.clean) in
    let none : c.in_ok-object_count.field-0 ≡ pos 0 = search rules in
    record { mid = c.object_count.new.conn; count = c.in_ok-object_count.field-0; objects = c.in_ok-object_count.ensures.shown early; tables = inl (none, c.in_ok-make.ensures.made clean) }

pub returns-clause-ready : goal.returns-clause-ready
returns-clause-ready g c clean =
    let early : HasCleanDisk (state g.S.Store c.object_count.new.conn) = c.test_tables.ensures.clean clean in
    on_ok_weaker c.test_tables.result (λ ours. record { mid = c.object_count.new.conn; count = c.in_ok-object_count.field-0; objects = c.in_ok-object_count.ensures.shown early; tables = inr ours }) (c.test_tables.ensures.tables clean)
