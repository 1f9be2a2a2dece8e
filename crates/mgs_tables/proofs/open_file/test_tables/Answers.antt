use Rattle.std.proofs.Common.{◌≡◌, pos, inl, inr, rules}
use Rattle.std.proofs.lemmas.Result.{on_ok_weaker}
use Rattle.sqlite.specs.State.{HasCleanDisk}
use Rattle.sqlite.specs.Held.{state}
use Rattle.mgs_tables.proofs.open_file.test_tables.Goals as goal

pub returns-then-version-eq-VERSION-clause-tables : goal.returns-then-version-eq-VERSION-clause-tables
returns-then-version-eq-VERSION-clause-tables g c clean =
    let three : c.in_ok-version.version ≡ pos 3 = search rules in
    let early : HasCleanDisk (state g.S.Store c.version.new.conn) = c.test_count.ensures.clean clean in
    on_ok_weaker c.test_count.result (λ shown. record { mid = c.version.new.conn; number = c.in_ok-version.version; version = c.in_ok-version.ensures.shown early; tables = inl (three, shown) })
    (c.test_count.ensures.tables clean)

pub returns-then-version-eq-WITH_DASHES-clause-tables : goal.returns-then-version-eq-WITH_DASHES-clause-tables
returns-then-version-eq-WITH_DASHES-clause-tables g c clean =
    let two : c.in_ok-version.version ≡ pos 2 = search rules in
    let early : HasCleanDisk (state g.S.Store c.version.new.conn) = c.bring_from_2.ensures.clean clean in
    on_ok_weaker c.bring_from_2.result (λ grown. record { mid = c.version.new.conn; number = c.in_ok-version.version; version = c.in_ok-version.ensures.shown early; tables = inr (inl (two, grown)) })
    (c.bring_from_2.ensures.tables clean)

pub returns-clause-tables : goal.returns-clause-tables
returns-clause-tables g c clean =
    let one : c.in_ok-version.version ≡ pos 1 = search rules in
    let early : HasCleanDisk (state g.S.Store c.version.new.conn) = c.bring_from_1.ensures.clean clean in
    on_ok_weaker c.bring_from_1.result (λ grown. record { mid = c.version.new.conn; number = c.in_ok-version.version; version = c.in_ok-version.ensures.shown early; tables = inr (inr (one, grown)) })
    (c.bring_from_1.ensures.tables clean)
