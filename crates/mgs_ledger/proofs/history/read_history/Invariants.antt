use Rattle.std.proofs.Common.{◌≡◌, List, [], pos}
use Rattle.mgs_tables.specs.declared.rows.Event.{Event}
use Rattle.mgs_rewind.specs.Account.{first_account}
use Rattle.mgs_ledger.specs.Reading.{ArePages, all_accounted}
use Rattle.mgs_ledger.specs.Taken.{all_noted}
use Rattle.mgs_ledger.proofs.history.read_history.Given as goal

-- with the pages that are read from here there are pages of all, and what they make of what is noted is what all make
abbrev pub invariant-loop : goal.invariant-loop
invariant-loop g l =
    (more : List (List Event)) (new : _) → ArePages g.S.Store l.last more l.conn new
    → (pages : List (List Event)) × ArePages g.S.Store (pos 0) pages l.fn.conn new × (all_noted l.taken.items more ≡ all_noted [] pages) × (all_accounted l.account more ≡ all_accounted first_account pages)
