use Rattle.std.proofs.Common.{length, arith}
use Rattle.std.proofs.lemmas.Option.{slice_get_within}
use Rattle.mgs_keep.specs.Keeping.{rows_in}
use Rattle.mgs_keep.proofs.Differences.{found_changed, found_killed, found_made, found_over, found_same, further_both, further_kept, further_now, less_both, less_kept, less_now}
use Rattle.mgs_keep.proofs.access_changes.push_difference.Goals as goal

pub returns-in-Over-clause-found : goal.returns-in-Over-clause-found
returns-in-Over-clause-found g c =
    let now = rows_in c.args.engine.now in
    let kept = g.J.Journal.rows c.args.journal.now in
    found_over now kept c.args.changes.now.items c.args.at.0 c.args.at.1 c.requires.found c.in-Over.ensures.0 c.in-Over.ensures.1

pub returns-in-Same-clause-found : goal.returns-in-Same-clause-found
returns-in-Same-clause-found g c =
    let now = rows_in c.args.engine.now in
    let kept = g.J.Journal.rows c.args.journal.now in
    found_same now kept c.args.changes.now.items c.args.at.0 c.args.at.1 c.requires.found c.in-Same.ensures.0 c.in-Same.ensures.1 c.in-Same.ensures.2

pub returns-in-Same-clause-walk : goal.returns-in-Same-clause-walk
returns-in-Same-clause-walk g c =
    let now = rows_in c.args.engine.now in
    let kept = g.J.Journal.rows c.args.journal.now in
    further_both (length now) (length kept) c.args.at.0 c.args.at.1 _ _ (slice_get_within now c.args.at.0 _ c.in-Same.ensures.1) (slice_get_within kept c.args.at.1 _ c.in-Same.ensures.2) c.requires.walk.0 (omega arith)

pub returns-in-Same-clause-less : goal.returns-in-Same-clause-less
returns-in-Same-clause-less g c =
    let now = rows_in c.args.engine.now in
    let kept = g.J.Journal.rows c.args.journal.now in
    less_both (length now) (length kept) c.args.at.0 c.args.at.1 (slice_get_within now c.args.at.0 _ c.in-Same.ensures.1) (slice_get_within kept c.args.at.1 _ c.in-Same.ensures.2)

pub returns-in-Changed-clause-found : goal.returns-in-Changed-clause-found
returns-in-Changed-clause-found g c =
    let now = rows_in c.args.engine.now in
    let kept = g.J.Journal.rows c.args.journal.now in
    let d = c.in-Changed.ensures in
    found_changed now kept c.args.changes.now.items c.args.at.0 c.args.at.1 c.requires.found d.0 d.1 c.in-Changed.rights c.push.new.self.items d.2 d.3 d.4 d.5 c.push.ensures.items

pub returns-in-Changed-clause-walk : goal.returns-in-Changed-clause-walk
returns-in-Changed-clause-walk g c =
    let now = rows_in c.args.engine.now in
    let kept = g.J.Journal.rows c.args.journal.now in
    let d = c.in-Changed.ensures in
    further_both (length now) (length kept) c.args.at.0 c.args.at.1 _ _ (slice_get_within now c.args.at.0 d.0 d.2) (slice_get_within kept c.args.at.1 d.1 d.3) c.requires.walk.0 (omega (arith, c.push.ensures.len))

pub returns-in-Changed-clause-less : goal.returns-in-Changed-clause-less
returns-in-Changed-clause-less g c =
    let now = rows_in c.args.engine.now in
    let kept = g.J.Journal.rows c.args.journal.now in
    let d = c.in-Changed.ensures in
    less_both (length now) (length kept) c.args.at.0 c.args.at.1 (slice_get_within now c.args.at.0 d.0 d.2) (slice_get_within kept c.args.at.1 d.1 d.3)

pub returns-in-Made-clause-found : goal.returns-in-Made-clause-found
returns-in-Made-clause-found g c =
    let now = rows_in c.args.engine.now in
    let kept = g.J.Journal.rows c.args.journal.now in
    found_made now kept c.args.changes.now.items c.args.at.0 c.args.at.1 c.requires.found _ c.push-in-Made.new.self.items c.in-Made.ensures.0 c.in-Made.ensures.1 c.push-in-Made.ensures.items

pub returns-in-Made-clause-walk : goal.returns-in-Made-clause-walk
returns-in-Made-clause-walk g c =
    let now = rows_in c.args.engine.now in
    let kept = g.J.Journal.rows c.args.journal.now in
    further_now (length now) (length kept) c.args.at.0 c.args.at.1 _ _ (slice_get_within now c.args.at.0 _ c.in-Made.ensures.0) c.requires.walk.2 c.requires.walk.0 (omega (arith, c.push-in-Made.ensures.len))

pub returns-in-Made-clause-less : goal.returns-in-Made-clause-less
returns-in-Made-clause-less g c =
    let now = rows_in c.args.engine.now in
    let kept = g.J.Journal.rows c.args.journal.now in
    less_now (length now) (length kept) c.args.at.0 c.args.at.1 (slice_get_within now c.args.at.0 _ c.in-Made.ensures.0)

pub returns-in-Killed-clause-found : goal.returns-in-Killed-clause-found
returns-in-Killed-clause-found g c =
    let now = rows_in c.args.engine.now in
    let kept = g.J.Journal.rows c.args.journal.now in
    found_killed now kept c.args.changes.now.items c.args.at.0 c.args.at.1 c.requires.found c.in-Killed.ensures.0 c.push-in-Killed.new.self.items c.in-Killed.ensures.1 c.in-Killed.ensures.2 c.push-in-Killed.ensures.items

pub returns-in-Killed-clause-walk : goal.returns-in-Killed-clause-walk
returns-in-Killed-clause-walk g c =
    let now = rows_in c.args.engine.now in
    let kept = g.J.Journal.rows c.args.journal.now in
    further_kept (length now) (length kept) c.args.at.0 c.args.at.1 _ _ c.requires.walk.1 (slice_get_within kept c.args.at.1 c.in-Killed.ensures.0 c.in-Killed.ensures.1) c.requires.walk.0 (omega (arith, c.push-in-Killed.ensures.len))

pub returns-in-Killed-clause-less : goal.returns-in-Killed-clause-less
returns-in-Killed-clause-less g c =
    let now = rows_in c.args.engine.now in
    let kept = g.J.Journal.rows c.args.journal.now in
    less_kept (length now) (length kept) c.args.at.0 c.args.at.1 (slice_get_within kept c.args.at.1 c.in-Killed.ensures.0 c.in-Killed.ensures.1)
