use Rattle.std.proofs.Common.{ap, ◌∙◌}
use Rattle.std.proofs.lemmas.Option.{get_or_from_slice_get, slice_get-get_or}
use Rattle.mgs_session.specs.declared.Session.{Session}
use Rattle.mgs_seek.specs.Planning.{buffers_edited}
use Rattle.mgs_seek.proofs.Done.{behind_then, done_by, follows, mark_then, next_then, place_then, went_at}
use Rattle.mgs_seek.proofs.query_replace.perform.Goals as goal

pub edit-requires : goal.edit-requires
edit-requires g c = c.requires.can _ (slice_get-get_or c.args.sessions.now c.args.at c.index-sessions-at.result c.requires.within)

pub follow-requires : goal.follow-requires
follow-requires g c =
    let can = c.requires.can _ (slice_get-get_or c.args.sessions.now c.args.at c.index-sessions-at.result c.requires.within) in
    follows c.args.buffers.now _ _ c.args.planned.now can c.in_ok-edit.ensures.ok _ c.if_edit-edit.ensures

pub leave-requires-clause-mark : goal.leave-requires-clause-mark
leave-requires-clause-mark g c =
    let can = c.requires.can _ (slice_get-get_or c.args.sessions.now c.args.at c.index-sessions-at.result c.requires.within) in
    mark_then c.args.buffers.now _ _ c.args.planned.now can c.in_ok-edit.ensures.ok

pub leave-requires-clause-place : goal.leave-requires-clause-place
leave-requires-clause-place g c =
    let can = c.requires.can _ (slice_get-get_or c.args.sessions.now c.args.at c.index-sessions-at.result c.requires.within) in
    place_then c.args.buffers.now _ _ c.args.planned.now can c.in_ok-edit.ensures.ok

pub leave-requires-clause-behind : goal.leave-requires-clause-behind
leave-requires-clause-behind g c =
    let can = c.requires.can _ (slice_get-get_or c.args.sessions.now c.args.at c.index-sessions-at.result c.requires.within) in
    behind_then c.args.buffers.now _ _ c.args.planned.now can c.in_ok-edit.ensures.ok

pub leave-requires-clause-next : goal.leave-requires-clause-next
leave-requires-clause-next g c =
    let found = slice_get-get_or c.args.sessions.now c.args.at c.index-sessions-at.result c.requires.within in
    next_then c.args.buffers.now _ _ c.args.planned.now (c.requires.can _ found) c.in_ok-edit.ensures.ok _ c.if_edit-edit.ensures _ (went_at _ _ c.args.sessions.now c.follow.new.sessions c.args.at _ c.index-sessions-at-2.result c.follow.ensures found)

pub returns-clause-done : goal.returns-clause-done
returns-clause-done g c = λ h found.
    let ks = c.args.buffers.now in
    let xs = c.args.sessions.now in
    let p = c.args.planned.now in
    let edit_is = c.in_ok-edit.ensures.ok ∙ ap (λ (z : Session). buffers_edited p z.state.search ks) (get_or_from_slice_get xs c.args.at h c.index-sessions-at.result found) in
    done_by ks _ h p (c.requires.can h found) edit_is _ c.if_edit-edit.ensures _ (went_at _ _ xs c.follow.new.sessions c.args.at h c.index-sessions-at-2.result c.follow.ensures found) c.args.at xs _ _ _ _ c.follow.ensures c.leave.ensures c.touched.ensures
