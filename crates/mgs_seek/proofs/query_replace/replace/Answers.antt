use Rattle.std.proofs.Common.{get_or, ap}
use Rattle.mgs_session.specs.declared.Session.{Session}
use Rattle.mgs_world.proofs.Soundness.{session_sound}
use Rattle.mgs_seek.proofs.Done.{can_at, done_act, done_further, done_sound, done_tells, put_may, unsought_never, fails_act, fails_further, fails_none, fails_sound, fails_tells, seen_at}
use Rattle.mgs_seek.proofs.Lifts.{found_at}
use Rattle.mgs_seek.proofs.query_replace.replace.Goals as goal

pub plan_in-requires : goal.plan_in-requires
plan_in-requires g c = session_sound c.args.buffers.now c.args.sessions.now c.args.at _ c.requires.sound (ap (get_or c.args.sessions.now c.args.at) c.index-sessions-at.is) c.requires.within

pub perform-requires-clause-can : goal.perform-requires-clause-can
perform-requires-clause-can g c =
    can_at c.args.directory.now c.args.buffers.now c.args.sessions.now c.args.at _ c.args.last c.in-Ok.planned c.in-Ok.ensures.ok (ap (get_or c.args.sessions.now c.args.at) c.index-sessions-at.is) c.requires.within

pub returns-in-Ok-perform-clause-sound : goal.returns-in-Ok-perform-clause-sound
returns-in-Ok-perform-clause-sound g c =
    done_sound c.args.directory.now c.args.buffers.now c.args.sessions.now c.args.at _ c.args.last c.in-Ok.planned c.in-Ok.ensures.ok c.requires.sound (ap (get_or c.args.sessions.now c.args.at) c.index-sessions-at.is) c.requires.within _ _ _ (c.in-Ok-perform.ensures.done _ (found_at c.args.sessions.now c.args.at _ (ap (get_or c.args.sessions.now c.args.at) c.index-sessions-at.is) c.requires.within))

pub returns-in-Ok-perform-clause-ok : goal.returns-in-Ok-perform-clause-ok
returns-in-Ok-perform-clause-ok g c = λ id next s r place held aim.
    done_act c.args.directory.now c.args.buffers.now c.args.sessions.now c.args.at _ c.args.last c.in-Ok.planned c.in-Ok.ensures.ok c.requires.sound (ap (get_or c.args.sessions.now c.args.at) c.index-sessions-at.is) c.requires.within _ _ _ (c.in-Ok-perform.ensures.done _ (found_at c.args.sessions.now c.args.at _ (ap (get_or c.args.sessions.now c.args.at) c.index-sessions-at.is) c.requires.within)) next id place s r held aim

pub returns-in-Ok-perform-clause-none : goal.returns-in-Ok-perform-clause-none
returns-in-Ok-perform-clause-none g c = λ id next typed place none. absurd (unsought_never c.args.directory.now c.args.buffers.now c.args.sessions.now c.args.at _ c.args.last c.in-Ok.planned c.in-Ok.ensures.ok c.requires.sound (ap (get_or c.args.sessions.now c.args.at) c.index-sessions-at.is) c.requires.within none)

pub returns-in-Ok-perform-clause-tells : goal.returns-in-Ok-perform-clause-tells
returns-in-Ok-perform-clause-tells g c = λ id next s r place held aim.
    done_tells c.args.directory.now c.args.buffers.now c.args.sessions.now c.args.at _ c.args.last c.in-Ok.planned c.in-Ok.ensures.ok c.requires.sound (ap (get_or c.args.sessions.now c.args.at) c.index-sessions-at.is) c.requires.within _ _ _ (c.in-Ok-perform.ensures.done _ (found_at c.args.sessions.now c.args.at _ (ap (get_or c.args.sessions.now c.args.at) c.index-sessions-at.is) c.requires.within)) next id place s r held aim

pub returns-in-Ok-perform-clause-quiet : goal.returns-in-Ok-perform-clause-quiet
returns-in-Ok-perform-clause-quiet g c = λ none. absurd (unsought_never c.args.directory.now c.args.buffers.now c.args.sessions.now c.args.at _ c.args.last c.in-Ok.planned c.in-Ok.ensures.ok c.requires.sound (ap (get_or c.args.sessions.now c.args.at) c.index-sessions-at.is) c.requires.within none)

pub returns-in-Ok-perform-clause-further : goal.returns-in-Ok-perform-clause-further
returns-in-Ok-perform-clause-further g c =
    done_further c.args.directory.now c.args.buffers.now c.args.sessions.now c.args.at _ c.args.last c.in-Ok.planned c.in-Ok.ensures.ok c.requires.sound (ap (get_or c.args.sessions.now c.args.at) c.index-sessions-at.is) c.requires.within _ _ _ (c.in-Ok-perform.ensures.done _ (found_at c.args.sessions.now c.args.at _ (ap (get_or c.args.sessions.now c.args.at) c.index-sessions-at.is) c.requires.within))

pub returns-in-Err-perform-clause-may : goal.returns-in-Err-perform-clause-may
returns-in-Err-perform-clause-may g c = λ id next s r place held aim.
    put_may c.args.directory.now c.args.buffers.now c.args.sessions.now c.args.at _ c.args.last c.in-Ok.planned c.in-Ok.ensures.ok c.requires.sound (ap (get_or c.args.sessions.now c.args.at) c.index-sessions-at.is) c.requires.within next id place s r held aim c.in-Err-perform.ensures.may

pub returns-in-Err-perform-clause-held : goal.returns-in-Err-perform-clause-held
returns-in-Err-perform-clause-held g c = unsought_never c.args.directory.now c.args.buffers.now c.args.sessions.now c.args.at _ c.args.last c.in-Ok.planned c.in-Ok.ensures.ok c.requires.sound (ap (get_or c.args.sessions.now c.args.at) c.index-sessions-at.is) c.requires.within

pub returns-in-Err-clause-sound : goal.returns-in-Err-clause-sound
returns-in-Err-clause-sound g c = rw c.fail.ensures (fails_sound c.args.buffers.now c.args.sessions.now c.args.at _ c.in-Err.message c.requires.sound (ap (get_or c.args.sessions.now c.args.at) c.index-sessions-at-in-Err.is) c.requires.within)

pub returns-in-Err-clause-ok : goal.returns-in-Err-clause-ok
returns-in-Err-clause-ok g c = λ id next s r place held aim.
    rw c.fail.ensures (fails_act c.args.directory.now c.args.buffers.now c.args.sessions.now c.args.at _ c.in-Err.message c.args.last (seen_at c.args.directory.now c.args.buffers.now c.args.sessions.now c.args.at _ _ c.in-Err.message c.args.last (ap (get_or c.args.sessions.now c.args.at) c.index-sessions-at.is) (ap (get_or c.args.sessions.now c.args.at) c.index-sessions-at-in-Err.is) c.requires.within c.in-Err.ensures.err) c.requires.sound (ap (get_or c.args.sessions.now c.args.at) c.index-sessions-at-in-Err.is) c.requires.within next id place s r held aim)

pub returns-in-Err-clause-none : goal.returns-in-Err-clause-none
returns-in-Err-clause-none g c = λ id next typed place held.
    rw c.fail.ensures (fails_none c.args.directory.now c.args.buffers.now c.args.sessions.now c.args.at _ c.in-Err.message c.args.last (seen_at c.args.directory.now c.args.buffers.now c.args.sessions.now c.args.at _ _ c.in-Err.message c.args.last (ap (get_or c.args.sessions.now c.args.at) c.index-sessions-at.is) (ap (get_or c.args.sessions.now c.args.at) c.index-sessions-at-in-Err.is) c.requires.within c.in-Err.ensures.err) c.requires.sound (ap (get_or c.args.sessions.now c.args.at) c.index-sessions-at-in-Err.is) c.requires.within next id place typed held)

pub returns-in-Err-clause-tells : goal.returns-in-Err-clause-tells
returns-in-Err-clause-tells g c = λ id next s r place held aim.
    fails_tells c.args.directory.now c.args.buffers.now c.args.sessions.now c.args.at _ c.in-Err.message c.args.last (seen_at c.args.directory.now c.args.buffers.now c.args.sessions.now c.args.at _ _ c.in-Err.message c.args.last (ap (get_or c.args.sessions.now c.args.at) c.index-sessions-at.is) (ap (get_or c.args.sessions.now c.args.at) c.index-sessions-at-in-Err.is) c.requires.within c.in-Err.ensures.err) c.requires.sound (ap (get_or c.args.sessions.now c.args.at) c.index-sessions-at-in-Err.is) c.requires.within next id place s r held aim

pub returns-in-Err-clause-further : goal.returns-in-Err-clause-further
returns-in-Err-clause-further g c = λ s t before after some.
    absurd (fails_further c.args.sessions.now c.args.at _ _ t (ap (get_or c.args.sessions.now c.args.at) c.index-sessions-at-in-Err.is) c.requires.within (ap (λ (y : Session). y.state.search) c.fail.ensures) after)
