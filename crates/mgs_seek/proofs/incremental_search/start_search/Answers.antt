use Rattle.std.proofs.Common.{get_or, ap}
use Rattle.mgs_world.proofs.Soundness.{session_sound}
use Rattle.mgs_seek.proofs.Lifts.{acts_sound, acts_with, fresh_at}
use Rattle.mgs_seek.proofs.incremental_search.start_search.Goals as goal

pub begin_in-requires-clause-sound : goal.begin_in-requires-clause-sound
begin_in-requires-clause-sound g c = session_sound c.args.buffers.now c.args.sessions.now c.args.at _ c.requires.sound (ap (get_or c.args.sessions.now c.args.at) c.index-sessions-at.is) c.requires.within

pub begin_in-requires-clause-fresh : goal.begin_in-requires-clause-fresh
begin_in-requires-clause-fresh g c = fresh_at c.args.sessions.now c.args.at _ (ap (get_or c.args.sessions.now c.args.at) c.index-sessions-at.is) c.requires.within c.requires.fresh

pub returns-clause-sound : goal.returns-clause-sound
returns-clause-sound g c = acts_sound c.args.buffers.now _ c.args.sessions.now c.args.at _ _ c.requires.sound (ap (get_or c.args.sessions.now c.args.at) c.index-sessions-at.is) c.requires.within c.begin_in.ensures.only

pub returns-clause-world : goal.returns-clause-world
returns-clause-world g c = λ id next n place.
    acts_with c.args.directory.now c.args.buffers.now _ c.args.sessions.now c.args.at _ _ c.requires.sound (ap (get_or c.args.sessions.now c.args.at) c.index-sessions-at.is) c.requires.within c.begin_in.ensures.only next id place _ _ (c.begin_in.ensures.does n)
