use Rattle.std.proofs.Common.{get_or, ap}
use Rattle.mgs_world.proofs.Soundness.{session_sound}
use Rattle.mgs_seek.proofs.Lifts.{acts, acts_sound, held_at}
use Rattle.mgs_seek.proofs.incremental_search.search_on.Goals as goal

pub step_on-requires : goal.step_on-requires
step_on-requires g c = session_sound c.args.buffers.now c.args.sessions.now c.args.at _ c.requires.sound (ap (get_or c.args.sessions.now c.args.at) c.index-sessions-at.is) c.requires.within

pub returns-clause-sound : goal.returns-clause-sound
returns-clause-sound g c = acts_sound c.args.buffers.now _ c.args.sessions.now c.args.at _ _ c.requires.sound (ap (get_or c.args.sessions.now c.args.at) c.index-sessions-at.is) c.requires.within c.step_on.ensures.only

pub returns-clause-world : goal.returns-clause-world
returns-clause-world g c = λ id next s f place held aim.
    acts c.args.directory.now c.args.buffers.now _ c.args.sessions.now c.args.at _ _ c.requires.sound (ap (get_or c.args.sessions.now c.args.at) c.index-sessions-at.is) c.requires.within c.step_on.ensures.only next id place _ (c.step_on.ensures.does s f (held_at c.args.sessions.now c.args.at _ _ (ap (get_or c.args.sessions.now c.args.at) c.index-sessions-at.is) c.requires.within held) aim)
