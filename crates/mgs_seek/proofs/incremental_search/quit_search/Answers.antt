use Rattle.std.proofs.Common.{get_or, ap}
use Rattle.mgs_world.proofs.Soundness.{session_sound}
use Rattle.mgs_seek.proofs.Lifts.{acts, acts_sound}
use Rattle.mgs_seek.proofs.incremental_search.quit_search.Goals as goal

pub quit_in-requires : goal.quit_in-requires
quit_in-requires g c = session_sound c.args.buffers.now c.args.sessions.now c.args.at _ c.requires.sound (ap (get_or c.args.sessions.now c.args.at) c.index-sessions-at.is) c.requires.within

pub returns-clause-sound : goal.returns-clause-sound
returns-clause-sound g c = acts_sound c.args.buffers.now _ c.args.sessions.now c.args.at _ _ c.requires.sound (ap (get_or c.args.sessions.now c.args.at) c.index-sessions-at.is) c.requires.within c.quit_in.ensures.only

pub returns-clause-world : goal.returns-clause-world
returns-clause-world g c = λ directory id next place.
    acts directory c.args.buffers.now _ c.args.sessions.now c.args.at _ _ c.requires.sound (ap (get_or c.args.sessions.now c.args.at) c.index-sessions-at.is) c.requires.within c.quit_in.ensures.only next id place _ (c.quit_in.ensures.does directory)
