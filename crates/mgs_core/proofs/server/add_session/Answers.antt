use Rattle.std.specs.Prelude.{vec_capacity}
use Rattle.std.proofs.Common.{◌∙◌, ◌++◌, ◌∷◌, [], List, ap}
use Rattle.mgs_session.specs.declared.Session.{Session}
use Rattle.mgs_core.proofs.Sizes.{opened_sound}
use Rattle.mgs_core.proofs.Openings.{opened_at, world_undone}
use Rattle.mgs_core.proofs.server.add_session.Goals as goal

pub returns-in-Ok-first_window_marks-clause-sound : goal.returns-in-Ok-first_window_marks-clause-sound
returns-in-Ok-first_window_marks-clause-sound g c =
    rw (c.push_reserved.ensures.items, c.reserve.ensures.items, c.opened.ensures)
    (opened_sound c.args.world.now.buffers c.first_window_marks.new.buffers c.args.world.now.sessions.items c.args.id c.args.user c.args.rows c.args.cols c.in-Ok-first_window_marks.shows (vec_capacity c.in-Ok.places) c.requires.sound c.in-Ok-first_window_marks.ensures.ok)

pub returns-in-Ok-first_window_marks-clause-world : goal.returns-in-Ok-first_window_marks-clause-world
returns-in-Ok-first_window_marks-clause-world g c =
    opened_at c.args.world.now.directory c.args.world.now.buffers c.first_window_marks.new.buffers c.args.world.now.sessions.items c.push_reserved.new.self.items c.args.id c.args.user c.args.rows c.args.cols c.in-Ok-first_window_marks.shows (vec_capacity c.in-Ok.places)
    c.requires.sound c.in-Ok-first_window_marks.ensures.ok c.in-Ok-first_window_marks.ensures.name
    (c.push_reserved.ensures.items ∙ ap (λ (xs : List Session). xs ++ c.opened.result ∷ []) c.reserve.ensures.items ∙ ap (λ (x : Session). c.args.world.now.sessions.items ++ x ∷ []) c.opened.ensures)

pub returns-in-Err-clause-err_world : goal.returns-in-Err-clause-err_world
returns-in-Err-clause-err_world g c next =
    rw c.reserve.ensures.items (world_undone c.args.world.now.directory c.args.world.now.buffers c.first_window_marks.new.buffers c.args.world.now.sessions.items next c.requires.sound c.in-Err.ensures.err)
