use Rattle.std.proofs.Common.{◌∙◌, ap, sym, arith}
use Rattle.mgs_model.specs.Draw.{screen}
use Rattle.mgs_world.specs.declared.size.Size.{Size}
use Rattle.mgs_world.specs.Worlds.{world_of}
use Rattle.mgs_world.proofs.Soundness.{session_sound}
use Rattle.mgs_core.proofs.Ids.{same_some}
use Rattle.mgs_core.proofs.Sizes.{size_within, size_found}
use Rattle.mgs_world.proofs.Sessions.{session_some}
use Rattle.mgs_core.proofs.server.redraw_in.Goals as goal

pub index-requires : goal.index-requires
index-requires g c =
    let xs = c.args.world.now.sessions in
    omega (arith, size_within c.args.id c.place_of-at.result xs.items _ (rw c.deref.ensures.value at c.place_of-at.ensures.value) c.requires.open, xs.ok.0)

pub redraw_session-requires-clause-sound : goal.redraw_session-requires-clause-sound
redraw_session-requires-clause-sound g c =
    let xs = c.args.world.now.sessions.items in
    session_sound c.args.world.now.buffers xs c.place_of-at.result c.index.result.now c.requires.sound c.index.ensures
    (size_within c.args.id c.place_of-at.result xs _ (rw c.deref.ensures.value at c.place_of-at.ensures.value) c.requires.open)

pub redraw_session-requires-clause-rows : goal.redraw_session-requires-clause-rows
redraw_session-requires-clause-rows g c =
    ap (λ (z : Size). z.rows) (size_found c.args.id c.place_of-at.result c.args.world.now.sessions.items c.index.result.now _ (rw c.deref.ensures.value at c.place_of-at.ensures.value) c.index.ensures c.requires.open)

pub redraw_session-requires-clause-cols : goal.redraw_session-requires-clause-cols
redraw_session-requires-clause-cols g c =
    ap (λ (z : Size). z.cols) (size_found c.args.id c.place_of-at.result c.args.world.now.sessions.items c.index.result.now _ (rw c.deref.ensures.value at c.place_of-at.ensures.value) c.index.ensures c.requires.open)

pub returns-clause-grid : goal.returns-clause-grid
returns-clause-grid g c next x found =
    let w = c.args.world.now in
    let xs = w.sessions.items in
    let place = rw c.deref.ensures.value at c.place_of-at.ensures.value in
    let some = session_some w.directory w.buffers xs next c.args.id c.place_of-at.result c.index.result.now place (size_within c.args.id c.place_of-at.result xs _ place c.requires.open) c.index.ensures in
    c.redraw_session.ensures.grid xs next ∙ ap (screen (world_of w.directory w.buffers xs next)) (same_some _ _ (sym some ∙ found))
