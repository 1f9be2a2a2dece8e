use Rattle.std.proofs.Common.{◌∙◌, List, ap, sym}
use Rattle.mgs_buffers.specs.MarkedBuffer.{MarkedBuffer}
use Rattle.mgs_world.specs.Worlds.{world_of}
use Rattle.mgs_world.specs.Apart.{after_apart}
use Rattle.mgs_world.proofs.Soundness.{session_sound}
use Rattle.mgs_world.proofs.Settles.{steps_next, steps_over, apart_keeps, world_of-apart}
use Rattle.mgs_world.proofs.event_end.settle_apart.Goals as goal

pub settle_if-requires : goal.settle_if-requires
settle_if-requires g c = session_sound c.loop-session.buffers c.args.sessions.now c.loop-session.session-index c.session-item.result c.loop-session.invariant.sound c.session-item.is c.loop-session-test.true

pub loop-session-preserved : goal.loop-session-preserved
loop-session-preserved g c =
    let xs = c.args.sessions.now in
    let step = after_apart c.args.directory.now c.args.touched.now c.args.id in
    rw c.settle_if.ensures (record {
      sound = apart_keeps c.args.directory.now c.args.touched.now c.args.id c.loop-session.buffers c.session-item.result xs (session_sound c.loop-session.buffers xs c.loop-session.session-index c.session-item.result c.loop-session.invariant.sound c.session-item.is c.loop-session-test.true) c.loop-session.invariant.sound;
      rest = steps_next step c.loop-session.buffers xs c.loop-session.session-index c.session-item.result c.session-item.is c.loop-session-test.true ∙ c.loop-session.invariant.rest;
    })

pub returns-clause-world : goal.returns-clause-world
returns-clause-world g c =
    let d = c.args.directory.now in
    let xs = c.args.sessions.now in
    let all = sym (steps_over (after_apart d c.args.touched.now c.args.id) c.loop-session.buffers xs c.loop-session.session-index c.loop-session-test.false) ∙ c.loop-session.invariant.rest in
    λ next. ap (λ (ks : List MarkedBuffer). world_of d ks xs next) all ∙ world_of-apart d c.args.touched.now c.args.id c.args.buffers.now xs next c.requires
