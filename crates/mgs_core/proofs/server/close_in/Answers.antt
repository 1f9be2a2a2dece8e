use Rattle.std.proofs.Common.{◌≡◌, ◌<◌, ◌∙◌, length, ap, sym, arith}
use Rattle.mgs_world.specs.Worlds.{is_size_of, sizes_in}
use Rattle.mgs_world.proofs.Sessions.{session_none}
use Rattle.mgs_core.proofs.Ids.{remove_none}
use Rattle.mgs_core.proofs.Sizes.{sizes_removed, no_size, some_at}
use Rattle.mgs_core.proofs.Stays.{closed_none}
use Rattle.mgs_core.proofs.Steps.{closed_at}
use Rattle.mgs_core.proofs.server.close_in.Goals as goal

pub returns-clause-sizes : goal.returns-clause-sizes
returns-clause-sizes g c =
    ap sizes_in c.take_out.ensures.rest ∙ sizes_removed c.args.id c.place_of-at.result c.args.world.now.sessions.items (rw c.deref.ensures.value at c.place_of-at.ensures.value)

pub returns-then-at-len-clause-sizes : goal.returns-then-at-len-clause-sizes
returns-then-at-len-clause-sizes g c =
    let past : c.place_of-at.result ≡ length c.args.world.now.sessions.items = omega (arith, c.if-at-len.true, c.len.ensures, c.deref.ensures.len, ap length c.deref.ensures.value) in
    sym
    (remove_none (is_size_of c.args.id) (sizes_in c.args.world.now.sessions.items)
    (no_size c.args.id c.place_of-at.result c.args.world.now.sessions.items (rw c.deref.ensures.value at c.place_of-at.ensures.value) past))

pub returns-clause-rest : goal.returns-clause-rest
returns-clause-rest g c directory next =
    let xs = c.args.world.now.sessions.items in
    let at = c.place_of-at.result in
    let within : at < length xs = omega (arith, c.place_of-at.ensures.within, ap length c.deref.ensures.value, c.len.ensures, c.if-at-len.false) in
    let found = some_at xs at within in
    closed_at directory c.args.world.now.buffers c.take_out.new.world.buffers xs c.take_out.new.world.sessions.items next c.args.id at found.0
    c.requires (rw c.deref.ensures.value at c.place_of-at.ensures.value) within found.1
    c.take_out.ensures.buffers c.take_out.ensures.stay c.take_out.ensures.rest c.take_out.ensures.sound

pub returns-then-at-len-clause-rest : goal.returns-then-at-len-clause-rest
returns-then-at-len-clause-rest g c directory next =
    let past : c.place_of-at.result ≡ length c.args.world.now.sessions.items = omega (arith, c.if-at-len.true, c.len.ensures, c.deref.ensures.len, ap length c.deref.ensures.value) in
    closed_none _ c.args.id (session_none directory c.args.world.now.buffers c.args.world.now.sessions.items next c.args.id c.place_of-at.result (rw c.deref.ensures.value at c.place_of-at.ensures.value) past)
