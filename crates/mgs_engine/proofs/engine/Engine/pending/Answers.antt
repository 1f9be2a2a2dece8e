use Rattle.std.proofs.Common.{◌≡◌, map, sym, ap, subst, ◌∙◌, arith}
use Rattle.mgs_world.specs.Worlds.{sizes}
use Rattle.std.specs.List.{position_or_len}
use Rattle.mgs_engine.specs.Screens.{screen_id, shown_size}
use Rattle.mgs_engine.proofs.ScreenLemmas.{queue_at}
use Rattle.mgs_engine.specs.Serving.{IsWellFormed, Serving, pending_of}
use Rattle.mgs_engine.proofs.Screens.{open_at, queue_none, well_formed}
use Rattle.mgs_engine.proofs.engine.Engine.pending.Goals as goal

pub returns-then-at-len-clause-value : goal.returns-then-at-len-clause-value
returns-then-at-len-clause-value g c =
    c.bytes.ensures
    ∙ sym (queue_at c.args.id c.self.inside.screens.items c.find_place-at.result c.index.result.now
    (c.find_place-at.ensures.value ∙ ap (position_or_len (screen_id c.args.id)) c.deref.ensures.value)
    (omega (arith, c.if-at-len.true, c.len.ensures, c.self.inside.screens.ok.0)) c.index.ensures)
    ∙ ap (pending_of c.args.id) c.self.view_is

pub returns-else-at-len-clause-value : goal.returns-else-at-len-clause-value
returns-else-at-len-clause-value g c =
    sym (queue_none c.args.id c.self.inside.screens.items c.find_place-at.result
    (c.find_place-at.ensures.value ∙ ap (position_or_len (screen_id c.args.id)) c.deref.ensures.value)
    (omega (arith, c.find_place-at.ensures.within, c.deref.ensures.len, c.self.inside.screens.ok.0))
    (omega (arith, c.if-at-len.false, c.len.ensures, c.self.inside.screens.ok.0)))
    ∙ ap (pending_of c.args.id) c.self.view_is

pub returns-then-at-len-clause-none : goal.returns-then-at-len-clause-none
returns-then-at-len-clause-none g c =
    let v : map shown_size c.self.inside.screens.items ≡ sizes c.args.self.now.world =
    c.self.invariant.0.sizes_are ∙ ap (λ (s : Serving). sizes s.world) c.self.view_is in
    λ closed. absurd (open_at c.args.id c.args.self.now.world c.self.inside.screens.items c.find_place-at.result v
    (c.find_place-at.ensures.value ∙ ap (position_or_len (screen_id c.args.id)) c.deref.ensures.value)
    (omega (arith, c.if-at-len.true, c.len.ensures, c.self.inside.screens.ok.0)) closed)

pub returns-then-at-len-clause-formed : goal.returns-then-at-len-clause-formed
returns-then-at-len-clause-formed g c = subst IsWellFormed c.self.view_is (well_formed c.self.inside.core c.self.inside.screens.items c.self.inside.ended.items c.self.invariant.0)

pub returns-else-at-len-clause-formed : goal.returns-else-at-len-clause-formed
returns-else-at-len-clause-formed g c = subst IsWellFormed c.self.view_is (well_formed c.self.inside.core c.self.inside.screens.items c.self.inside.ended.items c.self.invariant.0)
