use Rattle.std.proofs.Common.{◌≡◌, ◌∙◌, Some, false, get_or, ap, sym, subst, arith}
use Rattle.std.proofs.lemmas.Option.{slice_get-get_or}
use Rattle.mgs_engine.specs.declared.session_screen.Screen.{Screen}
use Rattle.std.proofs.lemmas.List.Elements.{All-set}
use Rattle.mgs_world.specs.Worlds.{sizes}
use Rattle.mgs_core.specs.Kept.{Kept}
use Rattle.mgs_core.specs.Calls.{differs_at}
use Rattle.mgs_engine.specs.Screens.{IsDrawn, IsKnown, IsReadyApart, IsRedrawn, IsSessionScreen, shown_size}
use Rattle.mgs_engine.proofs.ScreenLemmas.{rest_at, rest_after, same_set}
use Rattle.mgs_engine.proofs.Repaints.{redrawn_next, redrawn_all}
use Rattle.mgs_engine.proofs.draw.redraw_each.Goals as goal

pub redraw_at-requires-clause-known : goal.redraw_at-requires-clause-known
redraw_at-requires-clause-known g c =
    let known : IsKnown (sizes c.args.core.now.world) (get_or c.loop-at.screens c.loop-at.at c.index-screens-at.result) =
    rw (rest_at c.loop-at.screens c.args.screens.now c.loop-at.at c.index-screens-at.result c.loop-at.invariant.rest)
    (c.requires.known c.loop-at.at c.index-screens-at.result (omega arith)) in
    subst (λ (k : Kept). IsKnown (sizes k.world) (get_or c.loop-at.screens c.loop-at.at c.index-screens-at.result)) (sym c.loop-at.invariant.core) known

pub redraw_at-requires-clause-ready : goal.redraw_at-requires-clause-ready
redraw_at-requires-clause-ready g c =
    let ready : IsReadyApart c.args.core.now.world c.args.touched.now (get_or c.loop-at.screens c.loop-at.at c.index-screens-at.result) =
    rw (rest_at c.loop-at.screens c.args.screens.now c.loop-at.at c.index-screens-at.result c.loop-at.invariant.rest)
    (c.requires.ready c.loop-at.at c.index-screens-at.result (omega arith)) in
    subst (λ (k : Kept). IsReadyApart k.world c.args.touched.now (get_or c.loop-at.screens c.loop-at.at c.index-screens-at.result)) (sym c.loop-at.invariant.core) ready

pub redraw_at-requires-clause-on_time : goal.redraw_at-requires-clause-on_time
redraw_at-requires-clause-on_time g c =
    rw (rest_at c.loop-at.screens c.args.screens.now c.loop-at.at c.index-screens-at.result c.loop-at.invariant.rest)
    (c.requires.on_time c.loop-at.at c.index-screens-at.result (omega arith))

pub redraw_at-requires-clause-drawn : goal.redraw_at-requires-clause-drawn
redraw_at-requires-clause-drawn g c =
    subst (λ (k : Kept). differs_at c.args.touched.now c.args.id c.loop-at.at k.world ≡ false → IsDrawn k.world (get_or c.loop-at.screens c.loop-at.at c.index-screens-at.result)) (sym c.loop-at.invariant.core)
    (c.requires.drawn c.loop-at.at _
    (slice_get-get_or c.args.screens.now c.loop-at.at c.index-screens-at.result (omega arith)
    ∙ ap (λ (x : Screen). Some x) (sym (rest_at c.loop-at.screens c.args.screens.now c.loop-at.at c.index-screens-at.result c.loop-at.invariant.rest))))

pub loop-at-preserved : goal.loop-at-preserved
loop-at-preserved g c = record {
  each = All-set IsSessionScreen c.loop-at.screens c.loop-at.at c.redraw_at.new.screen c.redraw_at.ensures.screen c.loop-at.invariant.each;
  sizes = same_set shown_size c.loop-at.screens c.loop-at.at c.index-screens-at.result c.redraw_at.new.screen (omega arith) c.redraw_at.ensures.size ∙ c.loop-at.invariant.sizes;
  redrawn = redrawn_next c.args.core.now.world c.loop-at.screens c.args.screens.now c.loop-at.at c.index-screens-at.result c.redraw_at.new.screen (omega arith) (omega arith) c.loop-at.invariant.rest c.loop-at.invariant.redrawn (subst (λ (k : Kept). IsRedrawn k.world (get_or c.loop-at.screens c.loop-at.at c.index-screens-at.result) c.redraw_at.new.screen) c.loop-at.invariant.core c.redraw_at.ensures.redrawn);
  core = c.redraw_at.ensures.core ∙ c.loop-at.invariant.core;
  rest = rest_after c.loop-at.screens c.args.screens.now c.loop-at.at c.redraw_at.new.screen c.loop-at.invariant.rest;
}

pub returns-clause-redrawn : goal.returns-clause-redrawn
returns-clause-redrawn g c = redrawn_all c.args.core.now.world c.loop-at.screens c.args.screens.now c.loop-at.at (omega arith) (omega arith) c.loop-at.invariant.redrawn
