use Rattle.std.proofs.Common.{◌≡◌, ◌+◌, ◌-◌, ◌<◌, cond, not, List, [], ◌∷◌, ◌++◌, length, map, take, Some, sym, ap, subst, ◌∙◌, arith}
use Rattle.std.specs.Prelude.{slice_get, All}
use Rattle.std.proofs.lemmas.List.{length_push}
use Rattle.std.proofs.lemmas.Option.{slice_get_within}
use Rattle.std.proofs.lemmas.List.Elements.{All-push}
use Rattle.mgs_world.specs.Worlds.{IsUnique, sizes}
use Rattle.mgs_core.specs.Kept.{Kept}
use Rattle.mgs_engine.specs.declared.session_screen.Screen.{Screen}
use Rattle.mgs_engine.specs.Screens.{IsSessionScreen, IsDrawn, IsFirst, IsOnTime, shown_size}
use Rattle.mgs_engine.proofs.Repaints.{told_known, told_size, sizes_next, sizes_whole}
use Rattle.mgs_engine.proofs.draw.first_screens.Goals as goal

pub first_screen-requires-clause-known : goal.first_screen-requires-clause-known
first_screen-requires-clause-known g c =
    told_known (sizes c.loop-size.core.world) c.len.result c.in-Some.size c.size.ensures.unique (sym c.size.ensures.value ∙ c.in-Some.is)

pub first_screen-requires-clause-size : goal.first_screen-requires-clause-size
first_screen-requires-clause-size g c =
    told_size (sizes c.loop-size.core.world) c.len.result c.in-Some.size c.size.ensures.each (sym c.size.ensures.value ∙ c.in-Some.is)

pub loop-size-smaller : goal.loop-size-smaller
loop-size-smaller g c =
    let items : c.push.new.self.items ≡ c.loop-size.screens.items ++ c.in_ok-screen.screen ∷ [] =
    c.push.ensures.items ∙ ap (λ b. cond b (c.loop-size.screens.items ++ c.in_ok-screen.screen ∷ []) c.loop-size.screens.items) (c.is_err.ensures.negation ∙ ap not c.if-is_err.false) in
    let n : c.len.result ≡ length c.loop-size.screens.items = omega (arith, c.len.ensures, c.loop-size.screens.ok.0) in
    let more : length c.push.new.self.items ≡ length c.loop-size.screens.items + 1 = ap length items ∙ length_push c.loop-size.screens.items c.in_ok-screen.screen in
    let within : c.len.result < length (sizes c.args.core.now.world) = slice_get_within (sizes c.args.core.now.world) c.len.result c.in-Some.size (ap (λ (k : Kept). slice_get (sizes k.world) c.len.result) (sym c.loop-size.invariant.core) ∙ sym c.size.ensures.value ∙ c.in-Some.is) in
    let less : length (sizes c.args.core.now.world) - length c.push.new.self.items < length (sizes c.args.core.now.world) - length c.loop-size.screens.items = omega (arith, n, more, within) in
    less

pub loop-size-preserved : goal.loop-size-preserved
loop-size-preserved g c =
    let items : c.push.new.self.items ≡ c.loop-size.screens.items ++ c.in_ok-screen.screen ∷ [] =
    c.push.ensures.items ∙ ap (λ b. cond b (c.loop-size.screens.items ++ c.in_ok-screen.screen ∷ []) c.loop-size.screens.items) (c.is_err.ensures.negation ∙ ap not c.if-is_err.false) in
    let n : c.len.result ≡ length c.loop-size.screens.items = omega (arith, c.len.ensures, c.loop-size.screens.ok.0) in
    let told : slice_get (sizes c.args.core.now.world) (length c.loop-size.screens.items) ≡ Some c.in-Some.size = ap (slice_get (sizes c.args.core.now.world)) (sym n) ∙ ap (λ (k : Kept). slice_get (sizes k.world) c.len.result) (sym c.loop-size.invariant.core) ∙ sym c.size.ensures.value ∙ c.in-Some.is in
    record {
      sizes =
          subst (λ (xs : List Screen). map shown_size xs ≡ take (length xs) (sizes c.args.core.now.world)) (sym items)
          (sizes_next (sizes c.args.core.now.world) c.loop-size.screens.items c.in_ok-screen.screen c.in-Some.size c.loop-size.invariant.sizes told c.in_ok-screen.ensures.size);
      each = subst (All IsSessionScreen) (sym items) (All-push IsSessionScreen c.loop-size.screens.items c.in_ok-screen.screen c.loop-size.invariant.each c.in_ok-screen.ensures.screen);
      drawn = subst (All (IsDrawn c.args.core.now.world)) (sym items) (All-push (IsDrawn c.args.core.now.world) c.loop-size.screens.items c.in_ok-screen.screen c.loop-size.invariant.drawn (subst (λ (k : Kept). IsDrawn k.world c.in_ok-screen.screen) c.loop-size.invariant.core c.in_ok-screen.ensures.drawn));
      core = c.in_ok-screen.ensures.core ∙ c.loop-size.invariant.core;
      on_time = subst (All IsOnTime) (sym items) (All-push IsOnTime c.loop-size.screens.items c.in_ok-screen.screen c.loop-size.invariant.on_time c.in_ok-screen.ensures.on_time);
      first = subst (All IsFirst) (sym items) (All-push IsFirst c.loop-size.screens.items c.in_ok-screen.screen c.loop-size.invariant.first c.in_ok-screen.ensures.first);
    }

pub returns-clause-sizes : goal.returns-clause-sizes
returns-clause-sizes g c =
    let n : c.len.result ≡ length c.loop-size.screens.items = omega (arith, c.len.ensures, c.loop-size.screens.ok.0) in
    sizes_whole (sizes c.args.core.now.world) c.loop-size.screens.items c.loop-size.invariant.sizes
    (ap (slice_get (sizes c.args.core.now.world)) (sym n) ∙ ap (λ (k : Kept). slice_get (sizes k.world) c.len.result) (sym c.loop-size.invariant.core) ∙ sym c.size.ensures.value ∙ c.in_default.is)

pub returns-clause-unique : goal.returns-clause-unique
returns-clause-unique g c = subst (λ (k : Kept). IsUnique (sizes k.world)) c.loop-size.invariant.core c.size.ensures.unique
