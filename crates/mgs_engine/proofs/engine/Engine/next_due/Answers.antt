use Rattle.std.proofs.Common.{◌≡◌, List, [], map, sym, ap, subst, ◌∙◌}
use Rattle.std.specs.Prelude.{find}
use Rattle.std.specs.Option.{option_map}
use Rattle.mgs_world.specs.Worlds.{sizes}
use Rattle.mgs_core.specs.Held.{AreRising}
use Rattle.mgs_wire.specs.Calls.{IsBefore}
use Rattle.mgs_engine.specs.declared.session_screen.Screen.{Screen}
use Rattle.mgs_engine.specs.Due.{is_due}
use Rattle.mgs_engine.specs.Screens.{shown_size}
use Rattle.mgs_engine.specs.Serving.{Serving, pending_of}
use Rattle.mgs_engine.proofs.Passing.{none_passed}
use Rattle.mgs_engine.proofs.engine.Engine.next_due.Goals as goal

pub returns-clause-passed : goal.returns-clause-passed
returns-clause-passed g c = λ id few above before.
    let xs : List Screen = c.self.inside.screens.items in
    let rising : AreRising (map shown_size xs) = subst AreRising (sym c.self.invariant.0.sizes_are) c.size.ensures.rising in
    let e = c.next_waiting-waiting.ensures.first ∙ ap (λ (ys : List Screen). option_map (λ (x : Screen). x.id) (find (is_due c.args.after) ys)) c.deref.ensures.value in
    subst (λ (s : Serving). pending_of id s ≡ []) c.self.view_is (none_passed c.args.after xs rising id above (subst (IsBefore id) e (c.with_ended.ensures.before id before)))

pub returns-clause-rising : goal.returns-clause-rising
returns-clause-rising g c = subst (λ (s : Serving). AreRising (sizes s.world)) c.self.view_is c.size.ensures.rising
