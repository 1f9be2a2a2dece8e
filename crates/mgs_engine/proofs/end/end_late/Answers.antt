use Rattle.std.proofs.Common.{◌≡◌, None, map, sym, ap, ◌∙◌}
use Rattle.std.specs.Prelude.{find, All}
use Rattle.std.specs.Option.{option_map}
use Rattle.mgs_model.specs.Events.{Close, run}
use Rattle.mgs_core.proofs.Ids.{none_of}
use Rattle.mgs_engine.specs.declared.session_end.Cause.TheVariants.{Slow}
use Rattle.mgs_engine.specs.declared.session_screen.Screen.{Screen}
use Rattle.mgs_engine.specs.Screens.{is_late, IsOnTime}
use Rattle.mgs_engine.specs.Served.{serving_of}
use Rattle.mgs_engine.specs.Serving.{all_ended_by}
use Rattle.mgs_engine.proofs.Late.{none_late, on_time_all}
use Rattle.mgs_engine.proofs.Stays.{served_again}
use Rattle.mgs_engine.proofs.end.end_late.Goals as goal

pub returns-clause-served : goal.returns-clause-served
returns-clause-served g c =
    let none : find is_late c.loop-id.screens.items ≡ None =
    none_of (λ (x : Screen). x.id) (find is_late c.loop-id.screens.items)
    (sym (c.first_late.ensures ∙ ap (λ xs. option_map (λ (x : Screen). x.id) (find is_late xs)) c.deref.ensures.value) ∙ c.in_default.is) in
    served_again c.loop-id.core.world c.loop-id.screens.items c.loop-id.invariant.served (on_time_all c.loop-id.screens.items none)

pub returns-clause-ended : goal.returns-clause-ended
returns-clause-ended g c =
    let none : find is_late c.loop-id.screens.items ≡ None =
    none_of (λ (x : Screen). x.id) (find is_late c.loop-id.screens.items)
    (sym (c.first_late.ensures ∙ ap (λ xs. option_map (λ (x : Screen). x.id) (find is_late xs)) c.deref.ensures.value) ∙ c.in_default.is) in
    let time : All IsOnTime c.loop-id.screens.items = on_time_all c.loop-id.screens.items none in
    ap (λ is. all_ended_by Slow is (serving_of c.loop-id.core c.loop-id.screens.items c.loop-id.ended.items)) (sym (none_late c.loop-id.screens.items time)) ∙ c.loop-id.invariant.ended

pub returns-clause-closes : goal.returns-clause-closes
returns-clause-closes g c =
    let none : find is_late c.loop-id.screens.items ≡ None =
    none_of (λ (x : Screen). x.id) (find is_late c.loop-id.screens.items)
    (sym (c.first_late.ensures ∙ ap (λ xs. option_map (λ (x : Screen). x.id) (find is_late xs)) c.deref.ensures.value) ∙ c.in_default.is) in
    let time : All IsOnTime c.loop-id.screens.items = on_time_all c.loop-id.screens.items none in
    ap (λ is. run c.loop-id.core.world (map (λ i. Close i) is)) (sym (none_late c.loop-id.screens.items time)) ∙ c.loop-id.invariant.closes
