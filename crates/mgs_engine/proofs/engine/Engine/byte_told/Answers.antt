use Rattle.std.proofs.Common.{◌≡◌, map, sym, ap, subst, ◌∙◌}
use Rattle.mgs_model.specs.Apply.{remove_first}
use Rattle.mgs_model.specs.declared.errors.Keyed.{Keyed}
use Rattle.mgs_model.specs.declared.errors.Keyed.TheVariants.{Quit}
use Rattle.mgs_world.specs.Worlds.{sizes, IsUnique, is_size_of}
use Rattle.mgs_model.specs.Events.{Close, run}
use Rattle.mgs_model.specs.World.{World}
use Rattle.mgs_laws.specs.Apart.{rules_in}
use Rattle.mgs_births.specs.Telling.{StoreTold}
use Rattle.mgs_core.specs.Kept.{Kept}
use Rattle.mgs_core.specs.Calls.{sizes_keyed}
use Rattle.mgs_engine.specs.Screens.{late_ids}
use Rattle.mgs_engine.specs.declared.session_end.Cause.TheVariants.{Slow}
use Rattle.mgs_engine.specs.Handled.{Handles}
use Rattle.mgs_engine.specs.Serving.{Serving, all_ended_by}
use Rattle.mgs_engine.specs.Painted.{Painted}
use Rattle.mgs_engine.specs.Served.{serving_of, IsServed, IsServedInTime}
use Rattle.mgs_engine.proofs.Apart.{still_drawn, still_ready}
use Rattle.mgs_engine.proofs.Handling.{handles_quit, handles_typed, typed_in_time}
use Rattle.mgs_engine.proofs.Quits.{ended, sizes_stay}
use Rattle.mgs_engine.proofs.Screens.{known_each}
use Rattle.mgs_engine.proofs.Slots.{same_slots}
use Rattle.mgs_engine.proofs.Stays.{served_closed}
use Rattle.mgs_engine.proofs.Still.{handles_still, painted_still, served_still}
use Rattle.mgs_engine.proofs.Painted.{painted_all, painted_closed}
use Rattle.mgs_engine.proofs.Closes.{closes_stay, ended_store}
use Rattle.mgs_engine.proofs.engine.Engine.byte_told.Goals as goal

-- THE BYTE ENDED ITS SESSION

pub invariant_of-self : goal.invariant_of-self
invariant_of-self g c =
    let is : c.key_told-keyed.result.0 ≡ Quit = ended c.key_told-keyed.result.0 (sym c.eq.ensures ∙ c.if-eq.true) in
    let less : sizes c.key_told-keyed.new.self.world ≡ remove_first (is_size_of c.args.id) (sizes c.self.inside.core.world) = c.key_told-keyed.ensures.sizes ∙ ap (λ (k : Keyed). sizes_keyed k c.args.id (sizes c.self.inside.core.world)) is in
    (served_closed c.self.inside.core.world c.key_told-keyed.new.self.world c.args.id c.self.inside.screens.items c.end_screen.new.screens.items c.self.invariant.0 (c.key_told-keyed.ensures.quit is) less c.end_screen.ensures.screens, c.end_screen.ensures.slots)

pub returns-then-eq-clause-handles : goal.returns-then-eq-clause-handles
returns-then-eq-clause-handles g c =
    let is : c.key_told-keyed.result.0 ≡ Quit = ended c.key_told-keyed.result.0 (sym c.eq.ensures ∙ c.if-eq.true) in
    subst (λ (s : Serving). Handles s (serving_of c.key_told-keyed.new.self c.end_screen.new.screens.items c.end_screen.new.ended.items) c.args.id c.args.byte c.key_told-keyed.result.0) c.self.view_is
    (handles_quit c.self.inside.core c.key_told-keyed.new.self c.args.id c.args.byte c.key_told-keyed.result.0 c.self.inside.screens.items c.end_screen.new.screens.items c.self.inside.ended.items c.end_screen.new.ended.items
    c.self.invariant.0 is c.key_told-keyed.ensures.step (c.key_told-keyed.ensures.quit is) (c.key_told-keyed.ensures.left is) c.key_told-keyed.ensures.sizes c.key_told-keyed.ensures.next c.end_screen.ensures.screens c.end_screen.ensures.ended)

pub returns-then-eq-clause-painted : goal.returns-then-eq-clause-painted
returns-then-eq-clause-painted g c =
    let w = c.self.inside.core in
    let v = c.key_told-keyed.new.self in
    let xs = c.self.inside.screens.items in
    let ys = c.end_screen.new.screens.items in
    let is : c.key_told-keyed.result.0 ≡ Quit = ended c.key_told-keyed.result.0 (sym c.eq.ensures ∙ c.if-eq.true) in
    let less : sizes v.world ≡ remove_first (is_size_of c.args.id) (sizes w.world) = c.key_told-keyed.ensures.sizes ∙ ap (λ (k : Keyed). sizes_keyed k c.args.id (sizes w.world)) is in
    let served : IsServed v.world ys = served_closed w.world v.world c.args.id xs ys c.self.invariant.0 (c.key_told-keyed.ensures.quit is) less c.end_screen.ensures.screens in
    subst (λ (s : Serving). Painted s (serving_of v ys c.end_screen.new.ended.items)) c.self.view_is
    (painted_closed w v c.args.id xs ys c.self.inside.ended.items c.end_screen.new.ended.items c.end_screen.ensures.screens (subst IsUnique (sym c.self.invariant.0.sizes_are) c.self.invariant.0.unique) served.sizes_are c.self.invariant.0.drawn served.drawn)

-- IT CHANGED NO SCREEN

pub invariant_of-self-then-stays : goal.invariant_of-self-then-stays
invariant_of-self-then-stays g c =
    let not = sym c.eq.ensures ∙ c.if-eq.false in
    let same : sizes c.key_told-keyed.new.self.world ≡ sizes c.self.inside.core.world = c.key_told-keyed.ensures.sizes ∙ sizes_stay c.key_told-keyed.result.0 c.args.id (sizes c.self.inside.core.world) not in
    (served_still c.args.id c.self.inside.core.world c.key_told-keyed.new.self.world c.self.inside.screens.items (c.key_told-keyed.ensures.still c.if-stays.true) same c.self.invariant.0, c.self.invariant.1)

pub returns-then-stays-clause-handles : goal.returns-then-stays-clause-handles
returns-then-stays-clause-handles g c =
    let w = c.self.inside.core in
    let v = c.key_told-keyed.new.self in
    let xs = c.self.inside.screens.items in
    let es = c.self.inside.ended.items in
    let not = sym c.eq.ensures ∙ c.if-eq.false in
    let same : sizes v.world ≡ sizes w.world = c.key_told-keyed.ensures.sizes ∙ sizes_stay c.key_told-keyed.result.0 c.args.id (sizes w.world) not in
    let served : IsServed v.world xs = served_still c.args.id w.world v.world xs (c.key_told-keyed.ensures.still c.if-stays.true) same c.self.invariant.0 in
    subst (λ (s : Serving). Handles s (serving_of v xs es) c.args.id c.args.byte c.key_told-keyed.result.0) c.self.view_is
    (handles_still w v c.args.id c.args.byte c.key_told-keyed.result.0 xs es c.self.invariant.0 served not c.key_told-keyed.ensures.step c.key_told-keyed.ensures.sizes c.key_told-keyed.ensures.next)

pub returns-then-stays-clause-painted : goal.returns-then-stays-clause-painted
returns-then-stays-clause-painted g c =
    let w = c.self.inside.core in
    let v = c.key_told-keyed.new.self in
    let xs = c.self.inside.screens.items in
    let es = c.self.inside.ended.items in
    let not = sym c.eq.ensures ∙ c.if-eq.false in
    let same : sizes v.world ≡ sizes w.world = c.key_told-keyed.ensures.sizes ∙ sizes_stay c.key_told-keyed.result.0 c.args.id (sizes w.world) not in
    let served : IsServed v.world xs = served_still c.args.id w.world v.world xs (c.key_told-keyed.ensures.still c.if-stays.true) same c.self.invariant.0 in
    subst (λ (s : Serving). Painted s (serving_of v xs es)) c.self.view_is (painted_still w v xs es c.self.invariant.0 served)

-- IT DID NOT

pub redraw_apart-requires-clause-known : goal.redraw_apart-requires-clause-known
redraw_apart-requires-clause-known g c =
    let same : sizes c.key_told-keyed.new.self.world ≡ sizes c.self.inside.core.world = c.key_told-keyed.ensures.sizes ∙ sizes_stay c.key_told-keyed.result.0 c.args.id (sizes c.self.inside.core.world) (sym c.eq.ensures ∙ c.if-eq.false) in
    known_each (sizes c.key_told-keyed.new.self.world) c.self.inside.screens.items (c.self.invariant.0.sizes_are ∙ sym same) (subst IsUnique (sym same) c.self.invariant.0.unique)

pub redraw_apart-requires-clause-drawn : goal.redraw_apart-requires-clause-drawn
redraw_apart-requires-clause-drawn g c =
    let same : sizes c.key_told-keyed.new.self.world ≡ sizes c.self.inside.core.world = c.key_told-keyed.ensures.sizes ∙ sizes_stay c.key_told-keyed.result.0 c.args.id (sizes c.self.inside.core.world) (sym c.eq.ensures ∙ c.if-eq.false) in
    still_drawn c.key_told-keyed.result.1 c.args.id c.self.inside.core.world c.key_told-keyed.new.self.world c.self.inside.screens.items c.key_told-keyed.ensures.touched c.self.invariant.0.sizes_are same c.self.invariant.0.unique c.self.invariant.0.drawn

pub redraw_apart-requires-clause-ready : goal.redraw_apart-requires-clause-ready
redraw_apart-requires-clause-ready g c =
    still_ready c.key_told-keyed.result.1 c.args.id c.self.inside.core.world c.key_told-keyed.new.self.world c.self.inside.screens.items c.key_told-keyed.ensures.touched c.self.invariant.0.drawn

pub end_late-requires : goal.end_late-requires
end_late-requires g c =
    let same : sizes c.key_told-keyed.new.self.world ≡ sizes c.self.inside.core.world = c.key_told-keyed.ensures.sizes ∙ sizes_stay c.key_told-keyed.result.0 c.args.id (sizes c.self.inside.core.world) (sym c.eq.ensures ∙ c.if-eq.false) in
    record {
      served = subst (λ (k : Kept). IsServedInTime k.world c.redraw_apart.new.screens.items) (sym c.redraw_apart.ensures.core)
          (typed_in_time c.self.inside.core.world c.key_told-keyed.new.self.world c.self.inside.screens.items c.redraw_apart.new.screens.items c.self.invariant.0 same c.redraw_apart.ensures.sizes c.redraw_apart.ensures.each c.redraw_apart.ensures.redrawn);
      slots = same_slots c.self.inside.screens.items c.redraw_apart.new.screens.items c.self.inside.ended.items _ _ _ c.redraw_apart.ensures.sizes c.redraw_apart.ensures.capacity c.self.invariant.1;
    }

pub returns-clause-handles : goal.returns-clause-handles
returns-clause-handles g c =
    let same : sizes c.key_told-keyed.new.self.world ≡ sizes c.self.inside.core.world = c.key_told-keyed.ensures.sizes ∙ sizes_stay c.key_told-keyed.result.0 c.args.id (sizes c.self.inside.core.world) (sym c.eq.ensures ∙ c.if-eq.false) in
    subst (λ (s : Serving). Handles s (serving_of c.end_late.new.core c.end_late.new.screens.items c.end_late.new.ended.items) c.args.id c.args.byte c.key_told-keyed.result.0) c.self.view_is
    (handles_typed c.self.inside.core c.key_told-keyed.new.self c.end_late.new.core c.args.id c.args.byte c.key_told-keyed.result.0 c.self.inside.screens.items c.redraw_apart.new.screens.items c.end_late.new.screens.items c.self.inside.ended.items c.end_late.new.ended.items
    c.self.invariant.0 (sym c.eq.ensures ∙ c.if-eq.false) c.key_told-keyed.ensures.step c.key_told-keyed.ensures.sizes c.key_told-keyed.ensures.next same c.redraw_apart.ensures.sizes c.redraw_apart.ensures.redrawn
    (subst (λ (k : Kept). serving_of c.end_late.new.core c.end_late.new.screens.items c.end_late.new.ended.items ≡ all_ended_by Slow (late_ids c.redraw_apart.new.screens.items) (serving_of k c.redraw_apart.new.screens.items c.self.inside.ended.items)) c.redraw_apart.ensures.core c.end_late.ensures.ended)
    (subst (λ (k : Kept). c.end_late.new.core.world ≡ run k.world (map (λ i. Close i) (late_ids c.redraw_apart.new.screens.items))) c.redraw_apart.ensures.core c.end_late.ensures.closes))

pub returns-clause-painted : goal.returns-clause-painted
returns-clause-painted g c =
    subst (λ (s : Serving). Painted s (serving_of c.end_late.new.core c.end_late.new.screens.items c.end_late.new.ended.items)) c.self.view_is
    (painted_all c.self.inside.core c.key_told-keyed.new.self.world c.end_late.new.core c.self.inside.screens.items c.redraw_apart.new.screens.items c.end_late.new.screens.items c.self.inside.ended.items c.end_late.new.ended.items
    c.self.invariant.0.sizes_are c.self.invariant.0.drawn c.redraw_apart.ensures.redrawn c.end_late.ensures.served c.end_late.ensures.kept)

-- BY WHAT ACCESS IS DECIDED: sessions that end leave it as it is

pub returns-clause-rules : goal.returns-clause-rules
returns-clause-rules g c = λ not.
    ap (λ (w : World). rules_in w.buffers) c.end_late.ensures.closes
    ∙ ap rules_in (closes_stay c.redraw_apart.new.core.world (late_ids c.redraw_apart.new.screens.items))
    ∙ ap (λ (k : Kept). rules_in k.world.buffers) c.redraw_apart.ensures.core
    ∙ c.key_told-keyed.ensures.touched.rules (sym c.is_anywhere-ruled.ensures ∙ not)
    ∙ ap (λ (s : Serving). rules_in s.world.buffers) c.self.view_is

pub returns-clause-births : goal.returns-clause-births
returns-clause-births g c = λ not.
    ap (λ (s : Serving). s.store.births) c.end_late.ensures.ended
    ∙ ap (λ (t : StoreTold). t.births) (ended_store Slow (late_ids c.redraw_apart.new.screens.items) (serving_of c.redraw_apart.new.core c.redraw_apart.new.screens.items c.self.inside.ended.items))
    ∙ ap (λ (k : Kept). k.store.births) c.redraw_apart.ensures.core
    ∙ c.key_told-keyed.ensures.births (sym c.is_anywhere-ruled.ensures ∙ not)
    ∙ ap (λ (s : Serving). s.store.births) c.self.view_is
