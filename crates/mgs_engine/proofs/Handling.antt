-- What becomes of what is served by a byte.
use Rattle.std.proofs.Common.{◌≡◌, ℕ, false, cond, List, [], ◌∷◌, ◌++◌, map, sym, ap, subst, ◌∙◌}
use Rattle.std.specs.Prelude.{find, is_some, All}
use denote.Enum.Bare.{sameb}
use Rattle.mgs_model.specs.Apply.{remove_first}
use Rattle.mgs_model.specs.Events.{Close, run}
use Rattle.mgs_model.specs.World.{World}
use Rattle.mgs_model.specs.contracts.errors.Keyed.{the_type}
use Rattle.mgs_model.specs.declared.errors.Keyed.{Keyed}
use Rattle.mgs_model.specs.declared.errors.Keyed.TheVariants as keyed
use Rattle.mgs_world.specs.Worlds.{sizes, IsUnique}
use Rattle.mgs_core.specs.Calls.{KeyedBy, closed, sizes_keyed}
use Rattle.mgs_core.specs.Kept.{Kept}
use Rattle.mgs_core.proofs.Ids.{All-remove_first}
use Rattle.mgs_engine.specs.declared.session_end.Cause.{Cause}
use Rattle.mgs_engine.specs.declared.session_end.Cause.TheVariants.{Quit, Slow}
use Rattle.mgs_engine.specs.declared.session_screen.Screen.{Screen}
use Rattle.mgs_engine.specs.Handled.{Handles}
use Rattle.mgs_engine.specs.Queues.{queue_id}
use Rattle.mgs_engine.specs.Screens.{late_ids, queues_of, screen_id, shown_size, AreRedrawn, IsDrawn, IsSessionScreen}
use Rattle.mgs_engine.specs.Served.{IsServed, IsServedInTime, serving_of}
use Rattle.mgs_engine.specs.Serving.{Serving, all_ended_by, ended_by, ended_keyed, ids_keyed, queue_ids}
use Rattle.mgs_engine.specs.Slow.{slow_ids}
use Rattle.mgs_engine.proofs.Late.{all_taken, late_are_slow, none_late, none_slow, prompt_each}
use Rattle.mgs_engine.proofs.Quits.{ids_stay, screen_less, told_stay}
use Rattle.mgs_engine.proofs.Repaints.{in_time}
use Rattle.mgs_engine.proofs.Screens.{ids_removed, ids_same}
use Rattle.mgs_engine.proofs.Stays.{served_closed}

-- IT ENDED ITS SESSION

pub handles_quit : (w v : Kept) (id byte : ℕ) (k : Keyed) (xs ys : List Screen) (es fs : List (ℕ × Cause)) → IsServed w.world xs → k ≡ keyed.Quit → KeyedBy w.world v.world w.store v.store id byte k → v.world ≡ closed w.world id → v.store ≡ w.store → sizes v.world ≡ sizes_keyed k id (sizes w.world) → v.world.next_id ≡ w.world.next_id
    → ys ≡ remove_first (screen_id id) xs → fs ≡ es ++ cond (is_some (find (screen_id id) xs)) ((id, Quit) ∷ []) [] → Handles (serving_of w xs es) (serving_of v ys fs) id byte k
handles_quit w v id byte k xs ys es fs h is step world store size next items told =
    let old : Serving = serving_of w xs es in
    let new : Serving = serving_of v ys fs in
    let whole : new ≡ ended_by Quit id old = screen_less w v Quit id xs ys es fs world store items told in
    let served : IsServed v.world ys = served_closed w.world v.world id xs ys h world (size ∙ ap (λ (k : Keyed). sizes_keyed k id (sizes w.world)) is) items in
    let before : All (IsDrawn w.world) ys = subst (All (IsDrawn w.world)) (sym items) (All-remove_first (IsDrawn w.world) (screen_id id) xs h.drawn) in
    let none : slow_ids old v.world ≡ [] = none_slow old v.world ys served.sizes_are before served.drawn served.on_time in
    record {
      typed = new;
      step = step;
      sizes = size;
      next = next;
      queues = ap (λ (zs : List Screen). map queue_id (queues_of zs)) items ∙ ids_removed id xs ∙ ap (λ (k : Keyed). ids_keyed k id (queue_ids old)) (sym is);
      ended = ap (λ (s : Serving). s.ended) whole ∙ ap (λ (k : Keyed). ended_keyed k id old) (sym is);
      slow = ap (λ ids. all_ended_by Slow ids new) (sym none);
      closes = ap (λ ids. run v.world (map (λ i. Close i) ids)) (sym none);
      quit = λ q. whole;
      still = λ q. none;
      prompt = λ t. none;
    }

-- IT DID NOT

pub never_quit : (k : Keyed) → sameb the_type k keyed.Quit ≡ false → k ≡ keyed.Quit → ⊥
never_quit keyed.Quit e q = cc
never_quit keyed.Done e q = cc
never_quit keyed.Short e q = cc
never_quit keyed.NoSession e q = cc

pub typed_in_time : (w v : World) (xs ys : List Screen) → IsServed w xs → sizes v ≡ sizes w → map shown_size ys ≡ map shown_size xs → All IsSessionScreen ys → AreRedrawn v xs ys → IsServedInTime v ys
typed_in_time w v xs ys h same size each redrawn = record {
  sizes_are = size ∙ h.sizes_are ∙ sym same;
  unique = subst IsUnique (sym same) h.unique;
  each = each;
  drawn = in_time v xs ys redrawn;
}

pub handles_typed : (w v u : Kept) (id byte : ℕ) (k : Keyed) (xs ys zs : List Screen) (es gs : List (ℕ × Cause)) → IsServed w.world xs → sameb the_type k keyed.Quit ≡ false → KeyedBy w.world v.world w.store v.store id byte k → sizes v.world ≡ sizes_keyed k id (sizes w.world) → v.world.next_id ≡ w.world.next_id → sizes v.world ≡ sizes w.world
    → map shown_size ys ≡ map shown_size xs → AreRedrawn v.world xs ys → serving_of u zs gs ≡ all_ended_by Slow (late_ids ys) (serving_of v ys es) → u.world ≡ run v.world (map (λ i. Close i) (late_ids ys)) → Handles (serving_of w xs es) (serving_of u zs gs) id byte k
handles_typed w v u id byte k xs ys zs es gs h not step size next same kept redrawn ended closes =
    let old : Serving = serving_of w xs es in
    let mid : Serving = serving_of v ys es in
    let unique : IsUnique (map shown_size xs) = subst IsUnique (sym h.sizes_are) h.unique in
    let slow : late_ids ys ≡ slow_ids old v.world = late_are_slow w v.world xs ys es unique (kept ∙ h.sizes_are ∙ sym same) h.drawn redrawn in
    record {
      typed = mid;
      step = step;
      sizes = size;
      next = next;
      queues = ids_same ys xs kept ∙ sym (ids_stay k id (queue_ids old) not);
      ended = sym (told_stay k id old not);
      slow = ended ∙ ap (λ ids. all_ended_by Slow ids mid) slow;
      closes = closes ∙ ap (λ ids. run v.world (map (λ i. Close i) ids)) slow;
      quit = λ q. absurd (never_quit k not q);
      still = λ q. absurd (never_quit k not q);
      prompt = λ t. sym slow ∙ none_late ys (prompt_each v.world xs ys (all_taken w xs es unique h.drawn t) redrawn);
    }
