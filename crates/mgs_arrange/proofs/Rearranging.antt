-- One session is arranged anew among the others.
use Rattle.std.proofs.Common.{◌≡◌, ℕ, zero, suc, ◌<◌, true, List, [], ◌∷◌, length, get_or, Option, None, Some, sym, ap, subst, ◌∙◌, arith}
use Rattle.std.specs.Prelude.{slice_get, slice_set, IfSome, Result, Ok, Err, OnOk, OnErr}
use Rattle.std.specs.List.{position_or_len}
use Rattle.std.proofs.lemmas.List.{length-map}
use Rattle.std.proofs.lemmas.Option.{slice_get-get_or}
use Rattle.mgs_model.specs.Access.{Directory}
use Rattle.mgs_model.specs.Apply.{act, outcome_in}
use Rattle.mgs_laws.specs.Refusals.{may_be_refused}
use Rattle.mgs_model.specs.Outcome.{Run}
use Rattle.mgs_model.specs.declared.session.Arrangement.{Arrangement}
use Rattle.mgs_model.specs.declared.session.Arrangement.TheVariants.{SplitWindow}
use Rattle.mgs_model.specs.declared.session.Command.TheVariants.{Rearrange}
use Rattle.mgs_buffers.specs.MarkedBuffer.{MarkedBuffer}
use Rattle.mgs_session.specs.declared.Session.{Session}
use Rattle.mgs_world.specs.Only.{nothing_held}
use Rattle.mgs_world.specs.Sound.{IsSound}
use Rattle.mgs_world.specs.WindowMarks.{WindowMarksDropped}
use Rattle.mgs_world.specs.Worlds.{idle, state_at, state_of, session_id, session_of, window_of, world_of}
use Rattle.mgs_world.proofs.Only.{only_sound, only_unseen, only_world, sound_but}
use Rattle.mgs_world.proofs.Owns.{no_search_at_rest}
use Rattle.mgs_world.proofs.Sessions.{session_some}
use Rattle.mgs_world.proofs.Soundness.{session_sound}
use Rattle.mgs_world.proofs.WindowMarks.{same_sizes, session_local}
use Rattle.mgs_arrange.specs.Arranged.{arranged_or_told, rearranged, run_ended}
use Rattle.mgs_arrange.specs.Arranging.{IsDone, IsResized, MayBeRefused, Rearranged}
use Rattle.mgs_arrange.proofs.Arranged.{arranged_act, split_may_be_refused}

pub after_sound : (ks ls : List MarkedBuffer) (xs : List Session) (at : ℕ) (x y : Session) → IsSound ks xs → x ≡ get_or xs at x → at < length xs → Rearranged ks ls x y → IsSound ls (slice_set xs at y)
after_sound ks ls xs at x y sound is within h = only_sound nothing_held ks ls xs at x y (sound_but ks xs sound) is within h

-- the window that is selected is there
pub selected_there : (xs : List Session) (at : ℕ) (x : Session) → x ≡ get_or xs at x → at < length xs → x.windows.selected < length x.windows.windows → IfSome (slice_get xs at) (λ y. y.windows.selected < length y.windows.windows)
selected_there xs at x is within selected =
    subst (λ (o : Option Session). IfSome o (λ y. y.windows.selected < length y.windows.windows)) (sym (slice_get-get_or xs at x within ∙ ap (λ (y : Session). Some y) (sym is))) selected

-- THE WORLD

state_of_it : (xs : List Session) (at : ℕ) (x : Session) → x ≡ get_or xs at x → at < length xs → state_at at xs ≡ idle (state_at at xs) → state_of x.state ≡ idle (state_of x.state)
state_of_it [] at x is within fresh = absurd (omega (arith, within))
state_of_it (y ∷ xs) zero x is within fresh = ap (λ (z : Session). state_of z.state) is ∙ fresh ∙ sym (ap (λ (z : Session). idle (state_of z.state)) is)
state_of_it (y ∷ xs) (suc at) x is within fresh = state_of_it xs at x is (omega (arith, within)) fresh

pub after_act : (c : Arrangement) (n : Option ℕ) (d : Directory) (ks ls : List MarkedBuffer) (xs : List Session) (next : Option ℕ) (id at : ℕ) (x y : Session)
    → IsSound ks xs → at ≡ position_or_len (session_id id) xs → x ≡ get_or xs at x → at < length xs → state_at at xs ≡ idle (state_at at xs) → x.windows.selected < length x.windows.windows → Rearranged ks ls x y → IsDone c n ks ls x y
    → world_of d ls (slice_set xs at y) next ≡ act (world_of d ks xs next) id (Run (Rearrange c) n []) true
after_act c n d ks ls xs next id at x y sound place is within fresh selected h done =
    let state = state_of_it xs at x is within fresh in
    only_world nothing_held d ks ls xs next id at x y (λ old. run_ended (arranged_or_told (rearranged c n (session_of ks x)) (session_of ks x))) (sound_but ks xs sound) place is within h done
    ∙ sym (arranged_act (world_of d ks xs next) id c n (session_of ks x) (session_some d ks xs next id at x place within is) state (no_search_at_rest ks x state) (omega (arith, selected, length-map x.windows.windows (window_of ks))))

-- MEMORY IS REFUSED

pub either_rearranged : {A E : Type 0} (r : Result A E) (ks ls : List MarkedBuffer) (x y : Session) → OnOk r (Rearranged ks ls x y) → OnErr r (WindowMarksDropped None ks ls) → OnErr r (IsResized x y) → Rearranged ks ls x y
either_rearranged (Ok a) ks ls x y ok err same = ok
either_rearranged (Err e) ks ls x y ok err same =
    record { buffers = err.buffers; uses = λ m i. omega (arith, err.uses m i, same.uses m i); stay = λ m i state. err.stay m i; size = same.size }

pub refused_all : {A E : Type 0} (r : Result A E) (ks ls : List MarkedBuffer) (xs : List Session) (at : ℕ) (x y : Session)
    → IsSound ks xs → x ≡ get_or xs at x → at < length xs → Rearranged ks ls x y → OnErr r (WindowMarksDropped None ks ls) → OnErr r ((k : List MarkedBuffer) → session_of k y ≡ session_of k x)
    → OnErr r ((d : Directory) (next : Option ℕ) → world_of d ls (slice_set xs at y) next ≡ world_of d ks xs next)
refused_all (Ok a) ks ls xs at x y sound is within h err seen = err
refused_all (Err e) ks ls xs at x y sound is within h err seen = λ d next.
    let uses = (session_sound ks xs at x sound is within).once in
    only_unseen nothing_held d ks ls xs next at x y (sound_but ks xs sound) is within h
    (seen ls ∙ session_local ls ks x (same_sizes ks ls err.buffers) (λ n i used. err.stay n i (omega (arith, used, uses n i)) (omega (arith, used, uses n i, err.uses n i))))

pub refused_may : (c : Arrangement) (n : Option ℕ) (d : Directory) (ks : List MarkedBuffer) (xs : List Session) (next : Option ℕ) (id at : ℕ) (x : Session) → at ≡ position_or_len (session_id id) xs → x ≡ get_or xs at x → at < length xs → x.windows.selected < length x.windows.windows → MayBeRefused c n (session_of ks x) → may_be_refused (outcome_in (world_of d ks xs next) id (Run (Rearrange c) n []) true) ≡ true
refused_may SplitWindow n d ks xs next id at x place is within selected may =
    split_may_be_refused (world_of d ks xs next) id n (session_of ks x) _ (session_some d ks xs next id at x place within is) (omega (arith, selected, length-map x.windows.windows (window_of ks))) may
refused_may _ n d ks xs next id at x place is within selected may = absurd may
