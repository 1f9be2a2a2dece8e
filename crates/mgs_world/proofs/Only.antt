-- One session changed, among the others.
use Rattle.std.proofs.Common.{◌≡◌, ℕ, zero, suc, ◌+◌, ◌<◌, ◌≤◌, Bool, List, [], ◌∷◌, length, map, get_or, Option, refl, sym, ap, ◌∙◌, arith}
use Rattle.std.specs.Prelude.{remove, slice_set, is_some}
use Rattle.std.specs.Option.{option_map}
use Rattle.std.specs.List.{position_or_len}
use Rattle.mgs_model.specs.Access.{Directory}
use Rattle.mgs_model.specs.Apply.{change_at, change_first}
use Rattle.mgs_model.specs.World.{has_id}
use Rattle.mgs_model.specs.World as model
use Rattle.mgs_model.proofs.Basics.{cons_head, cons_tail}
use Rattle.mgs_model.proofs.Firsts.{change_first_found, find-map, position_or_len-map}
use Rattle.mgs_marks.specs.Marks.{mark_in}
use Rattle.mgs_buffers.specs.MarkedBuffer.{MarkedBuffer, marked_at}
use Rattle.mgs_session.specs.declared.Session.{Session}
use Rattle.mgs_world.specs.Only.{IsSoundBut, OnlyThis, nothing_held}
use Rattle.mgs_world.specs.Sound.{IsSound, in_use, session_uses, sum_of}
use Rattle.mgs_world.specs.Worlds.{id_after, session_id, session_of, world_of}
use Rattle.mgs_world.proofs.SelectedMark.{changed_first}
use Rattle.mgs_world.proofs.Sessions.{session_found}
use Rattle.mgs_world.proofs.Soundness.{one_if_most}
use Rattle.mgs_world.proofs.WindowMarks.{same_sizes, session_local}
use Rattle.mgs_world.proofs.Worlds.{same_world}

pub sum_removed : {A : Type 0} (used : A → ℕ) (xs : List A) (at : ℕ) (x : A) → x ≡ get_or xs at x → at < length xs → used x + sum_of used (remove xs at) ≡ sum_of used xs
sum_removed used [] at x is within = absurd (omega (arith, within))
sum_removed used (y ∷ xs) zero x is within = omega (arith, ap used is)
sum_removed used (y ∷ xs) (suc at) x is within = omega (arith, sum_removed used xs at x is (omega (arith, within)))

sum_set : {A : Type 0} (used : A → ℕ) (xs : List A) (at : ℕ) (y : A) → at < length xs → sum_of used (slice_set xs at y) ≡ used y + sum_of used (remove xs at)
sum_set used [] at y within = absurd (omega (arith, within))
sum_set used (x ∷ xs) zero y within = refl
sum_set used (x ∷ xs) (suc at) y within = omega (arith, sum_set used xs at y (omega (arith, within)))

set_seen : {A B : Type 0} (F G : A → B) (xs : List A) (at : ℕ) (y : A) → map F (remove xs at) ≡ map G (remove xs at) → map F (slice_set xs at y) ≡ slice_set (map G xs) at (F y)
set_seen F G [] zero y same = refl
set_seen F G [] (suc at) y same = refl
set_seen F G (x ∷ xs) zero y same = ap (λ ys. F y ∷ ys) same
set_seen F G (x ∷ xs) (suc at) y same =
    ap (λ z. z ∷ map F (slice_set xs at y)) (cons_head _ _ _ _ same) ∙ ap (λ zs. G x ∷ zs) (set_seen F G xs at y (cons_tail _ _ _ _ same))

set_first : {A : Type 0} (p : A → Bool) (xs : List A) (at : ℕ) (y : A) → at ≡ position_or_len p xs → slice_set xs at y ≡ change_first p (λ x. y) xs
set_first {A = A} p xs at y place = set_at xs at ∙ changed_first p (λ x. y) xs at place
  where
    set_at : (xs : List A) (at : ℕ) → slice_set xs at y ≡ change_at at (λ x. y) xs
    set_at [] at = refl
    set_at (x ∷ xs) zero = refl
    set_at (x ∷ xs) (suc at) = ap (λ ys. x ∷ ys) (set_at xs at)

-- the others are seen as before
others_local : (held : List ℕ → ℕ → ℕ) (ks ls : List MarkedBuffer) (x y : Session) (zs : List Session) → OnlyThis held ks ls x y
    → ((m : List ℕ) (i : ℕ) → session_uses m i x + sum_of (session_uses m i) zs ≤ 1)
    → ((m : List ℕ) (i : ℕ) → sum_of (session_uses m i) zs ≤ in_use m i ks)
    → ((m : List ℕ) (i : ℕ) → sum_of (session_uses m i) zs ≤ in_use m i ls)
    → map (session_of ls) zs ≡ map (session_of ks) zs
others_local held ks ls x y [] h once before after = refl
others_local held ks ls x y (z ∷ zs) h once before after =
    let head : session_of ls z ≡ session_of ks z =
    session_local ls ks z (same_sizes ks ls h.buffers)
    (λ m i used. h.stay m i (omega (arith, used, once m i)) (omega (arith, used, before m i)) (omega (arith, used, after m i))) in
    ap (λ s. s ∷ map (session_of ls) zs) head
    ∙ ap (λ ss. session_of ks z ∷ ss) (others_local held ks ls x y zs h (λ m i. omega (arith, once m i)) (λ m i. omega (arith, before m i)) (λ m i. omega (arith, after m i)))

pub only_sound : (held : List ℕ → ℕ → ℕ) (ks ls : List MarkedBuffer) (xs : List Session) (at : ℕ) (x y : Session) → IsSoundBut held ks xs → x ≡ get_or xs at x → at < length xs → OnlyThis held ks ls x y → IsSound ls (slice_set xs at y)
only_sound held ks ls xs at x y sound is within h = record {
  once = λ m i. omega (arith, sound.once m i, sum_removed (session_uses m i) xs at x is within, sum_set (session_uses m i) xs at y within, h.uses m i);
}

-- the sessions afterwards
only_seen : (held : List ℕ → ℕ → ℕ) (ks ls : List MarkedBuffer) (xs : List Session) (at : ℕ) (x y : Session)
    → IsSoundBut held ks xs → x ≡ get_or xs at x → at < length xs → OnlyThis held ks ls x y → map (session_of ls) (slice_set xs at y) ≡ slice_set (map (session_of ks) xs) at (session_of ls y)
only_seen held ks ls xs at x y sound is within h =
    let rest : List Session = remove xs at in
    let total : (m : List ℕ) (i : ℕ) → session_uses m i x + sum_of (session_uses m i) rest + held m i ≡ in_use m i ks =
    λ m i. omega (arith, sound.once m i, sum_removed (session_uses m i) xs at x is within) in
    let most : (m : List ℕ) (i : ℕ) → in_use m i ks ≤ 1 = λ m i. one_if_most (is_some (mark_in (marked_at m ks).marks i)) in
    set_seen (session_of ls) (session_of ks) xs at y
    (others_local held ks ls x y rest h (λ m i. omega (arith, total m i, most m i)) (λ m i. omega (arith, total m i)) (λ m i. omega (arith, total m i, h.uses m i)))

pub only_world : (held : List ℕ → ℕ → ℕ) (d : Directory) (ks ls : List MarkedBuffer) (xs : List Session) (next : Option ℕ) (id at : ℕ) (x y : Session) (f : model.Session → model.Session)
    → IsSoundBut held ks xs → at ≡ position_or_len (session_id id) xs → x ≡ get_or xs at x → at < length xs → OnlyThis held ks ls x y → session_of ls y ≡ f (session_of ks x)
    → world_of d ls (slice_set xs at y) next ≡ record (world_of d ks xs next) { sessions = change_first (has_id id) f (map (session_of ks) xs) }
only_world held d ks ls xs next id at x y f sound place is within h does =
    same_world d _ _ _ _ (id_after next) h.buffers
    (only_seen held ks ls xs at x y sound is within h
    ∙ set_first (has_id id) (map (session_of ks) xs) at (session_of ls y) (place ∙ sym (position_or_len-map (session_of ks) (has_id id) xs))
    ∙ change_first_found (has_id id) (λ old. session_of ls y) f (session_of ks x) (map (session_of ks) xs)
    (find-map (session_of ks) (session_id id) (has_id id) (λ z. refl) xs ∙ ap (option_map (session_of ks)) (session_found xs id at x place within is))
    does)

-- where the session itself is seen as before, the world is the same
set_back : {A B : Type 0} (G : A → B) (xs : List A) (at : ℕ) (x : A) → x ≡ get_or xs at x → slice_set (map G xs) at (G x) ≡ map G xs
set_back G [] at x is = refl
set_back G (y ∷ xs) zero x is = ap (λ z. G z ∷ map G xs) is
set_back G (y ∷ xs) (suc at) x is = ap (λ zs. G y ∷ zs) (set_back G xs at x is)

pub only_unseen : (held : List ℕ → ℕ → ℕ) (d : Directory) (ks ls : List MarkedBuffer) (xs : List Session) (next : Option ℕ) (at : ℕ) (x y : Session)
    → IsSoundBut held ks xs → x ≡ get_or xs at x → at < length xs → OnlyThis held ks ls x y → session_of ls y ≡ session_of ks x → world_of d ls (slice_set xs at y) next ≡ world_of d ks xs next
only_unseen held d ks ls xs next at x y sound is within h same =
    same_world d _ _ _ _ (id_after next) h.buffers
    (only_seen held ks ls xs at x y sound is within h ∙ ap (slice_set (map (session_of ks) xs) at) same ∙ set_back (session_of ks) xs at x is)

-- NOTHING IS HELD

pub sound_but : (ks : List MarkedBuffer) (xs : List Session) → IsSound ks xs → IsSoundBut nothing_held ks xs
sound_but ks xs sound = record { once = λ m i. omega (arith, sound.once m i) }

-- one change after another
pub only_twice : (ks ls ms : List MarkedBuffer) (x y z : Session) → OnlyThis nothing_held ks ls x y → OnlyThis nothing_held ls ms y z → OnlyThis nothing_held ks ms x z
only_twice ks ls ms x y z h g = record {
  buffers = g.buffers ∙ h.buffers;
  uses = λ m i. omega (arith, h.uses m i, g.uses m i);
  stay =
      λ m i state used after.
      let most : in_use m i ls ≤ 1 = one_if_most (is_some (mark_in (marked_at m ls).marks i)) in
      let mid : 1 ≤ in_use m i ls = omega (arith, state, used, h.uses m i) in
      let state_mid : session_uses m i y ≡ 0 = omega (arith, state, used, most, h.uses m i) in
      g.stay m i state_mid mid after ∙ h.stay m i state used mid;
  size = g.size ∙ h.size;
}
