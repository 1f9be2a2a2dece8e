-- The sizes of the sessions, read off the world: they stay, unless one quits.
use Rattle.std.proofs.Common.{◌≡◌, ℕ, suc, ◌+◌, ◌<◌, ◌≤◌, Bool, true, false, not, cond, List, [], ◌∷◌, length, map, Option, Some, None, refl, sym, ap, ◌∙◌, arith}
use Rattle.std.specs.List.{position_or_len}
use Rattle.std.proofs.lemmas.List.{length-map}
use Rattle.mgs_model.specs.Access.{Directory}
use Rattle.mgs_model.specs.Apply.{act, after_quit, applied, apply, change_first, outcome_in, session_after, session_arranged, without_session}
use Rattle.mgs_model.specs.Outcome.{Act, Effect, Quit, Outcome}
use Rattle.mgs_model.specs.World.{World, has_id}
use Rattle.mgs_model.specs.World as model
use Rattle.mgs_buffers.specs.MarkedBuffer.{MarkedBuffer}
use Rattle.mgs_session.specs.declared.Session.{Session}
use Rattle.mgs_world.specs.declared.size.Size.{Size}
use Rattle.mgs_world.specs.Worlds.{is_size_of, session_size, size_in, sizes, sizes_in, world_of}
use Rattle.mgs_world.proofs.Worlds.{map-change_first_same}

pub sizes_of_world : (d : Directory) (ks : List MarkedBuffer) (xs : List Session) (n : Option ℕ) → sizes (world_of d ks xs n) ≡ sizes_in xs
sizes_of_world d ks [] n = refl
sizes_of_world d ks (x ∷ xs) n = ap (λ (ss : List Size). size_in x ∷ ss) (sizes_of_world d ks xs n)

abbrev pub is_quit : Effect → Bool
is_quit Quit = true
is_quit _ = false

size_after : (e : Effect) (x : model.Session) → session_size (session_after e x) ≡ session_size x
size_after Quit x = refl
size_after _ x = refl

sizes_mapped : (e : Effect) (xs : List model.Session) → map session_size (map (session_after e) xs) ≡ map session_size xs
sizes_mapped e [] = refl
sizes_mapped e (x ∷ xs) = ap (λ s. s ∷ map session_size (map (session_after e) xs)) (size_after e x) ∙ ap (λ ss. session_size x ∷ ss) (sizes_mapped e xs)

no_quit : (e : Effect) (id : ℕ) (xs : List model.Session) → is_quit e ≡ false → after_quit e id xs ≡ xs
no_quit Quit id xs h = cc
no_quit _ id xs h = refl

-- the sessions before one of them quits
sizes_arranged : (id : ℕ) (o : Outcome) (xs : List model.Session) → map session_size (change_first (has_id id) (session_arranged o) (map (session_after o.effect) xs)) ≡ map session_size xs
sizes_arranged id o xs = map-change_first_same session_size (has_id id) (session_arranged o) (λ x. refl) (map (session_after o.effect) xs) ∙ sizes_mapped o.effect xs

pub sizes_apply : (w : World) (id : ℕ) (o : Outcome) → is_quit o.effect ≡ false → sizes (apply w id o) ≡ sizes w
sizes_apply w id o stays =
    ap (map session_size) (no_quit o.effect id (change_first (has_id id) (session_arranged o) (map (session_after o.effect) w.sessions)) stays)
    ∙ sizes_arranged id o w.sessions

-- AN ACT of a session that is there: where they are as many as before, none has quit

without_most : (id : ℕ) (xs : List model.Session) → length (without_session id xs) ≤ length xs
without_most id [] = omega arith
without_most id (x ∷ xs) = by (has_id id x) (without_most id xs)
  where
    by : (c : Bool) → length (without_session id xs) ≤ length xs → length (cond (not c) (x ∷ without_session id xs) (without_session id xs)) ≤ suc (length xs)
    by true later = omega (arith, later)
    by false later = omega (arith, later)

without_fewer : (id : ℕ) (xs : List model.Session) → position_or_len (is_size_of id) (map session_size xs) < length xs → length (without_session id xs) < length xs
without_fewer id [] within = absurd (omega (arith, within))
without_fewer id (x ∷ xs) within = by (has_id id x) refl (without_fewer id xs)
  where
    there : has_id id x ≡ false → position_or_len (is_size_of id) (map session_size (x ∷ xs)) ≡ 1 + position_or_len (is_size_of id) (map session_size xs)
    there e = rw e refl

    by : (c : Bool) → has_id id x ≡ c → (position_or_len (is_size_of id) (map session_size xs) < length xs → length (without_session id xs) < length xs) → length (cond (not c) (x ∷ without_session id xs) (without_session id xs)) < suc (length xs)
    by true e later = omega (arith, without_most id xs)
    by false e later = omega (arith, later (omega (arith, there e, within)))

pub sizes_act : (w : World) (id : ℕ) (c : Act) (stored : Bool) → position_or_len (is_size_of id) (sizes w) < length (sizes w) → length (sizes (act w id c stored)) ≡ length (sizes w) → sizes (act w id c stored) ≡ sizes w
sizes_act w id c stored within many = all (outcome_in w id c stored) many
  where
    one : (o : Outcome) → length (sizes (apply w id o)) ≡ length (sizes w) → sizes (apply w id o) ≡ sizes w
    one o many = by o.effect refl
      where
        ys : List model.Session
        ys = change_first (has_id id) (session_arranged o) (map (session_after o.effect) w.sessions)

        same : map session_size ys ≡ sizes w
        same = sizes_arranged id o w.sessions

        by : (e : Effect) → o.effect ≡ e → sizes (apply w id o) ≡ sizes w
        by Quit q =
            let left : length (sizes (apply w id o)) ≡ length (without_session id ys) =
            ap (λ (f : Effect). length (map session_size (after_quit f id ys))) q ∙ length-map (without_session id ys) session_size in
            let before : length ys ≡ length (sizes w) = sym (length-map ys session_size) ∙ ap length same in
            absurd (omega (arith, many, left, before, without_fewer id ys (omega (arith, before, ap (position_or_len (is_size_of id)) same, within))))
        by e q = sizes_apply w id o (ap is_quit q)

    all : (o : Option Outcome) → length (sizes (applied w id o)) ≡ length (sizes w) → sizes (applied w id o) ≡ sizes w
    all None many = refl
    all (Some o) many = one o many

-- and where the world is the same
pub sizes_seen : (d : Directory) (ks ls : List MarkedBuffer) (xs ys : List Session) (n : Option ℕ) → world_of d ls ys n ≡ world_of d ks xs n → sizes_in ys ≡ sizes_in xs
sizes_seen d ks ls xs ys n same = sym (sizes_of_world d ls ys n) ∙ ap sizes same ∙ sizes_of_world d ks xs n
