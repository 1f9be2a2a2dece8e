-- The lines of a run tell its rights, and go on.
use Rattle.std.proofs.Common.{◌≡◌, ℕ, suc, ◌+◌, Bool, true, false, cond, List, [], ◌∷◌, ◌++◌, map, length, Option, Some, None, refl, sym, ap, ◌∙◌, append_assoc, arith}
use Rattle.std.specs.List.{flat_map}
use Rattle.mgs_model.specs.declared.entry.Decision.{Decision}
use Rattle.mgs_model.specs.Outcome.{Effect}
use Rattle.mgs_model.specs.World.{World, Session, find_session}
use Rattle.mgs_model.specs.Events.{Event, Open, Byte, Close, run, step, event_effects, can_open}
use Rattle.mgs_laws.specs.Apart.{Rules, rules_of}
use Rattle.mgs_audit_laws.specs.Lines.{Line, Came, Ruled, rights_told, told, told_by, audit, lines_of, ruled_in, refused_in, denial_in, refusal, left_in, user_of}
use Rattle.mgs_audit_laws.proofs.Effects.{step_buffers}
use Rattle.mgs_audit_laws.proofs.Rights.{rights_done, rights_effects, all_told}

told_behind : (ls ms : List Line) (all : List Rules) → rights_told (ls ++ ms) all ≡ rights_told ms (rights_told ls all)
told_behind [] ms all = refl
told_behind (l ∷ ls) ms all = told_behind ls ms (told_by l all)

-- LINES THAT TELL NOTHING OF RIGHTS

left_tells : (n : ℕ) (before after : Option Session) (all : List Rules) → rights_told (left_in n before after) all ≡ all
left_tells n None None all = refl
left_tells n None (Some y) all = refl
left_tells n (Some x) None all = refl
left_tells n (Some x) (Some y) all = refl

came_tells : (b : Bool) (n : ℕ) (user : List ℕ) (all : List Rules) → rights_told (cond b (Came n user ∷ []) []) all ≡ all
came_tells true n user all = refl
came_tells false n user all = refl

-- only a line of this form changes rights
abbrev Silent : List Line → Type 0
Silent ls = (all : List Rules) → rights_told ls all ≡ all

refusal_tells : (n : ℕ) (user : List ℕ) (d : Option Decision) → Silent (refusal n user d)
refusal_tells n user None all = refl
refusal_tells n user (Some d) all = refl

refused_tells : (n : ℕ) (after : Option Session) → Silent (refused_in n after)
refused_tells n None all = refl
refused_tells n (Some x) all = refusal_tells n x.user (denial_in x.state.echo) all

-- AN EVENT

ruled_tells : (n : ℕ) (user : List ℕ) (fs : List Effect) (all : List Rules) → rights_told (map (Ruled n user) fs) all ≡ rights_done fs all
ruled_tells n user [] all = refl
ruled_tells n user (f ∷ fs) all = ruled_tells n user fs (told_by (Ruled n user f) all)

lines_tell : (w : World) (n : ℕ) (e : Event) (all : List Rules) → rights_told (lines_of w n e) all ≡ rights_done (event_effects w e) all
lines_tell w n (Open id user rows cols) all = came_tells (can_open w id user rows cols) n user all
lines_tell w n (Byte id byte stored stop) all =
    told_behind ruled (refused ++ left) all
    ∙ told_behind refused left (rights_told ruled all)
    ∙ left_tells n before after (rights_told refused (rights_told ruled all))
    ∙ refused_tells n after (rights_told ruled all)
    ∙ ruled_tells n (user_of before) (flat_map told effects) all
    ∙ all_told effects all
  where
    before : Option Session
    before = find_session id w.sessions

    after : Option Session
    after = find_session id (step w (Byte id byte stored stop)).sessions

    effects : List Effect
    effects = event_effects w (Byte id byte stored stop)

    ruled : List Line
    ruled = ruled_in n (user_of before) effects

    refused : List Line
    refused = refused_in n after

    left : List Line
    left = left_in n before after
lines_tell w n (Close id) all = left_tells n (find_session id w.sessions) None all

step_told : (w : World) (n : ℕ) (e : Event) → map rules_of (step w e).buffers ≡ rights_told (lines_of w n e) (map rules_of w.buffers)
step_told w n e =
    ap (map rules_of) (step_buffers w e)
    ∙ rights_effects (event_effects w e) w.buffers
    ∙ sym (lines_tell w n e (map rules_of w.buffers))

-- A RUN

pub are_as_told : (w : World) (n : ℕ) (es : List Event) → map rules_of (run w es).buffers ≡ rights_told (audit w n es) (map rules_of w.buffers)
are_as_told w n [] = refl
are_as_told w n (e ∷ es) =
    are_as_told (step w e) (suc n) es
    ∙ ap (rights_told (audit (step w e) (suc n) es)) (step_told w n e)
    ∙ sym (told_behind (lines_of w n e) (audit (step w e) (suc n) es) (map rules_of w.buffers))

pub tells_on : (w : World) (n : ℕ) (es fs : List Event) → audit w n (es ++ fs) ≡ audit w n es ++ audit (run w es) (n + length es) fs
tells_on w n [] fs = let k : n ≡ n + 0 = omega arith in ap (λ (m : ℕ). audit w m fs) k
tells_on w n (e ∷ es) fs =
    let k : suc n + length es ≡ n + suc (length es) = omega arith in
    ap (λ (ls : List Line). lines_of w n e ++ ls) (tells_on (step w e) (suc n) es fs ∙ ap (λ (m : ℕ). audit (step w e) (suc n) es ++ audit (run (step w e) es) m fs) k)
    ∙ sym (append_assoc (lines_of w n e) (audit (step w e) (suc n) es) (audit (run (step w e) es) (n + suc (length es)) fs))
