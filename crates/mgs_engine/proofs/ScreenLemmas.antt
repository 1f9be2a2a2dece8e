-- Screens and their queues, as they are drawn and closed.
use Rattle.std.proofs.Common.{◌≡◌, ℕ, zero, suc, ◌+◌, ◌*◌, ◌<◌, ◌≤◌, List, [], ◌∷◌, length, get_or, set, drop, map, refl, sym, ap, ◌∙◌, add-zero, arith}
use Rattle.std.specs.List.{position_or_len}
use Rattle.std.proofs.lemmas.List.{get_or-drop, drop-set-lt, drop-drop}
use Rattle.std.specs.Option.{option_map}
use Rattle.std.proofs.Math.Nat.{mul-le-mul_left}
use Rattle.mgs_model.proofs.Firsts.{find-map, find_at_place}
use Rattle.mgs_model.specs.Picture.{IsSize, IsPicture}
use Rattle.mgs_model.specs.declared.limits.TheConstants.{QUEUE_LIMIT}
use Rattle.mgs_paint.specs.Painting.{bound_of}
use Rattle.mgs_engine.specs.declared.session_screen.Screen.{Screen}
use Rattle.mgs_engine.specs.Queues.{IsTaken, waiting_in, find_queue, is_queue_of}
use Rattle.mgs_engine.specs.Screens.{queue_of, queues_of, screen_id}

-- a paint of any screen has room in an empty queue
mul_most : (a b c d : ℕ) → a ≤ c → b ≤ d → a * b ≤ c * d
mul_most a b c d h k = grind (arith, mul-le-mul_left a k, mul-le-mul_left d h)

pub paint_fits : (rows cols : ℕ) → IsSize rows cols → bound_of rows cols ≤ QUEUE_LIMIT
paint_fits rows cols h = let p : rows * (16 + 4 * cols) ≤ 64 * 656 = mul_most rows (16 + 4 * cols) 64 656 h.few_rows (omega (arith, h.few_cols)) in omega (arith, p)

pub paint_room : (x : Screen) → IsPicture x.next → IsTaken (queue_of x) → length x.queue + bound_of x.next.rows x.next.cols ≤ QUEUE_LIMIT
paint_room x p e =
    let l : length x.queue ≡ 0 = ap length e in
    omega (arith, l, paint_fits x.next.rows x.next.cols p.size)

-- DRAWING

-- what was not yet drawn is as it was
pub rest_at : (xs ys : List Screen) (i : ℕ) (d : Screen) → drop i xs ≡ drop i ys → get_or xs i d ≡ get_or ys i d
rest_at xs ys i d e =
    ap (λ n. get_or xs n d) (sym (add-zero i)) ∙ sym (get_or-drop i xs 0 d)
    ∙ ap (λ zs. get_or zs 0 d) e
    ∙ get_or-drop i ys 0 d ∙ ap (λ n. get_or ys n d) (add-zero i)

pub rest_after : (xs ys : List Screen) (i : ℕ) (x : Screen) → drop i xs ≡ drop i ys → drop (i + 1) (set xs i x) ≡ drop (i + 1) ys
rest_after xs ys i x e = drop-set-lt (i + 1) xs i x (omega arith) ∙ sym (drop-drop 1 i xs) ∙ ap (drop 1) e ∙ drop-drop 1 i ys

-- a write that changes nothing of what is asked
pub same_set : {A : Type 0} (of : Screen → A) (xs : List Screen) (i : ℕ) (d y : Screen) → i < length xs → of y ≡ of (get_or xs i d) → map of (set xs i y) ≡ map of xs
same_set of [] i d y l e = refl
same_set of (z ∷ zs) zero d y l e = ap (λ s. s ∷ map of zs) e
same_set of (z ∷ zs) (suc i) d y l e = ap (λ ss. of z ∷ ss) (same_set of zs i d y (omega arith) e)

-- QUEUES

pub queue_at : (id : ℕ) (xs : List Screen) (at : ℕ) (x : Screen) → at ≡ position_or_len (screen_id id) xs → at < length xs → x ≡ get_or xs at x → waiting_in (find_queue id (queues_of xs)) ≡ x.queue
queue_at id xs at x e l is =
    ap waiting_in
    (find-map queue_of (screen_id id) (is_queue_of id) (λ x. refl) xs
    ∙ ap (option_map queue_of) (find_at_place (screen_id id) xs x (omega (arith, e, l))))
    ∙ ap (λ n. (get_or xs n x).queue) (sym e)
    ∙ ap (λ (x : Screen). x.queue) (sym is)
