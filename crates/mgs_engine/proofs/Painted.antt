-- What the bytes of painted screens draw, for the sessions of a world.
use Rattle.std.proofs.Common.{◌≡◌, ℕ, ◌≤◌, Bool, true, false, cond, List, [], ◌∷◌, ◌++◌, length, map, Some, None, refl, sym, ap, subst, ◌∙◌, eq-eqb}
use Rattle.std.specs.Prelude.{find, nat_eq, All}
use Rattle.std.specs.Option.{option_or, option_map}
use Rattle.std.specs.Cmp.{unsigned_Decides}
use Rattle.std.proofs.lemmas.Bool.{eqb-true}
use Rattle.std.proofs.lemmas.List.{map-append}
use Rattle.std.proofs.lemmas.List.Elements.{All-head, All-tail, All-cons, All-nil}
use Rattle.std.proofs.lemmas.List.Folds.{find-append}
use Rattle.mgs_model.proofs.Firsts.{find-map}
use Rattle.mgs_model.specs.Apply.{remove_first}
use Rattle.mgs_model.specs.Picture.{Picture}
use Rattle.mgs_model.specs.World.{World, Session, find_session}
use Rattle.mgs_model.specs.Draw.{screen}
use Rattle.mgs_term.specs.Drawing.{Draws, IsFaithful}
use Rattle.mgs_paint.specs.Painting.{Paints, bound_of, cells_of, shown}
use Rattle.mgs_model.proofs.Basics.{cons_head, cons_tail}
use Rattle.mgs_model.proofs.Firsts.{found_passes}
use Rattle.mgs_world.specs.Worlds.{find_size, sizes, is_size_of, IsUnique}
use Rattle.mgs_world.specs.Worlds as core
use Rattle.mgs_screen.specs.TextsDrawn.{AreStanding}
use Rattle.mgs_engine.specs.declared.session_screen.Screen.{Screen}
use Rattle.mgs_engine.specs.Queues.{waiting_in, is_queue_of}
use Rattle.mgs_engine.specs.declared.session_end.Cause.{Cause}
use Rattle.mgs_engine.specs.Screens.{queue_of, queues_of, shown_size, Drawn, drawn_of, screen_id, IsDrawn, IsOnTime, IsRedrawn, IsRepaint, AreAmong, AreRedrawn, IsFirst}
use Rattle.mgs_core.specs.Kept.{Kept}
use Rattle.mgs_core.proofs.Ids.{All-found, find-remove_first_other, found_sizes, none_of, others_left, same_some, some_of}
use Rattle.mgs_engine.proofs.Repaints.{no_repaint, screen_cols, screen_rows}
use Rattle.mgs_engine.specs.Serving.{pending_of}
use Rattle.mgs_engine.specs.Painted.{PaintedBy, Painted}
use Rattle.mgs_engine.specs.Served.{serving_of, IsServed}

-- WHAT IS FOUND

found_id : (id : ℕ) (xs : List Screen) (x : Screen) → find (screen_id id) xs ≡ Some x → x.id ≡ id
found_id id xs x e = (unsigned_Decides x.id id).0 (found_passes (screen_id id) xs x e)

screen_sizes : (id : ℕ) (xs : List Screen) → find_size id (map shown_size xs) ≡ option_map shown_size (find (screen_id id) xs)
screen_sizes id xs = find-map shown_size (screen_id id) (is_size_of id) (λ x. refl) xs

-- the screen of a session
screen_known : (w : World) (xs : List Screen) (id : ℕ) (x : Session) → map shown_size xs ≡ sizes w → find_session id w.sessions ≡ Some x → (s : Screen) × (find (screen_id id) xs ≡ Some s) × (shown_size s ≡ core.session_size x)
screen_known w xs id x e f =
    some_of shown_size (find (screen_id id) xs) (core.session_size x)
    (sym (screen_sizes id xs) ∙ ap (find_size id) e ∙ found_sizes id w ∙ ap (option_map core.session_size) f)

-- ALL SCREENS

no_more : {A X : Type 0} (x : A) (xs : List A) → x ∷ xs ≡ [] → X
no_more x xs e = cc

nothing : {A X : Type 0} (x : A) → None ≡ Some x → X
nothing x e = cc

drawn_sizes : (xs : List Screen) → map (λ (d : Drawn). record { id = d.id; rows = d.picture.rows; cols = d.picture.cols }) (map drawn_of xs) ≡ map shown_size xs
drawn_sizes [] = refl
drawn_sizes (x ∷ xs) = ap (λ ss. shown_size x ∷ ss) (drawn_sizes xs)

-- where terminals show the same, they have the same sizes
pub sizes_same : (xs ys : List Screen) → map drawn_of xs ≡ map drawn_of ys → map shown_size xs ≡ map shown_size ys
sizes_same xs ys e =
    sym (drawn_sizes xs) ∙ ap (map (λ (d : Drawn). record { id = d.id; rows = d.picture.rows; cols = d.picture.cols })) e ∙ drawn_sizes ys

drawn_one : (w : World) (x y : Screen) → drawn_of x ≡ drawn_of y → IsDrawn w y → IsDrawn w x
drawn_one w x y e d = record {
  session = d.session;
  found = ap (λ (z : Drawn). find_session z.id w.sessions) e ∙ d.found;
  picture = ap (λ (z : Drawn). z.picture) e ∙ d.picture;
  level = ap (λ (z : Drawn). z.next) e ∙ d.level ∙ sym (ap (λ (z : Drawn). z.picture) e);
  stands = subst (λ (z : Drawn). AreStanding w.buffers z.picture z.texts) (sym e) d.stands;
}

pub drawn_same : (w : World) (xs ys : List Screen) → map drawn_of xs ≡ map drawn_of ys → All (IsDrawn w) ys → All (IsDrawn w) xs
drawn_same w [] ys e h = All-nil (IsDrawn w)
drawn_same w (x ∷ xs) [] e h = no_more (drawn_of x) (map drawn_of xs) e
drawn_same w (x ∷ xs) (y ∷ ys) e h =
    let one : drawn_of x ≡ drawn_of y = cons_head (drawn_of x) (drawn_of y) (map drawn_of xs) (map drawn_of ys) e in
    let rest : map drawn_of xs ≡ map drawn_of ys = cons_tail (drawn_of x) (drawn_of y) (map drawn_of xs) (map drawn_of ys) e in
    All-cons (IsDrawn w) x xs (drawn_one w x y one (All-head (IsDrawn w) y ys h)) (drawn_same w xs ys rest (All-tail (IsDrawn w) y ys h))

pub on_time_same : (xs ys : List Screen) → map drawn_of xs ≡ map drawn_of ys → All IsOnTime ys → All IsOnTime xs
on_time_same [] ys e h = All-nil IsOnTime
on_time_same (x ∷ xs) [] e h = no_more (drawn_of x) (map drawn_of xs) e
on_time_same (x ∷ xs) (y ∷ ys) e h =
    let one : drawn_of x ≡ drawn_of y = cons_head (drawn_of x) (drawn_of y) (map drawn_of xs) (map drawn_of ys) e in
    let rest : map drawn_of xs ≡ map drawn_of ys = cons_tail (drawn_of x) (drawn_of y) (map drawn_of xs) (map drawn_of ys) e in
    All-cons IsOnTime x xs (ap (λ (z : Drawn). z.late) one ∙ All-head IsOnTime y ys h) (on_time_same xs ys rest (All-tail IsOnTime y ys h))

-- a screen is found after where it was found before
found_after : (w : World) (id : ℕ) (xs ys : List Screen) (s : Screen) → AreRedrawn w xs ys → find (screen_id id) xs ≡ Some s → (t : Screen) × (find (screen_id id) ys ≡ Some t) × IsRedrawn w s t
found_after w id [] [] s h e = nothing s e
found_after w id [] (y ∷ ys) s h e = absurd h
found_after w id (x ∷ xs) [] s h e = absurd h
found_after w id (x ∷ xs) (y ∷ ys) s h e =
    let goal : Bool → Type 0 = λ b. (t : Screen) × (cond b (Some y) (find (screen_id id) ys) ≡ Some t) × IsRedrawn w s t in
    let go : (b : Bool) → cond b (Some x) (find (screen_id id) xs) ≡ Some s → goal b =
    λ b. elim b as (λ b. cond b (Some x) (find (screen_id id) xs) ≡ Some s → goal b) [
      | true ↦ λ f. (y, refl, subst (λ (z : Screen). IsRedrawn w z y) (same_some x s f) h.0)
      | false ↦ λ f. found_after w id xs ys s h.1 f
    ]
    in subst goal (ap (λ n. nat_eq n id) (sym h.0.id)) (go (nat_eq x.id id) e)

-- what is found after one that was taken out was found before
pub found_kept : (k id : ℕ) (xs : List Screen) (s : Screen) → IsUnique (map shown_size xs) → find (screen_id id) (remove_first (screen_id k) xs) ≡ Some s → find (screen_id id) xs ≡ Some s
found_kept k id xs s u e =
    let ys : List Screen = remove_first (screen_id k) xs in
    let left : nat_eq k s.id ≡ false = All-found (λ x. nat_eq k x.id ≡ false) (screen_id id) ys s (others_left shown_size k xs u) e in
    let other : nat_eq k id ≡ false = ap (nat_eq k) (sym (found_id id ys s e)) ∙ left in
    sym (find-remove_first_other (screen_id k) (screen_id id) (λ x is. ap (λ n. nat_eq n id) (eqb-true x.id k is) ∙ other) xs) ∙ e

-- WHAT THE BYTES DRAW

pub pending_found : (w : Kept) (xs : List Screen) (es : List (ℕ × Cause)) (id : ℕ) (s : Screen) → find (screen_id id) xs ≡ Some s → pending_of id (serving_of w xs es) ≡ s.queue
pending_found w xs es id s e = ap waiting_in (find-map queue_of (screen_id id) (is_queue_of id) (λ x. refl) xs ∙ ap (option_map queue_of) e)

-- a terminal shows the screen of its session
shows_session : (w : World) (xs : List Screen) (id : ℕ) (x : Session) (s : Screen) → All (IsDrawn w) xs → find (screen_id id) xs ≡ Some s → find_session id w.sessions ≡ Some x → s.shown ≡ screen w x
shows_session w xs id x s h e f =
    let d : IsDrawn w s = All-found (IsDrawn w) (screen_id id) xs s h e in
    let g : find_session id w.sessions ≡ Some d.session = ap (λ n. find_session n w.sessions) (sym (found_id id xs s e)) ∙ d.found in
    d.picture ∙ ap (screen w) (same_some d.session x (sym g ∙ f))

painted_pair : (w v : Kept) (olds news : List Screen) (es fs : List (ℕ × Cause)) (id : ℕ) (x y : Session) (s t : Screen)
    → All (IsDrawn w.world) olds → All (IsDrawn v.world) news → find (screen_id id) olds ≡ Some s → find (screen_id id) news ≡ Some t → IsRepaint s t
    → find_session id w.world.sessions ≡ Some x → find_session id v.world.sessions ≡ Some y → PaintedBy (serving_of w olds es) (serving_of v news fs) id x y
painted_pair w v olds news es fs id x y s t od nd os nt r fx fy =
    let before : s.shown ≡ screen w.world x = shows_session w.world olds id x s od os fx in
    let after : t.shown ≡ screen v.world y = shows_session v.world news id y t nd nt fy in
    record {
      bytes = r.bytes;
      appended = pending_found v news fs id t nt ∙ r.appended ∙ ap (λ (bs : List ℕ). bs ++ r.bytes) (sym (pending_found w olds es id s os));
      draws =
          subst (λ (p : Picture). Draws (IsFaithful (cells_of p)) r.bytes (shown (screen w.world x)) (shown p)) after
          (subst (λ (p : Picture). Draws (IsFaithful (cells_of t.shown)) r.bytes (shown p) (shown t.shown)) before r.draws);
      quiet = λ same. r.quiet (before ∙ same ∙ sym after);
      bound =
          subst (λ (n : ℕ). length r.bytes ≤ bound_of n y.cols) (screen_rows v.world y)
          (subst (λ (n : ℕ). length r.bytes ≤ bound_of (screen v.world y).rows n) (screen_cols v.world y)
          (subst (λ (p : Picture). length r.bytes ≤ bound_of p.rows p.cols) after r.bound));
    }

-- each screen is drawn again in one world, and those that are late are taken out in another
pub painted_all : (w : Kept) (v : World) (u : Kept) (olds mids news : List Screen) (es fs : List (ℕ × Cause)) → map shown_size olds ≡ sizes w.world → All (IsDrawn w.world) olds → AreRedrawn v olds mids → IsServed u.world news → AreAmong news mids → Painted (serving_of w olds es) (serving_of u news fs)
painted_all w v u olds mids news es fs e od h served among = λ id x y fx fy.
    let s = screen_known w.world olds id x e fx in
    let t = screen_known u.world news id y served.sizes_are fy in
    let m = found_after v id olds mids s.0 h s.1 in
    let one : m.0 ≡ t.0 = same_some m.0 t.0 (sym m.1 ∙ among id t.0 t.1) in
    let late : t.0.late ≡ false = All-found IsOnTime (screen_id id) news t.0 served.on_time t.1 in
    painted_pair w u olds news es fs id x y s.0 t.0 od served.drawn s.1 t.1 (subst (λ (z : Screen). IsRepaint s.0 z) one (m.2.repaint (ap (λ (z : Screen). z.late) one ∙ late))) fx fy

-- one more screen comes
pub painted_opened : (w v : Kept) (xs ys : List Screen) (es fs : List (ℕ × Cause)) (z : Screen) → ys ≡ xs ++ z ∷ [] → map shown_size xs ≡ sizes w.world → All (IsDrawn w.world) xs → All (IsDrawn v.world) ys → Painted (serving_of w xs es) (serving_of v ys fs)
painted_opened w v xs ys es fs z is e od nd = λ id x y fx fy.
    let s = screen_known w.world xs id x e fx in
    let f : find (screen_id id) ys ≡ Some s.0 = ap (find (screen_id id)) is ∙ find-append (screen_id id) xs (z ∷ []) ∙ ap (λ o. option_or o (find (screen_id id) (z ∷ []))) s.1 in
    painted_pair w v xs ys es fs id x y s.0 s.0 od nd s.1 f (no_repaint s.0) fx fy

-- each shows what it showed
pub painted_same : (w v : Kept) (xs : List Screen) (es fs : List (ℕ × Cause)) → map shown_size xs ≡ sizes w.world → All (IsDrawn w.world) xs → All (IsDrawn v.world) xs → Painted (serving_of w xs es) (serving_of v xs fs)
painted_same w v xs es fs e od nd = λ id x y fx fy.
    let s = screen_known w.world xs id x e fx in
    painted_pair w v xs xs es fs id x y s.0 s.0 od nd s.1 s.1 (no_repaint s.0) fx fy

-- one is taken out
pub painted_closed : (w v : Kept) (k : ℕ) (xs ys : List Screen) (es fs : List (ℕ × Cause)) → ys ≡ remove_first (screen_id k) xs → IsUnique (map shown_size xs) → map shown_size ys ≡ sizes v.world → All (IsDrawn w.world) xs → All (IsDrawn v.world) ys → Painted (serving_of w xs es) (serving_of v ys fs)
painted_closed w v k xs ys es fs is u e od nd = λ id x y fx fy.
    let s = screen_known v.world ys id y e fy in
    painted_pair w v xs ys es fs id x y s.0 s.0 od nd (found_kept k id xs s.0 u (ap (find (screen_id id)) (sym is) ∙ s.1)) s.1 (no_repaint s.0) fx fy

-- the bytes of a screen that was first drawn paint the screen of its session
first_shown : (w : Kept) (xs : List Screen) (es : List (ℕ × Cause)) (id : ℕ) (x : Session) (s : Screen) → All (IsDrawn w.world) xs → find (screen_id id) xs ≡ Some s → find_session id w.world.sessions ≡ Some x → IsFirst s → Paints (screen w.world x) (pending_of id (serving_of w xs es))
first_shown w xs es id x s h e f p =
    subst (λ (z : Picture). Paints z (pending_of id (serving_of w xs es))) (shows_session w.world xs id x s h e f)
    (subst (Paints s.shown) (sym (pending_found w xs es id s e)) p)

found_opened : (id : ℕ) (xs : List Screen) (z : Screen) → z.id ≡ id → find_size id (map shown_size xs) ≡ None → find (screen_id id) (xs ++ z ∷ []) ≡ Some z
found_opened id xs z i n =
    find-append (screen_id id) xs (z ∷ [])
    ∙ ap (λ o. option_or o (find (screen_id id) (z ∷ []))) (none_of shown_size (find (screen_id id) xs) (sym (screen_sizes id xs) ∙ n))
    ∙ ap (λ b. cond b (Some z) None) (eq-eqb z.id id i)

-- the queues are those before and that of the new screen
pub queues_opened : (w : Kept) (xs : List Screen) (es : List (ℕ × Cause)) (z : Screen) (id : ℕ) → z.id ≡ id → find_size id (map shown_size xs) ≡ None → queues_of (xs ++ z ∷ []) ≡ queues_of xs ++ record { id = id; bytes = pending_of id (serving_of w (xs ++ z ∷ []) es) } ∷ []
queues_opened w xs es z id i n =
    map-append queue_of xs (z ∷ [])
    ∙ ap (λ (k : ℕ). queues_of xs ++ record { id = k; bytes = z.queue } ∷ []) i
    ∙ ap (λ (bs : List ℕ). queues_of xs ++ record { id = id; bytes = bs } ∷ []) (sym (pending_found w (xs ++ z ∷ []) es id z (found_opened id xs z i n)))

-- and its bytes paint its screen
pub first_opened : (w : Kept) (xs : List Screen) (es : List (ℕ × Cause)) (z : Screen) (id : ℕ) → z.id ≡ id → find_size id (map shown_size xs) ≡ None → IsDrawn w.world z → IsFirst z → (x : Session) × (find_session id w.world.sessions ≡ Some x) × Paints (screen w.world x) (pending_of id (serving_of w (xs ++ z ∷ []) es))
first_opened w xs es z id i n d p =
    let bytes : List ℕ = pending_of id (serving_of w (xs ++ z ∷ []) es) in
    let all : bytes ≡ z.queue = pending_found w (xs ++ z ∷ []) es id z (found_opened id xs z i n) in
    (d.session, ap (λ k. find_session k w.world.sessions) (sym i) ∙ d.found, subst (λ (q : Picture). Paints q bytes) d.picture (subst (Paints z.shown) (sym all) p))

-- ALL AT FIRST

-- each session's bytes paint its screen
pub first_all : (w : Kept) (xs : List Screen) (es : List (ℕ × Cause)) → map shown_size xs ≡ sizes w.world → All (IsDrawn w.world) xs → All IsFirst xs → (id : ℕ) (x : Session) → find_session id w.world.sessions ≡ Some x → Paints (screen w.world x) (pending_of id (serving_of w xs es))
first_all w xs es e h p id x f =
    let s = screen_known w.world xs id x e f in
    first_shown w xs es id x s.0 h s.1 f (All-found IsFirst (screen_id id) xs s.0 p s.1)
