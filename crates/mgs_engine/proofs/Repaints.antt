-- Screens that are drawn and painted.
use Rattle.std.proofs.Common.{◌≡◌, ℕ, zero, suc, ◌+◌, ◌<◌, ◌≤◌, List, [], ◌∷◌, ◌++◌, length, get_or, set, take, drop, map, Bool, not, true, false, cond, Some, None, refl, sym, ap, subst, ◌∙◌, arith}
use Rattle.std.specs.Prelude.{slice_get, All}
use Rattle.std.proofs.lemmas.Option.{get_or_from_slice_get, slice_get_within}
use Rattle.std.proofs.lemmas.List.{append-nil, map-append, length_push, take_more, take_more_set, take_all}
use Rattle.std.proofs.lemmas.List.Elements.{All-cons, All-nil}
use Rattle.mgs_laws.specs.Apart.{is_anywhere}
use Rattle.mgs_model.specs.Picture.{Picture}
use Rattle.mgs_model.specs.declared.touched.Touched.{Touched}
use Rattle.mgs_model.specs.World.{World, Session, find_session}
use Rattle.mgs_model.specs.Draw.{screen, draw}
use Rattle.mgs_term.specs.Drawing.{Draws, IsFaithful}
use Rattle.mgs_paint.specs.Painting.{Paints, bound_of, cells_of, shown}
use Rattle.mgs_paint.specs.Repainting.{Repaints}
use Rattle.mgs_paint.proofs.Changing.{Draws-faithful}
use Rattle.mgs_screen.specs.TextsDrawn.{AreStanding}
use Rattle.mgs_screen.proofs.TextsDrawn.{standing_none}
use Rattle.mgs_world.specs.declared.size.Size.{Size}
use Rattle.mgs_world.specs.Worlds.{find_size, sizes, IsOfSize, IsUnique}
use Rattle.mgs_world.specs.Worlds as core
use Rattle.mgs_engine.specs.declared.session_screen.Screen.{Screen}
use Rattle.mgs_engine.specs.Queues.{IsTaken}
use Rattle.mgs_engine.specs.Screens.{queue_of, shown_size, texts_left, Texts, IsSessionScreen, IsKnown, IsDrawn, IsReady, IsReadyApart, IsAhead, IsOnTime, IsRedrawn, IsRepaint, AreRedrawn, IsFirst}
use Rattle.mgs_engine.specs.Served.{IsDrawnInTime}
use Rattle.mgs_engine.specs.Slow.{falls_behind, same_picture}
use Rattle.mgs_core.proofs.Ids.{found_sizes, known_at, same_some, some_of}
use Rattle.mgs_engine.proofs.ScreenLemmas.{rest_at}
use Rattle.mgs_engine.proofs.Pictures.{not_behind, picture_Decides}

-- SIZES

-- a size, by its rows and its columns
pub same_size : (id rows cols r c : ℕ) → r ≡ rows → c ≡ cols → let y : Size = record { id = id; rows = rows; cols = cols } in let z : Size = record { id = id; rows = r; cols = c } in z ≡ y
same_size id rows cols r c e d =
    let of : ℕ → ℕ → Size = λ a b. record { id = id; rows = a; cols = b } in
    ap (λ a. of a c) e ∙ ap (λ b. of rows b) d

-- WHAT IS FOUND

-- the session of a screen
pub session_known : (w : World) (x : Screen) → IsKnown (sizes w) x → (s : Session) × (find_session x.id w.sessions ≡ Some s) × (core.session_size s ≡ shown_size x)
session_known w x h = some_of core.session_size (find_session x.id w.sessions) (shown_size x) (sym (found_sizes x.id w) ∙ h)

-- ONE SCREEN

-- the size of what is drawn is the session's
pub screen_rows : (w : World) (x : Session) → (screen w x).rows ≡ x.rows
unfolding draw
screen_rows w x = refl

pub screen_cols : (w : World) (x : Session) → (screen w x).cols ≡ x.cols
unfolding draw
screen_cols w x = refl

pub ahead_screen : (w : World) (old new : Screen) (rows : List Bool) → IsKnown (sizes w) old → IsAhead w old new rows → IsSessionScreen old → IsSessionScreen new
ahead_screen w old new rows k h s =
    let known = session_known w old k in
    let same : known.0 ≡ h.session = same_some known.0 h.session (sym known.1 ∙ h.found) in
    let size : core.session_size h.session ≡ shown_size old = ap core.session_size (sym same) ∙ known.2 in
    subst IsSessionScreen (sym h.same)
    (record {
      rows = screen_rows w h.session ∙ ap (λ (z : Size). z.rows) size;
      cols = screen_cols w h.session ∙ ap (λ (z : Size). z.cols) size;
    })

-- a paint of what changes draws what comes next over what is shown
pub paint_repaint : (old new : Screen) (bytes : List ℕ) → new.id ≡ old.id → new.shown ≡ old.next → new.queue ≡ old.queue ++ bytes → Repaints old.shown old.next bytes → IsRepaint old new
paint_repaint old new bytes i e a h = record {
  id = i;
  bytes = bytes;
  appended = a;
  draws =
      subst (λ (z : Picture). Draws (IsFaithful (cells_of z)) bytes (shown old.shown) (shown z)) (sym e)
      (Draws-faithful old.shown old.next bytes (shown old.shown) (shown old.next) h.draws);
  quiet = λ same. h.quiet (same ∙ e);
  bound = subst (λ (z : Picture). length bytes ≤ bound_of z.rows z.cols) (sym e) h.bounded;
}

pub paint_first : (old new : Screen) (bytes : List ℕ) → IsTaken (queue_of old) → new.shown ≡ old.next → new.queue ≡ old.queue ++ bytes → Paints old.next bytes → IsFirst new
paint_first old new bytes t e a h =
    let all : new.queue ≡ bytes = a ∙ ap (λ bs. bs ++ bytes) t in
    subst (Paints new.shown) (sym all) (subst (λ (z : Picture). Paints z bytes) (sym e) h)

-- where a screen is as it was, nothing is painted
pub no_repaint : (x : Screen) → IsRepaint x x
no_repaint x = record {
  id = refl;
  bytes = [];
  appended = sym (append-nil x.queue);
  draws = ([], refl, refl);
  quiet = λ same. refl;
  bound = omega arith;
}

not_twice : (b : Bool) → not (not b) ≡ b
not_twice true = refl
not_twice false = refl

-- a screen that may be late and is not shows what was drawn: that is what it showed
pub marked_shown : (old new : Screen) → new ≡ record old { late = not (same_picture old.shown old.next) } → new.late ≡ false → new.shown ≡ old.next
marked_shown old new e l =
    let same : same_picture old.shown old.next ≡ true = sym (not_twice (same_picture old.shown old.next)) ∙ ap not (sym (ap (λ (x : Screen). x.late) e) ∙ l) in
    ap (λ (x : Screen). x.shown) e ∙ (picture_Decides old.shown old.next).0 same

-- and else it is painted
pub ahead_repaint : (w : World) (old mid new : Screen) (rows : List Bool) → IsAhead w old mid rows → IsRepaint mid new → IsRepaint old new
ahead_repaint w old mid new rows h r = record {
  id = r.id ∙ ap (λ (z : Screen). z.id) h.same;
  bytes = r.bytes;
  appended = r.appended ∙ ap (λ (z : Screen). z.queue ++ r.bytes) h.same;
  draws = subst (λ (z : Picture). Draws (IsFaithful (cells_of new.shown)) r.bytes (shown z) (shown new.shown)) (ap (λ (z : Screen). z.shown) h.same) r.draws;
  quiet = λ same. r.quiet (ap (λ (z : Screen). z.shown) h.same ∙ same);
  bound = r.bound;
}

pub ahead_drawn : (w : World) (old mid new : Screen) (rows : List Bool) → IsAhead w old mid rows → shown_size new ≡ shown_size mid → new.shown ≡ mid.next → new.next ≡ mid.next → new.drawn_texts ≡ mid.drawn_texts → IsDrawn w new
ahead_drawn w old mid new rows h s e n t = record {
  session = h.session;
  found = ap (λ (z : Size). find_session z.id w.sessions) s ∙ ap (λ (z : Screen). find_session z.id w.sessions) h.same ∙ h.found;
  picture = e ∙ ap (λ (z : Screen). z.next) h.same;
  level = n ∙ sym e;
  stands =
      subst (λ (p : Picture). AreStanding w.buffers p new.drawn_texts) (sym e)
      (subst (λ (ts : Texts). AreStanding w.buffers mid.next ts) (sym t) h.stands);
}

-- DRAWN AGAIN

-- a blank screen is ready
pub ready_blank : (w : World) (x : Screen) → x.next ≡ x.shown → x.drawn_texts ≡ [] → IsReady w x
ready_blank w x level none = record { level = level; stands = subst (AreStanding w.buffers x.shown) (sym none) (standing_none w.buffers x.shown) }

-- and any that was drawn, without the texts that an event can have changed
pub ready_left : (w : World) (t : Touched) (x y : Screen) → IsReadyApart w t x → y ≡ record x { drawn_texts = texts_left t x.drawn_texts } → IsReady w y
ready_left w t x y h e = subst (IsReady w) (sym e) (record { level = h.level; stands = go (is_anywhere t) refl })
  where
    go : (b : Bool) → is_anywhere t ≡ b → AreStanding w.buffers x.shown (cond b [] x.drawn_texts)
    go true any = standing_none w.buffers x.shown
    go false state = h.stands state

pub screen_left : (ts : Texts) (x y : Screen) → IsSessionScreen x → y ≡ record x { drawn_texts = ts } → IsSessionScreen y
screen_left ts x y h e = subst IsSessionScreen (sym e) (record { rows = h.rows; cols = h.cols })

pub ahead_left : (w : World) (ts : Texts) (x y new : Screen) (rows : List Bool) → y ≡ record x { drawn_texts = ts } → IsAhead w y new rows → IsAhead w x new rows
ahead_left w ts x y new rows e h = record {
  session = h.session;
  found = ap (λ (z : Screen). find_session z.id w.sessions) (sym e) ∙ h.found;
  same = h.same ∙ ap (λ (z : Screen). record z { next = screen w h.session; drawn_texts = new.drawn_texts }) e;
  stands = h.stands;
  apart = h.apart;
}

pub ahead_redrawn : (w : World) (old mid new : Screen) (rows : List Bool) → IsAhead w old mid rows → shown_size new ≡ shown_size mid → new.late ≡ falls_behind (length mid.queue) mid.shown mid.next
    → (new.late ≡ false → new.shown ≡ mid.next) → new.next ≡ mid.next → new.drawn_texts ≡ mid.drawn_texts → (new.late ≡ false → IsRepaint mid new) → (IsTaken (queue_of mid) → new.late ≡ false) → IsRedrawn w old new
ahead_redrawn w old mid new rows h s late shows next texts repaint prompt = record {
  id = ap (λ (z : Size). z.id) s ∙ ap (λ (z : Screen). z.id) h.same;
  session = h.session;
  found = h.found;
  late = late ∙ ap (λ (z : Screen). falls_behind (length z.queue) z.shown z.next) h.same;
  prompt = λ t. prompt (ap (λ (z : Screen). z.queue) h.same ∙ t);
  repaint = λ l. ahead_repaint w old mid new rows h (repaint l);
  drawn = λ l. ahead_drawn w old mid new rows h s (shows l) next texts;
}

-- a screen that is what the world has is left alone
pub still_redrawn : (w : World) (x : Screen) → IsDrawn w x → IsOnTime x → IsRedrawn w x x
still_redrawn w x d t = record {
  id = refl;
  session = d.session;
  found = d.found;
  late = t ∙ sym (not_behind (length x.queue) x.shown (screen w d.session) d.picture);
  prompt = λ e. t;
  repaint = λ l. no_repaint x;
  drawn = λ l. d;
}

-- ALL SCREENS

redrawn_push : (w : World) (xs ys : List Screen) (x y : Screen) → AreRedrawn w xs ys → IsRedrawn w x y → AreRedrawn w (xs ++ x ∷ []) (ys ++ y ∷ [])
redrawn_push w [] [] x y h r = (r, tt)
redrawn_push w [] (b ∷ bs) x y h r = absurd h
redrawn_push w (a ∷ us) [] x y h r = absurd h
redrawn_push w (a ∷ us) (b ∷ bs) x y h r = (h.0, redrawn_push w us bs x y h.1 r)

-- one more is drawn again
pub redrawn_next : (w : World) (xs ys : List Screen) (i : ℕ) (d y : Screen) → i < length xs → i < length ys → drop i xs ≡ drop i ys → AreRedrawn w (take i ys) (take i xs) → IsRedrawn w (get_or xs i d) y → AreRedrawn w (take (i + 1) ys) (take (i + 1) (set xs i y))
redrawn_next w xs ys i d y l m e h r =
    let q : IsRedrawn w (get_or ys i d) y = subst (λ (x : Screen). IsRedrawn w x y) (rest_at xs ys i d e) r in
    subst (λ zs. AreRedrawn w zs (take (i + 1) (set xs i y))) (sym (take_more ys i d m))
    (subst (AreRedrawn w (take i ys ++ get_or ys i d ∷ [])) (sym (take_more_set xs i y l))
    (redrawn_push w (take i ys) (take i xs) (get_or ys i d) y h q))

pub redrawn_all : (w : World) (xs ys : List Screen) (i : ℕ) → length xs ≤ i → length ys ≤ i → AreRedrawn w (take i ys) (take i xs) → AreRedrawn w ys xs
redrawn_all w xs ys i l m h =
    subst (λ zs. AreRedrawn w zs xs) (take_all i ys m) (subst (AreRedrawn w (take i ys)) (take_all i xs l) h)

-- those that are not late are what the world has
pub in_time : (w : World) (xs ys : List Screen) → AreRedrawn w xs ys → All (IsDrawnInTime w) ys
in_time w [] [] h = All-nil (IsDrawnInTime w)
in_time w [] (y ∷ ys) h = absurd h
in_time w (x ∷ xs) [] h = absurd h
in_time w (x ∷ xs) (y ∷ ys) h = All-cons (IsDrawnInTime w) y ys h.0.drawn (in_time w xs ys h.1)

-- ALL AT FIRST

-- what the world tells at a place it knows by its id
pub told_known : (ss : List Size) (i : ℕ) (z : Size) → IsUnique ss → slice_get ss i ≡ Some z → find_size z.id ss ≡ Some z
told_known ss i z u e = known_at ss i z u e

-- and it has a size
pub told_size : (ss : List Size) (i : ℕ) (z : Size) → All IsOfSize ss → slice_get ss i ≡ Some z → IsOfSize z
told_size ss i z h e = subst IsOfSize (get_or_from_slice_get ss i z z e) (h i z (slice_get_within ss i z e))

-- one more screen
pub sizes_next : (ss : List Size) (xs : List Screen) (y : Screen) (z : Size) → map shown_size xs ≡ take (length xs) ss → slice_get ss (length xs) ≡ Some z → shown_size y ≡ z → map shown_size (xs ++ y ∷ []) ≡ take (length (xs ++ y ∷ [])) ss
sizes_next ss xs y z e t is =
    map-append shown_size xs (y ∷ [])
    ∙ ap (λ zs. zs ++ shown_size y ∷ []) e
    ∙ ap (λ (s : Size). take (length xs) ss ++ s ∷ []) (is ∙ sym (get_or_from_slice_get ss (length xs) z z t))
    ∙ sym (take_more ss (length xs) z (slice_get_within ss (length xs) z t))
    ∙ ap (λ n. take n ss) (sym (length_push xs y))

past_all : (ss : List Size) (n : ℕ) → slice_get ss n ≡ None → length ss ≤ n
past_all [] n e = omega arith
past_all (z ∷ zs) zero e = cc
past_all (z ∷ zs) (suc n) e = omega (arith, past_all zs n e)

pub sizes_whole : (ss : List Size) (xs : List Screen) → map shown_size xs ≡ take (length xs) ss → slice_get ss (length xs) ≡ None → map shown_size xs ≡ ss
sizes_whole ss xs e n = e ∙ take_all (length xs) ss (past_all ss (length xs) n)
