-- The screens of open sessions, and the worlds that they are drawn from.
use Rattle.std.specs.Prelude.{◌≡◌, ℕ, ◌≤◌, Bool, false, cond, find, nat_eq, slice_get, List, [], ◌∷◌, ◌++◌, Option, Some, map, length}
use Rattle.std.specs.List.{filter}
use Rattle.mgs_world.specs.declared.size.Size.{Size}
use Rattle.mgs_world.specs.Worlds.{find_size}
use Rattle.mgs_model.specs.declared.touched.Touched.{Touched}
use Rattle.mgs_core.specs.Calls.{differs_at}
use Rattle.mgs_model.specs.World.{World, Session, find_session}
use Rattle.mgs_model.specs.Draw.{screen}
use Rattle.mgs_model.specs.Picture.{Picture}
use Rattle.mgs_laws.specs.Apart.{is_anywhere}
use Rattle.mgs_grid.specs.RowSets.{AreSameApart}
use Rattle.mgs_screen.specs.TextsDrawn.{AreStanding}
use Rattle.mgs_screen.specs.declared.drawn_texts.DrawnText.{DrawnText}
use Rattle.mgs_paint.specs.Painting.{Paints, bound_of, cells_of, shown}
use Rattle.mgs_term.specs.Drawing.{Draws, IsFaithful}
use Rattle.mgs_engine.specs.declared.session_screen.Screen.{Screen}
use Rattle.mgs_engine.specs.Queues.{IsTaken, Queue}
use Rattle.mgs_engine.specs.Slow.{falls_behind}

abbrev pub queue_of : Screen → Queue
queue_of x = record { id = x.id; bytes = x.queue }

abbrev pub queues_of : List Screen → List Queue
queues_of xs = map queue_of xs

abbrev pub screen_id : ℕ → Screen → Bool
screen_id id x = nat_eq x.id id

-- the size of what the terminal shows
abbrev pub shown_size : Screen → Size
shown_size x = record { id = x.id; rows = x.shown.rows; cols = x.shown.cols }

-- the texts that are drawn, as they are seen
abbrev pub Texts : Type 0
Texts = List (Option DrawnText)

-- what is left of them behind an event that touched this
abbrev pub texts_left : Touched → Texts → Texts
texts_left touched texts = cond (is_anywhere touched) [] texts

-- what a terminal shows, and what it is drawn again from
pub record Drawn : Type 0 where
  pub id : ℕ
  pub picture : Picture
  pub next : Picture
  pub texts : Texts
  pub late : Bool

abbrev pub drawn_of : Screen → Drawn
drawn_of x = record { id = x.id; picture = x.shown; next = x.next; texts = x.drawn_texts; late = x.late }

-- both grids have one size
pub record IsSessionScreen (x : Screen) : Type 0 where
  pub rows : x.next.rows ≡ x.shown.rows
  pub cols : x.next.cols ≡ x.shown.cols

-- its session did not fall behind
abbrev pub IsOnTime : Screen → Type 0
IsOnTime x = x.late ≡ false

abbrev pub is_late : Screen → Bool
is_late x = x.late

-- the sessions that fell behind
abbrev pub late_ids : List Screen → List ℕ
late_ids xs = map (λ (x : Screen). x.id) (filter is_late xs)

-- the world knows the screen, and in this size
abbrev pub IsKnown : List Size → Screen → Type 0
IsKnown ss x = find_size x.id ss ≡ Some (shown_size x)

-- The terminal shows what the world has for the session of its id. Both grids are the same, and the drawn texts are those of what is shown: its
-- texts have become what the world has.
pub record IsDrawn (w : World) (x : Screen) : Type 0 where
  pub session : Session
  pub found : find_session x.id w.sessions ≡ Some session
  pub picture : x.shown ≡ screen w session
  pub level : x.next ≡ x.shown
  pub stands : AreStanding w.buffers x.shown x.drawn_texts

-- so much of it is needed to draw a screen again
pub record IsReady (w : World) (x : Screen) : Type 0 where
  pub level : x.next ≡ x.shown
  pub stands : AreStanding w.buffers x.shown x.drawn_texts

-- and behind an event: where that touched anything, no drawn text is left
pub record IsReadyApart (w : World) (touched : Touched) (x : Screen) : Type 0 where
  pub level : x.next ≡ x.shown
  pub stands : is_anywhere touched ≡ false → AreStanding w.buffers x.shown x.drawn_texts

-- the screens of sessions, by their places, that an event of this session cannot have changed, are what the world has
abbrev pub AreDrawnApart : World → Touched → ℕ → List Screen → Type 0
AreDrawnApart w touched id xs = (at : ℕ) (x : Screen) → slice_get xs at ≡ Some x → differs_at touched id at w ≡ false → IsDrawn w x

-- Only what is to be shown next was drawn, for the session of its id, and the drawn texts are those of that. It is the same as what is shown but
-- for these rows.
pub record IsAhead (w : World) (old new : Screen) (rows : List Bool) : Type 0 where
  pub session : Session
  pub found : find_session old.id w.sessions ≡ Some session
  pub same : new ≡ record old { next = screen w session; drawn_texts = new.drawn_texts }
  pub stands : AreStanding w.buffers new.next new.drawn_texts
  pub apart : AreSameApart rows new.shown.lines new.next.lines

-- what was appended to the bytes draws what is shown now over what was shown before; where that is the same nothing was
pub record IsRepaint (old new : Screen) : Type 0 where
  pub id : new.id ≡ old.id
  pub bytes : List ℕ
  pub appended : new.queue ≡ old.queue ++ bytes
  pub draws : Draws (IsFaithful (cells_of new.shown)) bytes (shown old.shown) (shown new.shown)
  pub quiet : old.shown ≡ new.shown → bytes ≡ []
  pub bound : length bytes ≤ bound_of new.shown.rows new.shown.cols

-- A screen was drawn again where an event can have changed it: it is late exactly where it changed and its paint may not
-- have room. Else it was repainted, and is what the world has.
pub record IsRedrawn (w : World) (old new : Screen) : Type 0 where
  pub id : new.id ≡ old.id
  pub session : Session
  pub found : find_session old.id w.sessions ≡ Some session
  pub late : new.late ≡ falls_behind (length old.queue) old.shown (screen w session)
  pub prompt : IsTaken (queue_of old) → new.late ≡ false
  pub repaint : new.late ≡ false → IsRepaint old new
  pub drawn : new.late ≡ false → IsDrawn w new

-- each of the screens
abbrev pub AreRedrawn : World → List Screen → List Screen → Type 0
AreRedrawn w [] [] = Unit {0}
AreRedrawn w [] (y ∷ ys) = ⊥
AreRedrawn w (x ∷ xs) [] = ⊥
AreRedrawn w (x ∷ xs) (y ∷ ys) = IsRedrawn w x y × AreRedrawn w xs ys

-- what is found of the ones is found of the others
abbrev pub AreAmong : List Screen → List Screen → Type 0
AreAmong xs ys = (id : ℕ) (x : Screen) → find (screen_id id) xs ≡ Some x → find (screen_id id) ys ≡ Some x

-- the bytes that wait paint what is shown, whatever the terminal showed
abbrev pub IsFirst : Screen → Type 0
IsFirst x = Paints x.shown x.queue
