-- A window comes to show rows: what it used is given up, and it is seen so.
use Rattle.std.proofs.Common.{◌≡◌, ℕ, zero, suc, ◌+◌, ◌<◌, List, [], ◌∷◌, length, map, None, refl, sym, ap, ◌∙◌, arith}
use Rattle.mgs_model.specs.Apply.{change_at}
use Rattle.mgs_model.specs.World as model
use Rattle.mgs_buffers.specs.MarkedBuffer.{MarkedBuffer}
use Rattle.mgs_windows.specs.declared.Window.{Window}
use Rattle.mgs_windows.specs.declared.RowPane.{RowPane}
use Rattle.mgs_windows.specs.Panes.{height_at, rows_at, shows_at, showing_rows, window_rows_shown}
use Rattle.mgs_session.specs.declared.Session.{Session}
use Rattle.mgs_world.specs.Sound.{IsSessionSound, IsShownSound, session_uses, sum_of, window_marks_uses, window_uses}
use Rattle.mgs_world.specs.WindowMarks.{WindowMarksDropped}
use Rattle.mgs_world.specs.Worlds.{place_of, rows_shown, session_of, window_of}
use Rattle.mgs_world.proofs.WindowMarks.{same_sizes, session_local}
use Rattle.mgs_world.proofs.Worlds.{same_positions}
use Rattle.mgs_arrange.specs.Arranged.{left_by, listing_for, window_lists}
use Rattle.mgs_arrange.specs.Arranging.{Rearranged}
use Rattle.mgs_arrange.specs.Listing.{IsFromStart}
use Rattle.mgs_arrange.proofs.WindowsGone.{after_uses, height_shown, map_changed, places_seen, window_seen}
use Rattle.mgs_arrange.proofs.WindowShown.{given_up}

abbrev pub rows_session : RowPane → Session → Session
rows_session rows x = record x { windows = window_rows_shown rows x.windows }

-- THE MARKS THAT ARE USED

there_uses : (m : List ℕ) (i : ℕ) (rows : RowPane) (k : ℕ) (xs : List Window) → k < length xs → sum_of (window_uses m i) (change_at k (showing_rows rows) xs) + window_marks_uses m i (shows_at k xs) ≡ sum_of (window_uses m i) xs
there_uses m i rows k [] within = absurd (omega (arith, within))
there_uses m i rows zero (x ∷ xs) within = omega arith
there_uses m i rows (suc k) (x ∷ xs) within = omega (arith, there_uses m i rows k xs (omega (arith, within)))

came_uses : (m : List ℕ) (i : ℕ) (rows : RowPane) (x : Session) → x.windows.selected < length x.windows.windows → session_uses m i (rows_session rows x) + window_marks_uses m i (given_up x) ≡ session_uses m i x
came_uses m i rows x within =
    omega (arith, there_uses m i rows x.windows.selected x.windows.windows within, after_uses m i (shows_at x.windows.selected x.windows.windows) x.windows.places)

-- SEEN

-- the window that comes
comer_seen : (ks : List MarkedBuffer) (rows : RowPane) → IsFromStart rows → (w : Window) → window_of ks (showing_rows rows w) ≡ listing_for (rows_shown rows) (window_of ks w)
comer_seen ks rows start w =
    λ t. record { shows = rows_shown rows; point = 0; mark = None; top = 0; row = start t; height = sym (height_shown ks w.height w.shows w.rows) t }

lists_seen : (ks : List MarkedBuffer) (rows : RowPane) (x : Session) → IsFromStart rows → x.windows.selected < length x.windows.windows → session_of ks (rows_session rows x) ≡ window_lists (rows_shown rows) (session_of ks x)
lists_seen ks rows x start within =
    let k = x.windows.selected in
    let xs = x.windows.windows in
    same_positions (session_of ks x) _ _ _ _ _ _
    (map_changed (window_of ks) (showing_rows rows) (listing_for (rows_shown rows)) k xs (comer_seen ks rows start))
    (places_seen ks (height_at k xs) (shows_at k xs) (rows_at k xs) x.windows.places
    ∙ ap (λ (w : model.Window). left_by w (map (place_of ks) x.windows.places)) (sym (window_seen ks k xs within)))
    refl

module _ (ks ls : List MarkedBuffer) (rows : RowPane) (x : Session) (within : x.windows.selected < length x.windows.windows) (sound : IsSessionSound ks x) where
  -- the place that is given up was used
  pub left_sound : IsShownSound ks (given_up x)
  left_sound = record { once = λ m i. omega (arith, sound.once m i, came_uses m i rows x within) }

  module _ (dropped : WindowMarksDropped (given_up x) ks ls) where
    pub rows_rearranged : Rearranged ks ls x (rows_session rows x)
    rows_rearranged = record { buffers = dropped.buffers; uses = λ m i. omega (arith, came_uses m i rows x within, dropped.uses m i); stay = λ m i state. dropped.stay m i; size = refl }

    pub rows_seen : IsFromStart rows → session_of ls (rows_session rows x) ≡ window_lists (rows_shown rows) (session_of ks x)
    rows_seen start =
        session_local ls ks (rows_session rows x) (same_sizes ks ls dropped.buffers)
        (λ n i used. dropped.stay n i (omega (arith, used, came_uses n i rows x within, sound.once n i)) (omega (arith, used, came_uses n i rows x within, sound.once n i, dropped.uses n i)))
        ∙ lists_seen ks rows x start within
