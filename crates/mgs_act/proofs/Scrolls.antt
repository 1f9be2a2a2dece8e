-- The selected window, which shows a list, comes to other rows of it.
use Rattle.std.proofs.Common.{◌≡◌, ℕ, zero, suc, ◌<◌, List, [], ◌∷◌, length, map, Option, Some, None, refl, sym, ap, subst, ◌∙◌, map-id, arith}
use Rattle.std.specs.Prelude.{slice_get, slice_set}
use Rattle.std.specs.List.{position_or_len}
use Rattle.std.specs.Option.{option_and_then}
use Rattle.std.proofs.lemmas.Option.{get_or_from_slice_get}
use Rattle.mgs_model.specs.Access.{Directory}
use Rattle.mgs_model.specs.World.{has_id}
use Rattle.mgs_model.specs.World as model
use Rattle.mgs_model.specs.Outcome.{Keep_position, Keep_mark}
use Rattle.mgs_model.specs.Plans.{row_scrolled}
use Rattle.mgs_model.specs.Acts.{scrolls_rows}
use Rattle.mgs_model.specs.Apply.{apply, change_at, change_first, session_arranged, window_adjusted}
use Rattle.mgs_laws.specs.Apart.{touched_by}
use Rattle.mgs_model.specs.declared.session.Kind.TheVariants.{Other}
use Rattle.mgs_model.specs.declared.session.Scrolling.{Scrolling}
use Rattle.mgs_model.specs.declared.touched.Touched.TheVariants.{Nowhere}
use Rattle.mgs_model.proofs.Firsts.{position_or_len-map, written_first}
use Rattle.mgs_buffers.specs.MarkedBuffer.{MarkedBuffer}
use Rattle.mgs_windows.specs.declared.WindowMarks.{WindowMarks}
use Rattle.mgs_windows.specs.declared.Window.{Window}
use Rattle.mgs_windows.specs.declared.RowPane.{RowPane}
use Rattle.mgs_windows.specs.declared.RowPane.TheVariants.{NoRows, Buffers, Entries}
use Rattle.mgs_windows.specs.Panes.{rows_set}
use Rattle.mgs_session.specs.Sessions.{acted}
use Rattle.mgs_session.specs.declared.Session.{Session}
use Rattle.mgs_arrange.proofs.WindowsGone.{sum_changed}
use Rattle.mgs_plan.specs.Rows.{CanScroll, pane_scrolled, rows_outcome, rows_scrolled, session_rows}
use Rattle.mgs_act.proofs.Done.{fresh_acted}
use Rattle.mgs_world.specs.Sound.{session_uses, window_uses}
use Rattle.mgs_world.specs.Worlds.{id_after, idle, state_of, session_id, session_of, window_of, window_shown, world_of}
use Rattle.mgs_world.proofs.Owns.{search_kept}
use Rattle.mgs_world.proofs.Worlds.{same_world}

-- no mark moves
pub rows_uses : (rows : RowPane) (h : Session) (n : List ℕ) (i : ℕ) → session_uses n i (acted Other (session_rows rows h)) ≡ session_uses n i h
rows_uses rows h n i = let same = sum_changed (window_uses n i) (rows_set rows) h.windows.selected h.windows.windows (λ w. refl) in omega (arith, same)

-- THE WINDOWS

changed_there : {A B : Type 0} (F : A → B) (f : A → A) (g : B → B) (k : ℕ) (xs : List A) (x : A) → slice_get xs k ≡ Some x → F (f x) ≡ g (F x) → map F (change_at k f xs) ≡ change_at k g (map F xs)
changed_there F f g k [] x is does = refl
changed_there F f g zero (y ∷ ys) x is does =
    let same : x ≡ y = cc in ap (λ z. z ∷ map F ys) (subst (λ z. F (f z) ≡ g (F z)) same does)
changed_there F f g (suc k) (y ∷ ys) x is does = ap (λ zs. F y ∷ zs) (changed_there F f g k ys x is does)

abbrev row_by : ℕ → model.Window → model.Window
row_by row w = window_adjusted None Keep_position Keep_mark Keep_position (Some row) w

-- a window without a text
row_seen : (ks : List MarkedBuffer) (rows : RowPane) (row : ℕ) (w : Window) → w.shows ≡ None → window_shown ks w.height None rows ≡ row_by row (window_shown ks w.height None w.rows) → window_of ks (rows_set rows w) ≡ row_by row (window_of ks w)
row_seen ks rows row w none does =
    ap (λ (o : Option WindowMarks). window_shown ks w.height o rows) none
    ∙ does
    ∙ sym (ap (λ (o : Option WindowMarks). row_by row (window_shown ks w.height o w.rows)) none)

-- THE SESSION

module _ (directory : Directory) (ks : List MarkedBuffer) (xs : List Session) (next : Option ℕ) (id at : ℕ) (h : Session) (place : at ≡ position_or_len (session_id id) xs) (within : at < length xs) (found : slice_get xs at ≡ Some h) (fresh : state_of h.state ≡ idle (state_of h.state)) where
  rows_so : (w : Window) (rows : RowPane) (row : ℕ) → slice_get h.windows.windows h.windows.selected ≡ Some w → w.shows ≡ None → window_shown ks w.height None rows ≡ row_by row (window_shown ks w.height None w.rows)
      → world_of directory ks (slice_set xs at (acted Other (session_rows rows h))) next ≡ apply (world_of directory ks xs next) id (scrolls_rows (state_of h.state) (Some row))
  rows_so w rows row is none does =
      let f = session_arranged (scrolls_rows (state_of h.state) (Some row)) in
      same_world directory _ _ _ _ (id_after next) refl
      (written_first (session_of ks) (has_id id) f xs at h (acted Other (session_rows rows h)) (place ∙ sym (position_or_len-map (session_of ks) (has_id id) xs)) within (sym (get_or_from_slice_get xs at h h found))
      (λ i. record (session_of ks h) {
        state = fresh_acted h.state fresh i;
        windows = changed_there (window_of ks) (rows_set rows) (row_by row) h.windows.selected h.windows.windows w is (row_seen ks rows row w none does) i;
        search = search_kept ks h fresh i;
      })
      ∙ ap (change_first (has_id id) f) (sym (map-id (map (session_of ks) xs))))

  by_rows : (c : Scrolling) (w : Window) (pane rows : RowPane) → slice_get h.windows.windows h.windows.selected ≡ Some w → w.shows ≡ None → w.rows ≡ pane → pane_scrolled c w.height pane ≡ Some rows
      → world_of directory ks (slice_set xs at (acted Other (session_rows rows h))) next ≡ apply (world_of directory ks xs next) id (rows_outcome (state_of h.state) rows)
  by_rows c w NoRows rows is none e scrolled = cc
  by_rows c w (Buffers row) rows is none e scrolled =
      let top = row_scrolled c row w.height in
      let same : Buffers top ≡ rows = cc in
      subst (λ (r : RowPane). world_of directory ks (slice_set xs at (acted Other (session_rows r h))) next ≡ apply (world_of directory ks xs next) id (rows_outcome (state_of h.state) r)) same
      (rows_so w (Buffers top) top is none (sym (ap (λ (r : RowPane). row_by top (window_shown ks w.height None r)) e)))
  by_rows c w (Entries name row) rows is none e scrolled =
      let top = row_scrolled c row w.height in
      let same : Entries name top ≡ rows = cc in
      subst (λ (r : RowPane). world_of directory ks (slice_set xs at (acted Other (session_rows r h))) next ≡ apply (world_of directory ks xs next) id (rows_outcome (state_of h.state) r)) same
      (rows_so w (Entries name top) top is none (sym (ap (λ (r : RowPane). row_by top (window_shown ks w.height None r)) e)))

  by_window : (s : Option Scrolling) (o : Option Window) (rows : RowPane) → slice_get h.windows.windows h.windows.selected ≡ o → option_and_then (λ (w : Window). w.shows) o ≡ None → rows_scrolled s o ≡ Some rows
      → world_of directory ks (slice_set xs at (acted Other (session_rows rows h))) next ≡ apply (world_of directory ks xs next) id (rows_outcome (state_of h.state) rows)
  by_window (Some c) (Some w) rows is none scrolled = by_rows c w w.rows rows is none refl scrolled
  by_window _ _ rows is none scrolled = cc

  pub scrolled_so : (rows : RowPane) → CanScroll h rows → world_of directory ks (slice_set xs at (acted Other (session_rows rows h))) next ≡ apply (world_of directory ks xs next) id (rows_outcome (state_of h.state) rows)
  scrolled_so rows can = by_window can.by (slice_get h.windows.windows h.windows.selected) rows refl can.unshown can.scrolled

pub rows_quiet : (state : model.State) (rows : RowPane) → touched_by (rows_outcome state rows).effect ≡ Nowhere
rows_quiet state NoRows = refl
rows_quiet state _ = refl
