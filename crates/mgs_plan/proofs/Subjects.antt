-- The buffer that a command on access lists or owners is about, as its user sees it.
use Rattle.std.proofs.Common.{◌≡◌, ℕ, Bool, true, false, cond, List, [], map, Option, Some, None, refl, ap, ◌∙◌}
use Rattle.std.specs.Prelude.{slice_get, IfSome}
use Rattle.std.specs.Option.{option_and_then, option_map}
use Rattle.std.proofs.lemmas.Option.{slice_get-map}
use Rattle.mgs_model.specs.Access.{Directory}
use Rattle.mgs_model.specs.View.{BufferSeen, WindowSeen, buffer_seen, find_seen, reads, view, window_seen}
use Rattle.mgs_model.specs.Acts.{name_shown, subject}
use Rattle.mgs_buffers.specs.MarkedBuffer.{HasBuffer, MarkedBuffer, has_buffer, marked_at}
use Rattle.mgs_windows.specs.declared.WindowMarks.{WindowMarks}
use Rattle.mgs_windows.specs.declared.Window.{Window}
use Rattle.mgs_windows.specs.declared.RowPane.{RowPane}
use Rattle.mgs_windows.specs.declared.RowPane.TheVariants.{NoRows, Buffers, Entries}
use Rattle.mgs_session.specs.Sessions.{subject_in, subject_of}
use Rattle.mgs_session.specs.declared.Session.{Session}
use Rattle.mgs_plan.specs.Subjects.{subject_kept}
use Rattle.mgs_world.specs.Worlds.{buffers_of, session_of, window_of, window_shown, world_of}
use Rattle.mgs_world.proofs.Found.{found_seen, unseen}

-- it is there
pub kept_subject : (ks : List MarkedBuffer) (o : Option (List ℕ)) → IfSome (subject_kept ks o) (λ name. HasBuffer name ks)
kept_subject ks None = tt
kept_subject ks (Some name) = go (has_buffer name ks) refl
  where
    go : (b : Bool) → has_buffer name ks ≡ b → IfSome (cond b (Some name) None) (λ n. HasBuffer n ks)
    go true e = e
    go false e = tt

-- what is seen of it
abbrev pub subject_told : Directory → List MarkedBuffer → List ℕ → Option (List ℕ) → Option BufferSeen
subject_told directory ks user None = None
subject_told directory ks user (Some name) = Some (buffer_seen directory user (marked_at name ks).buffer)

pub subject_seen : (directory : Directory) (ks : List MarkedBuffer) (xs : List Session) (next : Option ℕ) (h : Session) → has_buffer [] ks ≡ false
    → subject (view (world_of directory ks xs next) (session_of ks h)) ≡ subject_told directory ks h.user (subject_kept ks (subject_of h))
subject_seen directory ks xs next h unnamed =
    let ws = h.windows.windows in
    ap (option_and_then (λ (x : WindowSeen). find_seen (name_shown x.shows) bs))
    (slice_get-map (window_seen can) (map (window_of ks) ws) h.windows.selected ∙ ap (option_map (window_seen can)) (slice_get-map (window_of ks) ws h.windows.selected))
    ∙ go (slice_get ws h.windows.selected)
  where
    can : List ℕ → Bool
    can = reads directory (buffers_of ks) h.user

    bs : List BufferSeen
    bs = map (buffer_seen directory h.user) (buffers_of ks)

    by_test : (name : List ℕ) (b : Bool) → has_buffer name ks ≡ b → find_seen name bs ≡ subject_told directory ks h.user (cond b (Some name) None)
    by_test name true e = found_seen directory h.user name ks e
    by_test name false e = unseen directory h.user name ks e

    by : (height : ℕ) (s : Option WindowMarks) (rows : RowPane) → find_seen (name_shown (window_shown ks height s rows).shows) bs ≡ subject_told directory ks h.user (subject_kept ks (subject_in s rows))
    by height None NoRows = unseen directory h.user [] ks unnamed
    by height None (Buffers row) = unseen directory h.user [] ks unnamed
    by height None (Entries name row) = by_test name (has_buffer name ks) refl
    by height (Some x) rows = by_test x.name (has_buffer x.name ks) refl

    go : (o : Option Window) → option_and_then (λ (x : WindowSeen). find_seen (name_shown x.shows) bs) (option_map (window_seen can) (option_map (window_of ks) o)) ≡ subject_told directory ks h.user (subject_kept ks (option_and_then (λ (w : Window). subject_in w.shows w.rows) o))
    go None = refl
    go (Some w) = by w.height w.shows w.rows
