-- What the killing of a buffer comes to.
use Rattle.std.proofs.Common.{◌≡◌, ℕ, ◌==◌, Bool, cond, List, [], ◌∷◌, length, map, Option, Some, None, refl, sym, ap, ◌∙◌}
use Rattle.std.specs.Prelude.{slice_get, Ok}
use Rattle.std.specs.Option.{option_and_then, option_map}
use Rattle.std.proofs.lemmas.Option.{slice_get-map}
use Rattle.mgs_model.specs.Access.{Directory}
use Rattle.mgs_model.specs.Names.{IsName}
use Rattle.mgs_model.specs.View.{BufferSeen, View, WindowSeen, find_seen, reads, view, window_seen}
use Rattle.mgs_model.specs.Outcome.{Kill, Run}
use Rattle.mgs_model.specs.Acts.{Meaning, effects, fails, kills_buffer, meaning_by_name, name_shown, there}
use Rattle.mgs_model.specs.Acts as acts
use Rattle.mgs_model.specs.declared.echo_text.Message.{Message}
use Rattle.mgs_model.specs.declared.session.ByName.TheVariants.{KillBuffer}
use Rattle.mgs_model.specs.declared.session.Command.TheVariants.{Named}
use Rattle.mgs_buffers.specs.MarkedBuffer.{HasBuffer, MarkedBuffer}
use Rattle.mgs_windows.specs.declared.WindowMarks.{WindowMarks}
use Rattle.mgs_windows.specs.declared.Window.{Window}
use Rattle.mgs_windows.specs.declared.RowPane.{RowPane}
use Rattle.mgs_windows.specs.declared.RowPane.TheVariants.{NoRows}
use Rattle.mgs_session.specs.Sessions.{subject_in, subject_of}
use Rattle.mgs_session.specs.declared.Session.{Session}
use Rattle.mgs_plan.specs.Deciding.{IsJudged, IsPlanned, view_at}
use Rattle.mgs_plan.specs.Killing.{IsKillRefused, name_in, name_meant, none_meant}
use Rattle.mgs_plan.specs.declared.outcome.Outcome.{Outcome}
use Rattle.mgs_plan.specs.declared.outcome.Outcome.TheVariants.{Fails, Kills}
use Rattle.mgs_world.specs.Worlds.{buffers_of, session_of, window_of, window_shown, world_of}
use Rattle.mgs_plan.proofs.Named.{named_free, named_kept}

-- the name of what the selected window shows
name_seen : (can : List ℕ → Bool) (ks : List MarkedBuffer) (o : Option Window) → elim (option_map (window_seen can) (option_map (window_of ks) o)) [ None ↦ [] | Some x ↦ name_shown x.shows ] ≡ name_in (option_and_then (λ (w : Window). subject_in w.shows w.rows) o)
name_seen can ks None = refl
name_seen can ks (Some w) = by w.height w.shows w.rows
  where
    by : (height : ℕ) (o : Option WindowMarks) (rows : RowPane) → name_shown (window_shown ks height o rows).shows ≡ name_in (subject_in o rows)
    by height None NoRows = refl
    by height _ _ = refl

meant_seen : (directory : Directory) (ks : List MarkedBuffer) (xs : List Session) (next : Option ℕ) (h : Session) (typed : List ℕ) → acts.name_meant (view (world_of directory ks xs next) (session_of ks h)) typed ≡ name_meant (subject_of h) typed
meant_seen directory ks xs next h typed =
    let can = reads directory (buffers_of ks) h.user in
    let ws = h.windows.windows in
    ap (λ (name : List ℕ). cond (length typed == 0) name typed)
    (ap (λ (o : Option WindowSeen). elim o [ None ↦ [] | Some x ↦ name_shown x.shows ])
    (slice_get-map (window_seen can) (map (window_of ks) ws) h.windows.selected ∙ ap (option_map (window_seen can)) (slice_get-map (window_of ks) ws h.windows.selected))
    ∙ name_seen can ks (slice_get ws h.windows.selected))

-- where a buffer of it is found, and where none is
killed : (v : View) (name : List ℕ) (b : BufferSeen) → IsName name → kills_buffer v name (Some b) ≡ effects v.session.state (Ok (Kill name))
killed v [] b form = cc
killed v (c ∷ cs) b form = refl

none_killed : (v : View) (name : List ℕ) → kills_buffer v name None ≡ fails v.session.state (none_meant name)
none_killed v [] = refl
none_killed v (c ∷ cs) = refl

module _ (directory : Directory) (ks : List MarkedBuffer) (h : Session) (typed : List ℕ) where
  -- the row of a kill, by the name that is meant and what is found under it
  row_meant : (xs : List Session) (next n : Option ℕ) (name : List ℕ) (o : Option BufferSeen) → name ≡ name_meant (subject_of h) typed
      → (let v = view_at directory ks xs next h in find_seen name v.buffers ≡ o → meaning_by_name v KillBuffer n typed ≡ record { needs = there v name 65536; does = kills_buffer v name o })
  row_meant xs next n name o is found =
      let v = view_at directory ks xs next h in
      ap (λ (m : List ℕ). record { needs = there v m 65536; does = kills_buffer v m (find_seen m v.buffers) }) (meant_seen directory ks xs next h typed ∙ sym is)
      ∙ ap (λ o. record { needs = there v name 65536; does = kills_buffer v name o }) found

  pub kill_planned : (name : List ℕ) (o : Outcome) → name ≡ name_meant (subject_of h) typed → HasBuffer name ks → IsName name → IsJudged directory ks h.user name 65536 (Kills name) o
      → (n : Option ℕ) → IsPlanned directory ks h (Run (Named KillBuffer) n typed) o
  kill_planned name o is kept form = named_kept directory ks h typed KillBuffer 65536 name (Kills name) o kept (λ xs next n stored b found named.
      let v = view_at directory ks xs next h in
      row_meant xs next n name (Some b) is found ∙ ap (λ does. record { needs = there v name 65536; does = does }) (killed v name b form))

  pub kill_refused : (message : Message) → IsKillRefused ks (name_meant (subject_of h) typed) message → (n : Option ℕ) → IsPlanned directory ks h (Run (Named KillBuffer) n typed) (Fails message)
  kill_refused message refused =
      let name = name_meant (subject_of h) typed in
      named_free directory ks h typed KillBuffer 65536 name (Fails message) refused.none (λ xs next n stored many none.
      let v = view_at directory ks xs next h in
      row_meant xs next n name None refl none
      ∙ ap (λ does. record { needs = there v name 65536; does = does }) (none_killed v name ∙ ap (fails v.session.state) refused.told))
