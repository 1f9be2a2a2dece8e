-- What an act of a search comes to, that reads a text or writes it too: by a session that has this record and these positions of a search.
use Rattle.std.proofs.Common.{◌≡◌, ℕ, Bool, true, false, List, [], ◌∷◌, length, map, min, Option, Some, None, refl, ap, ◌∙◌}
use Rattle.std.specs.Option.{option_map}
use Rattle.mgs_model.specs.Access.{Directory, Decider, decider, decision_by, allows, any_right}
use Rattle.mgs_model.specs.Rights.{rights_in}
use Rattle.mgs_model.specs.World.{Buffer, State}
use Rattle.mgs_model.specs.World as model
use Rattle.mgs_model.specs.View.{SearchSeen, View, buffer_seen, find_seen, full_if, positions_if, reads, reads_found, search_seen, serial_told, size_told, text_in, told_if, view}
use Rattle.mgs_model.specs.Outcome.{Outcome, Run}
use Rattle.mgs_model.specs.SearchCommands.{AroundSearch, replace, seek}
use Rattle.mgs_model.specs.Acts.{Target, acts_at, anchor_in, around_search, fails, is_sought_in, origin_in, outcome, permitted, sought_by, target}
use Rattle.mgs_model.specs.declared.right.Right.{Right}
use Rattle.mgs_model.specs.declared.right.Right.TheVariants.{ReadData, WriteData}
use Rattle.mgs_model.specs.declared.entry.Decision.{Decision}
use Rattle.mgs_model.specs.declared.entry.Decision.TheVariants.{Granted}
use Rattle.mgs_model.specs.declared.echo_text.Message.{Message}
use Rattle.mgs_model.specs.declared.echo_text.Message.TheVariants.{Says}
use Rattle.mgs_model.specs.declared.echo_text.Notice.TheVariants.{NoBuffer}
use Rattle.mgs_model.specs.declared.session.Replacement.{Replacement}
use Rattle.mgs_model.specs.declared.session.Seeking.{Seeking}
use Rattle.mgs_buffers.specs.MarkedBuffer.{HasBuffer, MarkedBuffer, mark_at, marked_at}
use Rattle.mgs_windows.specs.declared.WindowMarks.{WindowMarks}
use Rattle.mgs_session.specs.Seeking.{searching}
use Rattle.mgs_session.specs.Sessions.{window_marks_of}
use Rattle.mgs_session.specs.declared.Session.{Session}
use Rattle.mgs_session.specs.declared.search.Search.{Search}
use Rattle.mgs_plan.specs.Actions.{replaced_outcome}
use Rattle.mgs_world.specs.Worlds.{buffers_of, session_of, size_named, state_of, world_of}
use Rattle.mgs_world.proofs.Edits.{size_kept}
use Rattle.mgs_world.proofs.Found.{found_buffer, found_seen, name_kept}
use Rattle.mgs_world.proofs.Marks.{is_same}
use Rattle.mgs_world.proofs.Soundness.{mark_is_kept}
use Rattle.mgs_plan.proofs.Outcomes.{any_read, first_granted, replaced_off_target, replaced_on_target, selected_none, selected_some, sought_off_target, sought_on_target, target_at}
use Rattle.mgs_seek.specs.Acting.{IsSought, command_of, text_mask}
use Rattle.mgs_seek.proofs.Lifts.{in_this}

abbrev pub comes_of : Bool → Seeking → Replacement → State → List ℕ → ℕ → ℕ → List ℕ → AroundSearch → Outcome
comes_of false c k state name size serial text a = sought_by state (seek c text a)
comes_of true c k state name size serial text a = replaced_outcome state name size serial (replace k text a)

-- where the selected window shows a buffer, and where it shows none
on_there : (v : View) (t : Target) (writes : Bool) (c : Seeking) (k : Replacement) (n : Option ℕ) (typed : List ℕ) → target v ≡ Some t → find_seen t.buffer.name v.buffers ≡ Some t.buffer
    → outcome v (Run (command_of writes c k) n typed) true ≡ permitted v.session.state (decision_by t.buffer.deciders (rights_in (text_mask writes))) (comes_of writes c k v.session.state t.buffer.name (size_told t.buffer.told) (serial_told t.buffer.told) (text_in t.buffer.full) (around_search v.session typed t))
on_there v t false c k n typed is found = sought_on_target v t c n typed is found
on_there v t true c k n typed is found = replaced_on_target v t k n typed is found

off_there : (v : View) (writes : Bool) (c : Seeking) (k : Replacement) (n : Option ℕ) (typed : List ℕ) → target v ≡ None → outcome v (Run (command_of writes c k) n typed) true ≡ fails v.session.state (Says NoBuffer)
off_there v false c k n typed none = sought_off_target v c n typed none
off_there v true c k n typed none = replaced_off_target v k n typed none

reads_by : (writes : Bool) (d : Right → Decider) → decision_by d (rights_in (text_mask writes)) ≡ Granted → allows (d ReadData) ≡ true
reads_by false d granted = first_granted d [] granted
reads_by true d granted = first_granted d (WriteData ∷ []) granted

module _ (directory : Directory) (ks : List MarkedBuffer) (xs : List Session) (next : Option ℕ) (h : Session) (state : State) (n : Option ℕ) (typed : List ℕ) (writes : Bool) (c : Seeking) (k : Replacement) where
  abbrev comes : Option model.Search → Outcome
  comes search = let y : model.Session = record (session_of ks h) { search = search; state = state } in outcome (view (world_of directory ks xs next) y) (Run (command_of writes c k) n typed) true

  pub come_off : (search : Option model.Search) → window_marks_of h ≡ None → comes search ≡ fails state (Says NoBuffer)
  come_off search none =
      let y : model.Session = record (session_of ks h) { search = search; state = state } in
      off_there (view (world_of directory ks xs next) y) writes c k n typed (selected_none directory ks xs next h none)

  module _ (x : WindowMarks) (sel : window_marks_of h ≡ Some x) (kept : HasBuffer x.name ks) where
    abbrev b : Buffer
    b = (marked_at x.name ks).buffer

    abbrev d : Right → Decider
    d = decider directory b.owners h.user b.entries

    abbrev decided : Decision
    decided = decision_by d (rights_in (text_mask writes))

    abbrev seen : Option model.Search → Option SearchSeen
    seen search = search_seen (reads directory (buffers_of ks) h.user) search

    -- by what the session sees: whether it is told of the buffer, sees its text and its own positions
    abbrev seeing : Option SearchSeen → Bool → Bool → Bool → List ℕ → AroundSearch
    seeing search told full here name =
        record {
          name = name;
          places = record {
            origin = origin_in search;
            anchor = anchor_in search;
            point = acts_at (positions_if here (mark_at x.name ks x.point) (option_map (mark_at x.name ks) x.mark) (mark_at x.name ks x.top)) (size_told (told_if told b));
          };
          sought_here = is_sought_in name search;
          old = state.old;
          typed = typed;
        }

    abbrev comes_so : Option SearchSeen → Decision → Bool → Bool → Bool → List ℕ → Outcome
    comes_so search g told full here name =
        permitted state g (comes_of writes c k state name (size_told (told_if told b)) (serial_told (told_if told b)) (text_in (full_if full b)) (seeing search told full here name))

    come_on : (search : Option model.Search) → comes search ≡ comes_so (seen search) decided (any_right d) (allows (d ReadData)) (reads directory (buffers_of ks) h.user x.name) b.name
    come_on search =
        let y : model.Session = record (session_of ks h) { search = search; state = state } in
        let some = selected_some directory ks xs next h x sel kept in
        on_there (view (world_of directory ks xs next) y) (target_at directory ks h.user some.0 x) writes c k n typed some.1
        (ap (λ name. find_seen name (map (buffer_seen directory h.user) (buffers_of ks))) (name_kept x.name ks kept) ∙ found_seen directory h.user x.name ks kept)

    pub come_denied : (search : Option model.Search) (message : Message) → ((state : State) (o : Outcome) → permitted state decided o ≡ fails state message) → comes search ≡ fails state message
    come_denied search message told = come_on search ∙ told state _

    -- where it is granted
    module _ (granted : decided ≡ Granted) where
      reads_it : allows (d ReadData) ≡ true
      reads_it = reads_by writes d granted

      reads_here : reads directory (buffers_of ks) h.user x.name ≡ true
      reads_here = ap (reads_found directory h.user) (found_buffer x.name ks kept) ∙ reads_it

      abbrev given : ℕ → ℕ → Bool → AroundSearch
      given origin anchor sought = record { name = x.name; places = record { origin = origin; anchor = anchor; point = mark_at x.name ks x.point }; sought_here = sought; old = state.old; typed = typed }

      abbrev does : ℕ → ℕ → Bool → Outcome
      does origin anchor sought = comes_of writes c k state x.name (length b.text) b.serial b.text (given origin anchor sought)

      pub come_read : (search : Option model.Search) → comes search ≡ does (origin_in (seen search)) (anchor_in (seen search)) (is_sought_in x.name (seen search))
      come_read search = come_on search ∙ (λ i. comes_so (seen search) (granted i) (any_read d reads_it i) (reads_it i) (reads_here i) (name_kept x.name ks kept i))

      -- the search is in another buffer, or there is none
      pub come_elsewhere : (search : Option model.Search) → is_sought_in x.name (seen search) ≡ false → ((text : List ℕ) (a : AroundSearch) → comes_of writes c k state x.name (length b.text) b.serial text (record a { sought_here = false }) ≡ fails state (Says NoBuffer)) → comes search ≡ fails state (Says NoBuffer)
      come_elsewhere search away none = come_read search ∙ ap (does (origin_in (seen search)) (anchor_in (seen search))) away ∙ none b.text (given (origin_in (seen search)) (anchor_in (seen search)) true)

      -- it is in this one
      pub come_here : (origin anchor : ℕ) → comes (Some (record { name = x.name; origin = origin; anchor = anchor })) ≡ does origin anchor true
      come_here origin anchor =
          come_read (Some (record { name = x.name; origin = origin; anchor = anchor }))
          ∙ (λ i. let at = positions_if (reads_here i) origin (Some anchor) 0 in let s : SearchSeen = record { name = x.name; positions = at } in does (origin_in (Some s)) (anchor_in (Some s)) (is_same x.name x.name refl i))

-- by a session that searches in the buffer of its window
module _ (directory : Directory) (ks : List MarkedBuffer) (h : Session) (writes : Bool) (x : WindowMarks) (s : Search) (sought : IsSought directory ks h writes x) (held : h.state.search ≡ Some s) where
  abbrev shown : Session
  shown = searching s h

  abbrev size : ℕ
  size = length (marked_at x.name ks).buffer.text

  kept : HasBuffer x.name ks
  kept = mark_is_kept x.name x.point ks sought.target.marks.point

  pub name_sought : s.name ≡ x.name
  name_sought = in_this x.name h.state.search s sought.here held

  pub size_sought : size_named s.name (buffers_of ks) ≡ size
  size_sought = ap (λ (n : List ℕ). size_named n (buffers_of ks)) name_sought ∙ size_kept x.name ks kept

  abbrev pub sought_place : AroundSearch
  sought_place = record { name = x.name; places = record { origin = min s.origin size; anchor = min s.anchor size; point = mark_at x.name ks x.point }; sought_here = true; old = (state_of shown.state).old; typed = [] }

  pub come_sought : (c : Seeking) (k : Replacement) (n : Option ℕ) (typed : List ℕ) (xs : List Session) (next : Option ℕ)
      → outcome (view (world_of directory ks xs next) (session_of ks shown)) (Run (command_of writes c k) n typed) true ≡ comes_of writes c k (state_of shown.state) x.name size (marked_at x.name ks).buffer.serial (marked_at x.name ks).buffer.text (record sought_place { typed = typed })
  come_sought c k n typed xs next =
      ap (comes directory ks xs next shown (state_of shown.state) n typed writes c k) (λ i. Some (record { name = name_sought i; origin = min s.origin (size_sought i); anchor = min s.anchor (size_sought i) }))
      ∙ come_here directory ks xs next shown (state_of shown.state) n typed writes c k x sought.target.sel kept sought.target.granted (min s.origin size) (min s.anchor size)
