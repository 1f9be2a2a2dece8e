-- What an act, an opening and a closing do is blind to what an erasing takes away, of buffers and of sessions.
use Rattle.std.proofs.Common.{◌≡◌, ℕ, ◌+◌, ◌-◌, ◌==◌, List, [], ◌∷◌, length, map, find, not, refl, sym, ap, subst, ◌∙◌, Bool, true, false, cond, ◌&&◌, nat_le, Option, Some, None, is_some}
use Rattle.std.specs.Option.{option_map}
use Rattle.std.specs.Prelude.{max, if◌then◌else◌}
use Rattle.std.proofs.lemmas.List.{length-map}
use Rattle.mgs_model.specs.declared.errors.OpenFault.TheVariants.{NoUser, Size, Full}
use Rattle.mgs_model.specs.declared.limits.TheConstants.{SESSION_LIMIT}
use Rattle.mgs_model.specs.Access.{Directory, is_among}
use Rattle.mgs_model.specs.Names.{same_name}
use Rattle.mgs_model.specs.Text.{is_edit}
use Rattle.mgs_model.specs.World.{World, Buffer, Session, State, Buffer_of, may, is_named, has_id, find_session}
use Rattle.mgs_model.specs.Outcome.{Outcome, Effect, No_effect, Edit, Unmodified, SetList, SetOwners, Create, Kill, Save, Quit}
use Rattle.mgs_model.specs.Apply.{owners_after, buffers_after, buffer_edited, buffer_unmodified, new_buffer, change_first, session_after, session_arranged, after_quit, sessions_after, apply, without_session}
use Rattle.mgs_model.specs.Events.{state_set, with_state, first_shows, new_session, is_open, is_size, can_open, session_fault, opened, settled, step, Open, Close}
use Rattle.mgs_model.specs.declared.entry.Entry.{Entry}
use Rattle.mgs_model.specs.declared.owners.NewOwner.{NewOwner}
use Rattle.mgs_model.specs.declared.right.Right.TheVariants.{ReadAttributes}
use Rattle.mgs_model.proofs.Moved.{same_choice}
use Rattle.mgs_model.proofs.Firsts.{find-map}
use Rattle.mgs_model.proofs.Blind.{Blind-map, Blind-change, Blind-append, Blind-remove, Blind-filter, map_fixed, is_some_map}
use Rattle.mgs_laws.specs.Secrecy.{IsOf}
use Rattle.mgs_laws.proofs.Edits.{buffer_made}
use Rattle.mgs_laws.proofs.After.{user_after}
use Rattle.mgs_laws.proofs.Turning.{Erasure}

-- of a buffer its name stays, and who sees it; whatever is set anew is set as without the erasing
pub record IsErasing (r : Buffer → Buffer) : Type 0 where
  pub twice : (x : Buffer) → r (r x) ≡ r x
  pub name : (x : Buffer) → (r x).name ≡ x.name
  pub seen : (d : Directory) (user : List ℕ) (x : Buffer) → may d user ReadAttributes (r x) ≡ may d user ReadAttributes x
  pub made : (a b : ℕ) (put : List ℕ) (x : Buffer) → r (buffer_made a b put x) ≡ r (buffer_made a b put (r x))
  pub unmodified : (x : Buffer) → r (buffer_unmodified x) ≡ r (buffer_unmodified (r x))
  pub listed : (entries : List Entry) (x : Buffer) → r (record x { entries = entries }) ≡ r (record (r x) { entries = entries })
  pub owned : (new : NewOwner) (x : Buffer) → r (record x { owners = owners_after new x.owners }) ≡ r (record (r x) { owners = owners_after new (r x).owners })

effect_blind : (r : Buffer → Buffer) → IsErasing r → (e : Effect) (xs : List Buffer) → map r (buffers_after e xs) ≡ map r (buffers_after e (map r xs))
effect_blind r h No_effect xs = map_fixed r h.twice xs
effect_blind r h (Edit name a b put) xs =
    Blind-change r h.twice (is_named name) (λ x. ap (same_name name) (h.name x)) (buffer_edited a b put) (λ x. same_choice r (is_edit a b put) (buffer_made a b put x) x (buffer_made a b put (r x)) (r x) (h.made a b put x) (sym (h.twice x))) xs
effect_blind r h (Unmodified name) xs = Blind-change r h.twice (is_named name) (λ x. ap (same_name name) (h.name x)) buffer_unmodified h.unmodified xs
effect_blind r h (SetList name entries) xs = Blind-change r h.twice (is_named name) (λ x. ap (same_name name) (h.name x)) (λ x. record x { entries = entries }) (h.listed entries) xs
effect_blind r h (SetOwners name new) xs = Blind-change r h.twice (is_named name) (λ x. ap (same_name name) (h.name x)) (λ x. record x { owners = owners_after new x.owners }) (h.owned new) xs
effect_blind r h (Create name owner) xs = Blind-append r h.twice xs (new_buffer name owner) (new_buffer name owner) refl
effect_blind r h (Kill name) xs = Blind-remove r h.twice (is_named name) (λ x. ap (same_name name) (h.name x)) xs
effect_blind r h (Save name text) xs = Blind-change r h.twice (is_named name) (λ x. ap (same_name name) (h.name x)) buffer_unmodified h.unmodified xs
effect_blind r h Quit xs = map_fixed r h.twice xs

-- what is erased of a session goes by a test of its user, who stays
pub record IsForgetting (r : Bool → Session → Session) : Type 0 where
  pub once : (o : Bool) (x : Session) → r o x ≡ r o (r o x)
  pub whose : (o : Bool) (x : Session) → (r o x).user ≡ x.user
  pub same_id : (o : Bool) (x : Session) → (r o x).id ≡ x.id
  pub state : (o : Bool) (g : State → State) (x : Session) → r o (state_set g x) ≡ r o (state_set g (r o x))
  pub after : (o : Bool) (e : Effect) (x : Session) → r o (session_after e x) ≡ r o (session_after e (r o x))
  pub arranged : (o : Bool) (p : Outcome) (x : Session) → r o (session_arranged p x) ≡ r o (session_arranged p (r o x))

abbrev pub by_user : (List ℕ → Bool) → (Bool → Session → Session) → Session → Session
by_user users f x = f (users x.user) x

-- what is blind to an erasing keeps worlds that are the same below it
pub same_by : (e f : World → World) (w v : World) → e w ≡ e v → e (f w) ≡ e (f (e w)) → e (f v) ≡ e (f (e v)) → e (f w) ≡ e (f v)
same_by e f w v same p q = p ∙ ap (λ x. e (f x)) same ∙ sym q

abbrev pub closed : ℕ → World → World
closed id w = record w { sessions = without_session id w.sessions }

-- of an erasing of worlds
pub record Blindness (users : List ℕ → Bool) (e : World → World) : Type 0 where
  pub erasure : Erasure e
  pub whose : (w v : World) (id : ℕ) → e w ≡ e v → IsOf users (find_session id w.sessions) → IsOf users (find_session id v.sessions)
  pub is_open_same : (w v : World) (id : ℕ) → e w ≡ e v → is_open id w ≡ is_open id v
  pub open_same : (w v : World) (id : ℕ) (user : List ℕ) (rows cols : ℕ) → (e (opened w id user rows cols) ≡ e (opened v id user rows cols) → e (settled (opened w id user rows cols)) ≡ e (settled (opened v id user rows cols)))
      → e w ≡ e v → e (step w (Open id user rows cols)) ≡ e (step v (Open id user rows cols))
  pub close_same : (w v : World) (id : ℕ) → (e (closed id w) ≡ e (closed id v) → e (settled (closed id w)) ≡ e (settled (closed id v))) → e w ≡ e v → e (step w (Close id)) ≡ e (step v (Close id))

module _ (users : List ℕ → Bool) (r : Buffer → Buffer) (f : Bool → Session → Session) (b : IsErasing r) (h : IsForgetting f) where
  abbrev of : Session → Session
  of x = by_user users f x

  abbrev erased : World → World
  erased w = record w { buffers = map r w.buffers; sessions = map of w.sessions }

  whose_of : (x : Session) → (of x).user ≡ x.user
  whose_of x = h.whose (users x.user) x

  with_id : (id : ℕ) (x : Session) → has_id id (of x) ≡ has_id id x
  with_id id x = ap (λ n. n == id) (h.same_id (users x.user) x)

  of_same : (x : Session) → of (of x) ≡ of x
  of_same x = ap (λ u. f (users u) (of x)) (whose_of x) ∙ sym (h.once (users x.user) x)

  -- a change that leaves the user
  of_change : (g : Session → Session) → ((x : Session) → (g x).user ≡ x.user) → ((o : Bool) (x : Session) → f o (g x) ≡ f o (g (f o x))) → (x : Session) → of (g x) ≡ of (g (of x))
  of_change g user blind x =
      ap (λ u. f (users u) (g x)) (user x) ∙ blind (users x.user) x ∙ ap (λ u. f (users u) (g (of x))) (sym (user (of x) ∙ whose_of x))

  of_quit : (e : Effect) (id : ℕ) (xs : List Session) → map of (after_quit e id xs) ≡ map of (after_quit e id (map of xs))
  of_quit Quit id xs = Blind-filter of of_same (λ x. not (has_id id x)) (λ x. ap not (with_id id x)) xs
  of_quit _ id xs = map_fixed of of_same xs

  sessions_blind : (id : ℕ) (o : Outcome) (xs : List Session) → map of (sessions_after id o xs) ≡ map of (sessions_after id o (map of xs))
  sessions_blind id o xs =
      of_quit o.effect id (change_first (has_id id) (session_arranged o) (map (session_after o.effect) xs))
      ∙ ap (λ ys. map of (after_quit o.effect id ys)) same
      ∙ sym (of_quit o.effect id (change_first (has_id id) (session_arranged o) (map (session_after o.effect) (map of xs))))
    where
      blind : (ys : List Session) → map of (change_first (has_id id) (session_arranged o) ys) ≡ map of (change_first (has_id id) (session_arranged o) (map of ys))
      blind ys = Blind-change of of_same (has_id id) (with_id id) (session_arranged o) (of_change (session_arranged o) (λ x. refl) (λ u x. h.arranged u o x)) ys

      same : map of (change_first (has_id id) (session_arranged o) (map (session_after o.effect) xs)) ≡ map of (change_first (has_id id) (session_arranged o) (map (session_after o.effect) (map of xs)))
      same =
          blind (map (session_after o.effect) xs)
          ∙ ap (λ ys. map of (change_first (has_id id) (session_arranged o) ys)) (Blind-map of of (session_after o.effect) (of_change (session_after o.effect) (user_after o.effect) (λ u x. h.after u o.effect x)) xs)
          ∙ sym (blind (map (session_after o.effect) (map of xs)))

  applies : (w : World) (id : ℕ) (o : Outcome) → erased (apply w id o) ≡ erased (apply (erased w) id o)
  applies w id o = λ i. record w { buffers = effect_blind r b o.effect w.buffers i; sessions = sessions_blind id o w.sessions i }

  keeps : (w : World) (id : ℕ) (g : State → State) → erased (with_state id g w) ≡ erased (with_state id g (erased w))
  keeps w id g =
      λ i. record w {
        buffers = map_fixed r b.twice w.buffers i;
        sessions = Blind-change of of_same (has_id id) (with_id id) (state_set g) (of_change (state_set g) (λ x. refl) (λ u x. h.state u g x)) w.sessions i;
      }

  -- OPENING AND CLOSING

  closed_blind : (id : ℕ) (w : World) → erased (closed id w) ≡ erased (closed id (erased w))
  closed_blind id w =
      λ i. record w { buffers = map_fixed r b.twice w.buffers i; sessions = Blind-filter of of_same (λ x. not (has_id id x)) (λ x. ap not (with_id id x)) w.sessions i }

  shows_same : (o : Option Buffer) → first_shows (option_map r o) ≡ first_shows o
  shows_same None = refl
  shows_same (Some x) = ap Buffer_of (b.name x)

  new_same : (d : Directory) (bs : List Buffer) (id : ℕ) (user : List ℕ) (rows cols : ℕ) → new_session d bs id user rows cols ≡ new_session d (map r bs) id user rows cols
  new_same d bs id user rows cols =
      λ i. record (new_session d bs id user rows cols) {
        windows = record { shows = sym (ap first_shows (find-map r (may d user ReadAttributes) (may d user ReadAttributes) (b.seen d user) bs) ∙ shows_same (find (may d user ReadAttributes) bs)) i; point = 0; mark = None; top = 0; row = 0; height = rows - 2 } ∷ [];
      }

  opened_blind : (id : ℕ) (user : List ℕ) (rows cols : ℕ) (w : World) → erased (opened w id user rows cols) ≡ erased (opened (erased w) id user rows cols)
  opened_blind id user rows cols w =
      λ i. record w {
        buffers = map_fixed r b.twice w.buffers i;
        sessions = Blind-append of of_same w.sessions (new_session w.directory w.buffers id user rows cols) (new_session w.directory (map r w.buffers) id user rows cols) (ap of (new_same w.directory w.buffers id user rows cols)) i;
        next_id = max w.next_id (id + 1);
      }

  -- WHAT WORLDS SHARE THAT ARE THE SAME BELOW IT

  find_erased : (id : ℕ) (xs : List Session) → find_session id (map of xs) ≡ option_map of (find_session id xs)
  find_erased id xs = find-map of (has_id id) (has_id id) (with_id id) xs

  of_there : (o : Option Session) → IsOf users o → IsOf users (option_map of o)
  of_there None g = g
  of_there (Some x) g = ap users (whose_of x) ∙ g

  of_back : (o : Option Session) → IsOf users (option_map of o) → IsOf users o
  of_back None g = g
  of_back (Some x) g = sym (ap users (whose_of x)) ∙ g

  whose_same : (w v : World) (id : ℕ) → erased w ≡ erased v → IsOf users (find_session id w.sessions) → IsOf users (find_session id v.sessions)
  whose_same w v id e g =
      let found : option_map of (find_session id w.sessions) ≡ option_map of (find_session id v.sessions) = sym (find_erased id w.sessions) ∙ ap (λ x. find_session id x.sessions) e ∙ find_erased id v.sessions in
      of_back (find_session id v.sessions) (subst (IsOf users) found (of_there (find_session id w.sessions) g))

  is_open_same : (w v : World) (id : ℕ) → erased w ≡ erased v → is_open id w ≡ is_open id v
  is_open_same w v id e = sym (one w) ∙ ap (λ x. is_open id x) e ∙ one v
    where
      one : (x : World) → is_some (find_session id (map of x.sessions)) ≡ is_open id x
      one x = ap is_some (find_erased id x.sessions) ∙ is_some_map of (find_session id x.sessions)

  length_same : (w v : World) → erased w ≡ erased v → length w.sessions ≡ length v.sessions
  length_same w v e = sym (length-map w.sessions of) ∙ ap (λ x. length x.sessions) e ∙ length-map v.sessions of

  session_fault_same : (w v : World) (user : List ℕ) (rows cols : ℕ) → erased w ≡ erased v → session_fault w user rows cols ≡ session_fault v user rows cols
  session_fault_same w v user rows cols e =
      λ i. (if not (is_among user (e i).directory.users) then Some NoUser else if not (is_size rows cols) then Some Size else if nat_le SESSION_LIMIT (length_same w v e i) then Some Full else None)

  can_open_same : (w v : World) (id : ℕ) (user : List ℕ) (rows cols : ℕ) → erased w ≡ erased v → can_open w id user rows cols ≡ can_open v id user rows cols
  can_open_same w v id user rows cols e = λ i. not (is_some (session_fault_same w v user rows cols e i)) && not (is_open_same w v id e i)

  cond_same : (c k : Bool) → c ≡ k → (x y w v : World) → erased x ≡ erased y → erased w ≡ erased v → erased (cond c x w) ≡ erased (cond k y v)
  cond_same true true q x y w v p e = p
  cond_same false false q x y w v p e = e
  cond_same true false q x y w v p e = cc
  cond_same false true q x y w v p e = cc

  pub blindness : Blindness users erased
  blindness =
      record {
        erasure = record { applies = applies; keeps = keeps };
        whose = whose_same;
        is_open_same = is_open_same;
        open_same = λ w v id user rows cols settles e.
            cond_same (can_open w id user rows cols) (can_open v id user rows cols) (can_open_same w v id user rows cols e) (settled (opened w id user rows cols)) (settled (opened v id user rows cols)) w v
            (settles (same_by erased (λ x. opened x id user rows cols) w v e (opened_blind id user rows cols w) (opened_blind id user rows cols v))) e;
        close_same = λ w v id settles e.
            cond_same (is_open id w) (is_open id v) (is_open_same w v id e) (settled (closed id w)) (settled (closed id v)) w v (settles (same_by erased (closed id) w v e (closed_blind id w) (closed_blind id v))) e;
      }
