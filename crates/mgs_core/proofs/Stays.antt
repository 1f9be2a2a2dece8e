-- Opening and closing settle nothing: the windows of the others stand where they settle, and a new one at its start.
use Rattle.std.proofs.Common.{◌≡◌, ℕ, ◌+◌, ◌-◌, ◌/◌, ◌≤◌, Bool, true, false, cond, List, [], ◌∷◌, ◌++◌, map, filter, not, Option, Some, None, refl, sym, ap, subst, ◌∙◌, eqb-true, arith}
use Rattle.std.specs.Prelude.{is_some, nat_eq, All}
use Rattle.std.proofs.lemmas.Bool.{lt-ltb}
use Rattle.std.proofs.lemmas.List.{map-append}
use Rattle.mgs_model.specs.Access.{Directory}
use Rattle.mgs_model.specs.Apply.{change_first, remove_first, without_session}
use Rattle.mgs_world.specs.declared.size.Size.{Size}
use Rattle.mgs_world.specs.Worlds.{IsUnique, session_size, sizes}
use Rattle.std.proofs.lemmas.List.Elements.{All-head, All-tail}
use Rattle.mgs_model.specs.Lines.{line_of, start_of, settled_top}
use Rattle.mgs_model.specs.World.{World, Buffer, State, Session, Window, Shows, Nothing, Buffer_of, Listing, List_of, has_id, find_session, find_buffer, may}
use Rattle.mgs_model.specs.Events.{Close, state_set, with_state, top_settled, window_top, session_settled, settled, new_window, new_session, opened, step}
use Rattle.mgs_model.specs.declared.right.Right.TheVariants.{ReadData}
use Rattle.mgs_core.specs.Calls.{closed}
use Rattle.mgs_core.proofs.Ids.{differ, map-remove_first, remove_none}
use Rattle.mgs_model.proofs.Firsts.{map-change_first}

pub settled_as : (v w : World) → w ≡ v → settled v ≡ v → settled w ≡ w
settled_as v w is rests = subst (λ (u : World). settled u ≡ u) (sym is) rests

-- A SESSION OPENS

-- the start of a text is seen from the start
start_settled : (h : ℕ) (text : List ℕ) → 1 ≤ h → settled_top h 0 0 text ≡ 0
start_settled h text some = ap (λ b. cond b 0 (start_of (line_of text 0 - h / 2) text)) (lt-ltb 0 (0 + h) (omega (arith, some)))

top_at_start : (d : Directory) (u : List ℕ) (o : Option Buffer) (h : ℕ) → 1 ≤ h → top_settled d u o h 0 0 ≡ 0
top_at_start d u None h some = refl
top_at_start d u (Some b) h some = elim (may d u ReadData b) as (λ c. cond c (settled_top h 0 0 b.text) 0 ≡ 0) [ true ↦ start_settled h b.text some | false ↦ refl ]

start_stays : (d : Directory) (bs : List Buffer) (u : List ℕ) (shows : Shows) (h : ℕ) → 1 ≤ h → window_top d bs u shows h 0 0 ≡ 0
start_stays d bs u Nothing h some = refl
start_stays d bs u (Buffer_of name) h some = top_at_start d u (find_buffer name bs) h some
start_stays d bs u Listing h some = refl
start_stays d bs u (List_of name) h some = refl

new_stays : (d : Directory) (bs : List Buffer) (id : ℕ) (user : List ℕ) (rows cols : ℕ) → 3 ≤ rows → session_settled d bs (new_session d bs id user rows cols) ≡ new_session d bs id user rows cols
new_stays d bs id user rows cols some =
    let x : Window = new_window d bs user rows in
    ap (λ (top : ℕ). let y : Session = record (new_session d bs id user rows cols) { windows = record x { top = top } ∷ [] } in y) (start_stays d bs user x.shows (rows - 2) (omega (arith, some)))

pub opened_rests : (w : World) (id : ℕ) (user : List ℕ) (rows cols : ℕ) → 3 ≤ rows → settled w ≡ w → settled (opened w id user rows cols) ≡ opened w id user rows cols
opened_rests w id user rows cols some rests =
    let x : Session = new_session w.directory w.buffers id user rows cols in
    ap (λ (ss : List Session). let v : World = record (opened w id user rows cols) { sessions = ss } in v)
    (map-append (session_settled w.directory w.buffers) w.sessions (x ∷ [])
    ∙ ap (λ (v : World). v.sessions ++ session_settled w.directory w.buffers x ∷ []) rests
    ∙ ap (λ (y : Session). w.sessions ++ y ∷ []) (new_stays w.directory w.buffers id user rows cols some))

-- WHAT A SESSION HOLDS CHANGES

pub state_rests : (w : World) (id : ℕ) (f : State → State) → settled w ≡ w → settled (with_state id f w) ≡ with_state id f w
state_rests w id f rests =
    ap (λ (ss : List Session). let v : World = record w { sessions = ss } in v)
    (map-change_first (session_settled w.directory w.buffers) (has_id id) (has_id id) (state_set f) (state_set f) (λ x. refl) (λ x e. refl) w.sessions ∙ ap (λ (v : World). change_first (has_id id) (state_set f) v.sessions) rests)

-- A SESSION CLOSES

pub closed_rests : (w : World) (id : ℕ) → settled w ≡ w → settled (closed w id) ≡ closed w id
closed_rests w id rests =
    ap (λ (ss : List Session). let v : World = record w { sessions = ss } in v)
    (map-remove_first (session_settled w.directory w.buffers) (has_id id) (has_id id) (λ x. refl) w.sessions ∙ ap (λ (v : World). remove_first (has_id id) v.sessions) rests)

-- where none has the id, none goes
pub closed_none : (w : World) (id : ℕ) → find_session id w.sessions ≡ None → w ≡ closed w id
closed_none w id none = ap (λ (ss : List Session). let v : World = record w { sessions = ss } in v) (sym (remove_none (has_id id) w.sessions none))

-- of sessions that are unique one alone has the id
alone : (id : ℕ) (xs : List Session) → All (λ (y : Size). nat_eq id y.id ≡ false) (map session_size xs) → filter (λ x. not (has_id id x)) xs ≡ xs
alone id [] h = refl
alone id (x ∷ xs) h =
    let other : has_id id x ≡ false = differ id x.id (All-head (λ (y : Size). nat_eq id y.id ≡ false) (session_size x) (map session_size xs) h) in
    ap (λ (b : Bool). cond (not b) (x ∷ filter (λ x. not (has_id id x)) xs) (filter (λ x. not (has_id id x)) xs)) other
    ∙ ap (λ ys. x ∷ ys) (alone id xs (All-tail (λ (y : Size). nat_eq id y.id ≡ false) (session_size x) (map session_size xs) h))

pub without_first : (id : ℕ) (xs : List Session) → IsUnique (map session_size xs) → without_session id xs ≡ remove_first (has_id id) xs
without_first id [] u = refl
without_first id (x ∷ xs) u = go (has_id id x) refl (without_first id xs u.1)
  where
    go : (b : Bool) → has_id id x ≡ b → without_session id xs ≡ remove_first (has_id id) xs → cond (not b) (x ∷ without_session id xs) (without_session id xs) ≡ cond b xs (x ∷ remove_first (has_id id) xs)
    go true e later = alone id xs (subst (λ (n : ℕ). All (λ (y : Size). nat_eq n y.id ≡ false) (map session_size xs)) (eqb-true x.id id e) u.0)
    go false e later = ap (λ ys. x ∷ ys) later

pub closed_step : (w : World) (id : ℕ) → IsUnique (sizes w) → settled w ≡ w → closed w id ≡ step w (Close id)
closed_step w id unique rests = go (find_session id w.sessions) refl
  where
    go : (o : Option Session) → find_session id w.sessions ≡ o → closed w id ≡ cond (is_some o) (settled (record w { sessions = without_session id w.sessions })) w
    go None e = sym (closed_none w id e)
    go (Some x) e =
        sym (closed_rests w id rests) ∙ ap (λ (xs : List Session). settled (record w { sessions = xs })) (sym (without_first id w.sessions unique))
