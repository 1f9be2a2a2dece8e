-- The view of users who have no right on closed buffers sees only the outline.
use Rattle.std.proofs.Common.{◌≡◌, ℕ, List, [], ◌∷◌, map, refl, sym, ap, ◌∙◌, subst, Bool, true, false, cond, Option, Some, None, is_some}
use Rattle.std.specs.Option.{option_map}
use Rattle.mgs_model.specs.Names.{same_name}
use Rattle.mgs_model.specs.Access.{Directory, Decider, decider, allows, any_right}
use Rattle.mgs_model.specs.World.{World, Buffer, Session, Window, Place, Search, Shows, Buffer_of, may, is_named, has_id, find_session, find_buffer}
use Rattle.mgs_model.specs.View.{view, view_of, reads, reads_found, session_seen, buffer_seen, window_seen, place_seen, search_seen, in_readable, positions_if, told_if, full_if}
use Rattle.mgs_laws.specs.Secrecy.{IsOf, has_name}
use Rattle.mgs_laws.specs.Purging.{NoRightsAmong, Closed}
use Rattle.mgs_model.specs.declared.right.Right.{Right}
use Rattle.mgs_model.specs.declared.right.Right.TheVariants.{ReadData, WriteData, AppendData, ReadAttributes, Delete, ReadAcl, WriteAcl, WriteOwner}
use Rattle.mgs_model.proofs.Basics.{or_left, or_right}
use Rattle.mgs_model.proofs.Blind.{is_some_map, same_names}
use Rattle.mgs_model.proofs.Firsts.{find-map}
use Rattle.mgs_laws.specs.Lawful.{granted_found}
use Rattle.mgs_laws.proofs.Erasing.{Blindness, blindness}
use Rattle.mgs_laws.proofs.Outline.{erase_erasing, forgetting, erase_if, erase, shows_shut, forget_window, forget_place, forget_search, forget_if, forget, outline}

-- two worlds are the same to the users
abbrev pub Like : (List ℕ → Bool) → (List ℕ → Bool) → World → World → Type 0
Like users shut w v = outline users shut w ≡ outline users shut v

-- NO RIGHT IS NONE OF THE EIGHT

pub none_of : (f : Right → Decider) → any_right f ≡ false → (r : Right) → allows (f r) ≡ false
none_of f e ReadData = or_left _ _ e
none_of f e WriteData = or_left _ _ (or_right (allows (f ReadData)) _ e)
none_of f e AppendData = or_left _ _ (or_right (allows (f WriteData)) _ (or_right (allows (f ReadData)) _ e))
none_of f e ReadAttributes = or_left _ _ (or_right (allows (f AppendData)) _ (or_right (allows (f WriteData)) _ (or_right (allows (f ReadData)) _ e)))
none_of f e Delete = or_left _ _ (or_right (allows (f ReadAttributes)) _ (or_right (allows (f AppendData)) _ (or_right (allows (f WriteData)) _ (or_right (allows (f ReadData)) _ e))))
none_of f e ReadAcl = or_left _ _ (or_right (allows (f Delete)) _ (or_right (allows (f ReadAttributes)) _ (or_right (allows (f AppendData)) _ (or_right (allows (f WriteData)) _ (or_right (allows (f ReadData)) _ e)))))
none_of f e WriteAcl = or_left _ _ (or_right (allows (f ReadAcl)) _ (or_right (allows (f Delete)) _ (or_right (allows (f ReadAttributes)) _ (or_right (allows (f AppendData)) _ (or_right (allows (f WriteData)) _ (or_right (allows (f ReadData)) _ e))))))
none_of f e WriteOwner = or_left _ _ (or_right (allows (f WriteAcl)) _ (or_right (allows (f ReadAcl)) _ (or_right (allows (f Delete)) _ (or_right (allows (f ReadAttributes)) _ (or_right (allows (f AppendData)) _ (or_right (allows (f WriteData)) _ (or_right (allows (f ReadData)) _ e)))))))

-- THE VIEW

pub found_none : (users shut : List ℕ → Bool) (d : Directory) (u : List ℕ) → users u ≡ true → (r : Right) (n : List ℕ) → shut n ≡ true → (bs : List Buffer) → NoRightsAmong users shut d bs → granted_found r (option_map (buffer_seen d u) (find_buffer n bs)) ≡ false
found_none users shut d u g r n q [] h = refl
found_none users shut d u g r n q (b ∷ bs) h = look (same_name n b.name) refl (found_none users shut d u g r n q bs h.1)
  where
    look : (c : Bool) → same_name n b.name ≡ c → granted_found r (option_map (buffer_seen d u) (find_buffer n bs)) ≡ false → granted_found r (option_map (buffer_seen d u) (cond c (Some b) (find_buffer n bs))) ≡ false
    look true e ih = none_of (decider d b.owners u b.entries) (h.0 (sym (ap shut (same_names n b.name e)) ∙ q) u g) r
    look false e ih = ih

reads_none : (users shut : List ℕ → Bool) (d : Directory) (u : List ℕ) → users u ≡ true → (n : List ℕ) → shut n ≡ true → (bs : List Buffer) → NoRightsAmong users shut d bs → reads d bs u n ≡ false
reads_none users shut d u g n q [] h = refl
reads_none users shut d u g n q (b ∷ bs) h = look (same_name n b.name) refl (reads_none users shut d u g n q bs h.1)
  where
    look : (c : Bool) → same_name n b.name ≡ c → reads d bs u n ≡ false → reads_found d u (cond c (Some b) (find_buffer n bs)) ≡ false
    look true e ih = none_of (decider d b.owners u b.entries) (h.0 (sym (ap shut (same_names n b.name e)) ∙ q) u g) ReadData
    look false e ih = ih

told_erase : (c h : Bool) (b : Buffer) → (h ≡ true → c ≡ false) → told_if c (erase_if h b) ≡ told_if c b
told_erase c false b p = refl
told_erase false true b p = refl
told_erase true true b p = let e : true ≡ false = p refl in cc

full_erase : (c h : Bool) (b : Buffer) → (h ≡ true → c ≡ false) → full_if c (erase_if h b) ≡ full_if c b
full_erase c false b p = refl
full_erase false true b p = refl
full_erase true true b p = let e : true ≡ false = p refl in cc

seen_erase : (shut : List ℕ → Bool) (d : Directory) (u : List ℕ) (b : Buffer) → (shut b.name ≡ true → any_right (decider d b.owners u b.entries) ≡ false) → buffer_seen d u (erase shut b) ≡ buffer_seen d u b
seen_erase shut d u b p =
    λ i. record {
      name = b.name;
      deciders = decider d b.owners u b.entries;
      told = told_erase (any_right (decider d b.owners u b.entries)) (shut b.name) b p i;
      full = full_erase (may d u ReadData b) (shut b.name) b (λ e. none_of (decider d b.owners u b.entries) (p e) ReadData) i;
    }

all_seen_erase : (users shut : List ℕ → Bool) (d : Directory) (u : List ℕ) → users u ≡ true → (bs : List Buffer) → NoRightsAmong users shut d bs → map (buffer_seen d u) (map (erase shut) bs) ≡ map (buffer_seen d u) bs
all_seen_erase users shut d u g [] h = refl
all_seen_erase users shut d u g (b ∷ bs) h = λ i. seen_erase shut d u b (λ e. h.0 e u g) i ∷ all_seen_erase users shut d u g bs h.1 i

found_erase : (shut : List ℕ → Bool) (d : Directory) (u : List ℕ) (o : Option Buffer) → reads_found d u (option_map (erase shut) o) ≡ reads_found d u o
found_erase shut d u None = refl
found_erase shut d u (Some b) = refl

pub find_erase : (shut : List ℕ → Bool) (n : List ℕ) (bs : List Buffer) → find_buffer n (map (erase shut) bs) ≡ option_map (erase shut) (find_buffer n bs)
find_erase shut n bs = find-map (erase shut) (is_named n) (is_named n) (λ b. refl) bs

reads_erase : (shut : List ℕ → Bool) (d : Directory) (u : List ℕ) (bs : List Buffer) (n : List ℕ) → reads d (map (erase shut) bs) u n ≡ reads d bs u n
reads_erase shut d u bs n = ap (reads_found d u) (find_erase shut n bs) ∙ found_erase shut d u (find_buffer n bs)

positions_one : (f c : Bool) (p : ℕ) (m : Option ℕ) (t : ℕ) → (f ≡ true → c ≡ false) → positions_if c (cond f 0 p) (cond f None m) (cond f 0 t) ≡ positions_if c p m t
positions_one false c p m t e = refl
positions_one true false p m t e = refl
positions_one true true p m t e = let q : true ≡ false = e refl in cc

module _ (shut can : List ℕ → Bool) (unseen : (n : List ℕ) → shut n ≡ true → can n ≡ false) where
  window_positions : (shows : Shows) (p : ℕ) (m : Option ℕ) (t : ℕ) → positions_if (in_readable can shows) (cond (shows_shut shut shows) 0 p) (cond (shows_shut shut shows) None m) (cond (shows_shut shut shows) 0 t) ≡ positions_if (in_readable can shows) p m t
  window_positions (Buffer_of n) p m t = positions_one (shut n) (can n) p m t (unseen n)
  window_positions _ p m t = refl

  window_same : (x : Window) → window_seen can (forget_window shut x) ≡ window_seen can x
  window_same x = λ i. record { shows = x.shows; row = x.row; height = x.height; positions = window_positions x.shows x.point x.mark x.top i }

  place_positions : (f c : Bool) (p : ℕ) (m : Option ℕ) → (f ≡ true → c ≡ false) → positions_if c (cond f 0 p) (cond f None m) 0 ≡ positions_if c p m 0
  place_positions false c p m e = refl
  place_positions true false p m e = refl
  place_positions true true p m e = let q : true ≡ false = e refl in cc

  place_same : (x : Place) → place_seen can (forget_place shut x) ≡ place_seen can x
  place_same x = λ i. record { name = x.name; positions = place_positions (shut x.name) (can x.name) x.point x.mark (unseen x.name) i }

  search_positions : (f c : Bool) (p a : ℕ) → (f ≡ true → c ≡ false) → positions_if c (cond f 0 p) (Some (cond f 0 a)) 0 ≡ positions_if c p (Some a) 0
  search_positions false c p a e = refl
  search_positions true false p a e = refl
  search_positions true true p a e = let q : true ≡ false = e refl in cc

  search_same : (o : Option Search) → search_seen can (forget_search shut o) ≡ search_seen can o
  search_same None = refl
  search_same (Some x) = λ i. Some (record { name = x.name; positions = search_positions (shut x.name) (can x.name) x.origin x.anchor (unseen x.name) i })

  windows_same : (xs : List Window) → map (window_seen can) (map (forget_window shut) xs) ≡ map (window_seen can) xs
  windows_same [] = refl
  windows_same (x ∷ xs) = λ i. window_same x i ∷ windows_same xs i

  places_same : (xs : List Place) → map (place_seen can) (map (forget_place shut) xs) ≡ map (place_seen can) xs
  places_same [] = refl
  places_same (x ∷ xs) = λ i. place_same x i ∷ places_same xs i

  session_same : (o : Bool) → o ≡ true → (x : Session) → session_seen can (forget_if o shut x) ≡ session_seen can x
  session_same true e x =
      λ i. record {
        id = x.id;
        user = x.user;
        rows = x.rows;
        cols = x.cols;
        windows = windows_same x.windows i;
        selected = x.selected;
        places = places_same x.places i;
        search = search_same x.search i;
        kill = x.kill;
        state = x.state;
      }
  session_same false e x = cc

pub view_outline : (users shut : List ℕ → Bool) (w : World) (x : Session) → users x.user ≡ true → NoRightsAmong users shut w.directory w.buffers → view (outline users shut w) (forget users shut x) ≡ view w x
view_outline users shut w x g h =
    (λ i. record {
      directory = w.directory;
      session = session_seen (λ n. reads_erase shut w.directory x.user w.buffers n i) (forget users shut x);
      buffers = all_seen_erase users shut w.directory x.user g w.buffers h i;
    })
    ∙ (λ i. record {
      directory = w.directory;
      session = session_same shut (reads w.directory w.buffers x.user) (λ n q. reads_none users shut w.directory x.user g n q w.buffers h) (users x.user) g x i;
      buffers = map (buffer_seen w.directory x.user) w.buffers;
    })

-- WHAT LIKE WORLDS SHARE

rights_there : (users shut : List ℕ → Bool) (d : Directory) (bs : List Buffer) → NoRightsAmong users shut d bs → NoRightsAmong users shut d (map (erase shut) bs)
rights_there users shut d [] h = tt
rights_there users shut d (b ∷ bs) h = (h.0, rights_there users shut d bs h.1)

rights_back : (users shut : List ℕ → Bool) (d : Directory) (bs : List Buffer) → NoRightsAmong users shut d (map (erase shut) bs) → NoRightsAmong users shut d bs
rights_back users shut d [] h = tt
rights_back users shut d (b ∷ bs) h = (h.0, rights_back users shut d bs h.1)

has_erase : (shut : List ℕ → Bool) (n : List ℕ) (bs : List Buffer) → has_name n (map (erase shut) bs) ≡ has_name n bs
has_erase shut n bs = ap is_some (find_erase shut n bs) ∙ is_some_map (erase shut) (find_buffer n bs)

pub closed_like : (users shut : List ℕ → Bool) (w v : World) → Like users shut w v → Closed users shut w → Closed users shut v
closed_like users shut w v e h = record {
  there = λ n q. sym (has_erase shut n v.buffers) ∙ sym (ap (λ x. has_name n x.buffers) e) ∙ has_erase shut n w.buffers ∙ h.there n q;
  no_rights = rights_back users shut v.directory v.buffers (subst (λ x. NoRightsAmong users shut x.directory x.buffers) e (rights_there users shut w.directory w.buffers h.no_rights));
}

find_forget : (users shut : List ℕ → Bool) (id : ℕ) (xs : List Session) → find_session id (map (forget users shut) xs) ≡ option_map (forget users shut) (find_session id xs)
find_forget users shut id xs = find-map (forget users shut) (has_id id) (has_id id) (λ x. refl) xs

-- what the session of an id sees
view_of_outline : (users shut : List ℕ → Bool) (w : World) (id : ℕ) → IsOf users (find_session id w.sessions) → Closed users shut w → view_of (outline users shut w) id ≡ view_of w id
view_of_outline users shut w id g h = ap (option_map (view (outline users shut w))) (find_forget users shut id w.sessions) ∙ same (find_session id w.sessions) g
  where
    same : (o : Option Session) → IsOf users o → option_map (view (outline users shut w)) (option_map (forget users shut) o) ≡ option_map (view w) o
    same None g = refl
    same (Some x) g = ap Some (view_outline users shut w x g h.no_rights)

pub outlines : (users shut : List ℕ → Bool) → Blindness users (outline users shut)
outlines users shut = blindness users (erase shut) (λ u x. forget_if u shut x) (erase_erasing shut) (forgetting shut)

pub view_of_like : (users shut : List ℕ → Bool) (w v : World) (id : ℕ) → Like users shut w v → Closed users shut w → IsOf users (find_session id w.sessions) → view_of w id ≡ view_of v id
view_of_like users shut w v id e h g =
    sym (view_of_outline users shut w id g h)
    ∙ ap (λ x. view_of x id) e
    ∙ view_of_outline users shut v id ((outlines users shut).whose w v id e g) (closed_like users shut w v e h)
