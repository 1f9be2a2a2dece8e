-- What the users do leaves closed buffers closed.
use Rattle.std.proofs.Common.{◌≡◌, ℕ, zero, suc, List, [], ◌∷◌, ◌++◌, not, refl, sym, ap, ◌∙◌, Bool, true, false, cond, Option, Some, None, is_some}
use Rattle.std.specs.Option.{option_map}
use Rattle.mgs_model.specs.Names.{same_name}
use Rattle.mgs_model.specs.Text.{is_edit}
use Rattle.mgs_model.specs.Access.{Directory, decider, any_right}
use Rattle.mgs_model.specs.World.{World, Buffer, Session, State, is_named, find_session, find_buffer}
use Rattle.mgs_model.specs.View.{view, buffer_seen, find_seen}
use Rattle.mgs_model.specs.Outcome.{Act, Outcome, Effect, No_effect, Edit, Unmodified, SetList, SetOwners, Create, Kill, Save, Quit}
use Rattle.mgs_model.specs.Acts.{outcome}
use Rattle.mgs_model.specs.Apply.{owners_after, change_first, remove_first, buffers_after, buffer_edited, buffer_unmodified, new_buffer, without_buffer, apply, applied, act}
use Rattle.mgs_model.specs.Turns.{Turn, Rest, Keep, Do}
use Rattle.mgs_model.specs.Events.{with_state, refused_state, turn_done}
use Rattle.mgs_laws.specs.Secrecy.{IsOf, has_name}
use Rattle.mgs_laws.specs.Purging.{NoRightsAmong, Closed}
use Rattle.mgs_model.specs.declared.right.Right.{Right}
use Rattle.mgs_model.specs.declared.right.Right.TheVariants.{Delete, WriteAcl, WriteOwner}
use Rattle.mgs_model.proofs.Blind.{is_some_map, same_names}
use Rattle.mgs_model.proofs.Firsts.{find-map}
use Rattle.mgs_model.proofs.Moved.{edited_name, of_either}
use Rattle.mgs_laws.proofs.Edits.{buffer_made}
use Rattle.mgs_laws.specs.Lawful.{granted_found, granted_on, lawful}
use Rattle.mgs_laws.proofs.Outcomes.{outcome_lawful}
use Rattle.mgs_laws.proofs.Unseen.{found_none}
use Rattle.mgs_laws.proofs.Turning.{of_with_state}

-- THE USERS LEAVE CLOSED BUFFERS CLOSED

-- what no lawful effect of the users has for its buffer
KeepsShut : (List ℕ → Bool) → Effect → Type 0
KeepsShut shut (SetList name entries) = shut name ≡ false
KeepsShut shut (SetOwners name new) = shut name ≡ false
KeepsShut shut (Create name owner) = shut name ≡ false
KeepsShut shut (Kill name) = shut name ≡ false
KeepsShut shut _ = Unit {0}

not_shut : (b c : Bool) → (b ≡ true → c ≡ false) → c ≡ true → b ≡ false
not_shut true c p e = sym e ∙ p refl
not_shut false c p e = refl

module _ (users shut : List ℕ → Bool) (w : World) (x : Session) (g : users x.user ≡ true) (h : Closed users shut w) where
  seen_found : (n : List ℕ) → find_seen n (view w x).buffers ≡ option_map (buffer_seen w.directory x.user) (find_buffer n w.buffers)
  seen_found n = find-map (buffer_seen w.directory x.user) (is_named n) (λ b. same_name n b.name) (λ b. refl) w.buffers

  grant_seen : (n : List ℕ) (r : Right) → granted_on (view w x) n r ≡ true → shut n ≡ false
  grant_seen n r e =
      not_shut (shut n) (granted_on (view w x) n r)
      (λ q. ap (granted_found r) (seen_found n) ∙ found_none users shut w.directory x.user g r n q w.buffers h.no_rights)
      e

  name_seen : (n : List ℕ) → is_some (find_seen n (view w x).buffers) ≡ has_name n w.buffers
  name_seen n = ap is_some (seen_found n) ∙ is_some_map (buffer_seen w.directory x.user) (find_buffer n w.buffers)

  keeps_shut : (e : Effect) → lawful (view w x) e ≡ true → KeepsShut shut e
  unfolding KeepsShut
  keeps_shut (SetList n l) e = grant_seen n WriteAcl e
  keeps_shut (SetOwners n u) e = grant_seen n WriteOwner e
  keeps_shut (Kill n) e = grant_seen n Delete e
  keeps_shut (Create n u) e = not_shut (shut n) (not (is_some (find_seen n (view w x).buffers))) (λ q. ap not (name_seen n ∙ h.there n q)) e
  keeps_shut (Edit n a b t) e = tt
  keeps_shut (Unmodified n) e = tt
  keeps_shut (Save n t) e = tt
  keeps_shut No_effect e = tt
  keeps_shut Quit e = tt

-- what is asked of one buffer
NoRights : (List ℕ → Bool) → (List ℕ → Bool) → Directory → Buffer → Type 0
NoRights users shut d b = shut b.name ≡ true → (u : List ℕ) → users u ≡ true → any_right (decider d b.owners u b.entries) ≡ false

rights-change : (users shut : List ℕ → Bool) (d : Directory) (p : Buffer → Bool) (f : Buffer → Buffer) → ((b : Buffer) → p b ≡ true → NoRights users shut d b → NoRights users shut d (f b)) → (bs : List Buffer) → NoRightsAmong users shut d bs → NoRightsAmong users shut d (change_first p f bs)
unfolding NoRights
rights-change users shut d p f q [] h = tt
rights-change users shut d p f q (b ∷ bs) h = choose (p b) refl (rights-change users shut d p f q bs h.1)
  where
    choose : (c : Bool) → p b ≡ c → NoRightsAmong users shut d (change_first p f bs) → NoRightsAmong users shut d (cond c (f b ∷ bs) (b ∷ change_first p f bs))
    choose true e r = (q b e h.0, h.1)
    choose false e r = (h.0, r)

rights-remove : (users shut : List ℕ → Bool) (d : Directory) (p : Buffer → Bool) (bs : List Buffer) → NoRightsAmong users shut d bs → NoRightsAmong users shut d (remove_first p bs)
rights-remove users shut d p [] h = tt
rights-remove users shut d p (b ∷ bs) h = choose (p b) (rights-remove users shut d p bs h.1)
  where
    choose : (c : Bool) → NoRightsAmong users shut d (remove_first p bs) → NoRightsAmong users shut d (cond c bs (b ∷ remove_first p bs))
    choose true r = h.1
    choose false r = (h.0, r)

rights-append : (users shut : List ℕ → Bool) (d : Directory) (bs : List Buffer) (b : Buffer) → NoRights users shut d b → NoRightsAmong users shut d bs → NoRightsAmong users shut d (bs ++ (b ∷ []))
unfolding NoRights
rights-append users shut d [] b p h = (p, tt)
rights-append users shut d (x ∷ bs) b p h = (h.0, rights-append users shut d bs b p h.1)

-- a buffer of another name may get any list and any owner
other_name : (users shut : List ℕ → Bool) (d : Directory) (n : List ℕ) (c : Buffer) → shut n ≡ false → c.name ≡ n → NoRights users shut d c
unfolding NoRights
other_name users shut d n c q e s u g = let z : true ≡ false = sym s ∙ ap shut e ∙ q in cc

rights_after : (users shut : List ℕ → Bool) (d : Directory) (e : Effect) (bs : List Buffer) → KeepsShut shut e → NoRightsAmong users shut d bs → NoRightsAmong users shut d (buffers_after e bs)
unfolding KeepsShut NoRights
rights_after users shut d No_effect bs q h = h
rights_after users shut d (Edit n a b t) bs q h = rights-change users shut d (is_named n) (buffer_edited a b t) (λ x e p. of_either (NoRights users shut d) (is_edit a b t) (buffer_made a b t x) x p p) bs h
rights_after users shut d (Unmodified n) bs q h = rights-change users shut d (is_named n) buffer_unmodified (λ x e p. p) bs h
rights_after users shut d (SetList n l) bs q h = rights-change users shut d (is_named n) (λ x. record x { entries = l }) (λ x e p. other_name users shut d n (record x { entries = l }) q (sym (same_names n x.name e))) bs h
rights_after users shut d (SetOwners n u) bs q h = rights-change users shut d (is_named n) (λ x. record x { owners = owners_after u x.owners }) (λ x e p. other_name users shut d n (record x { owners = owners_after u x.owners }) q (sym (same_names n x.name e))) bs h
rights_after users shut d (Create n u) bs q h = rights-append users shut d bs (new_buffer n u) (other_name users shut d n (new_buffer n u) q refl) h
rights_after users shut d (Kill n) bs q h = rights-remove users shut d (is_named n) bs h
rights_after users shut d (Save n t) bs q h = rights-change users shut d (is_named n) buffer_unmodified (λ x e p. p) bs h
rights_after users shut d Quit bs q h = h

has-change : (p : Buffer → Bool) (f : Buffer → Buffer) → ((b : Buffer) → (f b).name ≡ b.name) → (m : List ℕ) (bs : List Buffer) → has_name m (change_first p f bs) ≡ has_name m bs
has-change p f e m [] = refl
has-change p f e m (x ∷ xs) = choose (p x) (has-change p f e m xs)
  where
    choose : (c : Bool) → has_name m (change_first p f xs) ≡ has_name m xs → has_name m (cond c (f x ∷ xs) (x ∷ change_first p f xs)) ≡ is_some (cond (same_name m x.name) (Some x) (find_buffer m xs))
    choose true ih = by (same_name m x.name) (ap (same_name m) (e x))
      where
        by : (k : Bool) → same_name m (f x).name ≡ k → is_some (cond (same_name m (f x).name) (Some (f x)) (find_buffer m xs)) ≡ is_some (cond k (Some x) (find_buffer m xs))
        by true r = ap (λ k. is_some (cond k (Some (f x)) (find_buffer m xs))) r
        by false r = ap (λ k. is_some (cond k (Some (f x)) (find_buffer m xs))) r
    choose false ih = by (same_name m x.name)
      where
        by : (k : Bool) → is_some (cond k (Some x) (find_buffer m (change_first p f xs))) ≡ is_some (cond k (Some x) (find_buffer m xs))
        by true = refl
        by false = ih

has-append : (m : List ℕ) (bs : List Buffer) (b : Buffer) → has_name m bs ≡ true → has_name m (bs ++ (b ∷ [])) ≡ true
has-append m [] b h = cc
has-append m (x ∷ bs) b h = choose (has-append m bs b) (same_name m x.name) h
  where
    choose : (has_name m bs ≡ true → has_name m (bs ++ (b ∷ [])) ≡ true) → (c : Bool) → is_some (cond c (Some x) (find_buffer m bs)) ≡ true → is_some (cond c (Some x) (find_buffer m (bs ++ (b ∷ [])))) ≡ true
    choose ih true e = refl
    choose ih false e = ih e

has-remove : (shut : List ℕ → Bool) (m n : List ℕ) → shut m ≡ true → shut n ≡ false → (bs : List Buffer) → has_name m bs ≡ true → has_name m (without_buffer n bs) ≡ true
has-remove shut m n p q [] h = h
has-remove shut m n p q (x ∷ bs) h = choose (has-remove shut m n p q bs) (same_name n x.name) refl (same_name m x.name) refl h
  where
    choose : (has_name m bs ≡ true → has_name m (without_buffer n bs) ≡ true) → (c : Bool) → same_name n x.name ≡ c → (k : Bool) → same_name m x.name ≡ k → is_some (cond k (Some x) (find_buffer m bs)) ≡ true → has_name m (cond c bs (x ∷ without_buffer n bs)) ≡ true
    choose ih true e true f r = let z : true ≡ false = sym p ∙ ap shut (same_names m x.name f ∙ sym (same_names n x.name e)) ∙ q in cc
    choose ih true e false f r = r
    choose ih false e true f r = ap (λ k. is_some (cond k (Some x) (find_buffer m (without_buffer n bs)))) f
    choose ih false e false f r = ap (λ k. is_some (cond k (Some x) (find_buffer m (without_buffer n bs)))) f ∙ ih r

there_after : (shut : List ℕ → Bool) (e : Effect) (bs : List Buffer) → KeepsShut shut e → (m : List ℕ) → shut m ≡ true → has_name m bs ≡ true → has_name m (buffers_after e bs) ≡ true
unfolding KeepsShut
there_after shut No_effect bs q m p h = h
there_after shut (Edit n a b t) bs q m p h = has-change (is_named n) (buffer_edited a b t) (edited_name a b t) m bs ∙ h
there_after shut (Unmodified n) bs q m p h = has-change (is_named n) buffer_unmodified (λ x. refl) m bs ∙ h
there_after shut (SetList n l) bs q m p h = has-change (is_named n) (λ x. record x { entries = l }) (λ x. refl) m bs ∙ h
there_after shut (SetOwners n u) bs q m p h = has-change (is_named n) (λ x. record x { owners = owners_after u x.owners }) (λ x. refl) m bs ∙ h
there_after shut (Create n u) bs q m p h = has-append m bs (new_buffer n u) h
there_after shut (Kill n) bs q m p h = has-remove shut m n p q bs h
there_after shut (Save n t) bs q m p h = has-change (is_named n) buffer_unmodified (λ x. refl) m bs ∙ h
there_after shut Quit bs q m p h = h

closed_apply : (users shut : List ℕ → Bool) (w : World) (id : ℕ) (o : Outcome) → KeepsShut shut o.effect → Closed users shut w → Closed users shut (apply w id o)
closed_apply users shut w id o q h = record {
  there = λ m p. there_after shut o.effect w.buffers q m p (h.there m p);
  no_rights = rights_after users shut w.directory o.effect w.buffers q h.no_rights;
}

closed_act : (users shut : List ℕ → Bool) (w : World) (id : ℕ) (c : Act) (stored : Bool) → IsOf users (find_session id w.sessions) → Closed users shut w → Closed users shut (act w id c stored)
closed_act users shut w id c stored g h = by (find_session id w.sessions) g
  where
    by : (o : Option Session) → IsOf users o → Closed users shut (applied w id (option_map (λ v. outcome v c stored) (option_map (view w) o)))
    by None g = h
    by (Some x) g = closed_apply users shut w id (outcome (view w x) c stored) (keeps_shut users shut w x g h (outcome (view w x) c stored).effect (outcome_lawful (view w x) c stored)) h

-- no session matters to which buffers are closed
pub closed_with_state : (users shut : List ℕ → Bool) (id : ℕ) (f : State → State) (w : World) → Closed users shut w → Closed users shut (with_state id f w)
closed_with_state users shut id f w h = record { there = h.there; no_rights = h.no_rights }

pub closed_turn : (users shut : List ℕ → Bool) (id : ℕ) (stored : Bool) (t : Turn) (w : World) (memory : Option ℕ) → IsOf users (find_session id w.sessions) → Closed users shut w → Closed users shut (turn_done id stored t w memory).world
closed_turn users shut id stored Rest w memory g h = h
closed_turn users shut id stored (Keep state) w memory g h = closed_with_state users shut id (λ old. state) w h
closed_turn users shut id stored (Do state c) w None g h = closed_act users shut (with_state id (λ old. state) w) id c stored (of_with_state users id (λ old. state) w g) (closed_with_state users shut id (λ old. state) w h)
closed_turn users shut id stored (Do state c) w (Some zero) g h = closed_with_state users shut id refused_state w h
closed_turn users shut id stored (Do state c) w (Some (suc n)) g h = closed_act users shut (with_state id (λ old. state) w) id c stored (of_with_state users id (λ old. state) w g) (closed_with_state users shut id (λ old. state) w h)
