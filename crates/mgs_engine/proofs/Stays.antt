-- A session opens or closes: what the other terminals show is still what the world has.
use Rattle.std.proofs.Common.{◌≡◌, ℕ, true, false, List, [], ◌∷◌, ◌++◌, get_or, map, None, sym, ap, subst, ◌∙◌}
use Rattle.std.specs.Prelude.{find, nat_eq, All}
use Rattle.std.specs.Option.{option_or}
use Rattle.std.proofs.lemmas.Bool.{eqb-true}
use Rattle.std.proofs.lemmas.List.Elements.{All-push, All-weaker}
use Rattle.std.proofs.lemmas.List.Folds.{find-append}
use Rattle.mgs_model.specs.Apply.{remove_first}
use Rattle.mgs_model.specs.Events.{new_session, opened}
use Rattle.mgs_model.specs.World.{World, Session, has_id}
use Rattle.mgs_world.specs.declared.size.Size.{Size}
use Rattle.mgs_world.specs.Worlds.{find_size, is_size_of, sizes, IsUnique}
use Rattle.mgs_core.specs.Calls.{closed}
use Rattle.mgs_core.proofs.Ids.{All-remove_first, find-remove_first_other, others_left, unique_opened, unique_removed}
use Rattle.mgs_engine.specs.declared.session_screen.Screen.{Screen}
use Rattle.mgs_engine.specs.Screens.{IsDrawn, IsOnTime, IsSessionScreen, screen_id, shown_size}
use Rattle.mgs_engine.specs.Served.{IsDrawnInTime, IsServed, IsServedInTime}
use Rattle.mgs_engine.proofs.Screens.{sizes_opened, sizes_removed}

-- ONE SCREEN

drawn_opened : (w : World) (id : ℕ) (user : List ℕ) (rows cols : ℕ) (x : Screen) → IsDrawn w x → IsDrawn (opened w id user rows cols) x
drawn_opened w id user rows cols x d =
    let more : List Session = new_session w.directory w.buffers id user rows cols ∷ [] in
    record {
      session = d.session;
      found = find-append (has_id x.id) w.sessions more ∙ ap (λ o. option_or o (find (has_id x.id) more)) d.found;
      picture = d.picture;
      level = d.level;
      stands = d.stands;
    }

drawn_closed : (w : World) (id : ℕ) (x : Screen) → nat_eq id x.id ≡ false → IsDrawn w x → IsDrawn (closed w id) x
drawn_closed w id x other d =
    let apart : (s : Session) → has_id id s ≡ true → has_id x.id s ≡ false = λ s e. ap (λ n. nat_eq n x.id) (eqb-true s.id id e) ∙ other in
    record {
      session = d.session;
      found = find-remove_first_other (has_id id) (has_id x.id) apart w.sessions ∙ d.found;
      picture = d.picture;
      level = d.level;
      stands = d.stands;
    }

drawn_closed_in_time : (w : World) (id : ℕ) (x : Screen) → nat_eq id x.id ≡ false → IsDrawnInTime w x → IsDrawnInTime (closed w id) x
drawn_closed_in_time w id x other d = λ l. drawn_closed w id x other (d l)

-- WITHIN AN EVENT

pub served_in_time : (w : World) (xs : List Screen) → IsServed w xs → IsServedInTime w xs
served_in_time w xs h = record { sizes_are = h.sizes_are; unique = h.unique; each = h.each; drawn = λ i d l. λ t. h.drawn i d l }

pub served_again : (w : World) (xs : List Screen) → IsServedInTime w xs → All IsOnTime xs → IsServed w xs
served_again w xs h t = record { sizes_are = h.sizes_are; unique = h.unique; each = h.each; drawn = λ i d l. h.drawn i d l (t i d l); on_time = t }

-- ALL SCREENS

-- a screen more, that was drawn
pub served_opened : (w v : World) (id : ℕ) (user : List ℕ) (rows cols : ℕ) (xs ys : List Screen) (z : Screen) (y : Size) → IsServed w xs → v ≡ opened w id user rows cols → sizes v ≡ sizes w ++ y ∷ [] → find_size y.id (sizes w) ≡ None
    → ys ≡ xs ++ z ∷ [] → shown_size z ≡ y → IsSessionScreen z → IsDrawn v z → IsOnTime z → IsServed v ys
served_opened w v id user rows cols xs ys z y h world more fresh items size screen drawn late = record {
  sizes_are = ap (map shown_size) items ∙ sizes_opened xs z (sizes w) y h.sizes_are size ∙ sym more;
  unique = subst IsUnique (sym more) (unique_opened y (sizes w) fresh h.unique);
  each = subst (All IsSessionScreen) (sym items) (All-push IsSessionScreen xs z h.each screen);
  drawn =
      subst (All (IsDrawn v)) (sym items)
      (All-push (IsDrawn v) xs z (subst (λ (u : World). All (IsDrawn u) xs) (sym world) (All-weaker (IsDrawn w) (IsDrawn (opened w id user rows cols)) (drawn_opened w id user rows cols) xs h.drawn)) drawn);
  on_time = subst (All IsOnTime) (sym items) (All-push IsOnTime xs z h.on_time late);
}

-- a screen less
pub closed_in_time : (w v : World) (id : ℕ) (xs ys : List Screen) → IsServedInTime w xs → v ≡ closed w id → sizes v ≡ remove_first (is_size_of id) (sizes w) → ys ≡ remove_first (screen_id id) xs → IsServedInTime v ys
closed_in_time w v id xs ys h world less items =
    let zs : List Screen = remove_first (screen_id id) xs in
    let others : All (λ x. nat_eq id x.id ≡ false) zs = others_left shown_size id xs (subst IsUnique (sym h.sizes_are) h.unique) in
    let kept : All (IsDrawnInTime w) zs = All-remove_first (IsDrawnInTime w) (screen_id id) xs h.drawn in
    record {
      sizes_are = ap (map shown_size) items ∙ sizes_removed id xs (sizes w) h.sizes_are ∙ sym less;
      unique = subst IsUnique (sym less) (unique_removed (is_size_of id) (sizes w) h.unique);
      each = subst (All IsSessionScreen) (sym items) (All-remove_first IsSessionScreen (screen_id id) xs h.each);
      drawn =
          subst (λ (u : World). All (IsDrawnInTime u) ys) (sym world)
          (subst (All (IsDrawnInTime (closed w id))) (sym items) (λ i d l. drawn_closed_in_time w id (get_or zs i d) (others i d l) (kept i d l)));
    }

pub served_closed : (w v : World) (id : ℕ) (xs ys : List Screen) → IsServed w xs → v ≡ closed w id → sizes v ≡ remove_first (is_size_of id) (sizes w) → ys ≡ remove_first (screen_id id) xs → IsServed v ys
served_closed w v id xs ys h world less items =
    served_again v ys (closed_in_time w v id xs ys (served_in_time w xs h) world less items)
    (subst (All IsOnTime) (sym items) (All-remove_first IsOnTime (screen_id id) xs h.on_time))
