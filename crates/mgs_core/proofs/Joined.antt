-- What two turns leave as it was, one after the other.
use Rattle.std.proofs.Common.{◌≡◌, ℕ, Bool, true, false, cond, List, [], ◌∷◌, map, Option, Some, None, refl, sym, ap, subst, ◌∙◌}
use Rattle.std.specs.Prelude.{◌||◌}
use Rattle.std.specs.List.{list_any}
use Rattle.std.specs.Option.{option_and_then}
use Rattle.mgs_model.specs.Names.{same_name}
use Rattle.mgs_model.specs.World.{World, Session, Window, find_buffer, has_id}
use Rattle.mgs_laws.specs.Apart.{Apart, bare, may_show, unchanged}
use Rattle.mgs_model.specs.declared.touched.Touched.{Touched}
use Rattle.mgs_model.specs.declared.touched.Touched.TheVariants.{Nowhere, In, Anywhere}
use Rattle.mgs_laws.proofs.Apart.{apart_then}
use Rattle.mgs_model.proofs.Blind.{same_names}
use Rattle.mgs_core.specs.Turns.{touched_both}

-- nothing is said to stay where anything was touched
pub apart_anywhere : (id : ℕ) (u v : World) → v.directory ≡ u.directory → Apart Anywhere id u v
apart_anywhere id u v same = record { directory = same; buffers = tt; rules = λ h. cc; texts = λ h. cc; sessions = λ h. cc }

-- a session that shows nothing of a buffer is one that is not the acting one
unchanged_less : (name : List ℕ) (id : ℕ) (x : Session) → unchanged (In name) id x ≡ option_and_then (unchanged (In name) id) (unchanged Nowhere id x)
unchanged_less name id x = by (has_id id x) (list_any (λ (w : Window). may_show Nowhere w.shows) x.windows) refl (none_shown x.windows)
  where
    none_shown : (xs : List Window) → list_any (λ (w : Window). may_show Nowhere w.shows) xs ≡ false
    none_shown [] = refl
    none_shown (w ∷ ws) = none_shown ws

    by : (state shown : Bool) → has_id id x ≡ state → shown ≡ false → unchanged (In name) id x ≡ option_and_then (unchanged (In name) id) (cond (state || shown) None (Some (bare x)))
    by true shown e h = ap (λ (b : Bool). cond (b || list_any (λ (w : Window). may_show (In name) w.shows) x.windows) None (Some (bare x))) e
    by false true e h = cc
    by false false e h = refl

map_through : {A B : Type 0} (f g : A → Option B) (h : Option B → Option B) → ((x : A) → f x ≡ h (g x)) → (xs ys : List A) → map g xs ≡ map g ys → map f xs ≡ map f ys
map_through f g h same [] [] e = refl
map_through {A = A} {B = B} f g h same (x ∷ xs) (y ∷ ys) e =
    let first : g x ≡ g y = cc in
    let rest : map g xs ≡ map g ys = cc in
    ap (λ (o : Option B). o ∷ map f xs) (same x ∙ ap h first ∙ sym (same y)) ∙ ap (λ (os : List (Option B)). f y ∷ os) (map_through f g h same xs ys rest)
map_through f g h same _ _ e = cc

pub apart_nowhere : (t : Touched) (id : ℕ) (u v : World) → Apart Nowhere id u v → Apart t id u v
apart_nowhere Nowhere id u v a = a
apart_nowhere (In name) id u v a = record {
  directory = a.directory;
  buffers = λ other differs. ap (find_buffer other) a.buffers;
  rules = λ h. a.rules refl;
  texts = λ h. a.texts refl;
  sessions = λ h. map_through (unchanged (In name) id) (unchanged Nowhere id) (option_and_then (unchanged (In name) id)) (unchanged_less name id) v.sessions u.sessions (a.sessions refl);
}
apart_nowhere Anywhere id u v a = apart_anywhere id u v a.directory

-- one after the other
pub apart_both : (t s : Touched) (id : ℕ) (u v w : World) → Apart t id u v → Apart s id v w → Apart (touched_both t s) id u w
apart_both Nowhere s id u v w a b = apart_then s id u v w (apart_nowhere s id u v a) b
apart_both (In name) Nowhere id u v w a b = apart_then (In name) id u v w a (apart_nowhere (In name) id v w b)
apart_both (In name) (In other) id u v w a b = by (same_name name other) refl
  where
    by : (c : Bool) → same_name name other ≡ c → Apart (cond c (In name) Anywhere) id u w
    by true e = apart_then (In name) id u v w a (subst (λ (m : List ℕ). Apart (In m) id v w) (sym (same_names name other e)) b)
    by false e = apart_anywhere id u w (b.directory ∙ a.directory)
apart_both _ _ id u v w a b = apart_anywhere id u w (b.directory ∙ a.directory)
