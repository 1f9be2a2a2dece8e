-- What effects make of rights is what they make of buffers.
use Rattle.std.proofs.Common.{◌≡◌, ℕ, Bool, true, false, if◌then◌else◌, List, [], ◌∷◌, ◌++◌, map, refl, ap, ◌∙◌}
use Rattle.std.specs.List.{flat_map}
use Rattle.std.specs.Prelude.{◌+◌, take}
use Rattle.mgs_model.specs.Text.{edited, is_edit}
use Rattle.mgs_model.specs.World.{Buffer, is_named, most_items}
use Rattle.mgs_model.specs.Outcome.{Effect, No_effect, Edit, Unmodified, SetList, SetOwners, Create, Kill, Save, Quit}
use Rattle.mgs_model.specs.Apply.{change_first, remove_first, new_buffer, owners_after, buffer_edited, buffer_unmodified, buffers_after, item_for}
use Rattle.mgs_laws.specs.Apart.{Rules, rules_of}
use Rattle.mgs_audit_laws.specs.Effects.{effects_done}
use Rattle.mgs_audit_laws.specs.Lines.{are_of, rights_after, told}

-- IN LISTS

-- a change that is not seen
unseen : {A B : Type 0} (r : A → B) (p : A → Bool) (f : A → A) → ((x : A) → r (f x) ≡ r x) → (xs : List A) → map r (change_first p f xs) ≡ map r xs
unseen r p f same [] = refl
unseen r p f same (x ∷ xs) = by (p x) (unseen r p f same xs)
  where
    by : (b : Bool) → map r (change_first p f xs) ≡ map r xs → map r (if b then f x ∷ xs else x ∷ change_first p f xs) ≡ r x ∷ map r xs
    by true rest = ap (λ y. y ∷ map r xs) (same x)
    by false rest = ap (λ ys. r x ∷ ys) rest

-- a change that is seen
seen : {A B : Type 0} (r : A → B) (q : B → Bool) (f : A → A) (g : B → B) → ((x : A) → r (f x) ≡ g (r x))
    → (xs : List A) → map r (change_first (λ x. q (r x)) f xs) ≡ change_first q g (map r xs)
seen r q f g does [] = refl
seen r q f g does (x ∷ xs) = by (q (r x)) (seen r q f g does xs)
  where
    by : (b : Bool) → map r (change_first (λ y. q (r y)) f xs) ≡ change_first q g (map r xs)
        → map r (if b then f x ∷ xs else x ∷ change_first (λ y. q (r y)) f xs) ≡ (if b then g (r x) ∷ map r xs else r x ∷ change_first q g (map r xs))
    by true rest = ap (λ y. y ∷ map r xs) (does x)
    by false rest = ap (λ ys. r x ∷ ys) rest

removed_seen : {A B : Type 0} (r : A → B) (q : B → Bool) → (xs : List A) → map r (remove_first (λ x. q (r x)) xs) ≡ remove_first q (map r xs)
removed_seen r q [] = refl
removed_seen r q (x ∷ xs) = by (q (r x)) (removed_seen r q xs)
  where
    by : (b : Bool) → map r (remove_first (λ y. q (r y)) xs) ≡ remove_first q (map r xs)
        → map r (if b then xs else x ∷ remove_first (λ y. q (r y)) xs) ≡ (if b then map r xs else r x ∷ remove_first q (map r xs))
    by true rest = refl
    by false rest = ap (λ ys. r x ∷ ys) rest

behind_seen : {A B : Type 0} (r : A → B) (xs ys : List A) → map r (xs ++ ys) ≡ map r xs ++ map r ys
behind_seen r [] ys = refl
behind_seen r (x ∷ xs) ys = ap (λ zs. r x ∷ zs) (behind_seen r xs ys)

-- OF BUFFERS

either : (c : Bool) (y x : Buffer) → rules_of y ≡ rules_of x → rules_of (if c then y else x) ≡ rules_of x
either true y x e = e
either false y x e = refl

edit_keeps : (a b : ℕ) (put : List ℕ) (x : Buffer) → rules_of (buffer_edited a b put x) ≡ rules_of x
edit_keeps a b put x =
    either (is_edit a b put) (record x { text = edited a b put x.text; items = take most_items (item_for a b put x ∷ x.items); serial = x.serial + 1; modified = true }) x refl

pub rights_effect : (f : Effect) (buffers : List Buffer) → map rules_of (buffers_after f buffers) ≡ rights_after f (map rules_of buffers)
rights_effect No_effect buffers = refl
rights_effect (Edit name a b put) buffers = unseen rules_of (is_named name) (buffer_edited a b put) (edit_keeps a b put) buffers
rights_effect (Unmodified name) buffers = unseen rules_of (is_named name) buffer_unmodified (λ x. refl) buffers
rights_effect (SetList name entries) buffers =
    seen rules_of (are_of name) (λ x. record x { entries = entries }) (λ r. record r { entries = entries }) (λ x. refl) buffers
rights_effect (SetOwners name new) buffers =
    seen rules_of (are_of name) (λ x. record x { owners = owners_after new x.owners }) (λ r. record r { owners = owners_after new r.owners }) (λ x. refl) buffers
rights_effect (Create name owner) buffers = behind_seen rules_of buffers (new_buffer name owner ∷ [])
rights_effect (Kill name) buffers = removed_seen rules_of (are_of name) buffers
rights_effect (Save name text) buffers = unseen rules_of (is_named name) buffer_unmodified (λ x. refl) buffers
rights_effect Quit buffers = refl

-- one effect after another
abbrev pub rights_done : List Effect → List Rules → List Rules
rights_done [] all = all
rights_done (f ∷ fs) all = rights_done fs (rights_after f all)

pub rights_behind : (fs gs : List Effect) (all : List Rules) → rights_done (fs ++ gs) all ≡ rights_done gs (rights_done fs all)
rights_behind [] gs all = refl
rights_behind (f ∷ fs) gs all = rights_behind fs gs (rights_after f all)

pub rights_effects : (fs : List Effect) (buffers : List Buffer) → map rules_of (effects_done fs buffers) ≡ rights_done fs (map rules_of buffers)
rights_effects [] buffers = refl
rights_effects (f ∷ fs) buffers = rights_effects fs (buffers_after f buffers) ∙ ap (rights_done fs) (rights_effect f buffers)

-- what is not told changes no rights
told_done : (f : Effect) (all : List Rules) → rights_done (told f) all ≡ rights_after f all
told_done No_effect all = refl
told_done (Edit name a b put) all = refl
told_done (Unmodified name) all = refl
told_done (SetList name entries) all = refl
told_done (SetOwners name new) all = refl
told_done (Create name owner) all = refl
told_done (Kill name) all = refl
told_done (Save name text) all = refl
told_done Quit all = refl

pub all_told : (fs : List Effect) (all : List Rules) → rights_done (flat_map told fs) all ≡ rights_done fs all
all_told [] all = refl
all_told (f ∷ fs) all =
    rights_behind (told f) (flat_map told fs) all
    ∙ all_told fs (rights_done (told f) all)
    ∙ ap (rights_done fs) (told_done f all)
