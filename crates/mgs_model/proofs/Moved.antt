-- What an edit leaves of a buffer and of the positions in it, and a kill of a window: what a choice between the two has of both.
use Rattle.std.proofs.Common.{◌≡◌, ℕ, ◌+◌, Bool, true, false, cond, List, ◌∷◌, take, refl, ap}
use Rattle.mgs_model.specs.Text.{edited, is_edit}
use Rattle.mgs_model.specs.World.{Buffer, Window, Place, Search, most_items}
use Rattle.mgs_model.specs.Apply.{item_for, buffer_edited, window_moved, place_moved, search_moved, is_in, window_without_buffer, is_of}
use Rattle.mgs_model.specs.Names.{same_name}

-- CHOICES

-- what is so of both is so of either
pub of_either : {A : Type 0} (P : A → Type 0) (f : Bool) (x y : A) → P x → P y → P (cond f x y)
of_either P true x y p q = p
of_either P false x y p q = q

-- what both have of one
pub same_of : {A B : Type 0} (of : A → B) (f : Bool) (x y : A) → of x ≡ of y → of (cond f x y) ≡ of y
same_of of true x y e = e
same_of of false x y e = refl

-- two choices by one test
pub same_choice : {A B : Type 0} (of : A → B) (f : Bool) (x y z w : A) → of x ≡ of z → of y ≡ of w → of (cond f x y) ≡ of (cond f z w)
same_choice of true x y z w e g = e
same_choice of false x y z w e g = g

-- AN EDIT OF A BUFFER

pub edited_name : (a b : ℕ) (put : List ℕ) (x : Buffer) → (buffer_edited a b put x).name ≡ x.name
edited_name a b put x = same_of (λ (y : Buffer). y.name) (is_edit a b put) _ x refl

pub edited_owners : (a b : ℕ) (put : List ℕ) (x : Buffer) → (buffer_edited a b put x).owners ≡ x.owners
edited_owners a b put x = same_of (λ (y : Buffer). y.owners) (is_edit a b put) _ x refl

pub edited_entries : (a b : ℕ) (put : List ℕ) (x : Buffer) → (buffer_edited a b put x).entries ≡ x.entries
edited_entries a b put x = same_of (λ (y : Buffer). y.entries) (is_edit a b put) _ x refl

pub edited_file : (a b : ℕ) (put : List ℕ) (x : Buffer) → (buffer_edited a b put x).file ≡ x.file
edited_file a b put x = same_of (λ (y : Buffer). y.file) (is_edit a b put) _ x refl

-- where it is one
pub edited_is : (a b : ℕ) (put : List ℕ) (x : Buffer) → is_edit a b put ≡ true → buffer_edited a b put x ≡ record x { text = edited a b put x.text; items = take most_items (item_for a b put x ∷ x.items); serial = x.serial + 1; modified = true }
edited_is a b put x e =
    ap (λ f. cond f (record x { text = edited a b put x.text; items = take most_items (item_for a b put x ∷ x.items); serial = x.serial + 1; modified = true }) x) e

pub not_edited : (a b : ℕ) (put : List ℕ) (x : Buffer) → is_edit a b put ≡ false → buffer_edited a b put x ≡ x
not_edited a b put x e =
    ap (λ f. cond f (record x { text = edited a b put x.text; items = take most_items (item_for a b put x ∷ x.items); serial = x.serial + 1; modified = true }) x) e

-- POSITIONS THAT GO BY IT

pub moved_shows : (name : List ℕ) (move : ℕ → ℕ) (x : Window) → (window_moved name move x).shows ≡ x.shows
moved_shows name move x = same_of (λ (y : Window). y.shows) (is_in name x.shows) _ x refl

pub moved_row : (name : List ℕ) (move : ℕ → ℕ) (x : Window) → (window_moved name move x).row ≡ x.row
moved_row name move x = same_of (λ (y : Window). y.row) (is_in name x.shows) _ x refl

pub moved_height : (name : List ℕ) (move : ℕ → ℕ) (x : Window) → (window_moved name move x).height ≡ x.height
moved_height name move x = same_of (λ (y : Window). y.height) (is_in name x.shows) _ x refl

pub moved_place : (name : List ℕ) (move : ℕ → ℕ) (x : Place) → (place_moved name move x).name ≡ x.name
moved_place name move x = same_of (λ (y : Place). y.name) (same_name name x.name) _ x refl

pub moved_search : (name : List ℕ) (move : ℕ → ℕ) (x : Search) → (search_moved name move x).name ≡ x.name
moved_search name move x = same_of (λ (y : Search). y.name) (same_name name x.name) _ x refl

-- A BUFFER IS GONE

pub height_without_buffer : (name : List ℕ) (x : Window) → (window_without_buffer name x).height ≡ x.height
height_without_buffer name x = same_of (λ (y : Window). y.height) (is_of name x.shows) _ x refl
