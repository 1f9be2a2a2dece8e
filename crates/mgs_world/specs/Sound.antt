-- Which marks are in use, and who uses them.
use Rattle.std.specs.Prelude.{◌≡◌, ℕ, ◌+◌, ◌≤◌, Bool, true, false, List, [], ◌∷◌, Option, Some, None, nat_eq, is_some, if◌then◌else◌}
use Rattle.mgs_model.specs.Names.{same_name}
use Rattle.mgs_marks.specs.Marks.{mark_in}
use Rattle.mgs_buffers.specs.MarkedBuffer.{MarkedBuffer, marked_at}
use Rattle.mgs_windows.specs.declared.WindowMarks.{WindowMarks}
use Rattle.mgs_windows.specs.declared.Window.{Window}
use Rattle.mgs_session.specs.declared.Session.{Session}

abbrev pub one_if : Bool → ℕ
one_if true = 1
one_if false = 0

abbrev pub sum_of : {A : Type 0} → (A → ℕ) → List A → ℕ
sum_of f [] = 0
sum_of f (x ∷ xs) = f x + sum_of f xs

abbrev pub option_uses : ℕ → Option ℕ → ℕ
option_uses id None = 0
option_uses id (Some m) = one_if (nat_eq m id)

-- how often a mark of a buffer is used
abbrev pub window_marks_uses : List ℕ → ℕ → Option WindowMarks → ℕ
window_marks_uses name id None = 0
window_marks_uses name id (Some x) =
    if same_name name x.name then one_if (nat_eq x.point id) + option_uses id x.mark + one_if (nat_eq x.top id) else 0

abbrev pub window_uses : List ℕ → ℕ → Window → ℕ
window_uses name id x = window_marks_uses name id x.shows

abbrev pub place_uses : List ℕ → ℕ → WindowMarks → ℕ
place_uses name id x = window_marks_uses name id (Some x)

abbrev pub session_uses : List ℕ → ℕ → Session → ℕ
session_uses name id x = sum_of (window_uses name id) x.windows.windows + sum_of (place_uses name id) x.windows.places

abbrev pub uses : List ℕ → ℕ → List Session → ℕ
uses name id xs = sum_of (session_uses name id) xs

-- 1 where the mark is in use in its buffer
abbrev pub in_use : List ℕ → ℕ → List MarkedBuffer → ℕ
in_use name id ks = one_if (is_some (mark_in (marked_at name ks).marks id))

-- each mark that is in use is used in one place of one session, and no other mark is used
pub record IsSound (ks : List MarkedBuffer) (xs : List Session) : Type 0 where
  pub once : (name : List ℕ) (id : ℕ) → uses name id xs ≡ in_use name id ks

-- the marks of one session are in use
pub record IsSessionSound (ks : List MarkedBuffer) (x : Session) : Type 0 where
  pub once : (name : List ℕ) (id : ℕ) → session_uses name id x ≤ in_use name id ks

pub record IsWindowSound (ks : List MarkedBuffer) (x : Window) : Type 0 where
  pub once : (name : List ℕ) (id : ℕ) → window_uses name id x ≤ in_use name id ks

-- the marks of what a window shows
pub record IsShownSound (ks : List MarkedBuffer) (o : Option WindowMarks) : Type 0 where
  pub once : (name : List ℕ) (id : ℕ) → window_marks_uses name id o ≤ in_use name id ks

-- one step after another
abbrev pub steps : {S A : Type 0} → (S → A → S) → S → List A → S
steps step s [] = s
steps step s (x ∷ xs) = steps step (step s x) xs
