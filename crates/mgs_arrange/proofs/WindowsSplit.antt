-- A window becomes two.
use Rattle.std.proofs.Common.{◌≡◌, ℕ, zero, suc, ◌+◌, ◌-◌, ◌/◌, ◌<◌, ◌≤◌, Bool, true, false, cond, List, [], ◌∷◌, length, map, Option, Some, None, refl, sym, ap, ◌∙◌, arith}
use Rattle.std.specs.Prelude.{nat_le, nat_lt, slice_get, Ok, Err}
use Rattle.std.specs.List.{insert}
use Rattle.std.specs.Option.{option_and_then, option_map}
use Rattle.std.proofs.lemmas.List.{length-map}
use Rattle.std.proofs.lemmas.Bool.Decides.{nat_tests}
use Rattle.mgs_model.specs.World.{Buffer_of}
use Rattle.mgs_model.specs.World as model
use Rattle.mgs_model.specs.Apply.{change_at, window_at}
use Rattle.mgs_model.specs.declared.limits.TheConstants.{WINDOW_LIMIT}
use Rattle.mgs_model.specs.declared.echo_text.Message.TheVariants.{Says}
use Rattle.mgs_model.specs.declared.echo_text.Notice.TheVariants.{WindowTooSmall, TooManyWindows}
use Rattle.mgs_model.specs.declared.session.Arrangement.TheVariants.{SplitWindow}
use Rattle.mgs_buffers.specs.MarkedBuffer.{MarkedBuffer, mark_at}
use Rattle.mgs_windows.specs.Panes as panes
use Rattle.mgs_windows.specs.Panes.{height_at, rows_at, shows_at, split_at}
use Rattle.mgs_windows.specs.declared.WindowMarks.{WindowMarks}
use Rattle.mgs_windows.specs.declared.Window.{Window}
use Rattle.mgs_windows.specs.declared.RowPane.{RowPane}
use Rattle.mgs_session.specs.declared.Session.{Session}
use Rattle.mgs_session.specs.Sessions.{broken_off}
use Rattle.mgs_world.specs.Worlds.{buffers_of, session_of, window_of, window_shown}
use Rattle.mgs_world.specs.Sound.{IsSessionSound, IsShownSound, in_use, session_uses, sum_of, window_marks_uses, window_uses}
use Rattle.mgs_world.specs.WindowMarks.{MarksStay}
use Rattle.mgs_world.proofs.WindowMarks.{same_sizes, session_local, window_local}
use Rattle.mgs_world.proofs.Worlds.{same_window, same_windows}
use Rattle.mgs_arrange.specs.Arranged.{arranged_or_told, lower_half, rearranged, upper_half, window_split}
use Rattle.mgs_arrange.specs.Arranging.{IsCopied, MayBeSplit, Rearranged}
use Rattle.mgs_arrange.proofs.WindowsGone.{sized, height_seen}

-- WHETHER IT CAN

some_within : {A : Type 0} (xs : List A) (i : ℕ) (x : A) → slice_get xs i ≡ Some x → i < length xs
some_within [] i x e = cc
some_within (y ∷ xs) zero x e = omega arith
some_within (y ∷ xs) (suc i) x e = omega (arith, some_within xs i x e)

-- what the selected window has and shows
pub selected_height : (x : Session) (w : Window) → slice_get x.windows.windows x.windows.selected ≡ Some w → height_at x.windows.selected x.windows.windows ≡ w.height
selected_height x w e = ap panes.height_in e

selected_shows : (x : Session) (w : Window) → slice_get x.windows.windows x.windows.selected ≡ Some w → shows_at x.windows.selected x.windows.windows ≡ w.shows
selected_shows x w e = ap (option_and_then (λ (v : Window). v.shows)) e

selected_seen : (ks : List MarkedBuffer) (x : Session) (w : Window) → slice_get x.windows.windows x.windows.selected ≡ Some w → (window_at x.windows.selected (session_of ks x).windows).height ≡ w.height
selected_seen ks x w e = height_seen ks x.windows.selected x.windows.windows (some_within x.windows.windows x.windows.selected w e) ∙ selected_height x w e

abbrev answer_of : Bool → Bool → model.Session → model.Session
answer_of small many s = arranged_or_told (cond small (Err (Says WindowTooSmall)) (cond many (Err (Says TooManyWindows)) (Ok (window_split s)))) s

pub split_small : (n : Option ℕ) (ks : List MarkedBuffer) (x : Session) (w : Window) → slice_get x.windows.windows x.windows.selected ≡ Some w → w.height < 3 → session_of ks (broken_off (Says WindowTooSmall) x) ≡ arranged_or_told (rearranged SplitWindow n (session_of ks x)) (session_of ks x)
split_small n ks x w e small =
    let s = session_of ks x in
    let test : nat_lt w.height 3 ≡ true = grind (arith, nat_tests, small) in
    sym (ap (λ (b : Bool). answer_of b (nat_le WINDOW_LIMIT (length s.windows)) s) (ap (λ (h : ℕ). nat_lt h 3) (selected_seen ks x w e) ∙ test))

pub split_many : (n : Option ℕ) (ks : List MarkedBuffer) (x : Session) (w : Window) → slice_get x.windows.windows x.windows.selected ≡ Some w → 3 ≤ w.height → WINDOW_LIMIT ≤ length x.windows.windows → session_of ks (broken_off (Says TooManyWindows) x) ≡ arranged_or_told (rearranged SplitWindow n (session_of ks x)) (session_of ks x)
split_many n ks x w e high many =
    let s = session_of ks x in
    let test : nat_lt w.height 3 ≡ false = grind (arith, nat_tests, high) in
    let full : nat_le WINDOW_LIMIT (length x.windows.windows) ≡ true = grind (arith, nat_tests, many) in
    sym (ap (λ (b : Bool). answer_of b (nat_le WINDOW_LIMIT (length s.windows)) s) (ap (λ (h : ℕ). nat_lt h 3) (selected_seen ks x w e) ∙ test)
    ∙ ap (λ (b : Bool). answer_of false b s) (ap (nat_le WINDOW_LIMIT) (length-map x.windows.windows (window_of ks)) ∙ full))

pub may_split : (n : Option ℕ) (ks : List MarkedBuffer) (x : Session) (w : Window) → slice_get x.windows.windows x.windows.selected ≡ Some w → 3 ≤ w.height → length x.windows.windows < WINDOW_LIMIT → MayBeSplit n (session_of ks x)
may_split n ks x w e high few =
    let s = session_of ks x in
    let test : nat_lt w.height 3 ≡ false = grind (arith, nat_tests, high) in
    let room : nat_le WINDOW_LIMIT (length x.windows.windows) ≡ false = grind (arith, nat_tests, few) in
    ap (λ (b : Bool). cond b (Err (Says WindowTooSmall)) (cond (nat_le WINDOW_LIMIT (length s.windows)) (Err (Says TooManyWindows)) (Ok (window_split s)))) (ap (λ (h : ℕ). nat_lt h 3) (selected_seen ks x w e) ∙ test)
    ∙ ap (λ (b : Bool). cond b (Err (Says TooManyWindows)) (Ok (window_split s))) (ap (nat_le WINDOW_LIMIT) (length-map x.windows.windows (window_of ks)) ∙ room)

-- THE MARKS THAT ARE USED

pub shown_uses : (m : List ℕ) (i k : ℕ) (xs : List Window) → window_marks_uses m i (shows_at k xs) ≤ sum_of (window_uses m i) xs
shown_uses m i k [] = omega arith
shown_uses m i zero (x ∷ xs) = omega arith
shown_uses m i (suc k) (x ∷ xs) = omega (arith, shown_uses m i k xs)

pub selected_sound : (ks : List MarkedBuffer) (x : Session) (w : Window) → slice_get x.windows.windows x.windows.selected ≡ Some w → IsSessionSound ks x → IsShownSound ks w.shows
selected_sound ks x w e sound =
    record { once = λ m i. omega (arith, sound.once m i, shown_uses m i x.windows.selected x.windows.windows, ap (window_marks_uses m i) (selected_shows x w e)) }

split_uses : (m : List ℕ) (i k : ℕ) (o : Option WindowMarks) (xs : List Window) → k < length xs → sum_of (window_uses m i) (split_at k o xs) ≡ sum_of (window_uses m i) xs + window_marks_uses m i o
split_uses m i k o [] within = absurd (omega (arith, within))
split_uses m i zero o (x ∷ xs) within = omega arith
split_uses m i (suc k) o (x ∷ xs) within = omega (arith, split_uses m i k o xs (omega (arith, within)))

-- WHAT IS COPIED

copied_buffers : (o p : Option WindowMarks) (ks ls : List MarkedBuffer) → IsCopied o p ks ls → buffers_of ls ≡ buffers_of ks
copied_buffers None None ks ls h = ap buffers_of h
copied_buffers (Some x) (Some y) ks ls h = h.buffers
copied_buffers _ _ ks ls h = absurd h

copied_stay : (o p : Option WindowMarks) (ks ls : List MarkedBuffer) → IsCopied o p ks ls → MarksStay ks ls
copied_stay None None ks ls h = λ m i a b. ap (λ (k : List MarkedBuffer). mark_at m k i) h
copied_stay (Some x) (Some y) ks ls h = h.stay
copied_stay _ _ ks ls h = absurd h

copied_uses : (o p : Option WindowMarks) (ks ls : List MarkedBuffer) → IsCopied o p ks ls → (m : List ℕ) (i : ℕ) → in_use m i ls ≡ in_use m i ks + window_marks_uses m i p
copied_uses None None ks ls h m i = omega (arith, ap (in_use m i) h)
copied_uses (Some x) (Some y) ks ls h m i = h.uses m i
copied_uses _ _ ks ls h m i = absurd h

-- it is seen as what it was copied from was
copied_shown : (o p : Option WindowMarks) (ks ls : List MarkedBuffer) (height : ℕ) (rows : RowPane) → IsCopied o p ks ls → window_shown ls height p rows ≡ window_shown ks height o rows
copied_shown None None ks ls height rows h = refl
copied_shown (Some x) (Some y) ks ls height rows h =
    ap (λ (n : List ℕ). let w : model.Window = record { shows = Buffer_of n; point = mark_at n ls y.point; mark = option_map (mark_at n ls) y.mark; top = mark_at n ls y.top; row = 0; height = height } in w) h.named
    ∙ same_window (Buffer_of x.name) _ _ _ _ _ _ 0 height h.point h.mark h.top
copied_shown _ _ ks ls height rows h = absurd h

-- THE WINDOWS AFTERWARDS

split_there : (ls : List MarkedBuffer) (p : Option WindowMarks) (k : ℕ) (xs : List Window) → k < length xs → ((h : ℕ) → window_shown ls h p (rows_at k xs) ≡ window_shown ls h (shows_at k xs) (rows_at k xs)) → map (window_of ls) (split_at k p xs) ≡ insert (change_at k upper_half (map (window_of ls) xs)) (suc k) (lower_half (window_at k (map (window_of ls) xs)))
split_there ls p k [] within same = absurd (omega (arith, within))
split_there ls p zero (x ∷ xs) within same =
    ap (λ (w : model.Window). w ∷ window_shown ls (x.height - 1 - x.height / 2) p x.rows ∷ map (window_of ls) xs) (sized ls (λ h. h / 2) x.height x.shows x.rows)
    ∙ ap (λ (w : model.Window). upper_half (window_of ls x) ∷ w ∷ map (window_of ls) xs) (same (x.height - 1 - x.height / 2) ∙ sized ls (λ h. h - 1 - h / 2) x.height x.shows x.rows)
split_there ls p (suc k) (x ∷ xs) within same = ap (λ ws. window_of ls x ∷ ws) (split_there ls p k xs (omega (arith, within)) same)

-- THE SESSION AFTERWARDS

used_still : (ks ls : List MarkedBuffer) (o p : Option WindowMarks) (x : Session) → IsSessionSound ks x → IsCopied o p ks ls → (n : List ℕ) (i : ℕ) → 1 ≤ session_uses n i x → mark_at n ls i ≡ mark_at n ks i
used_still ks ls o p x sound h n i used =
    let before : 1 ≤ in_use n i ks = omega (arith, used, sound.once n i) in
    copied_stay o p ks ls h n i before (omega (arith, before, copied_uses o p ks ls h n i))

abbrev split_session : ℕ → Option WindowMarks → Session → Session
split_session capacity p x = record x { windows = panes.window_split p (record x.windows { capacity = capacity }) }

pub split_rearranged : (ks ls : List MarkedBuffer) (capacity : ℕ) (p : Option WindowMarks) (x : Session) (w : Window) → slice_get x.windows.windows x.windows.selected ≡ Some w → IsCopied w.shows p ks ls → Rearranged ks ls x (split_session capacity p x)
split_rearranged ks ls capacity p x w e h = record {
  buffers = copied_buffers w.shows p ks ls h;
  uses = λ m i. omega (arith, copied_uses w.shows p ks ls h m i, split_uses m i x.windows.selected p x.windows.windows (some_within x.windows.windows x.windows.selected w e));
  stay = λ m i state. copied_stay w.shows p ks ls h m i;
  size = refl;
}

pub split_seen : (ks ls : List MarkedBuffer) (capacity : ℕ) (p : Option WindowMarks) (x : Session) (w : Window) → slice_get x.windows.windows x.windows.selected ≡ Some w → IsSessionSound ks x → IsCopied w.shows p ks ls → session_of ls (split_session capacity p x) ≡ window_split (session_of ks x)
split_seen ks ls capacity p x w e sound h =
    let k = x.windows.selected in
    let xs = x.windows.windows in
    let within = some_within xs k w e in
    let next : suc k ≡ k + 1 = omega arith in
    let shows : w.shows ≡ shows_at k xs = sym (selected_shows x w e) in
    let one : (n : ℕ) → window_shown ls n (shows_at k xs) (rows_at k xs) ≡ window_shown ks n (shows_at k xs) (rows_at k xs) =
    λ n. window_local ls ks (record { height = n; shows = shows_at k xs; rows = rows_at k xs }) (λ m i used. used_still ks ls w.shows p x sound h m i (omega (arith, used, shown_uses m i k xs))) in
    let same : (n : ℕ) → window_shown ls n p (rows_at k xs) ≡ window_shown ls n (shows_at k xs) (rows_at k xs) = λ n. copied_shown w.shows p ks ls n (rows_at k xs) h ∙ ap (λ (o : Option WindowMarks). window_shown ks n o (rows_at k xs)) shows ∙ sym (one n) in
    same_windows (session_of ls x) _ _
    (split_there ls p k xs within same ∙ ap (λ (n : ℕ). insert (change_at k upper_half (map (window_of ls) xs)) n (lower_half (window_at k (map (window_of ls) xs)))) next)
    ∙ ap window_split (session_local ls ks x (same_sizes ks ls (copied_buffers w.shows p ks ls h)) (used_still ks ls w.shows p x sound h))
