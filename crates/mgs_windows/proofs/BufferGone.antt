-- A buffer is gone: the windows fill the same rows, and there is still room for the places of all.
use Rattle.std.proofs.Common.{◌≡◌, ℕ, suc, ◌+◌, ◌≤◌, Bool, true, false, not, cond, List, [], ◌∷◌, length, map, Option, Some, None, refl, ap, arith}
use Rattle.mgs_model.specs.Names.{same_name}
use Rattle.mgs_windows.specs.declared.WindowMarks.{WindowMarks}
use Rattle.mgs_windows.specs.declared.Window.{Window}
use Rattle.mgs_windows.specs.Panes.{IsWindowList, is_place_in, one_shown, places_without_buffer, room_of, shown_in, shows_without_buffer, window_without_buffer}
use Rattle.mgs_windows.proofs.Heights.{AreHigh, high_of, of_high}

pub length_without_buffer : (name : List ℕ) (xs : List Window) → length (map (window_without_buffer name) xs) ≡ length xs
length_without_buffer name [] = refl
length_without_buffer name (x ∷ xs) = ap suc (length_without_buffer name xs)

one_without_buffer : (name : List ℕ) (o : Option WindowMarks) → one_shown (shows_without_buffer name o) ≤ one_shown o
one_without_buffer name None = omega arith
one_without_buffer name (Some x) = go (same_name name x.name)
  where
    go : (b : Bool) → one_shown (cond b None (Some x)) ≤ 1
    go true = omega arith
    go false = omega arith

shown_without_buffer : (name : List ℕ) (xs : List Window) → shown_in (map (window_without_buffer name) xs) ≤ shown_in xs
shown_without_buffer name [] = omega arith
shown_without_buffer name (x ∷ xs) = omega (arith, one_without_buffer name x.shows, shown_without_buffer name xs)

room_without_buffer : (name : List ℕ) (xs : List Window) → room_of (map (window_without_buffer name) xs) ≡ room_of xs
room_without_buffer name [] = refl
room_without_buffer name (x ∷ xs) = ap (λ k. x.height + 1 + k) (room_without_buffer name xs)

high_without_buffer : (name : List ℕ) (xs : List Window) → AreHigh xs → AreHigh (map (window_without_buffer name) xs)
high_without_buffer name [] all = all
high_without_buffer name (x ∷ xs) all = (all.0, high_without_buffer name xs all.1)

fewer_places : (name : List ℕ) (ps : List WindowMarks) → length (places_without_buffer name ps) ≤ length ps
fewer_places name [] = omega arith
fewer_places name (p ∷ ps) = go (not (is_place_in name p)) (fewer_places name ps)
  where
    go : (b : Bool) → length (places_without_buffer name ps) ≤ length ps → length (cond b (p ∷ places_without_buffer name ps) (places_without_buffer name ps)) ≤ suc (length ps)
    go true h = omega (arith, h)
    go false h = omega (arith, h)

pub is_list_without_buffer : (name : List ℕ) (rows selected capacity after : ℕ) (xs : List Window) (places : List WindowMarks) → after ≡ capacity → IsWindowList (record { rows = rows; windows = xs; selected = selected; places = places; capacity = capacity })
    → IsWindowList (record { rows = rows; windows = map (window_without_buffer name) xs; selected = selected; places = places_without_buffer name places; capacity = after })
is_list_without_buffer name rows selected capacity after xs places same form = record {
  selected = omega (arith, form.selected, length_without_buffer name xs);
  some = of_high _ (high_without_buffer name xs (high_of xs form.some));
  fill = omega (arith, form.fill, room_without_buffer name xs);
  room = omega (arith, form.room, same, shown_without_buffer name xs, fewer_places name places);
}
