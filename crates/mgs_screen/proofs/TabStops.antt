-- Cells that are counted from a tab stop on.
use Rattle.std.proofs.Common.{◌≡◌, ℕ, ◌+◌, ◌-◌, ◌<◌, ◌≤◌, List, ◌++◌, length, take, drop, get_or, refl, sym, ap, subst, ◌∙◌, arith, append_assoc, length-append, length-take, zero-add, drop-drop}
use Rattle.std.specs.Prelude.{slice_range}
use Rattle.std.specs.List.{suffix_len}
use Rattle.std.proofs.lemmas.List.{drop-take, length-take-le, take-append-le, take-take}
use Rattle.mgs_laws.specs.Apart.{IsEditedOnce}
use Rattle.mgs_model.specs.Cells.{cells, cells_from, glyph}
use Rattle.mgs_model.specs.Lines.{is_within, line_of, line_start, start_of}
use Rattle.mgs_model.specs.World.{Buffer}
use Rattle.mgs_lines.proofs.Counted.{behind_begin, taken_split}
use Rattle.mgs_lines.proofs.Feeds.{start_of_line, line_of_start}
use Rattle.mgs_lines.proofs.Walks.{cells_more}
use Rattle.mgs_screen.specs.TabStops.{IsOn, IsStopBefore, IsTabStop}
use Rattle.mgs_screen.specs.declared.tab_stops.TabStop.{TabStop}
use Rattle.mgs_screen.proofs.Changes.{line_mono}

-- THE LINE OF A POSITION

-- where its line begins
pub line_begins : (text : List ℕ) (line start p : ℕ) → start ≡ start_of line text → line ≡ line_of text p → p ≤ length text → start ≡ line_start text p
line_begins text line start p begin at within = begin ∙ ap (λ n. start_of n text) at ∙ start_of_line text p within

-- a place between a line's start and a position of it
same_line : (text : List ℕ) (q p : ℕ) → p ≤ length text → line_start text p ≤ q → q ≤ p → line_start text q ≡ line_start text p
same_line text q p within from order =
    let inside : q ≤ length text = omega (arith, within, order) in
    let low : line_of text (line_start text p) ≤ line_of text q = line_mono text (line_start text p) q from inside in
    let high : line_of text q ≤ line_of text p = line_mono text q p order within in
    let same : line_of text q ≡ line_of text p = omega (arith, low, high, line_of_start text p within) in
    sym (start_of_line text q inside) ∙ ap (λ n. start_of n text) same ∙ start_of_line text p within

-- A TAB STOP

on_start : (text : List ℕ) (start : ℕ) → IsOn text start (record { place = start; column = 0 })
on_start text start =
    let none : start - start ≡ 0 = omega arith in
    record {
      from = omega arith;
      cells = sym (ap (λ n. length (cells (take n (drop start text)))) none);
      whole = refl;
      few = omega arith;
    }

-- the line's start
pub start_before : (text : List ℕ) (start p : ℕ) → start ≡ line_start text p → p ≤ length text → IsStopBefore text start p (record { place = start; column = 0 })
start_before text start p is within = record { on = on_start text start; order = omega (arith, is); within = within }

pub known_before : (text : List ℕ) (start p : ℕ) (stop : TabStop) → start ≡ line_start text p → p ≤ length text → start ≤ stop.place → stop.place ≤ p → IsTabStop text stop → IsStopBefore text start p stop
known_before text start p stop is within from order known = record {
  on = subst (λ n. IsOn text n stop) (same_line text stop.place p within (omega (arith, is, from)) order ∙ sym is) known.on;
  order = order;
  within = within;
}

pub stop_on : (text : List ℕ) (start p : ℕ) (stop : TabStop) → start ≡ line_start text p → IsStopBefore text start p stop → IsTabStop text stop
stop_on text start p stop is before = record {
  within = omega (arith, before.within, before.order);
  on = subst (λ n. IsOn text n stop) (is ∙ sym (same_line text stop.place p before.within (omega (arith, is, before.on.from)) before.order)) before.on;
}

-- ONE CHARACTER FURTHER

pub cells_next : (xs : List ℕ) (start i at w : ℕ) → start ≤ i → i < length xs → at ≡ length (cells (slice_range xs start i)) → w ≡ length (glyph at (get_or xs i 0)) → at + w ≡ length (cells (slice_range xs start (i + 1)))
cells_next xs start i at w from within is more =
    let old : List ℕ = cells (slice_range xs start i) in
    let one : w ≡ length (glyph (length old) (get_or xs i 0)) = more ∙ ap (λ n. length (glyph n (get_or xs i 0))) is in
    omega (arith, is, one, ap length (cells_more xs start i from within), length-append old (glyph (length old) (get_or xs i 0)))

-- MORE CHARACTERS

range_join : (xs : List ℕ) (a b c : ℕ) → a ≤ b → b ≤ c → slice_range xs a c ≡ slice_range xs a b ++ slice_range xs b c
range_join xs a b c low high =
    let sum : c - a ≡ (b - a) + (c - b) = omega (arith, low, high) in
    let place : a + (b - a) ≡ b = omega (arith, low) in
    ap (λ n. take n (drop a xs)) sum
    ∙ taken_split (c - b) (b - a) (drop a xs)
    ∙ ap (λ (l : List ℕ). slice_range xs a b ++ take (c - b) l) (drop-drop (b - a) a xs ∙ ap (λ n. drop n xs) place)

pub cells_behind : (xs : List ℕ) (start place p at : ℕ) → start ≤ place → place ≤ p → at ≡ length (cells (slice_range xs start place)) → at + length (cells_from at (slice_range xs place p)) ≡ length (cells (slice_range xs start p))
cells_behind xs start place p at from order is =
    let front : List ℕ = slice_range xs start place in
    let back : List ℕ = slice_range xs place p in
    behind_begin 0 at front back (is ∙ sym (zero-add (length (cells front))))
    ∙ zero-add (length (cells (front ++ back)))
    ∙ ap (λ (l : List ℕ). length (cells l)) (sym (range_join xs start place p from order))

-- AN EDIT AT OR BEHIND A TAB STOP

-- what lies between two places is told by what lies before the second
pub range_before : (xs : List ℕ) (s p : ℕ) → s ≤ p → slice_range xs s p ≡ drop s (take p xs)
range_before xs s p order =
    let sum : s + (p - s) ≡ p = omega (arith, order) in
    sym (drop-take s (p - s) xs) ∙ ap (λ n. drop s (take n xs)) sum

same_before : (old new : List ℕ) (stop : TabStop) → take stop.place new ≡ take stop.place old → IsTabStop old stop → IsTabStop new stop
same_before old new stop same known =
    let place : ℕ = stop.place in
    let start : ℕ = line_start old place in
    let here : line_start new place ≡ start = ap (λ (ys : List ℕ). place - suffix_len is_within ys) same in
    let cut : slice_range new start place ≡ slice_range old start place =
    range_before new start place known.on.from ∙ ap (drop start) same ∙ sym (range_before old start place known.on.from) in
    let size : length (take place new) ≡ place = ap length same ∙ length-take-le place old known.within in
    let on : IsOn new start stop = record {
      from = known.on.from;
      cells = known.on.cells ∙ ap (λ (ys : List ℕ). length (cells ys)) (sym cut);
      whole = known.on.whole;
      few = known.on.few;
    } in
    record {
      within = omega (arith, size, length-take place new);
      on = subst (λ n. IsOn new n stop) (sym here) on;
    }

pub stop_edited : (old new : Buffer) (e : IsEditedOnce old new) (stop : TabStop) → stop.place ≤ e.item.place → IsTabStop old.text stop → IsTabStop new.text stop
stop_edited old new e stop order known =
    let at : ℕ = e.item.place in
    let behind : List ℕ = drop e.until old.text in
    let front : List ℕ = take at old.text in
    let inside : stop.place ≤ length front = omega (arith, order, known.within, length-take at old.text) in
    let same : take stop.place new.text ≡ take stop.place old.text =
    ap (take stop.place) (e.text ∙ append_assoc front e.put behind)
    ∙ take-append-le stop.place front (e.put ++ behind) inside
    ∙ take-take stop.place at old.text order in
    same_before old.text new.text stop same known
