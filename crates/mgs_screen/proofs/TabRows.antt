-- A row that is shown from a column on is the same from a tab stop before that column.
use Rattle.std.proofs.Common.{◌≡◌, ℕ, suc, ◌+◌, ◌-◌, ◌%◌, ◌<◌, false, List, [], ◌∷◌, ◌++◌, length, take, drop, replicate, cond, inl, inr, refl, sym, ap, ◌∙◌, arith}
use Rattle.std.specs.Prelude.{slice_range}
use Rattle.std.specs.List.{before_first, count_by, position_or_len}
use Rattle.std.proofs.Math.Seq.{drop-append-add}
use Rattle.std.proofs.lemmas.Bool.{cases_eq, eq-eqb, ne_eqb}
use Rattle.std.proofs.lemmas.List.{take-take}
use Rattle.std.proofs.lemmas.List.Folds.{drop_split}
use Rattle.std.proofs.lemmas.List.Sums.{sum_by-cons}
use Rattle.mgs_model.specs.Cells.{cells, cells_from, glyph, unhalved}
use Rattle.mgs_model.specs.Lines.{is_feed, line_of, line_start, start_of}
use Rattle.mgs_model.specs.Picture.{Picture}
use Rattle.mgs_model.specs.Rows.{Row, fitted, shown_row}
use Rattle.mgs_grid.specs.Cells.{rows_put}
use Rattle.mgs_grid.specs.Panes.{text_put}
use Rattle.mgs_lines.proofs.Feeds.{line_of_start}
use Rattle.mgs_lines.proofs.Glyphs.{glyph-tab}
use Rattle.mgs_lines.proofs.Walks.{cells_from-append}
use Rattle.mgs_screen.specs.TabStops.{IsTabStop, shown_from}
use Rattle.mgs_screen.specs.declared.tab_stops.TabStop.{TabStop}
use Rattle.mgs_screen.proofs.Changes.{feeds_parted}
use Rattle.mgs_screen.proofs.TabStops.{line_begins, range_before}

-- CELLS

glyph_tabbed : (k n c : ℕ) → k % 8 ≡ 0 → glyph (k + n) c ≡ glyph n c
unfolding glyph
glyph_tabbed k n c whole = elim (cases_eq c 9) [
  | inl e ↦
      let same : (k + n) % 8 ≡ n % 8 = omega (arith, whole) in
      glyph-tab (k + n) c e ∙ ap (λ m. replicate (8 - m) 32) same ∙ sym (glyph-tab n c e)
  | inr e ↦ rw (ne_eqb c 9 e) refl
]

cells_tabbed : (k n : ℕ) (xs : List ℕ) → k % 8 ≡ 0 → cells_from (k + n) xs ≡ cells_from n xs
cells_tabbed k n [] whole = refl
cells_tabbed k n (c ∷ cs) whole =
    let w : ℕ = length (glyph n c) in
    let sum : k + n + w ≡ k + (n + w) = omega arith in
    ap (λ (g : List ℕ). g ++ cells_from (k + n + length g) cs) (glyph_tabbed k n c whole)
    ∙ ap (λ m. glyph n c ++ cells_from m cs) sum
    ∙ ap (λ (ys : List ℕ). glyph n c ++ ys) (cells_tabbed k (n + w) cs whole)

cells_parted : (k : ℕ) (xs ys : List ℕ) → k ≡ length (cells xs) → k % 8 ≡ 0 → cells (xs ++ ys) ≡ cells xs ++ cells ys
cells_parted k xs ys size whole =
    let at : 0 + length (cells xs) ≡ k + 0 = omega (arith, size) in
    cells_from-append 0 xs ys
    ∙ ap (λ m. cells xs ++ cells_from m ys) at
    ∙ ap (λ (zs : List ℕ). cells xs ++ zs) (cells_tabbed k 0 ys whole)

-- A ROW

shown_later : (cols s : ℕ) (xs ys : List ℕ) → length xs < s → shown_row cols s (xs ++ ys) ≡ shown_row cols (s - length xs) ys
unfolding shown_row
shown_later cols s xs ys behind =
    let some : s ≡ 0 → ⊥ = λ e. omega (arith, e, behind) in
    let left : s - length xs ≡ 0 → ⊥ = λ e. omega (arith, e, behind) in
    let at : s + 1 ≡ length xs + (s - length xs + 1) = omega (arith, behind) in
    rw (ne_eqb s 0 some, ne_eqb (s - length xs) 0 left)
    (ap (λ (zs : List ℕ). fitted 32 cols (36 ∷ unhalved zs)) (ap (λ n. drop n (xs ++ ys)) at ∙ drop-append-add xs ys (s - length xs + 1)))

-- A LINE

before_feed : (xs ys : List ℕ) → count_by is_feed xs ≡ 0 → before_first is_feed (xs ++ ys) ≡ xs ++ before_first is_feed ys
before_feed [] ys none = refl
before_feed (c ∷ cs) ys none =
    let count = sum_by-cons (λ y. cond (is_feed y) 1 0) c cs in
    elim (cases_eq c 10) [
      | inl e ↦
          let one : count_by is_feed (c ∷ cs) ≡ 1 + count_by is_feed cs = count ∙ rw (eq-eqb c 10 e) refl in
          absurd (omega (arith, one, none))
      | inr n ↦
          let less : count_by is_feed (c ∷ cs) ≡ 0 + count_by is_feed cs = count ∙ rw (ne_eqb c 10 n) refl in
          let rest : count_by is_feed cs ≡ 0 = omega (arith, less, none) in
          let p : ℕ = position_or_len is_feed (cs ++ ys) in
          let further : 1 + p ≡ suc p = omega arith in
          rw (ne_eqb c 10 n) (ap (λ k. take k (c ∷ cs ++ ys)) further ∙ ap (λ (zs : List ℕ). c ∷ zs) (before_feed cs ys rest))
    ]

no_feeds : (text : List ℕ) (stop : TabStop) → IsTabStop text stop → count_by is_feed (slice_range text (line_start text stop.place) stop.place) ≡ 0
no_feeds text stop known =
    let place : ℕ = stop.place in
    let start : ℕ = line_start text place in
    let parted = feeds_parted start (take place text) in
    let front : List ℕ = take place text in
    let cut : take start front ≡ take start text = take-take start place text known.on.from in
    let same : line_of text start ≡ line_of text place = line_of_start text place known.within in
    omega (arith, parted, same, ap (count_by is_feed) cut, ap (count_by is_feed) (range_before text start place known.on.from))

-- from a tab stop of its line
pub line_later : (text : List ℕ) (line start : ℕ) (stop : TabStop) (cols s : ℕ) → IsTabStop text stop → line ≡ line_of text stop.place → start ≡ start_of line text → stop.column < s
    → shown_from cols (s - stop.column) stop.place text ≡ shown_from cols s start text
line_later text line start stop cols s known at begin behind =
    let place : ℕ = stop.place in
    let from : ℕ = line_start text place in
    let front : List ℕ = slice_range text from place in
    let rest : List ℕ = before_first is_feed (drop place text) in
    let here : start ≡ from = line_begins text line start place begin at known.within in
    let whole : before_first is_feed (drop start text) ≡ front ++ rest =
    ap (λ n. before_first is_feed (drop n text)) here
    ∙ ap (before_first is_feed) (drop_split text from place known.on.from)
    ∙ before_feed front (drop place text) (no_feeds text stop known) in
    sym (
    ap (λ (ys : List ℕ). shown_row cols s (cells ys)) whole
    ∙ ap (shown_row cols s) (cells_parted stop.column front rest known.on.cells known.on.whole)
    ∙ shown_later cols s (cells front) (cells rest) (omega (arith, known.on.cells, behind))
    ∙ ap (λ n. shown_row cols (s - n) (cells rest)) (sym known.on.cells))

-- a picture in which one row shows the same
pub row_same : (at s t a b : ℕ) (text : List ℕ) (p : Picture) → shown_from p.cols s a text ≡ shown_from p.cols t b text
    → text_put at 1 0 s (drop a text) p ≡ text_put at 1 0 t (drop b text) p
row_same at s t a b text p same = ap (λ (ys : List ℕ). let row : Row = record { text = ys; reversed = false } in rows_put at (row ∷ []) p.lines) same
