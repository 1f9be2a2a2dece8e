-- What the operations of a change do to a screen.
use Rattle.std.proofs.Common.{◌≡◌, ℕ, zero, suc, ◌+◌, ◌-◌, ◌*◌, ◌<◌, ◌≤◌, Bool, true, false, ◌⊎◌, inl, inr, List, [], ◌∷◌, ◌++◌, map, length, min, max, take, drop, replicate, refl, sym, ap, subst, ◌∙◌, append_assoc, add-zero, arith}
use Rattle.std.specs.Prelude.{slice_range, slice_get, Some, nat_eq, nat_lt, ◌&&◌}
use Rattle.std.specs.List.{AllByRecursion, flat_map}
use Rattle.std.proofs.lemmas.Bool.{ltb-true, cases_Bool, cases_eq, and_parts, eqb-true, eqb-false, eq-eqb}
use Rattle.std.proofs.lemmas.List.{append-nil, take_at, drop_at, length-append, length-map, length-drop, length-take-le, take-take, take-append-drop, take-map, drop-map, drop-drop, drop-replicate}
use Rattle.std.proofs.lemmas.List.Elements.{recursion_from_All}
use Rattle.std.proofs.lemmas.Slice.{between_is}
use Rattle.mgs_model.specs.Rows.{Row}
use Rattle.mgs_model.specs.Picture.{Picture, IsRow, IsPicture}
use Rattle.mgs_grid.specs.RowSets.{AreSameApart, IsNone}
use Rattle.mgs_grid.proofs.RowSets.{none_apart}
use Rattle.mgs_term.specs.Screen.{Screen, blank_cell, parted}
use Rattle.mgs_term.specs.Sequences.{after}
use Rattle.mgs_term.specs.Drawing.{Leads, Draws, IsFaithful}
use Rattle.mgs_term.proofs.Drawing.{Leads-append}
use Rattle.mgs_term.specs.declared.cell.Cell.{Cell}
use Rattle.mgs_term.specs.declared.operation.Operation.{Operation}
use Rattle.mgs_term.specs.declared.operation.Operation.TheVariants.{Goto, Erase, Plain}
use Rattle.mgs_paint.specs.Operations.{bytes_of, prints}
use Rattle.mgs_paint.specs.Repainting.{IsChanged, IsOfChange}
use Rattle.mgs_paint.specs.Painting.{cell_of, row_cells, cells_of, shown}
use Rattle.mgs_paint.specs.Changes.{ink_end, start_column, end_column, moved, way, piece, row_changes, rows_changes, changes}
use Rattle.mgs_paint.proofs.Columns.{ink_stays, start_first, same_row, same_columns, cells_stay, start_apart, end_apart, ink_apart}
use Rattle.mgs_paint.proofs.Pieces.{moved_prints}
use Rattle.mgs_paint.proofs.Cursor.{leads_cursor}
use Rattle.mgs_paint.proofs.Written.{mid, heads_half, ended, ended_full, ended_whole, cut_front, cut_whole, part_stays}
use Rattle.mgs_paint.proofs.WholeCells.{whole_cut}
use Rattle.mgs_model.specs.Cells.{AreCells, starts_half}
use Rattle.mgs_paint.proofs.Rows.{Permits, prints_lead, add-suc-move}

-- PARTS OF A LIST

upto : {A : Type 0} (xs : List A) (s e : ℕ) → s ≤ e → take e xs ≡ take s xs ++ slice_range xs s e
upto xs s e l =
    sym (take-append-drop s (take e xs)) ∙ ap (λ ys. ys ++ drop s (take e xs)) (take-take s e xs l)
    ∙ ap (λ ys. take s xs ++ ys) (sym (between_is xs s e))

parts : {A : Type 0} (xs : List A) (s e : ℕ) → s ≤ e → xs ≡ take s xs ++ (slice_range xs s e ++ drop e xs)
parts xs s e l =
    sym (take-append-drop e xs) ∙ ap (λ ys. ys ++ drop e xs) (upto xs s e l) ∙ append_assoc (take s xs) (slice_range xs s e) (drop e xs)

between_map : {A B : Type 0} (f : A → B) (xs : List A) (s e : ℕ) → slice_range (map f xs) s e ≡ map f (slice_range xs s e)
between_map f xs s e = ap (take (e - s)) (drop-map f s xs) ∙ take-map f (e - s) (drop s xs)

length_part : {A : Type 0} (xs : List A) (s e : ℕ) → s ≤ e → e ≤ length xs → length (slice_range xs s e) ≡ e - s
length_part xs s e o l = length-take-le (e - s) (drop s xs) (omega (arith, length-drop s xs))

-- a part between two columns at which no wide character is parted
pub slice_whole : (text : List ℕ) (s e : ℕ) → AreCells false text → s ≤ e → starts_half (drop s text) ≡ false → starts_half (drop e text) ≡ false → AreCells false (slice_range text s e)
slice_whole text s e whole order first last =
    let sum : s + (e - s) ≡ e = omega arith in
    let back : AreCells false (drop s text) = (whole_cut false text s whole first).1 in
    (whole_cut false (drop s text) (e - s) back (ap starts_half (drop-drop (e - s) s text ∙ ap (λ n. drop n text) sum) ∙ last)).0

-- what begins behind a column, in cells
pub heads_map : (reversed : Bool) (xs : List ℕ) (back : List Cell) → 1 ≤ length xs → heads_half (map (cell_of reversed) xs ++ back) ≡ starts_half xs
heads_map reversed [] back some = absurd (omega arith)
heads_map reversed (x ∷ xs) back some = refl

-- the cells that a part is printed over begin what begins there
part_begins : (olds back : List Cell) (s e : ℕ) → s ≤ e → slice_range olds s e ++ (drop e olds ++ back) ≡ drop s olds ++ back
part_begins olds back s e l =
    let sum : s + (e - s) ≡ e = omega arith in
    let rest : drop e olds ≡ drop (e - s) (drop s olds) = ap (λ n. drop n olds) (sym sum) ∙ sym (drop-drop (e - s) s olds) in
    sym (append_assoc (slice_range olds s e) (drop e olds) back) ∙ ap (λ cs. cs ++ back) (ap (λ cs. slice_range olds s e ++ cs) rest ∙ take-append-drop (e - s) (drop s olds))

-- what stands behind a part, where a row goes on there
ended_cells : (cols k : ℕ) (text : List ℕ) (olds back : List Cell) → 1 ≤ length olds → (now : List Cell) × (length now ≡ length olds) × (ended cols k text (olds ++ back) ≡ now ++ back)
ended_cells cols k [] olds back some = (olds, refl, refl)
ended_cells cols k (c ∷ cs) olds back some = cut_front cols (k + length (c ∷ cs)) olds back some

ended_head : (cols k : ℕ) (text : List ℕ) (rest : List Cell) → (k ≡ 0) ⊎ (heads_half rest ≡ false) → k + length text < cols → (k + length text ≡ 0) ⊎ (heads_half (ended cols k text rest) ≡ false)
ended_head cols k [] rest h lt = elim h [ inl e ↦ inl (omega (arith, e)) | inr e ↦ inr e ]
ended_head cols k (c ∷ cs) rest h lt = inr (cut_whole cols (k + length (c ∷ cs)) rest lt)

-- cells that are new up to where they are the same
ends_in : (front olds news back : List Cell) (end : ℕ) → drop end olds ≡ drop end news → front ++ (take end news ++ (drop end olds ++ back)) ≡ front ++ (news ++ back)
ends_in front olds news back end tails =
    ap (λ cs. front ++ (take end news ++ (cs ++ back))) tails
    ∙ ap (λ cs. front ++ cs) (sym (append_assoc (take end news) (drop end news) back) ∙ ap (λ cs. cs ++ back) (take-append-drop end news))

-- A PIECE OF A ROW

-- the cursor goes its way
way_leads : (may : Screen → Operation → Type 0) (rows cols : ℕ) (cells : List Cell) (row col : ℕ) (to : ℕ × ℕ) (was : Bool)
    → ((s : Screen) (r c : ℕ) → may s (Goto r c)) → to.0 < rows → to.1 < cols
    → Leads may (way (row, col) to) (mid rows cols cells row col was) (mid rows cols cells to.0 to.1 was)
way_leads may rows cols cells row col to was moves row_in col_in = elim (cases_Bool (nat_eq row to.0 && nat_eq col to.1)) [
  | inl e ↦
      let both = and_parts (nat_eq row to.0) (nat_eq col to.1) e in
      rw e (ap (λ r. mid rows cols cells r col was) (eqb-true row to.0 both.0) ∙ ap (λ c. mid rows cols cells to.0 c was) (eqb-true col to.1 both.1))
  | inr e ↦ rw e (((row_in, col_in), refl), moves _ to.0 to.1, refl)
]

-- the rest of a row is erased
erase_leads : (may : Screen → Operation → Type 0) (rows cols i k : ℕ) (front rest back : List Cell)
    → may (mid rows cols (front ++ (rest ++ back)) i k false) Erase → length front ≡ i * cols + k → length rest ≡ cols - k → k ≤ cols → (k ≡ 0) ⊎ (heads_half (rest ++ back) ≡ false)
    → Leads may (Erase ∷ []) (mid rows cols (front ++ (rest ++ back)) i k false) (mid rows cols (front ++ (replicate (cols - k) blank_cell ++ back)) i k false)
erase_leads may rows cols i k front rest back permit at size within whole =
    let stays : parted (i * cols) cols k (front ++ (rest ++ back)) ≡ front ++ (rest ++ back) = part_stays (i * cols) cols k front (rest ++ back) at whole in
    let kept : take (i * cols + k) (front ++ (rest ++ back)) ≡ front = take_at front (rest ++ back) (i * cols + k) at in
    let past : drop (i * cols + cols) (front ++ (rest ++ back)) ≡ back =
    ap (drop (i * cols + cols)) (sym (append_assoc front rest back)) ∙ drop_at (front ++ rest) back (i * cols + cols) (omega (arith, length-append front rest, at, size)) in
    ((tt, refl), permit, rw (stays, kept, past) refl)

-- characters from a column to another replace as many cells
part_leads : (may : Screen → Operation → Type 0) (rows cols i start end : ℕ) (front olds back more : List Cell) (reversed : Bool) (text : List ℕ)
    → Permits may (front ++ (map (cell_of reversed) text ++ more)) i
    → start ≤ end → end ≤ cols → length front ≡ i * cols → length olds ≡ cols → length text ≡ cols → AreCells false (slice_range text start end)
    → take start olds ≡ take start (map (cell_of reversed) text) → (start ≡ 0) ⊎ (heads_half (drop start olds ++ back) ≡ false)
    → (k : ℕ) × Leads may (prints (slice_range text start end)) (mid rows cols (front ++ (olds ++ back)) i start reversed) (mid rows cols (front ++ (take end (map (cell_of reversed) text) ++ ended cols start (slice_range text start end) (drop end olds ++ back))) i k reversed)
part_leads may rows cols i start end front olds back more reversed text permits order within at was wide whole same apart =
    let news : List Cell = map (cell_of reversed) text in
    let head : List Cell = take start news in
    let cells : List Cell = map (cell_of reversed) (slice_range text start end) in
    let rest : List Cell = drop end olds ++ back in
    let last : List Cell = ended cols start (slice_range text start end) rest in
    let n : length news ≡ cols = length-map text (cell_of reversed) ∙ wide in
    let begins : front ++ (olds ++ back) ≡ (front ++ head) ++ (slice_range olds start end ++ rest) =
    ap (λ xs. front ++ (xs ++ back)) (parts olds start end order ∙ ap (λ xs. xs ++ (slice_range olds start end ++ drop end olds)) same)
    ∙ ap (λ xs. front ++ xs) (append_assoc head (slice_range olds start end ++ drop end olds) back ∙ ap (λ xs. head ++ xs) (append_assoc (slice_range olds start end) (drop end olds) back))
    ∙ sym (append_assoc front head (slice_range olds start end ++ rest)) in
    let ends : (front ++ head) ++ (cells ++ last) ≡ front ++ (take end news ++ last) =
    append_assoc front head (cells ++ last)
    ∙ ap (λ xs. front ++ xs) (sym (append_assoc head cells last) ∙ ap (λ xs. xs ++ last) (ap (λ xs. head ++ xs) (sym (between_map (cell_of reversed) text start end)) ∙ sym (upto news start end order))) in
    let goal : front ++ (news ++ more) ≡ (front ++ head) ++ (cells ++ (drop end news ++ more)) =
    ap (λ xs. front ++ (xs ++ more)) (parts news start end order ∙ ap (λ xs. head ++ (xs ++ drop end news)) (between_map (cell_of reversed) text start end))
    ∙ ap (λ xs. front ++ xs) (append_assoc head (cells ++ drop end news) more ∙ ap (λ xs. head ++ xs) (append_assoc cells (drop end news) more))
    ∙ sym (append_assoc front head (cells ++ (drop end news ++ more))) in
    let p = prints_lead may rows cols i start (front ++ head) (slice_range olds start end) rest (drop end news ++ more) reversed (slice_range text start end)
    (subst (λ g. Permits may g i) goal permits)
    (λ w. omega (arith, at, length-append front head, length-take-le start news (omega (arith, n, order, within))))
    (length_part olds start end order (omega arith) ∙ sym (length_part text start end order (omega arith)))
    (omega (arith, length_part text start end order (omega arith))) whole
    (λ some. subst (λ cs. (start ≡ 0) ⊎ (heads_half cs ≡ false)) (sym (part_begins olds back start end order)) apart) in (
      p.0,
      subst (λ b. Leads may (prints (slice_range text start end)) (mid rows cols b i start reversed) (mid rows cols (front ++ (take end news ++ last)) i p.0 reversed)) (sym begins)
          (subst (λ e. Leads may (prints (slice_range text start end)) (mid rows cols ((front ++ head) ++ (slice_range olds start end ++ rest)) i start reversed) (mid rows cols e i p.0 reversed)) ends p.1),
    )

cells_of_blanks : (n : ℕ) → map (cell_of false) (replicate n 32) ≡ replicate n blank_cell
cells_of_blanks zero = refl
cells_of_blanks (suc n) = ap (λ cs. blank_cell ∷ cs) (cells_of_blanks n)

-- from the end of its ink on a text is blank
blanks_from : (text : List ℕ) (k : ℕ) → ink_end text ≤ k → map (cell_of false) (drop k text) ≡ replicate (length text - k) blank_cell
blanks_from text k past =
    let ink = ink_stays text in
    let on : drop k text ≡ drop (k - ink_end text) (drop (ink_end text) text) = sym (drop-drop (k - ink_end text) (ink_end text) text ∙ ap (λ n. drop n text) (omega arith)) in
    let blank : drop k text ≡ replicate (length text - k) 32 =
    on ∙ ap (drop (k - ink_end text)) ink.0 ∙ drop-replicate (k - ink_end text) (length text - ink_end text) 32 ∙ ap (λ n. replicate n 32) (omega arith) in
    ap (map (cell_of false)) blank ∙ cells_of_blanks (length text - k)

-- behind characters that were printed a row is parted
cleared : (cols start ink : ℕ) (text : List ℕ) (rest now : List Cell) → 1 ≤ length text → start + length text ≡ ink → ink < cols → ended cols start text rest ≡ now → (ink ≡ 0) ⊎ (heads_half now ≡ false)
cleared cols start ink [] rest now some sum lt e = absurd (omega arith)
cleared cols start ink (c ∷ cs) rest now some sum lt e = inr (ap heads_half (sym e) ∙ cut_whole cols (start + length (c ∷ cs)) rest (omega (arith, sum)))

-- characters are written up to the blanks at the row's end, and the rest is erased
erased_leads : (may : Screen → Operation → Type 0) (rows cols i start ink : ℕ) (front olds back more : List Cell) (text : List ℕ)
    → Permits may (front ++ (map (cell_of false) text ++ more)) i
    → start ≤ ink → ink < cols → ink_end text ≤ ink → length front ≡ i * cols → length olds ≡ cols → length text ≡ cols → AreCells false (slice_range text start ink)
    → take start olds ≡ take start (map (cell_of false) text) → (start ≡ 0) ⊎ (heads_half (drop start olds ++ back) ≡ false)
    → Leads may (prints (slice_range text start ink) ++ Erase ∷ []) (mid rows cols (front ++ (olds ++ back)) i start false) (mid rows cols (front ++ (map (cell_of false) text ++ back)) i ink false)
erased_leads may rows cols i start ink front olds back more text permits order within past at was wide whole heads apart =
    let news : List Cell = map (cell_of false) text in
    let t : List ℕ = slice_range text start ink in
    let n : length news ≡ cols = length-map text (cell_of false) ∙ wide in
    let size : length t ≡ ink - start = length_part text start ink order (omega (arith, wide)) in
    let sum : start + length t ≡ ink = omega (arith, size) in
    let head : List Cell = front ++ take ink news in
    let left : 1 ≤ length (drop ink olds) = omega (arith, was, length-drop ink olds) in
    let go = ended_cells cols start t (drop ink olds) back left in
    let rest : List Cell = go.0 in
    let begins : (start ≡ 0) ⊎ (heads_half (drop ink olds ++ back) ≡ false) → (ink ≡ 0) ⊎ (heads_half (rest ++ back) ≡ false) =
    λ h. subst (λ m. (m ≡ 0) ⊎ (heads_half (rest ++ back) ≡ false)) sum (subst (λ cs. (start + length t ≡ 0) ⊎ (heads_half cs ≡ false)) go.2 (ended_head cols start t (drop ink olds ++ back) h (omega (arith, sum)))) in
    let clear : (ink ≡ 0) ⊎ (heads_half (rest ++ back) ≡ false) = elim (cases_eq start ink) [
      | inl same ↦ begins (subst (λ m. (start ≡ 0) ⊎ (heads_half (drop m olds ++ back) ≡ false)) same apart)
      | inr other ↦ cleared cols start ink t (drop ink olds ++ back) (rest ++ back) (omega (arith, size, other)) sum within go.2
    ] in
    let begin : Screen = mid rows cols (front ++ (olds ++ back)) i start false in
    let middle : Screen = mid rows cols (head ++ (rest ++ back)) i ink false in
    let end : Screen = mid rows cols (front ++ (news ++ back)) i ink false in
    let p = part_leads may rows cols i start ink front olds back more false text permits order (omega arith) at was wide whole heads apart in
    let place : (i, p.0) ≡ (i, min (start + (length t - 0)) (cols - 1)) =
    sym (leads_cursor may (prints t) begin _ p.1) ∙ moved_prints cols i start false t whole (omega arith) in
    let column : p.0 ≡ ink = ap (λ (z : ℕ × ℕ). z.1) place ∙ omega (arith, size) in
    let prints_it : Leads may (prints t) begin middle = rw (column, go.2, sym (append_assoc front (take ink news) (rest ++ back))) at p.1 in
    let blank : drop ink news ≡ replicate (cols - ink) blank_cell = drop-map (cell_of false) ink text ∙ blanks_from text ink past ∙ ap (λ c. replicate (c - ink) blank_cell) wide in
    let joins : head ++ (drop ink news ++ back) ≡ front ++ (news ++ back) =
    append_assoc front (take ink news) (drop ink news ++ back) ∙ ap (λ cs. front ++ cs) (sym (append_assoc (take ink news) (drop ink news) back) ∙ ap (λ cs. cs ++ back) (take-append-drop ink news)) in
    let ends : head ++ (replicate (cols - ink) blank_cell ++ back) ≡ front ++ (news ++ back) = rw blank at joins in
    let erases : Leads may (Erase ∷ []) middle end =
    rw ends at (erase_leads may rows cols i ink head rest back (permits.erases middle refl) (omega (arith, at, length-append front (take ink news), length-take-le ink news (omega (arith, n)))) (omega (arith, was, length-drop ink olds, go.1)) (omega arith) clear) in
    Leads-append may (prints t) (Erase ∷ []) begin middle end prints_it erases

ended_stays : (cols start end : ℕ) (text : List ℕ) (rest : List Cell) → start + length text ≡ end → (end ≡ cols) ⊎ (heads_half rest ≡ false) → ended cols start text rest ≡ rest
ended_stays cols start end text rest sum h = elim h [ inl e ↦ ended_full cols start text rest (omega (arith, sum, e)) | inr e ↦ ended_whole cols start text rest e ]

-- a piece of the new row is written where the rest is the same
piece_leads : (may : Screen → Operation → Type 0) (rows cols i start end : ℕ) (front olds back more : List Cell) (reversed : Bool) (text : List ℕ)
    → Permits may (front ++ (map (cell_of reversed) text ++ more)) i
    → start < end → end ≤ cols → length front ≡ i * cols → length olds ≡ cols → length text ≡ cols → AreCells false text
    → starts_half (drop start text) ≡ false → starts_half (drop end text) ≡ false → heads_half (drop start olds ++ back) ≡ false → (end ≡ cols) ⊎ (heads_half (drop end olds ++ back) ≡ false)
    → take start olds ≡ take start (map (cell_of reversed) text) → drop end olds ≡ drop end (map (cell_of reversed) text)
    → (k : ℕ) × Leads may (piece (record { text = text; reversed = reversed }) start end) (mid rows cols (front ++ (olds ++ back)) i start false) (mid rows cols (front ++ (map (cell_of reversed) text ++ back)) i k false)
piece_leads may rows cols i start end front olds back more true text permits order within at was wide whole first last apart closed heads tails =
    let news : List Cell = map (cell_of true) text in
    let t : List ℕ = slice_range text start end in
    let p = part_leads may rows cols i start end front olds back more true text permits (omega arith) within at was wide (slice_whole text start end whole (omega arith) first last) heads (inr apart) in
    let stays : ended cols start t (drop end olds ++ back) ≡ drop end olds ++ back = ended_stays cols start end t (drop end olds ++ back) (omega (arith, order, length_part text start end (omega arith) (omega (arith, wide)))) closed in
    let done : front ++ (take end news ++ ended cols start t (drop end olds ++ back)) ≡ front ++ (news ++ back) = ap (λ cs. front ++ (take end news ++ cs)) stays ∙ ends_in front olds news back end tails in
    (p.0, ((tt, refl), permits.marks _, Leads-append may (prints t) (Plain ∷ []) _ _ _ p.1 ((tt, refl), permits.plains _, ap (λ cells. mid rows cols cells i p.0 false) done)))
piece_leads may rows cols i start end front olds back more false text permits order within at was wide whole first last apart closed heads tails =
    let ink : ℕ = max (ink_end text) start in
    let t : List ℕ = slice_range text start end in
    elim (cases_Bool (nat_lt (ink + 3) end)) [
      | inl e ↦
          let short : ink + 3 < end = ltb-true (ink + 3) end e in (
            ink,
            rw e (erased_leads may rows cols i start ink front olds back more text permits (omega arith) (omega arith) (omega arith) at was wide
                (slice_whole text start ink whole (omega arith) first (ink_apart text ink (omega arith))) heads (inr apart)),
          )
      | inr e ↦
          let p = part_leads may rows cols i start end front olds back more false text permits (omega arith) within at was wide (slice_whole text start end whole (omega arith) first last) heads (inr apart) in
          let stays : ended cols start t (drop end olds ++ back) ≡ drop end olds ++ back = ended_stays cols start end t (drop end olds ++ back) (omega (arith, order, length_part text start end (omega arith) (omega (arith, wide)))) closed in
          let done : front ++ (take end (map (cell_of false) text) ++ ended cols start t (drop end olds ++ back)) ≡ front ++ (map (cell_of false) text ++ back) =
          ap (λ cs. front ++ (take end (map (cell_of false) text) ++ cs)) stays ∙ ends_in front olds (map (cell_of false) text) back end tails in
          (p.0, rw e (subst (λ cells. Leads may (prints t) (mid rows cols (front ++ (olds ++ back)) i start false) (mid rows cols cells i p.0 false)) done p.1))
    ]

-- ROWS

-- one row; where it stays the same nothing has to be permitted
row_changes_lead : (may : Screen → Operation → Type 0) (rows cols i : ℕ) (front back more : List Cell) (old new : Row) (row col : ℕ)
    → ((old ≡ new → ⊥) → Permits may (front ++ (row_cells new ++ more)) i)
    → IsRow cols old → IsRow cols new → 0 < cols → i < rows → length front ≡ i * cols
    → (at : ℕ × ℕ) × Leads may (row_changes (row, col) i old new) (mid rows cols (front ++ (row_cells old ++ back)) row col false) (mid rows cols (front ++ (row_cells new ++ back)) at.0 at.1 false)
row_changes_lead may rows cols i front back more old new row col permits was is some row_in at =
    let same_length : length old.text ≡ length new.text = was.width ∙ sym is.width in
    elim (cases_Bool (nat_eq (end_column old new) 0)) [
      | inl e ↦
          let same : old ≡ new = same_row old new same_length (omega (arith, is.width)) (eqb-true (end_column old new) 0 e) in
          ((row, col), rw e (ap (λ (r : Row). mid rows cols (front ++ (row_cells r ++ back)) row col false) same))
      | inr e ↦
          let other : old ≡ new → ⊥ = λ same. eqb-false (end_column old new) 0 e (same_columns old new same) in
          let allowed : Permits may (front ++ (row_cells new ++ more)) i = permits other in
          let none : end_column old new ≡ 0 → ⊥ = eqb-false (end_column old new) 0 e in
          let order : start_column old new < end_column old new = start_first old new (omega (arith, none)) in
          let stay = cells_stay old new same_length in
          let within : end_column old new ≤ cols = omega (arith, stay.2, is.width) in
          let start : Screen = mid rows cols (front ++ (row_cells old ++ back)) row col false in
          let middle : Screen = mid rows cols (front ++ (row_cells old ++ back)) i (start_column old new) false in
          let apart = start_apart old new was.whole is.whole same_length in
          let first : heads_half (drop (start_column old new) (row_cells old) ++ back) ≡ false =
          ap (λ cs. heads_half (cs ++ back)) (drop-map (cell_of old.reversed) (start_column old new) old.text)
          ∙ heads_map old.reversed (drop (start_column old new) old.text) back (omega (arith, length-drop (start_column old new) old.text, was.width, order, within)) ∙ apart.1 in
          let closed : (end_column old new ≡ cols) ⊎ (heads_half (drop (end_column old new) (row_cells old) ++ back) ≡ false) = elim (cases_eq (end_column old new) cols) [
            | inl all ↦ inl all
            | inr less ↦ inr (ap (λ cs. heads_half (cs ++ back)) (stay.1 ∙ drop-map (cell_of new.reversed) (end_column old new) new.text)
                ∙ heads_map new.reversed (drop (end_column old new) new.text) back (omega (arith, length-drop (end_column old new) new.text, is.width, within, less)) ∙ end_apart old new is.whole)
          ] in
          let p = piece_leads may rows cols i (start_column old new) (end_column old new) front (row_cells old) back more new.reversed new.text allowed order within at
          (length-map old.text (cell_of old.reversed) ∙ was.width) is.width is.whole apart.0 (end_apart old new is.whole) first closed stay.0 stay.1 in
          let goes : Leads may (way (row, col) (i, start_column old new)) start middle =
          way_leads may rows cols (front ++ (row_cells old ++ back)) row col (i, start_column old new) false allowed.moves row_in (omega (arith, order, within)) in
          ((i, p.0), rw e (Leads-append may (way (row, col) (i, start_column old new)) (piece new (start_column old new) (end_column old new)) start middle _ goes p.1))
    ]

-- rows from the i-th on
rows_changes_lead : (may : Screen → Operation → Type 0) (rows cols i : ℕ) (front : List Cell) (olds news : List Row) (row col : ℕ)
    → ((j : ℕ) (a b : Row) → slice_get olds j ≡ Some a → slice_get news j ≡ Some b → (a ≡ b → ⊥) → Permits may (front ++ flat_map row_cells news) (i + j))
    → 0 < cols → length front ≡ i * cols → length olds ≡ length news → i + length news ≤ rows → AllByRecursion (IsRow cols) olds → AllByRecursion (IsRow cols) news
    → (at : ℕ × ℕ) × Leads may (rows_changes cols (row, col) i olds news) (mid rows cols (front ++ flat_map row_cells olds) row col false) (mid rows cols (front ++ flat_map row_cells news) at.0 at.1 false)
rows_changes_lead may rows cols i front [] [] row col permits some at same within was is = ((row, col), refl)
rows_changes_lead may rows cols i front (o ∷ olds) [] row col permits some at same within was is = absurd (omega arith)
rows_changes_lead may rows cols i front [] (n ∷ news) row col permits some at same within was is = absurd (omega arith)
rows_changes_lead may rows cols i front (o ∷ olds) (n ∷ news) row col permits some at same within was is =
    let os : List Operation = row_changes (row, col) i o n in
    let next : List Cell = front ++ row_cells n in
    let start : Screen = mid rows cols (front ++ (row_cells o ++ flat_map row_cells olds)) row col false in
    let one = row_changes_lead may rows cols i front (flat_map row_cells olds) (flat_map row_cells news) o n row col
    (λ other. rw (add-zero i) at (permits 0 o n refl refl other)) was.0 is.0 some (omega arith) at in
    let middle : Screen = mid rows cols (front ++ (row_cells n ++ flat_map row_cells olds)) one.0.0 one.0.1 false in
    let cursor : moved cols (row, col) os ≡ one.0 = leads_cursor may os start middle one.1 in
    let joins : (back : List Cell) → next ++ back ≡ front ++ (row_cells n ++ back) = append_assoc front (row_cells n) in
    let later : (j : ℕ) (a b : Row) → slice_get olds j ≡ Some a → slice_get news j ≡ Some b → (a ≡ b → ⊥) → Permits may (next ++ flat_map row_cells news) (i + 1 + j) =
    λ j a b p q other. rw (joins (flat_map row_cells news), add-suc-move i j) (permits (suc j) a b p q other) in
    let all = rows_changes_lead may rows cols (i + 1) next olds news one.0.0 one.0.1 later some
    (omega (arith, at, length-append front (row_cells n), length-map n.text (cell_of n.reversed), is.0.width)) (omega arith) (omega arith) was.1 is.1 in
    let end : Screen = mid rows cols (front ++ (row_cells n ++ flat_map row_cells news)) all.0.0 all.0.1 false in
    let rest : Leads may (rows_changes cols one.0 (i + 1) olds news) middle end = rw (joins (flat_map row_cells olds), joins (flat_map row_cells news)) at all.1 in
    (all.0, Leads-append may os (rows_changes cols (moved cols (row, col) os) (i + 1) olds news) start middle end one.1 (rw cursor rest))

zero-add : (j : ℕ) → 0 + j ≡ j
zero-add j = omega arith

-- A PICTURE

same_some : (a b : Row) → Some a ≡ Some b → a ≡ b
same_some a b e = cc

-- what may come in a row that changes
permitted : (p q : Picture) (j : ℕ) (a b : Row) → slice_get p.lines j ≡ Some a → slice_get q.lines j ≡ Some b → (a ≡ b → ⊥) → Permits (IsOfChange p q) (cells_of q) j
permitted p q j a b x y other =
    let changed : (s : Screen) → s.row ≡ j → IsChanged p q s.row = λ s is same. other (same_some a b (sym x ∙ ap (slice_get p.lines) (sym is) ∙ same ∙ ap (slice_get q.lines) is ∙ y)) in
    record { moves = λ s r c. (tt, tt); marks = λ s. (tt, tt); plains = λ s. (tt, tt); prints = λ s c is faithful. (faithful, changed s is); erases = λ s is. (tt, changed s is) }

-- from a terminal that shows the old picture
pub changes_lead : (p q : Picture) → IsPicture p → IsPicture q → p.rows ≡ q.rows → p.cols ≡ q.cols → Leads (IsOfChange p q) (changes p q) (shown p) (shown q)
changes_lead p q was is rows cols =
    let may : Screen → Operation → Type 0 = IsOfChange p q in
    let os : List Operation = rows_changes q.cols (p.row, p.col) 0 p.lines q.lines in
    let all = rows_changes_lead may q.rows q.cols 0 [] p.lines q.lines p.row p.col (λ j a b x y other. rw (zero-add j) (permitted p q j a b x y other)) (omega (arith, is.size.some_cols)) (omega arith)
    (was.count ∙ rows ∙ sym is.count) (omega (arith, is.count))
    (rw cols at (recursion_from_All (IsRow p.cols) p.lines was.each)) (recursion_from_All (IsRow q.cols) q.lines is.each) in
    let middle : Screen = mid q.rows q.cols (cells_of q) all.0.0 all.0.1 false in
    let sized : ℕ → ℕ → Screen = λ r c. mid r c (cells_of p) p.row p.col false in
    let begins : sized q.rows q.cols ≡ shown p = ap (λ r. sized r q.cols) (sym rows) ∙ ap (sized p.rows) (sym cols) in
    let start : Leads may os (shown p) middle = subst (λ s. Leads may os s middle) begins all.1 in
    let cursor : moved q.cols (p.row, p.col) os ≡ all.0 = leads_cursor may os (sized q.rows q.cols) middle all.1 in
    let goes : Leads may (way all.0 (q.row, q.col)) middle (shown q) = way_leads may q.rows q.cols (cells_of q) all.0.0 all.0.1 (q.row, q.col) false (λ s r c. (tt, tt)) is.row is.col in
    Leads-append may os (way (moved q.cols (p.row, p.col) os) (q.row, q.col)) (shown p) middle (shown q) start (rw cursor goes)

-- nothing changes where the pictures are the same
no_rows : (cols : ℕ) (at : ℕ × ℕ) (i : ℕ) (ls : List Row) → rows_changes cols at i ls ls ≡ []
no_rows cols at i [] = refl
no_rows cols at i (r ∷ rs) =
    let none : row_changes at i r r ≡ [] = rw (same_columns r r refl) refl in
    rw none (no_rows cols at (i + 1) rs)

none_changes : (cols : ℕ) (at : ℕ × ℕ) (set : List Bool) (olds news : List Row) → IsNone set → AreSameApart set olds news → length olds ≡ length news → rows_changes cols at 0 olds news ≡ []
none_changes cols at set olds news none same size = ap (λ (ls : List Row). rows_changes cols at 0 ls news) (none_apart set olds news none same size) ∙ no_rows cols at 0 news

-- nor where a set has none of the rows that may differ
pub none_items : (out : List ℕ) (cols : ℕ) (at : ℕ × ℕ) (set : List Bool) (olds news : List Row) → IsNone set → AreSameApart set olds news → length olds ≡ length news
    → out ≡ out ++ bytes_of (rows_changes cols at 0 olds news)
none_items out cols at set olds news none same size = sym (ap (λ os. out ++ bytes_of os) (none_changes cols at set olds news none same size) ∙ append-nil out)

pub none_moved : (cols : ℕ) (at : ℕ × ℕ) (set : List Bool) (olds news : List Row) → IsNone set → AreSameApart set olds news → length olds ≡ length news
    → at ≡ moved cols at (rows_changes cols at 0 olds news)
none_moved cols at set olds news none same size = sym (ap (moved cols at) (none_changes cols at set olds news none same size))

pub changes_same : (p q : Picture) → p ≡ q → bytes_of (changes p q) ≡ []
changes_same p q same =
    rw (same, no_rows q.cols (q.row, q.col) 0 q.lines, eq-eqb q.row q.row refl, eq-eqb q.col q.col refl) refl

-- UNDER A WEAKER RULE

Leads-faithful : (p q : Picture) (os : List Operation) (s t : Screen) → Leads (IsOfChange p q) os s t → Leads (IsFaithful (cells_of q)) os s t
Leads-faithful p q [] s t leads = leads
Leads-faithful p q (o ∷ os) s t leads = (leads.0, leads.1.0, Leads-faithful p q os (after o s) t leads.2)

pub Draws-faithful : (p q : Picture) (bytes : List ℕ) (s t : Screen) → Draws (IsOfChange p q) bytes s t → Draws (IsFaithful (cells_of q)) bytes s t
Draws-faithful p q bytes s t draws = (draws.0, draws.1, Leads-faithful p q draws.0 s t draws.2)
