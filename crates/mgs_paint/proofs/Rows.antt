-- What the operations of a row and of several rows do to a screen.
use Rattle.std.proofs.Common.{◌≡◌, suc, ℕ, ◌+◌, ◌-◌, ◌*◌, ◌<◌, ◌≤◌, Bool, true, false, cond, ◌⊎◌, inl, inr, subst, List, [], ◌∷◌, ◌++◌, map, length, min, get_or, take, drop, refl, sym, ap, ◌∙◌, append_assoc, add-zero, arith}
use Rattle.std.specs.List.{AllByRecursion, flat_map}
use Rattle.std.proofs.lemmas.Grind.{flat_map-append}
use Rattle.std.proofs.lemmas.List.{length-append, length-map, take-append-drop, length-take-le, take_more, length-drop, append-nil}
use Rattle.std.proofs.lemmas.List.Elements.{recursion_from_All}
use Rattle.std.proofs.lemmas.Bool.{cases_Bool, le-leb}
use Rattle.mgs_model.specs.Cells.{right_half, own_cells, is_wide, IsShown, AreCells}
use Rattle.mgs_paint.proofs.WholeCells.{shown_no_half}
use Rattle.mgs_paint.proofs.Written.{mid, heads_half, Step, step_of, print_faithful, ended, ended_full, ended_next}
use Rattle.mgs_paint.specs.Painting.{cell_of, row_cells, cells_of, shown}
use Rattle.mgs_paint.specs.Operations.{prints, row_operations, rows_operations, whole_operations, bytes_of}
use Rattle.mgs_model.specs.Rows.{Row}
use Rattle.mgs_model.specs.Picture.{Picture, IsRow, IsPicture}
use Rattle.mgs_term.specs.Screen.{Screen, IsScreen, own_shown}
use Rattle.mgs_term.specs.Sequences.{after, spelling}
use Rattle.mgs_term.specs.Drawing.{Leads, IsFaithful}
use Rattle.mgs_term.proofs.Drawing.{Leads-append}
use Rattle.mgs_term.specs.declared.cell.Cell.{Cell}
use Rattle.mgs_term.specs.declared.operation.Operation.{Operation}
use Rattle.mgs_term.specs.declared.operation.Operation.TheVariants.{Goto, Erase, Reverse, Plain, Print}

-- What may come in row i: moves and marks, the goal's characters, and erases.
pub record Permits (may : Screen → Operation → Type 0) (goal : List Cell) (i : ℕ) : Type 0 where
  pub moves : (s : Screen) (r c : ℕ) → may s (Goto r c)
  pub marks : (s : Screen) → may s Reverse
  pub plains : (s : Screen) → may s Plain
  pub prints : (s : Screen) (b : ℕ) → s.row ≡ i → IsFaithful goal s (Print b) → may s (Print b)
  pub erases : (s : Screen) → s.row ≡ i → may s Erase

-- The goal of a character and of what follows it.
shown_next : (front more : List Cell) (reversed : Bool) (c : ℕ) (rest : List ℕ) (shown : List Cell) → shown ≡ own_shown reversed c ++ map (cell_of reversed) rest → front ++ (shown ++ more) ≡ (front ++ own_shown reversed c) ++ (map (cell_of reversed) rest ++ more)
shown_next front more reversed c rest shown e =
    ap (λ cs. front ++ (cs ++ more)) e ∙ ap (λ cs. front ++ cs) (append_assoc (own_shown reversed c) (map (cell_of reversed) rest) more) ∙ sym (append_assoc front (own_shown reversed c) (map (cell_of reversed) rest ++ more))

-- Printed characters replace as many cells, and nothing else.
abbrev pub Printed : (Screen → Operation → Type 0) → ℕ → ℕ → ℕ → ℕ → List Cell → List Cell → List Cell → Bool → List ℕ → Type 0
Printed may rows cols i k front olds back reversed text =
    (k' : ℕ) × Leads may (prints text) (mid rows cols (front ++ (olds ++ back)) i k reversed) (mid rows cols (front ++ (map (cell_of reversed) text ++ ended cols k text back)) i k' reversed)

-- one character more, where what follows it is printed
one_more : (may : Screen → Operation → Type 0) (rows cols i k : ℕ) (front olds back more : List Cell) (reversed : Bool) (c : ℕ) (cs rest : List ℕ)
    → Permits may (front ++ (map (cell_of reversed) (c ∷ cs) ++ more)) i → IsShown c → prints cs ≡ prints rest → map (cell_of reversed) (c ∷ cs) ≡ own_shown reversed c ++ map (cell_of reversed) rest
    → length front ≡ i * cols + k → length (c ∷ cs) ≡ length (own_cells c) + length rest → k + length (c ∷ cs) ≤ cols → length olds ≡ length (c ∷ cs) → (step : Step rows cols i k front olds back reversed c)
    → Printed may rows cols i (min (k + length (own_cells c)) (cols - 1)) (front ++ own_shown reversed c) step.now step.behind reversed rest
    → Printed may rows cols i k front olds back reversed (c ∷ cs)
one_more may rows cols i k front olds back more reversed c cs rest permits shown same cells at size fits long step later =
    let w : ℕ = length (own_cells c) in
    let k2 : ℕ = min (k + w) (cols - 1) in
    let goal : front ++ (map (cell_of reversed) (c ∷ cs) ++ more) ≡ (front ++ own_shown reversed c) ++ (map (cell_of reversed) rest ++ more) = shown_next front more reversed c rest (map (cell_of reversed) (c ∷ cs)) cells in
    let part : front ++ (map (cell_of reversed) (c ∷ cs) ++ more) ≡ front ++ (own_shown reversed c ++ (map (cell_of reversed) rest ++ more)) = goal ∙ append_assoc front (own_shown reversed c) (map (cell_of reversed) rest ++ more) in
    let start : Screen = mid rows cols (front ++ (olds ++ back)) i k reversed in
    let faithful : IsFaithful (front ++ (map (cell_of reversed) (c ∷ cs) ++ more)) start (Print c)
    = rw part (print_faithful (i * cols + k) front (map (cell_of reversed) rest ++ more) reversed c at) in
    let behind : ended cols k2 rest step.behind ≡ ended cols k (c ∷ cs) back =
    ended_next cols k k2 c cs rest back step.behind w size (λ z. step.none (omega (arith, long, size, z))) (λ l. (step.some (omega (arith, long, size, l)), omega (arith, size, fits, l))) in
    let ends : (front ++ own_shown reversed c) ++ (map (cell_of reversed) rest ++ ended cols k2 rest step.behind) ≡ front ++ (map (cell_of reversed) (c ∷ cs) ++ ended cols k (c ∷ cs) back) =
    sym (shown_next front (ended cols k2 rest step.behind) reversed c rest (map (cell_of reversed) (c ∷ cs)) cells) ∙ ap (λ b. front ++ (map (cell_of reversed) (c ∷ cs) ++ b)) behind in
    let goes : Leads may (prints rest) (after (Print c) start) (mid rows cols (front ++ (map (cell_of reversed) (c ∷ cs) ++ ended cols k (c ∷ cs) back)) i later.0 reversed)
    = rw (step.does, ← ends) later.1 in
    (later.0, rw (shown_no_half c shown, same) (((shown, refl), le-leb (k + w) cols (omega (arith, size, fits))), permits.prints start c refl faithful, goes))

pub narrow_cells : (c : ℕ) → is_wide c ≡ false → own_cells c ≡ c ∷ []
narrow_cells c e = rw e refl

pub wide_cells : (c : ℕ) → is_wide c ≡ true → own_cells c ≡ c ∷ right_half ∷ []
wide_cells c e = rw e refl

wide_map : (reversed : Bool) (c d : ℕ) (ds : List ℕ) → is_wide c ≡ true → d ≡ right_half → map (cell_of reversed) (c ∷ d ∷ ds) ≡ own_shown reversed c ++ map (cell_of reversed) ds
wide_map reversed c d ds e h = rw (e, h) refl

narrow_map : (reversed : Bool) (c : ℕ) (cs : List ℕ) → is_wide c ≡ false → map (cell_of reversed) (c ∷ cs) ≡ own_shown reversed c ++ map (cell_of reversed) cs
narrow_map reversed c cs e = rw e refl

wide_prints : (d : ℕ) (ds : List ℕ) → d ≡ right_half → prints (d ∷ ds) ≡ prints ds
wide_prints d ds h = rw h refl

due_is : (c d : ℕ) (ds : List ℕ) → is_wide c ≡ true → AreCells (is_wide c) (d ∷ ds) → (d ≡ right_half) × AreCells false ds
due_is c d ds e h = rw e at h

pub prints_lead : (may : Screen → Operation → Type 0) (rows cols i k : ℕ) (front olds back more : List Cell) (reversed : Bool) (text : List ℕ)
    → Permits may (front ++ (map (cell_of reversed) text ++ more)) i
    → (1 ≤ length text → length front ≡ i * cols + k) → length olds ≡ length text → k + length text ≤ cols → AreCells false text
    → (1 ≤ length text → (k ≡ 0) ⊎ (heads_half (olds ++ back) ≡ false))
    → Printed may rows cols i k front olds back reversed text
prints_lead may rows cols i k front [] back more reversed [] permits at same fits whole head = (k, refl)
prints_lead may rows cols i k front (x ∷ xs) back more reversed [] permits at same fits whole head = absurd (omega arith)
prints_lead may rows cols i k front olds back more reversed (c ∷ []) permits at same fits whole head = elim (cases_Bool (is_wide c)) [
  | inl e ↦ absurd (subst (λ b. AreCells b []) e whole.1)
  | inr e ↦
      let w : length (own_cells c) ≡ 1 = ap length (narrow_cells c e) in
      let here : length front ≡ i * cols + k = at (omega arith) in
      let step : Step rows cols i k front olds back reversed c = step_of rows cols i k front olds back reversed c here (omega (arith, w, same)) (head (omega arith)) in
      let grown : length (front ++ own_shown reversed c) ≡ length front + 1 = length-append front (own_shown reversed c) ∙ ap (λ n. length front + n) (length-map (own_cells c) (cell_of reversed) ∙ w) in
      let later : Printed may rows cols i (min (k + length (own_cells c)) (cols - 1)) (front ++ own_shown reversed c) step.now step.behind reversed []
      = prints_lead may rows cols i (min (k + length (own_cells c)) (cols - 1)) (front ++ own_shown reversed c) step.now step.behind more reversed []
      (subst (λ g. Permits may g i) (shown_next front more reversed c [] _ (narrow_map reversed c [] e)) permits)
      (λ some. absurd (omega arith)) (omega (arith, step.left, w, same)) (omega (arith, w)) tt (λ some. absurd (omega arith)) in
      one_more may rows cols i k front olds back more reversed c [] [] permits whole.0 refl (narrow_map reversed c [] e) here (omega (arith, w)) fits same step later
]
prints_lead may rows cols i k front olds back more reversed (c ∷ d ∷ ds) permits at same fits whole head = elim (cases_Bool (is_wide c)) [
  | inl e ↦
      let w : length (own_cells c) ≡ 2 = ap length (wide_cells c e) in
      let due : (d ≡ right_half) × AreCells false ds = due_is c d ds e whole.1 in
      let here : length front ≡ i * cols + k = at (omega arith) in
      let step : Step rows cols i k front olds back reversed c = step_of rows cols i k front olds back reversed c here (omega (arith, w, same)) (head (omega arith)) in
      let grown : length (front ++ own_shown reversed c) ≡ length front + 2 = length-append front (own_shown reversed c) ∙ ap (λ n. length front + n) (length-map (own_cells c) (cell_of reversed) ∙ w) in
      let later : Printed may rows cols i (min (k + length (own_cells c)) (cols - 1)) (front ++ own_shown reversed c) step.now step.behind reversed ds
      = prints_lead may rows cols i (min (k + length (own_cells c)) (cols - 1)) (front ++ own_shown reversed c) step.now step.behind more reversed ds
      (subst (λ g. Permits may g i) (shown_next front more reversed c ds _ (wide_map reversed c d ds e due.0)) permits)
      (λ some. omega (arith, grown, here, w)) (omega (arith, step.left, w, same)) (omega (arith, w)) due.1 (λ some. inr (step.whole (omega (arith, w)))) in
      one_more may rows cols i k front olds back more reversed c (d ∷ ds) ds permits whole.0 (wide_prints d ds due.0) (wide_map reversed c d ds e due.0) here (omega (arith, w)) fits same step later
  | inr e ↦
      let w : length (own_cells c) ≡ 1 = ap length (narrow_cells c e) in
      let here : length front ≡ i * cols + k = at (omega arith) in
      let step : Step rows cols i k front olds back reversed c = step_of rows cols i k front olds back reversed c here (omega (arith, w, same)) (head (omega arith)) in
      let grown : length (front ++ own_shown reversed c) ≡ length front + 1 = length-append front (own_shown reversed c) ∙ ap (λ n. length front + n) (length-map (own_cells c) (cell_of reversed) ∙ w) in
      let later : Printed may rows cols i (min (k + length (own_cells c)) (cols - 1)) (front ++ own_shown reversed c) step.now step.behind reversed (d ∷ ds)
      = prints_lead may rows cols i (min (k + length (own_cells c)) (cols - 1)) (front ++ own_shown reversed c) step.now step.behind more reversed (d ∷ ds)
      (subst (λ g. Permits may g i) (shown_next front more reversed c (d ∷ ds) _ (narrow_map reversed c (d ∷ ds) e)) permits)
      (λ some. omega (arith, grown, here, w)) (omega (arith, step.left, w, same)) (omega (arith, w)) (subst (λ b. AreCells b (d ∷ ds)) e whole.1) (λ some. inr (step.whole (omega (arith, w)))) in
      one_more may rows cols i k front olds back more reversed c (d ∷ ds) (d ∷ ds) permits whole.0 refl (narrow_map reversed c (d ∷ ds) e) here (omega (arith, w)) fits same step later
]

pub add-suc-move : (i n : ℕ) → i + 1 + n ≡ i + suc n
add-suc-move i n = omega arith

-- one row more
pub rows_operations-push : (i : ℕ) (rs : List Row) (r : Row) → rows_operations i (rs ++ r ∷ []) ≡ rows_operations i rs ++ row_operations (i + length rs) r
rows_operations-push i [] r = rw (add-zero i) (append-nil (row_operations i r))
rows_operations-push i (q ∷ qs) r =
    rw (rows_operations-push (i + 1) qs r) (rw (add-suc-move i (length qs)) (sym (append_assoc (row_operations i q) (rows_operations (i + 1) qs) (row_operations (i + suc (length qs)) r))))

-- One whole row.
pub row_leads : (may : Screen → Operation → Type 0) (rows cols i : ℕ) (front xs back more : List Cell) (reversed : Bool) (text : List ℕ) (row col : ℕ) (was : Bool)
    → Permits may (front ++ (map (cell_of reversed) text ++ more)) i
    → i < rows → 0 < cols → length front ≡ i * cols → length xs ≡ length text → length text ≡ cols → AreCells false text
    → (k' : ℕ) × Leads may (Goto i 0 ∷ cond reversed Reverse Plain ∷ prints text) (mid rows cols (front ++ (xs ++ back)) row col was) (mid rows cols (front ++ (map (cell_of reversed) text ++ back)) i k' reversed)
row_leads may rows cols i front xs back more true text row col was permits row_in col_in at same wide whole =
    let p = prints_lead may rows cols i 0 front xs back more true text permits (λ w. omega arith) same (omega arith) whole (λ w. inl refl) in
    let end : ended cols 0 text back ≡ back = ended_full cols 0 text back (omega arith) in
    (p.0, (((row_in, col_in), refl), permits.moves _ i 0, ((tt, refl), permits.marks _, rw end at p.1)))
row_leads may rows cols i front xs back more false text row col was permits row_in col_in at same wide whole =
    let p = prints_lead may rows cols i 0 front xs back more false text permits (λ w. omega arith) same (omega arith) whole (λ w. inl refl) in
    let end : ended cols 0 text back ≡ back = ended_full cols 0 text back (omega arith) in
    (p.0, (((row_in, col_in), refl), permits.moves _ i 0, ((tt, refl), permits.plains _, rw end at p.1)))

pub rows_more : (ls : List Row) (i : ℕ) (r : Row) → i < length ls → r ≡ get_or ls i r → bytes_of (rows_operations 0 (take (i + 1) ls)) ≡ bytes_of (rows_operations 0 (take i ls)) ++ bytes_of (row_operations i r)
rows_more ls i r lt is =
    let more : take (i + 1) ls ≡ take i ls ++ r ∷ [] = take_more ls i r lt ∙ ap (λ x. take i ls ++ x ∷ []) (sym is) in
    let len : 0 + length (take i ls) ≡ i = omega (arith, length-take-le i ls (omega arith)) in
    ap (λ x. bytes_of (rows_operations 0 x)) more ∙ ap bytes_of (rows_operations-push 0 (take i ls) r) ∙ flat_map-append spelling (rows_operations 0 (take i ls)) (row_operations (0 + length (take i ls)) r) ∙ ap (λ n. bytes_of (rows_operations 0 (take i ls)) ++ bytes_of (row_operations n r)) len

pub appended : (a b c x r y : List ℕ) → b ≡ a ++ x → c ≡ b ++ r → y ≡ x ++ r → c ≡ a ++ y
appended a b c x r y p q e = rw (q, p, e) (append_assoc a x r)

-- Rows from the i-th on, whatever was there.
pub rows_lead : (may : Screen → Operation → Type 0) (rows cols i : ℕ) (front rest : List Cell) (rs : List Row) (row col : ℕ) (was : Bool)
    → ((j : ℕ) → Permits may (front ++ flat_map row_cells rs) j)
    → 0 < cols → length front ≡ i * cols → length rest ≡ length rs * cols → i + length rs ≤ rows → AllByRecursion (IsRow cols) rs
    → (row' : ℕ) × (col' : ℕ) × (was' : Bool) × Leads may (rows_operations i rs) (mid rows cols (front ++ rest) row col was) (mid rows cols (front ++ flat_map row_cells rs) row' col' was')
rows_lead may rows cols i front [] [] row col was permits some at same within each = (row, col, was, refl)
rows_lead may rows cols i front (x ∷ xs) [] row col was permits some at same within each = absurd (omega arith)
rows_lead may rows cols i front rest (r ∷ rs) row col was permits some at same within each =
    let fits : cols ≤ length rest = omega arith in
    let xs : List Cell = take cols rest in
    let back : List Cell = drop cols rest in
    let split : xs ++ back ≡ rest = take-append-drop cols rest in
    let wide : length r.text ≡ cols = each.0.width in
    let size : length xs ≡ cols = length-take-le cols rest fits in
    let left : length back ≡ length rs * cols = omega (arith, length-drop cols rest) in
    let one : (k' : ℕ) × Leads may (row_operations i r) (mid rows cols (front ++ (xs ++ back)) row col was) (mid rows cols (front ++ (row_cells r ++ back)) i k' r.reversed)
    = row_leads may rows cols i front xs back (flat_map row_cells rs) r.reversed r.text row col was (permits i) (omega arith) some (omega arith) (omega arith) wide each.0.whole in
    let next : List Cell = front ++ row_cells r in
    let joins : next ++ flat_map row_cells rs ≡ front ++ (row_cells r ++ flat_map row_cells rs) = append_assoc front (row_cells r) (flat_map row_cells rs) in
    let all : (row' : ℕ) × (col' : ℕ) × (was' : Bool) × Leads may (rows_operations (i + 1) rs) (mid rows cols (next ++ back) i one.0 r.reversed) (mid rows cols (next ++ flat_map row_cells rs) row' col' was')
    = rows_lead may rows cols (i + 1) next back rs i one.0 r.reversed (λ j. rw joins (permits j)) some (omega (arith, length-append front (row_cells r), length-map r.text (cell_of r.reversed))) left (omega arith) each.1 in
    let goal : List Cell = front ++ (row_cells r ++ flat_map row_cells rs) in
    let begin : Leads may (row_operations i r) (mid rows cols (front ++ rest) row col was) (mid rows cols (next ++ back) i one.0 r.reversed)
    = rw (append_assoc front (row_cells r) back) (rw split at one.1) in
    (all.0, all.1, all.2, Leads-append may (row_operations i r) (rows_operations (i + 1) rs) (mid rows cols (front ++ rest) row col was) (mid rows cols (next ++ back) i one.0 r.reversed) (mid rows cols goal all.0 all.1 all.2) begin (rw joins at all.3))

faithful_permits : (goal : List Cell) (i : ℕ) → Permits (IsFaithful goal) goal i
faithful_permits goal i = record { moves = λ s r c. tt; marks = λ s. tt; plains = λ s. tt; prints = λ s b e h. h; erases = λ s e. tt }

-- The first paint, from any screen of the picture's size.
pub whole_leads : (p : Picture) (s : Screen) → IsPicture p → IsScreen s → s.rows ≡ p.rows → s.cols ≡ p.cols → Leads (IsFaithful (cells_of p)) (whole_operations p) s (shown p)
whole_leads p s ok valid rows cols =
    let may : Screen → Operation → Type 0 = IsFaithful (cells_of p) in
    let all : (row' : ℕ) × (col' : ℕ) × (was' : Bool) × Leads may (rows_operations 0 p.lines) (mid s.rows s.cols s.cells s.row s.col s.reversing) (mid s.rows s.cols (cells_of p) row' col' was')
    = rows_lead may s.rows s.cols 0 [] s.cells p.lines s.row s.col s.reversing (faithful_permits (cells_of p)) (omega (arith, valid.size.some_cols)) (omega arith) (rw (ok.count, ← rows) valid.covered) (omega (arith, ok.count, rows)) (rw cols (recursion_from_All (IsRow p.cols) p.lines ok.each)) in
    let last : Leads may (Plain ∷ Goto p.row p.col ∷ []) (mid s.rows s.cols (cells_of p) all.0 all.1 all.2) (shown p)
    = ((tt, refl), tt, (((rw rows ok.row, rw cols ok.col), refl), tt, rw (rows, cols) (refl {a = shown p}))) in
    ((tt, refl), tt, Leads-append may (rows_operations 0 p.lines) (Plain ∷ Goto p.row p.col ∷ []) (mid s.rows s.cols s.cells s.row s.col s.reversing) (mid s.rows s.cols (cells_of p) all.0 all.1 all.2) (shown p) all.3 last)

pub grown : (a c bytes : List ℕ) (n : ℕ) → c ≡ a ++ bytes → length c ≤ length a + n → length bytes ≤ n
grown a c bytes n e le = omega (arith, ap length e, length-append a bytes)
