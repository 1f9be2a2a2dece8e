-- What printing a character does to the cells of a row.
use Rattle.std.proofs.Common.{◌≡◌, ◌⊎◌, ℕ, ◌+◌, ◌-◌, ◌*◌, ◌<◌, ◌≤◌, Bool, true, false, List, [], ◌∷◌, ◌++◌, map, length, min, get_or, set, take, drop, refl, sym, ap, subst, ◌∙◌, append_assoc, inl, inr, arith}
use Rattle.std.specs.Prelude.{nat_lt, ◌&&◌, slice_range, if◌then◌else◌}
use Rattle.std.proofs.lemmas.Bool.{cases_Bool, lt-ltb, le-ltb, and_parts, and_right}
use Rattle.std.proofs.lemmas.List.{set_at, get_or_at, set-append_left, set-append_right, length-append, length-map, length-set, length_push, get_or_past, take_at, drop_at, append-nil, take-append-drop, length-take-le, length-drop}
use Rattle.mgs_model.specs.Cells.{own_cells, is_wide}
use Rattle.mgs_term.specs.Screen.{Screen, blank_cell, cell_of, own_shown, is_half, blanked, parted, written}
use Rattle.mgs_term.specs.Sequences.{after}
use Rattle.mgs_term.specs.declared.cell.Cell.{Cell}
use Rattle.mgs_term.specs.declared.operation.Operation.TheVariants.{Print}

-- the screen in the middle of a paint
abbrev pub mid : ℕ → ℕ → List Cell → ℕ → ℕ → Bool → Screen
mid rows cols cells row col reversing = record { rows = rows; cols = cols; cells = cells; row = row; col = col; reversing = reversing; wrapping = false }

-- cells that begin with a right half
abbrev pub heads_half : List Cell → Bool
heads_half [] = false
heads_half (x ∷ xs) = is_half x

-- such a right half, blanked
abbrev pub unhalved : List Cell → List Cell
unhalved [] = []
unhalved (x ∷ xs) = cell_of x.reversed 32 ∷ xs

-- what stands from a column on, once the row was parted there
abbrev pub from_cut : ℕ → ℕ → List Cell → List Cell
from_cut cols col rest = if nat_lt col cols && heads_half rest then unhalved rest else rest

head_read : (front rest : List Cell) (n : ℕ) → length front ≡ n → is_half (get_or (front ++ rest) n blank_cell) ≡ heads_half rest
head_read front [] n at = ap (λ cs. is_half (get_or cs n blank_cell)) (append-nil front) ∙ ap is_half (get_or_past front n blank_cell (omega arith))
head_read front (x ∷ xs) n at = ap is_half (get_or_at front x xs blank_cell n at)

pub part_stays : (start cols col : ℕ) (front rest : List Cell) → length front ≡ start + col → (col ≡ 0) ⊎ (heads_half rest ≡ false) → parted start cols col (front ++ rest) ≡ front ++ rest
unfolding parted
part_stays start cols col front rest at h = elim h [
  | inl none ↦ rw none refl
  | inr whole ↦
      let e : is_half (get_or (front ++ rest) (start + col) blank_cell) ≡ false = head_read front rest (start + col) at ∙ whole in
      rw (e, and_right (nat_lt col cols) false refl, and_right (nat_lt 0 col) false refl) refl
]

-- cells written over as many
pub written_at : (n : ℕ) (front olds news rest : List Cell) → length front ≡ n → length olds ≡ length news → written n news (front ++ (olds ++ rest)) ≡ front ++ (news ++ rest)
written_at n front [] [] rest at same = refl
written_at n front [] (y ∷ news) rest at same = absurd (omega arith)
written_at n front (x ∷ olds) [] rest at same = absurd (omega arith)
written_at n front (x ∷ olds) (y ∷ news) rest at same =
    let pushed : length (front ++ y ∷ []) ≡ n + 1 = omega (arith, length_push front y) in
    ap (λ cs. written (n + 1) news cs) (set_at front x (olds ++ rest) y n at ∙ sym (append_assoc front (y ∷ []) (olds ++ rest)))
    ∙ written_at (n + 1) (front ++ y ∷ []) olds news rest pushed (omega arith) ∙ append_assoc front (y ∷ []) (news ++ rest)

blank_at : (front rest : List Cell) (x : Cell) (n : ℕ) → length front ≡ n → blanked n (front ++ x ∷ rest) ≡ front ++ cell_of x.reversed 32 ∷ rest
blank_at front rest x n at =
    ap (λ (c : Cell). set (front ++ x ∷ rest) n (cell_of c.reversed 32)) (get_or_at front x rest blank_cell n at) ∙ set_at front x rest (cell_of x.reversed 32) n at

-- a row is parted behind the cells that are to be written
abbrev pub Cut : ℕ → ℕ → ℕ → ℕ → List Cell → List Cell → List Cell → Type 0
Cut start cols col w front olds rest = (now : List Cell) × (length now ≡ w) × (parted start cols (col + w) (front ++ (olds ++ rest)) ≡ front ++ (now ++ from_cut cols (col + w) rest))

cut_half : (start cols col w : ℕ) (front olds xs : List Cell) (x : Cell) → length front ≡ start + col → length olds ≡ w → 1 ≤ w → nat_lt (col + w) cols ≡ true → is_half x ≡ true → Cut start cols col w front olds (x ∷ xs)
unfolding parted
cut_half start cols col w front olds xs x at same some lt half =
    let i : ℕ = start + (col + w) in
    let y : Cell = cell_of x.reversed 32 in
    let long : length (front ++ olds) ≡ i = omega (arith, length-append front olds, at, same) in
    let one : blanked i (front ++ (olds ++ x ∷ xs)) ≡ front ++ (olds ++ y ∷ xs) =
    ap (blanked i) (sym (append_assoc front olds (x ∷ xs))) ∙ blank_at (front ++ olds) xs x i long ∙ append_assoc front olds (y ∷ xs) in
    let v : Cell = cell_of (get_or (front ++ (olds ++ y ∷ xs)) (i - 1) blank_cell).reversed 32 in
    let now : List Cell = set olds (i - 1 - length front) v in
    let two : blanked (i - 1) (front ++ (olds ++ y ∷ xs)) ≡ front ++ (now ++ y ∷ xs) =
    set-append_right front (olds ++ y ∷ xs) (length front) (i - 1) v refl (omega (arith, at, some))
    ∙ ap (λ cs. front ++ cs) (set-append_left olds (y ∷ xs) (i - 1 - length front) v (omega (arith, at, some, same))) in
    let read : is_half (get_or (front ++ (olds ++ x ∷ xs)) i blank_cell) ≡ true =
    ap (λ cs. is_half (get_or cs i blank_cell)) (sym (append_assoc front olds (x ∷ xs))) ∙ head_read (front ++ olds) (x ∷ xs) i long ∙ half in
    (now, length-set olds (i - 1 - length front) v ∙ same, rw (read, lt, half, lt-ltb 0 (col + w) (omega arith)) (ap (blanked (i - 1)) one ∙ two))

cut_none : (start cols col w : ℕ) (front olds rest : List Cell) → length front ≡ start + col → length olds ≡ w → (nat_lt (col + w) cols && heads_half rest) ≡ false → Cut start cols col w front olds rest
unfolding parted
cut_none start cols col w front olds rest at same e =
    let i : ℕ = start + (col + w) in
    let long : length (front ++ olds) ≡ i = omega (arith, length-append front olds, at, same) in
    let read : is_half (get_or (front ++ (olds ++ rest)) i blank_cell) ≡ heads_half rest =
    ap (λ cs. is_half (get_or cs i blank_cell)) (sym (append_assoc front olds rest)) ∙ head_read (front ++ olds) rest i long in
    (olds, same, rw (read, e, and_right (nat_lt 0 (col + w)) false refl) refl)

cut_behind : (start cols col w : ℕ) (front olds rest : List Cell) → length front ≡ start + col → length olds ≡ w → 1 ≤ w → Cut start cols col w front olds rest
cut_behind start cols col w front olds [] at same some = cut_none start cols col w front olds [] at same (and_right (nat_lt (col + w) cols) false refl)
cut_behind start cols col w front olds (x ∷ xs) at same some = elim (cases_Bool (nat_lt (col + w) cols && is_half x)) [
  | inl e ↦ let both = and_parts (nat_lt (col + w) cols) (is_half x) e in cut_half start cols col w front olds xs x at same some both.0 both.1
  | inr e ↦ cut_none start cols col w front olds (x ∷ xs) at same e
]

characters : (reversed : Bool) (cs : List ℕ) → map (λ (x : Cell). x.character) (map (cell_of reversed) cs) ≡ cs
characters reversed [] = refl
characters reversed (c ∷ cs) = ap (λ xs. c ∷ xs) (characters reversed cs)

unhalved_whole : (rest : List Cell) → heads_half (unhalved rest) ≡ false
unhalved_whole [] = refl
unhalved_whole (x ∷ xs) = refl

own_some : (c : ℕ) → 1 ≤ length (own_cells c)
own_some c = elim (cases_Bool (is_wide c)) [ inl e ↦ rw e (omega arith) | inr e ↦ rw e (omega arith) ]

-- a character replaces as many cells, and nothing else but a half that it hits
pub print_does : (rows cols i k : ℕ) (front olds rest : List Cell) (reversed : Bool) (c : ℕ) → length front ≡ i * cols + k → length olds ≡ length (own_cells c) → (k ≡ 0) ⊎ (heads_half (olds ++ rest) ≡ false)
    → after (Print c) (mid rows cols (front ++ (olds ++ rest)) i k reversed) ≡ mid rows cols (front ++ (own_shown reversed c ++ from_cut cols (k + length (own_cells c)) rest)) i (min (k + length (own_cells c)) (cols - 1)) reversed
print_does rows cols i k front olds rest reversed c at same whole =
    let w : ℕ = length (own_cells c) in
    let cells : List Cell = front ++ (olds ++ rest) in
    let first : parted (i * cols) cols k cells ≡ cells = part_stays (i * cols) cols k front (olds ++ rest) at whole in
    let cut = cut_behind (i * cols) cols k w front olds rest at same (own_some c) in
    let both : parted (i * cols) cols (k + w) (parted (i * cols) cols k cells) ≡ front ++ (cut.0 ++ from_cut cols (k + w) rest) = ap (parted (i * cols) cols (k + w)) first ∙ cut.2 in
    let new : length (own_shown reversed c) ≡ w = length-map (own_cells c) (cell_of reversed) in
    let puts : written (i * cols + k) (own_shown reversed c) (front ++ (cut.0 ++ from_cut cols (k + w) rest)) ≡ front ++ (own_shown reversed c ++ from_cut cols (k + w) rest) =
    written_at (i * cols + k) front cut.0 (own_shown reversed c) (from_cut cols (k + w) rest) at (cut.1 ∙ sym new) in
    ap (λ cs. mid rows cols cs i (min (k + w) (cols - 1)) reversed) (ap (written (i * cols + k) (own_shown reversed c)) both ∙ puts)

-- it is what the goal has there
pub print_faithful : (n : ℕ) (front rest : List Cell) (reversed : Bool) (c : ℕ) → length front ≡ n → map (λ (x : Cell). x.character) (slice_range (front ++ (own_shown reversed c ++ rest)) n (n + length (own_cells c))) ≡ own_cells c
print_faithful n front rest reversed c at =
    let w : ℕ = length (own_cells c) in
    let size : n + w - n ≡ w = omega arith in
    let back : drop n (front ++ (own_shown reversed c ++ rest)) ≡ own_shown reversed c ++ rest = drop_at front (own_shown reversed c ++ rest) n at in
    let part : take w (own_shown reversed c ++ rest) ≡ own_shown reversed c = take_at (own_shown reversed c) rest w (length-map (own_cells c) (cell_of reversed)) in
    rw (back, size, part) (characters reversed (own_cells c))

-- where a row is parted, it does not begin with a half
pub cut_whole : (cols col : ℕ) (rest : List Cell) → col < cols → heads_half (from_cut cols col rest) ≡ false
cut_whole cols col rest lt = elim (cases_Bool (heads_half rest)) [
  | inl e ↦ rw (lt-ltb col cols lt, e) (unhalved_whole rest)
  | inr e ↦ rw (lt-ltb col cols lt, e) e
]

-- STEP BY STEP

-- what is left to be written over, and what stands behind it, once the row was parted behind a character
record Rest (cols col : ℕ) (olds back : List Cell) : Type 0 where
  pub now : List Cell
  pub behind : List Cell
  pub left : length now ≡ length olds
  pub is : from_cut cols col (olds ++ back) ≡ now ++ behind
  pub none : length olds ≡ 0 → behind ≡ from_cut cols col back
  pub some : 1 ≤ length olds → behind ≡ back

rest_cut : (cols col : ℕ) (olds back : List Cell) → Rest cols col olds back
rest_cut cols col [] back = record { now = []; behind = from_cut cols col back; left = refl; is = refl; none = λ e. refl; some = λ l. absurd (omega arith) }
rest_cut cols col (x ∷ xs) back = elim (cases_Bool (nat_lt col cols && is_half x)) [
  | inl e ↦ record { now = cell_of x.reversed 32 ∷ xs; behind = back; left = refl; is = rw e refl; none = λ z. absurd (omega arith); some = λ l. refl }
  | inr e ↦ record { now = x ∷ xs; behind = back; left = refl; is = rw e refl; none = λ z. absurd (omega arith); some = λ l. refl }
]

-- cells that are to go, where a row is parted before them
pub cut_front : (cols col : ℕ) (olds back : List Cell) → 1 ≤ length olds → (now : List Cell) × (length now ≡ length olds) × (from_cut cols col (olds ++ back) ≡ now ++ back)
cut_front cols col olds back some =
    let r : Rest cols col olds back = rest_cut cols col olds back in
    (r.now, r.left, r.is ∙ ap (λ b. r.now ++ b) (r.some some))

-- one character, over the first of the cells that are left
pub record Step (rows cols i k : ℕ) (front olds back : List Cell) (reversed : Bool) (c : ℕ) : Type 0 where
  pub now : List Cell
  pub behind : List Cell
  pub left : length now ≡ length olds - length (own_cells c)
  pub does : after (Print c) (mid rows cols (front ++ (olds ++ back)) i k reversed) ≡ mid rows cols ((front ++ own_shown reversed c) ++ (now ++ behind)) i (min (k + length (own_cells c)) (cols - 1)) reversed
  pub whole : k + length (own_cells c) < cols → heads_half (now ++ behind) ≡ false
  pub none : length olds ≡ length (own_cells c) → behind ≡ from_cut cols (k + length (own_cells c)) back
  pub some : length (own_cells c) < length olds → behind ≡ back

pub step_of : (rows cols i k : ℕ) (front olds back : List Cell) (reversed : Bool) (c : ℕ) → length front ≡ i * cols + k → length (own_cells c) ≤ length olds → (k ≡ 0) ⊎ (heads_half (olds ++ back) ≡ false) → Step rows cols i k front olds back reversed c
step_of rows cols i k front olds back reversed c at fits whole =
    let w : ℕ = length (own_cells c) in
    let ones : List Cell = take w olds in
    let rest : List Cell = drop w olds in
    let parts : olds ++ back ≡ ones ++ (rest ++ back) = ap (λ cs. cs ++ back) (sym (take-append-drop w olds)) ∙ append_assoc ones rest back in
    let cut : Rest cols (k + w) rest back = rest_cut cols (k + w) rest back in
    let does : after (Print c) (mid rows cols (front ++ (ones ++ (rest ++ back))) i k reversed) ≡ mid rows cols (front ++ (own_shown reversed c ++ from_cut cols (k + w) (rest ++ back))) i (min (k + w) (cols - 1)) reversed =
    print_does rows cols i k front ones (rest ++ back) reversed c at (length-take-le w olds fits) (subst (λ cs. (k ≡ 0) ⊎ (heads_half cs ≡ false)) parts whole) in
    let ends : front ++ (own_shown reversed c ++ from_cut cols (k + w) (rest ++ back)) ≡ (front ++ own_shown reversed c) ++ (cut.now ++ cut.behind) =
    ap (λ cs. front ++ (own_shown reversed c ++ cs)) cut.is ∙ sym (append_assoc front (own_shown reversed c) (cut.now ++ cut.behind)) in
    record {
      now = cut.now;
      behind = cut.behind;
      left = cut.left ∙ length-drop w olds;
      does = ap (λ cs. after (Print c) (mid rows cols (front ++ cs) i k reversed)) parts ∙ does ∙ ap (λ cs. mid rows cols cs i (min (k + w) (cols - 1)) reversed) ends;
      whole = λ lt. ap heads_half (sym cut.is) ∙ cut_whole cols (k + w) (rest ++ back) lt;
      none = λ all. cut.none (omega (arith, all, length-drop w olds));
      some = λ less. cut.some (omega (arith, less, length-drop w olds));
    }

-- what stands behind characters, once they are printed from column k on
abbrev pub ended : ℕ → ℕ → List ℕ → List Cell → List Cell
ended cols k [] back = back
ended cols k (c ∷ cs) back = from_cut cols (k + length (c ∷ cs)) back

pub ended_full : (cols k : ℕ) (text : List ℕ) (back : List Cell) → cols ≤ k + length text → ended cols k text back ≡ back
ended_full cols k [] back le = refl
ended_full cols k (c ∷ cs) back le = rw (le-ltb (k + length (c ∷ cs)) cols le) refl

pub ended_whole : (cols k : ℕ) (text : List ℕ) (back : List Cell) → heads_half back ≡ false → ended cols k text back ≡ back
ended_whole cols k [] back e = refl
ended_whole cols k (c ∷ cs) back e = rw (e, and_right (nat_lt (k + length (c ∷ cs)) cols) false refl) refl

-- as it goes on behind a character
pub ended_next : (cols k k' : ℕ) (c : ℕ) (cs rest : List ℕ) (back behind : List Cell) (w : ℕ) → length (c ∷ cs) ≡ w + length rest → (length rest ≡ 0 → behind ≡ from_cut cols (k + w) back) → (1 ≤ length rest → (behind ≡ back) × (k' ≡ k + w))
    → ended cols k' rest behind ≡ ended cols k (c ∷ cs) back
ended_next cols k k' c cs [] back behind w size none some = none refl ∙ ap (λ n. from_cut cols n back) (omega (arith, size))
ended_next cols k k' c cs (x ∷ xs) back behind w size none some =
    let both : (behind ≡ back) × (k' ≡ k + w) = some (omega arith) in
    ap (from_cut cols (k' + length (x ∷ xs))) both.0 ∙ ap (λ n. from_cut cols n back) (omega (arith, both.1, size))
