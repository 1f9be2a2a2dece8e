-- The bytes of what changes in a row, and where they leave the cursor.
use Rattle.std.proofs.Common.{◌≡◌, ℕ, ◌+◌, ◌-◌, ◌<◌, ◌≤◌, Bool, true, false, subst, inl, inr, List, [], ◌∷◌, ◌++◌, length, min, max, drop, get_or, refl, sym, ap, ◌∙◌, append_assoc, arith}
use Rattle.std.specs.Prelude.{slice_range, nat_eq, ◌&&◌}
use Rattle.std.proofs.lemmas.Bool.{lt-ltb, le-ltb, cases_Bool, and_parts, eqb-true, ne_eqb}
use Rattle.std.proofs.lemmas.Grind.{flat_map-append}
use Rattle.std.proofs.lemmas.List.{length-take-le, length-drop, drop_more}
use Rattle.mgs_model.specs.Rows.{Row}
use Rattle.mgs_term.specs.Sequences.{spelling}
use Rattle.mgs_term.specs.declared.operation.Operation.{Operation}
use Rattle.mgs_term.specs.declared.operation.Operation.TheVariants.{Erase, Reverse, Plain}
use Rattle.mgs_paint.specs.Operations.{bytes_of, prints}
use Rattle.mgs_paint.specs.Changes.{ink_end, cursor_after, moved, way, plain_piece, piece, start_column, end_column, row_changes, rows_changes}
use Rattle.mgs_paint.proofs.WholeCells.{shown_no_half}
use Rattle.mgs_paint.proofs.Rows.{narrow_cells, wide_cells}
use Rattle.mgs_model.specs.Cells.{AreCells, own_cells, is_wide}

-- THE CURSOR

pub moved-append : (cols : ℕ) (at : ℕ × ℕ) (xs ys : List Operation) → moved cols at (xs ++ ys) ≡ moved cols (moved cols at xs) ys
moved-append cols at [] ys = refl
moved-append cols at (o ∷ os) ys = moved-append cols (cursor_after cols at o) os ys

-- a right half that is due was passed already
abbrev ahead : Bool → ℕ
ahead false = 0
ahead true = 1

due_some : (cs : List ℕ) → AreCells true cs → 1 ≤ length cs
due_some [] h = absurd h
due_some (c ∷ cs) h = omega arith

pub moved_prints : (cols r k : ℕ) (b : Bool) (text : List ℕ) → AreCells b text → k < cols → moved cols (r, k) (prints text) ≡ (r, min (k + (length text - ahead b)) (cols - 1))
moved_prints cols r k false [] h l = ap (λ n. (r, n)) (omega arith)
moved_prints cols r k true [] h l = absurd h
moved_prints cols r k true (c ∷ cs) h l = rw h.0 (moved_prints cols r k false cs h.1 l ∙ ap (λ n. (r, n)) (omega arith))
moved_prints cols r k false (c ∷ cs) h l = elim (cases_Bool (is_wide c)) [
  | inl e ↦
      let w : length (own_cells c) ≡ 2 = ap length (wide_cells c e) in
      let due : AreCells true cs = subst (λ b. AreCells b cs) e h.1 in
      rw (shown_no_half c h.0) (moved_prints cols r (min (k + length (own_cells c)) (cols - 1)) true cs due (omega arith) ∙ ap (λ n. (r, n)) (omega (arith, w, due_some cs due)))
  | inr e ↦
      let w : length (own_cells c) ≡ 1 = ap length (narrow_cells c e) in
      rw (shown_no_half c h.0) (moved_prints cols r (min (k + length (own_cells c)) (cols - 1)) false cs (subst (λ b. AreCells b cs) e h.1) (omega arith) ∙ ap (λ n. (r, n)) (omega (arith, w)))
]

pub moved_way : (cols : ℕ) (at to : ℕ × ℕ) → moved cols at (way at to) ≡ to
moved_way cols at to = elim (cases_Bool (nat_eq at.0 to.0 && nat_eq at.1 to.1)) [
  | inl e ↦
      let parts = and_parts (nat_eq at.0 to.0) (nat_eq at.1 to.1) e in
      rw e (ap (λ r. (r, at.1)) (eqb-true at.0 to.0 parts.0) ∙ ap (λ k. (to.0, k)) (eqb-true at.1 to.1 parts.1))
  | inr e ↦ rw e refl
]

length_between : (text : List ℕ) (start end : ℕ) → start ≤ end → end ≤ length text → length (slice_range text start end) ≡ end - start
length_between text start end o l = length-take-le (end - start) (drop start text) (omega (arith, length-drop start text))

between_moves : (text : List ℕ) (r start end : ℕ) → start < end → end ≤ length text → AreCells false (slice_range text start end) → moved (length text) (r, start) (prints (slice_range text start end)) ≡ (r, min end (length text - 1))
between_moves text r start end o l whole =
    moved_prints (length text) r start false (slice_range text start end) whole (omega arith) ∙ ap (λ n. (r, n)) (omega (arith, length_between text start end (omega arith) l))

-- A PIECE

erased_is : (text : List ℕ) (start end ink : ℕ) → ink ≡ max (ink_end text) start → ink + 3 < end → plain_piece text start end ≡ prints (slice_range text start ink) ++ Erase ∷ []
erased_is text start end ink e l = rw (← e, lt-ltb (ink + 3) end l) refl

written_is : (text : List ℕ) (start end ink : ℕ) → ink ≡ max (ink_end text) start → end ≤ ink + 3 → plain_piece text start end ≡ prints (slice_range text start end)
written_is text start end ink e l = rw (← e, le-ltb (ink + 3) end l) refl

pub erased_bytes : (text : List ℕ) (start end ink : ℕ) (a b c : List ℕ) → ink ≡ max (ink_end text) start → ink + 3 < end → b ≡ a ++ bytes_of (prints (slice_range text start ink)) → c ≡ b ++ spelling Erase → c ≡ a ++ bytes_of (plain_piece text start end)
erased_bytes text start end ink a b c e l p q =
    let text_bytes : List ℕ = bytes_of (prints (slice_range text start ink)) in
    let is : bytes_of (plain_piece text start end) ≡ text_bytes ++ spelling Erase =
    ap bytes_of (erased_is text start end ink e l) ∙ flat_map-append spelling (prints (slice_range text start ink)) (Erase ∷ []) in
    q ∙ ap (λ xs. xs ++ spelling Erase) p ∙ append_assoc a text_bytes (spelling Erase) ∙ ap (λ xs. a ++ xs) (sym is)

pub written_bytes : (text : List ℕ) (start end ink : ℕ) (a b : List ℕ) → ink ≡ max (ink_end text) start → end ≤ ink + 3 → b ≡ a ++ bytes_of (prints (slice_range text start end)) → b ≡ a ++ bytes_of (plain_piece text start end)
written_bytes text start end ink a b e l p =
    p ∙ ap (λ xs. a ++ xs) (sym (ap bytes_of (written_is text start end ink e l)))

pub erased_moves : (text : List ℕ) (r start end ink : ℕ) → start < end → end ≤ length text → ink ≡ max (ink_end text) start → ink + 3 < end → AreCells false (slice_range text start ink) → (r, ink) ≡ moved (length text) (r, start) (plain_piece text start end)
erased_moves text r start end ink o w e l whole =
    sym (ap (moved (length text) (r, start)) (erased_is text start end ink e l)
    ∙ moved-append (length text) (r, start) (prints (slice_range text start ink)) (Erase ∷ [])
    ∙ moved_prints (length text) r start false (slice_range text start ink) whole (omega arith)
    ∙ ap (λ n. (r, n)) (omega (arith, length_between text start ink (omega arith) (omega arith))))

pub written_moves : (text : List ℕ) (r start end ink : ℕ) → start < end → end ≤ length text → ink ≡ max (ink_end text) start → end ≤ ink + 3 → AreCells false (slice_range text start end) → (r, min end (length text - 1)) ≡ moved (length text) (r, start) (plain_piece text start end)
written_moves text r start end ink o w e l whole =
    sym (ap (moved (length text) (r, start)) (written_is text start end ink e l) ∙ between_moves text r start end o w whole)

-- a piece of a row in reverse
pub reversed_bytes : (r : Row) (start end : ℕ) (a b c d : List ℕ) → r.reversed ≡ true → b ≡ a ++ spelling Reverse → c ≡ b ++ bytes_of (prints (slice_range r.text start end)) → d ≡ c ++ spelling Plain → d ≡ a ++ bytes_of (piece r start end)
reversed_bytes r start end a b c d e p q s =
    let os : List Operation = prints (slice_range r.text start end) in
    let is : bytes_of (os ++ Plain ∷ []) ≡ bytes_of os ++ spelling Plain = flat_map-append spelling os (Plain ∷ []) in
    rw e (rw is (s ∙ ap (λ xs. xs ++ spelling Plain) (q ∙ ap (λ xs. xs ++ bytes_of os) p) ∙ append_assoc (a ++ spelling Reverse) (bytes_of os) (spelling Plain) ∙ append_assoc a (spelling Reverse) (bytes_of os ++ spelling Plain)))

pub reversed_moves : (r : Row) (row start end : ℕ) → r.reversed ≡ true → start < end → end ≤ length r.text → AreCells false (slice_range r.text start end) → (row, min end (length r.text - 1)) ≡ moved (length r.text) (row, start) (piece r start end)
reversed_moves r row start end e o w whole =
    let text : List ℕ = slice_range r.text start end in
    rw e (sym (moved-append (length r.text) (row, start) (prints text) (Plain ∷ []) ∙ between_moves r.text row start end o w whole))

-- ROWS

-- what is left to do, as one row is done
pub rows_next : (cols : ℕ) (at : ℕ × ℕ) (i : ℕ) (olds news : List Row) (a b : Row) → length olds ≡ length news → i < length news → a ≡ get_or olds i a → b ≡ get_or news i b
    → rows_changes cols at i (drop i olds) (drop i news) ≡ row_changes at i a b ++ rows_changes cols (moved cols at (row_changes at i a b)) (i + 1) (drop (i + 1) olds) (drop (i + 1) news)
rows_next cols at i olds news a b n l p q =
    let old : drop i olds ≡ a ∷ drop (i + 1) olds = drop_more olds i a (omega arith) ∙ ap (λ r. r ∷ drop (i + 1) olds) (sym p) in
    let new : drop i news ≡ b ∷ drop (i + 1) news = drop_more news i b l ∙ ap (λ r. r ∷ drop (i + 1) news) (sym q) in
    rw (old, new) refl

pub bytes_next : (out more all : List ℕ) (os rest now : List Operation) → now ≡ os ++ rest → more ≡ out ++ bytes_of os → out ++ bytes_of now ≡ all → more ++ bytes_of rest ≡ all
bytes_next out more all os rest now e p h =
    ap (λ xs. xs ++ bytes_of rest) p ∙ append_assoc out (bytes_of os) (bytes_of rest)
    ∙ ap (λ xs. out ++ xs) (sym (ap bytes_of e ∙ flat_map-append spelling os rest)) ∙ h

pub moved_next : (cols : ℕ) (at to : ℕ × ℕ) (os rest now : List Operation) → now ≡ os ++ rest → moved cols at now ≡ to → moved cols (moved cols at os) rest ≡ to
moved_next cols at to os rest now e h = sym (ap (moved cols at) e ∙ moved-append cols at os rest) ∙ h

-- a row that changes
pub row_moves : (cols : ℕ) (at to : ℕ × ℕ) (i start end : ℕ) (old new : Row) → (end ≡ 0 → ⊥) → end ≡ end_column old new → start ≡ start_column old new → to ≡ moved cols (i, start) (piece new start end)
    → to ≡ moved cols at (row_changes at i old new)
row_moves cols at to i start end old new some e s p =
    let other : nat_eq (end_column old new) 0 ≡ false = ne_eqb (end_column old new) 0 (λ z. some (e ∙ z)) in
    rw other (p ∙ ap (λ n. moved cols (i, n) (piece new n end)) s ∙ ap (λ n. moved cols (i, start_column old new) (piece new (start_column old new) n)) e
    ∙ sym (moved-append cols at (way at (i, start_column old new)) (piece new (start_column old new) (end_column old new)) ∙ ap (λ z. moved cols z (piece new (start_column old new) (end_column old new))) (moved_way cols at (i, start_column old new))))
