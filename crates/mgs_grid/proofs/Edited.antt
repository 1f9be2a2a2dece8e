-- An edit without line feeds changes one row of a text.
use Rattle.std.proofs.Common.{◌≡◌, ℕ, zero, suc, ◌+◌, ◌≤◌, List, [], ◌∷◌, ◌++◌, take, drop, set, cond, inl, inr, refl, sym, ap, ◌∙◌, arith, false}
use Rattle.std.specs.List.{before_first, after_first, position_or_len, count_by}
use Rattle.std.proofs.lemmas.Bool.{cases_eq, eq-eqb, ne_eqb}
use Rattle.std.proofs.lemmas.List.Sums.{sum_by-cons}
use Rattle.mgs_model.specs.Cells.{cells}
use Rattle.mgs_model.specs.Lines.{is_feed}
use Rattle.mgs_model.specs.Rows.{Row, shown_row, text_rows}
use Rattle.mgs_grid.specs.Panes.{AreSameBut}

-- ONE CHARACTER IN FRONT

count_feed : (c : ℕ) (cs : List ℕ) → c ≡ 10 → count_by is_feed (c ∷ cs) ≡ suc (count_by is_feed cs)
count_feed c cs e = sum_by-cons (λ y. cond (is_feed y) 1 0) c cs ∙ rw (eq-eqb c 10 e) (omega arith)

count_other : (c : ℕ) (cs : List ℕ) → (c ≡ 10 → ⊥) → count_by is_feed (c ∷ cs) ≡ count_by is_feed cs
count_other c cs n = sum_by-cons (λ y. cond (is_feed y) 1 0) c cs ∙ rw (ne_eqb c 10 n) (omega arith)

past_feed : (c : ℕ) (cs : List ℕ) → c ≡ 10 → after_first is_feed (c ∷ cs) ≡ cs
past_feed c cs e = rw (eq-eqb c 10 e) refl

to_feed : (c : ℕ) (cs : List ℕ) → c ≡ 10 → before_first is_feed (c ∷ cs) ≡ []
to_feed c cs e = rw (eq-eqb c 10 e) refl

pub past_other : (c : ℕ) (cs : List ℕ) → (c ≡ 10 → ⊥) → after_first is_feed (c ∷ cs) ≡ after_first is_feed cs
past_other c cs n =
    let p : ℕ = position_or_len is_feed cs in
    let further : 1 + p + 1 ≡ suc (p + 1) = omega arith in
    rw (ne_eqb c 10 n) (ap (λ k. drop k (c ∷ cs)) further)

to_other : (c : ℕ) (cs : List ℕ) → (c ≡ 10 → ⊥) → before_first is_feed (c ∷ cs) ≡ c ∷ before_first is_feed cs
to_other c cs n =
    let p : ℕ = position_or_len is_feed cs in
    let further : 1 + p ≡ suc p = omega arith in
    rw (ne_eqb c 10 n) (ap (λ k. take k (c ∷ cs)) further)

-- A TEXT IN FRONT

-- with a line feed, it has the first line
record HasLine (a x : List ℕ) : Type 0 where
  line : before_first is_feed (a ++ x) ≡ before_first is_feed a
  rest : after_first is_feed (a ++ x) ≡ after_first is_feed a ++ x
  count : count_by is_feed a ≡ suc (count_by is_feed (after_first is_feed a))

has_line : (a x : List ℕ) → (count_by is_feed a ≡ 0 → ⊥) → HasLine a x
has_line [] x some = absurd (some refl)
has_line (c ∷ cs) x some =
    elim (cases_eq c 10) [
      | inl e ↦
          record {
            line = to_feed c (cs ++ x) e ∙ sym (to_feed c cs e);
            rest = past_feed c (cs ++ x) e ∙ ap (λ (ys : List ℕ). ys ++ x) (sym (past_feed c cs e));
            count = count_feed c cs e ∙ ap (λ (ys : List ℕ). suc (count_by is_feed ys)) (sym (past_feed c cs e));
          }
      | inr n ↦
          let more = has_line cs x (λ none. some (count_other c cs n ∙ none)) in
          record {
            line = to_other c (cs ++ x) n ∙ ap (λ (ys : List ℕ). c ∷ ys) more.line ∙ sym (to_other c cs n);
            rest = past_other c (cs ++ x) n ∙ more.rest ∙ ap (λ (ys : List ℕ). ys ++ x) (sym (past_other c cs n));
            count = count_other c cs n ∙ more.count ∙ ap (λ (ys : List ℕ). suc (count_by is_feed ys)) (sym (past_other c cs n));
          }
    ]

-- without one, it is of the first line
of_line : (a x : List ℕ) → count_by is_feed a ≡ 0 → after_first is_feed (a ++ x) ≡ after_first is_feed x
of_line [] x none = refl
of_line (c ∷ cs) x none =
    elim (cases_eq c 10) [
      | inl e ↦ absurd (omega (arith, count_feed c cs e, none))
      | inr n ↦ past_other c (cs ++ x) n ∙ of_line cs x (sym (count_other c cs n) ∙ none)
    ]

-- ROWS

abbrev row_of : ℕ → ℕ → List ℕ → Row
row_of cols shift line = record { text = shown_row cols shift (cells line); reversed = false }

-- rows that are shown from the same columns
shown_same : (cols : ℕ) (olds news : ℕ → ℕ) (j h : ℕ) (rest : List ℕ) → ((k : ℕ) → j ≤ k → olds k ≡ news k) → text_rows cols olds j h rest ≡ text_rows cols news j h rest
shown_same cols olds news j zero rest same = refl
shown_same cols olds news j (suc h) rest same =
    ap (λ s. row_of cols s (before_first is_feed rest) ∷ text_rows cols olds (j + 1) h (after_first is_feed rest)) (same j (omega arith))
    ∙ ap (λ (rs : List Row). row_of cols (news j) (before_first is_feed rest) ∷ rs) (shown_same cols olds news (j + 1) h (after_first is_feed rest) (λ k above. same k (omega arith)))

-- Where no line feed goes and none comes, only the row of the edit's line changes, also where that is shown from another column.
pub edited_rows : (cols : ℕ) (olds news : ℕ → ℕ) (j h : ℕ) (a b c d : List ℕ) → count_by is_feed b ≡ 0 → count_by is_feed c ≡ 0 → ((k : ℕ) → (k ≡ j + count_by is_feed a → ⊥) → olds k ≡ news k)
    → AreSameBut (count_by is_feed a) (text_rows cols olds j h (a ++ (b ++ d))) (text_rows cols news j h (a ++ (c ++ d)))
edited_rows cols olds news j zero a b c d out put same = λ r. refl
edited_rows cols olds news j (suc h) a b c d out put same =
    let n : ℕ = count_by is_feed a in
    let xs : List Row = text_rows cols olds j (suc h) (a ++ (b ++ d)) in
    let ys : List Row = text_rows cols news j (suc h) (a ++ (c ++ d)) in
    elim (cases_eq n 0) [
      | inl none ↦
          let old : after_first is_feed (a ++ (b ++ d)) ≡ after_first is_feed d = of_line a (b ++ d) none ∙ of_line b d out in
          let new : after_first is_feed (a ++ (c ++ d)) ≡ after_first is_feed d = of_line a (c ++ d) none ∙ of_line c d put in
          let rows : text_rows cols olds (j + 1) h (after_first is_feed (a ++ (b ++ d))) ≡ text_rows cols news (j + 1) h (after_first is_feed (a ++ (c ++ d))) =
          ap (text_rows cols olds (j + 1) h) old
          ∙ shown_same cols olds news (j + 1) h (after_first is_feed d) (λ k above. same k (λ e. omega (arith, none)))
          ∙ sym (ap (text_rows cols news (j + 1) h) new) in
          (λ r. ap (λ k. set xs k r) none ∙ ap (λ (rs : List Row). r ∷ rs) rows ∙ sym (ap (λ k. set ys k r) none))
      | inr some ↦
          let old = has_line a (b ++ d) some in
          let new = has_line a (c ++ d) some in
          let rest : List ℕ = after_first is_feed a in
          let head : row_of cols (olds j) (before_first is_feed (a ++ (b ++ d))) ≡ row_of cols (news j) (before_first is_feed (a ++ (c ++ d))) =
          ap (row_of cols (olds j)) old.line
          ∙ ap (λ s. row_of cols s (before_first is_feed a)) (same j (λ e. some (omega arith)))
          ∙ sym (ap (row_of cols (news j)) new.line) in
          let later = edited_rows cols olds news (j + 1) h rest b c d out put (λ k other. same k (λ e. other (omega (arith, old.count)))) in
          let m : ℕ = count_by is_feed rest in
          (λ r.
          ap (λ k. set xs k r) old.count
          ∙ ap (λ (x : Row). x ∷ set (text_rows cols olds (j + 1) h (after_first is_feed (a ++ (b ++ d)))) m r) head
          ∙ ap (λ (rs : List Row). row_of cols (news j) (before_first is_feed (a ++ (c ++ d))) ∷ rs)
          (ap (λ (zs : List ℕ). set (text_rows cols olds (j + 1) h zs) m r) old.rest
          ∙ later r
          ∙ sym (ap (λ (zs : List ℕ). set (text_rows cols news (j + 1) h zs) m r) new.rest))
          ∙ sym (ap (λ k. set ys k r) old.count))
    ]
