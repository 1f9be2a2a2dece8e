-- What an edit without line feeds changes of a text.
use Rattle.std.proofs.Common.{◌≡◌, ℕ, zero, suc, ◌+◌, ◌-◌, ◌≤◌, List, [], ◌∷◌, ◌++◌, length, take, drop, cond, inl, inr, true, Some, refl, sym, ap, subst, ◌∙◌, arith, append_assoc, length-append}
use Rattle.std.specs.List.{count_by, find}
use Rattle.std.proofs.Math.Seq.{take-append_seam, take-append-add, drop-append-add}
use Rattle.std.proofs.lemmas.Bool.{cases_eq, eq-eqb, ne_eqb}
use Rattle.std.proofs.lemmas.List.{take-append-drop, take-append-le, drop-append-le, length-take-le}
use Rattle.std.proofs.lemmas.List.Sums.{sum_by-append}
use Rattle.std.proofs.lemmas.Option.{same_Some}
use Rattle.mgs_laws.specs.Apart.{IsEditedOnce}
use Rattle.mgs_model.specs.Lines.{is_feed, line_of, start_of}
use Rattle.mgs_model.specs.World.{Buffer, Item}
use Rattle.mgs_laws.proofs.Follow.{edit_parts}
use Rattle.mgs_undo.specs.declared.Edit.{Edit}
use Rattle.mgs_undo.specs.History.{has_serial}
use Rattle.mgs_undo.specs.Numbered.{item_of}
use Rattle.mgs_screen.specs.Changes.{IsLineEdited}

-- LINES FURTHER DOWN

-- where a line starts that is some lines below another
start_below : (k i : ℕ) (text : List ℕ) → start_of (k + i) text ≡ start_of k text + start_of i (drop (start_of k text) text)
start_below zero i text =
    let none : 0 + i ≡ i = omega arith in
    let sum : start_of i text ≡ 0 + start_of i text = omega arith in
    ap (λ n. start_of n text) none ∙ sum
start_below (suc k) zero [] =
    let more : suc k + 0 ≡ suc (k + 0) = omega arith in
    ap (λ n. start_of n []) more
start_below (suc k) (suc i) [] =
    let more : suc k + suc i ≡ suc (k + suc i) = omega arith in
    ap (λ n. start_of n []) more
start_below (suc k) i (c ∷ cs) =
    elim (cases_eq c 10) [
      | inl e ↦
          let at : suc k + i ≡ suc (k + i) = omega arith in
          let next : 1 + start_of k cs ≡ suc (start_of k cs) = omega arith in
          let rest : List ℕ = drop (start_of k cs) cs in
          let sum : 1 + (start_of k cs + start_of i rest) ≡ 1 + start_of k cs + start_of i rest = omega arith in
          ap (λ n. start_of n (c ∷ cs)) at
          ∙ rw (eq-eqb c 10 e) (ap (λ n. 1 + n) (start_below k i cs) ∙ sum ∙ ap (λ n. 1 + start_of k cs + start_of i (drop n (c ∷ cs))) (sym next))
      | inr n ↦
          let at : suc k + i ≡ suc (k + i) = omega arith in
          let back : suc (k + i) ≡ suc k + i = omega arith in
          let next : 1 + start_of (suc k) cs ≡ suc (start_of (suc k) cs) = omega arith in
          let rest : List ℕ = drop (start_of (suc k) cs) cs in
          let sum : 1 + (start_of (suc k) cs + start_of i rest) ≡ 1 + start_of (suc k) cs + start_of i rest = omega arith in
          ap (λ m. start_of m (c ∷ cs)) at
          ∙ rw (ne_eqb c 10 n) (ap (λ m. 1 + start_of m cs) back ∙ ap (λ m. 1 + m) (start_below (suc k) i cs) ∙ sum ∙ ap (λ m. 1 + start_of (suc k) cs + start_of i (drop m (c ∷ cs))) (sym next))
    ]

pub start_down : (above down start : ℕ) (text : List ℕ) → start_of above text ≡ start → start_of (above + down) text ≡ start + start_of down (drop start text)
start_down above down start text from = start_below above down text ∙ ap (λ n. n + start_of down (drop n text)) from

-- LINE FEEDS

feeds_joined : (xs ys : List ℕ) → count_by is_feed (xs ++ ys) ≡ count_by is_feed xs + count_by is_feed ys
feeds_joined xs ys = sum_by-append (λ y. cond (is_feed y) 1 0) xs ys

pub feeds_parted : (n : ℕ) (xs : List ℕ) → count_by is_feed xs ≡ count_by is_feed (take n xs) + count_by is_feed (drop n xs)
feeds_parted n xs = ap (count_by is_feed) (sym (take-append-drop n xs)) ∙ feeds_joined (take n xs) (drop n xs)

-- before and behind what was put in
line_here : (x y text : List ℕ) (p : ℕ) → text ≡ x ++ y → length x ≡ p → line_of text p ≡ count_by is_feed x
line_here x y text p is size =
    ap (λ (ys : List ℕ). line_of ys p) is
    ∙ ap (λ n. line_of (x ++ y) n) (sym size)
    ∙ ap (count_by is_feed) (take-append_seam x y)

line_behind : (x q y text : List ℕ) (p : ℕ) → text ≡ x ++ (q ++ y) → length x ≡ p → line_of text (p + length q) ≡ count_by is_feed x + count_by is_feed q
line_behind x q y text p is size =
    ap (λ (ys : List ℕ). line_of ys (p + length q)) is
    ∙ ap (λ n. line_of (x ++ (q ++ y)) (n + length q)) (sym size)
    ∙ ap (count_by is_feed) (take-append-add x (q ++ y) (length q) ∙ ap (λ (ys : List ℕ). x ++ ys) (take-append_seam q y))
    ∙ feeds_joined x q

line_before : (x y text : List ℕ) (s : ℕ) → text ≡ x ++ y → s ≤ length x → line_of text s ≡ count_by is_feed (take s x)
line_before x y text s is within = ap (λ (ys : List ℕ). line_of ys s) is ∙ ap (count_by is_feed) (take-append-le s x y within)

-- ONE LINE

pub one_line : (x r q y old new : List ℕ) (p s above : ℕ) → old ≡ x ++ (r ++ y) → new ≡ x ++ (q ++ y) → length x ≡ p → s ≤ p
    → count_by is_feed r ≡ 0 → line_of new (p + length q) ≡ line_of new p → line_of new s ≡ above
    → IsLineEdited (line_of new p - above) s s old new
one_line x r q y old new p s above was came size within none same from =
    let at : line_of new p ≡ count_by is_feed x = line_here x (q ++ y) new p came size in
    let top : above ≡ count_by is_feed (take s x) = sym from ∙ line_before x (q ++ y) new s came (omega (arith, size, within)) in
    let all : count_by is_feed x ≡ count_by is_feed (take s x) + count_by is_feed (drop s x) = feeds_parted s x in
    let more : line_of new (p + length q) ≡ count_by is_feed x + count_by is_feed q = line_behind x q y new p came size in
    record {
      before = drop s x;
      out = r;
      put = q;
      behind = y;
      was = ap (drop s) was ∙ drop-append-le s x (r ++ y) (omega (arith, size, within));
      came = ap (drop s) came ∙ drop-append-le s x (q ++ y) (omega (arith, size, within));
      lines = omega (arith, at, top, all);
      none_out = none;
      none_put = omega (arith, more, at, same);
    }

-- the line of what lies below is not above
pub line_down : (x y new : List ℕ) (p s above : ℕ) → new ≡ x ++ y → length x ≡ p → s ≤ p → line_of new s ≡ above → above ≤ line_of new p
line_down x y new p s above came size within from =
    let at : line_of new p ≡ count_by is_feed x = line_here x y new p came size in
    let top : above ≡ count_by is_feed (take s x) = sym from ∙ line_before x y new s came (omega (arith, size, within)) in
    let all : count_by is_feed x ≡ count_by is_feed (take s x) + count_by is_feed (drop s x) = feeds_parted s x in
    omega (arith, at, top, all)

-- a position further on is in no line before
pub line_mono : (text : List ℕ) (s p : ℕ) → s ≤ p → p ≤ length text → line_of text s ≤ line_of text p
line_mono text s p order within =
    line_down (take p text) (drop p text) text p s (line_of text s) (sym (take-append-drop p text)) (length-take-le p text within) order refl

-- A BUFFER'S EDIT

-- as it is kept: what it took out and what it put in, between what stayed
record KeptEdit (edit : Edit) (old new : List ℕ) : Type 0 where
  before : List ℕ
  put : List ℕ
  behind : List ℕ
  was : old ≡ before ++ (edit.removed.items ++ behind)
  came : new ≡ before ++ (put ++ behind)
  place : length before ≡ edit.at
  count : length put ≡ edit.added

kept_edit : (old new : Buffer) (e : IsEditedOnce old new) (serial : ℕ) (edit : Edit) (text : List ℕ) (size : ℕ)
    → e.item ≡ item_of serial edit → new.text ≡ text → length old.text ≡ size
    → edit.at + edit.added ≤ length text → length text + length edit.removed.items ≡ size + edit.added
    → KeptEdit edit old.text text
kept_edit old new e serial edit text size item came count within sizes =
    let place : e.item.place ≡ edit.at = ap (λ (i : Item). i.place) item in
    let out : e.item.removed ≡ edit.removed.items = ap (λ (i : Item). i.removed) item in
    let added : e.item.put ≡ edit.added = ap (λ (i : Item). i.put) item in
    let told : length new.text + length e.item.removed ≡ length old.text + e.item.put = omega (arith, ap length came, ap length out, sizes, count, added) in
    let parts = edit_parts old new e told in
    let inside : e.item.place ≤ length old.text = omega (arith, place, count, sizes, within) in
    record {
      before = parts.before;
      put = parts.put;
      behind = parts.behind;
      was = parts.was ∙ ap (λ (ys : List ℕ). parts.before ++ (ys ++ parts.behind)) out;
      came = sym came ∙ parts.came;
      place = omega (arith, ap length parts.place, length-take-le e.item.place old.text inside, place);
      count = parts.count ∙ added;
    }

-- in one line
pub edited_line : (old new : Buffer) (e : IsEditedOnce old new) (serial : ℕ) (edit : Edit) (text : List ℕ) (start above line size : ℕ)
    → e.item ≡ item_of serial edit → new.text ≡ text → length old.text ≡ size
    → edit.at + edit.added ≤ length text → length text + length edit.removed.items ≡ size + edit.added
    → start ≤ edit.at → count_by is_feed edit.removed.items ≡ 0
    → line ≡ line_of text edit.at → line_of text (edit.at + edit.added) ≡ line → line_of text start ≡ above
    → IsLineEdited (line - above) start start old.text text
edited_line old new e serial edit text start above line size item came count within sizes order none here same top =
    let k = kept_edit old new e serial edit text size item came count within sizes in
    subst (λ (n : ℕ). IsLineEdited (n - above) start start old.text text) (sym here) (
    one_line k.before edit.removed.items k.put k.behind old.text text edit.at start above k.was k.came k.place order none
    (ap (λ n. line_of text (edit.at + n)) k.count ∙ same ∙ here) top)

-- what lies behind two parts of a text
behind_parts : (x r y text : List ℕ) (from k : ℕ) → text ≡ x ++ (r ++ y) → from ≡ length (x ++ r) + k → drop from text ≡ drop k y
behind_parts x r y text from k is at =
    ap (drop from) (is ∙ sym (append_assoc x r y)) ∙ ap (λ n. drop n (x ++ r ++ y)) at ∙ drop-append-add (x ++ r) y k

-- before what is shown, which is then the same, elsewhere
pub shown_moved : (old new : Buffer) (e : IsEditedOnce old new) (serial : ℕ) (edit : Edit) (text : List ℕ) (from start size : ℕ)
    → e.item ≡ item_of serial edit → new.text ≡ text → length old.text ≡ size
    → edit.at + edit.added ≤ length text → length text + length edit.removed.items ≡ size + edit.added
    → edit.at + length edit.removed.items ≤ from → start + length edit.removed.items ≡ from + edit.added
    → drop from old.text ≡ drop start text
shown_moved old new e serial edit text from start size item came count within sizes ends moved =
    let k = kept_edit old new e serial edit text size item came count within sizes in
    let out : List ℕ = edit.removed.items in
    let further : ℕ = from - (edit.at + length out) in
    behind_parts k.before out k.behind old.text from further k.was (omega (arith, ends, k.place, length-append k.before out))
    ∙ sym (behind_parts k.before k.put k.behind text start further k.came (omega (arith, ends, moved, k.place, k.count, length-append k.before k.put)))

-- the latest item, looked up by the buffer's serial
pub item_found : (old new : Buffer) (e : IsEditedOnce old new) (item : Item) (serial : ℕ) → serial ≡ new.serial → Some item ≡ find (has_serial serial) new.items → e.item ≡ item
item_found old new e item serial now found =
    let here : has_serial serial e.item ≡ true = eq-eqb e.item.serial serial (e.serial ∙ sym now) in
    let first : find (has_serial serial) (e.item ∷ e.older) ≡ Some e.item = ap (λ b. cond b (Some e.item) (find (has_serial serial) e.older)) here in
    sym (same_Some item e.item (found ∙ ap (find (has_serial serial)) e.items ∙ first))
