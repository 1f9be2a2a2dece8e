-- Undos in a row, by induction over the edits.
use Rattle.std.proofs.Common.{subst, ◌≡◌, ◌<◌, ◌≤◌, ◌+◌, ◌-◌, ◌*◌, ℕ, zero, suc, Bool, true, false, cond, List, [], ◌∷◌, ◌++◌, length, take, drop, Some, None, refl, sym, ap, ◌∙◌, arith, inl, inr, append_assoc, length-append, length-drop, length-take}
use Rattle.std.specs.Prelude.{find, min, ◌==◌, nat_lt}
use Rattle.std.proofs.Math.Nat.{min-eq_left}
use Rattle.std.specs.Option.{option_and_then, option_or, is_some, IsSome}
use Rattle.std.proofs.lemmas.Option.{same_Some, none-some, option_and_then_some}
use Rattle.std.proofs.lemmas.List.{take-append-le, take-append-drop, drop-append-le, length-take-le, take_all, drop_all, drop-drop, take-take}
use Rattle.std.proofs.lemmas.List.Folds.{find-append}
use Rattle.std.proofs.lemmas.Bool.{eq-eqb, ne_eqb, or_cases, or_left, or_right, lt-ltb, ltb-true, cases_Bool}
use Rattle.mgs_model.specs.Text.{edited, removed, is_edit}
use Rattle.mgs_model.specs.World.{Buffer, Item}
use Rattle.mgs_model.specs.Apply.{buffer_edited, item_for}
use Rattle.mgs_undo.specs.declared.Edit.{Edit}
use Rattle.mgs_undo.specs.Numbered.{item_of}
use Rattle.mgs_undo.specs.History.{History, has_serial}
use Rattle.mgs_undo.specs.Undoing.{history_of, IsEditOf, Replacement, after, AreEdits, item_undone, undos, UndosGoBack, TargetsAreKept}
use Rattle.mgs_undo.proofs.NumberedLemmas.{history}

-- ONE EDIT AND ITS INVERSE

-- what an edit is there makes of a buffer
edit_made : (a b : ℕ) (put : List ℕ) (x : Buffer) → is_edit a b put ≡ true → buffer_edited a b put x ≡ record x { text = edited a b put x.text; items = item_for a b put x ∷ take 999 x.items; serial = x.serial + 1; modified = true }
edit_made a b put x e = ap (λ f. cond f (record x { text = edited a b put x.text; items = item_for a b put x ∷ take 999 x.items; serial = x.serial + 1; modified = true }) x) e

pub text_edited : (a b : ℕ) (put : List ℕ) (x : Buffer) → is_edit a b put ≡ true → (buffer_edited a b put x).text ≡ edited a b put x.text
text_edited a b put x e = ap (λ (y : Buffer). y.text) (edit_made a b put x e)

pub items_edited : (a b : ℕ) (put : List ℕ) (x : Buffer) → is_edit a b put ≡ true → (buffer_edited a b put x).items ≡ item_for a b put x ∷ take 999 x.items
items_edited a b put x e = ap (λ (y : Buffer). y.items) (edit_made a b put x e)

pub serial_edited : (a b : ℕ) (put : List ℕ) (x : Buffer) → is_edit a b put ≡ true → (buffer_edited a b put x).serial ≡ x.serial + 1
serial_edited a b put x e = ap (λ (y : Buffer). y.serial) (edit_made a b put x e)

drop_on : (a b : ℕ) (text : List ℕ) → a ≤ b → drop (b - a) (drop a text) ≡ drop b text
drop_on a b text order =
    let sum : a + (b - a) ≡ b = omega arith in
    drop-drop (b - a) a text ∙ ap (λ k. drop k text) sum

-- what an edit put in goes out, and what it took out comes back
pub inverse : (a b : ℕ) (put text : List ℕ) → a ≤ b → b ≤ length text → edited a (a + length put) (removed a b text) (edited a b put text) ≡ text
inverse a b put text order within =
    let front : length (take a text) ≡ a = length-take-le a text (omega arith) in
    let both : length (take a text ++ put) ≡ a + length put = omega (arith, front, length-append (take a text) put) in
    let head : take a (edited a b put text) ≡ take a text =
    take-append-le a (take a text ++ put) (drop b text) (omega (arith, both))
    ∙ (take-append-le a (take a text) put (omega (arith, front)) ∙ take_all a (take a text) (omega (arith, front))) in
    let tail : drop (a + length put) (edited a b put text) ≡ drop b text =
    drop-append-le (a + length put) (take a text ++ put) (drop b text) (omega (arith, both))
    ∙ ap (λ l. l ++ drop b text) (drop_all (a + length put) (take a text ++ put) (omega (arith, both))) in
    let middle : removed a b text ++ drop b text ≡ drop a text =
    ap (λ l. removed a b text ++ l) (sym (drop_on a b text order)) ∙ take-append-drop (b - a) (drop a text) in
    ap (λ h. h ++ removed a b text ++ drop (a + length put) (edited a b put text)) head
    ∙ (ap (λ l. take a text ++ removed a b text ++ l) tail
    ∙ (append_assoc (take a text) (removed a b text) (drop b text) ∙ (ap (λ l. take a text ++ l) middle ∙ take-append-drop a text)))

-- the inverse of an edit is one too
pub inverse_is_edit : (a b : ℕ) (put text : List ℕ) → a ≤ b → b ≤ length text → is_edit a b put ≡ true → is_edit a (a + length put) (removed a b text) ≡ true
inverse_is_edit a b put text order within edit =
    let some : length (removed a b text) ≡ b - a = omega (arith, length-take (b - a) (drop a text), length-drop a text) in
    elim (or_cases (nat_lt a b) (nat_lt 0 (length put)) edit) [
      | inl out ↦ or_right (nat_lt a (a + length put)) _ (lt-ltb 0 (length (removed a b text)) (omega (arith, ltb-true a b out, some)))
      | inr in_ ↦ or_left _ (nat_lt 0 (length (removed a b text))) (lt-ltb a (a + length put) (omega (arith, ltb-true 0 (length put) in_)))
    ]

-- FINDING THE TARGET

find_past : {A : Type 0} (p : A → Bool) (us zs : List A) → find p us ≡ None → find p (us ++ zs) ≡ find p zs
find_past p us zs none = find-append p us zs ∙ ap (λ o. option_or o (find p zs)) none

-- what is found in a front is found in the whole
find_taken : {A : Type 0} (p : A → Bool) (n : ℕ) (xs : List A) (x : A) → find p (take n xs) ≡ Some x → find p xs ≡ Some x
find_taken p n xs x found =
    ap (find p) (sym (take-append-drop n xs)) ∙ (find-append p (take n xs) (drop n xs) ∙ ap (λ o. option_or o (find p (drop n xs))) found)

-- the first that passes is found in a front that is long enough
find_within : {A : Type 0} (p : A → Bool) (n : ℕ) (us zs : List A) (x : A) → find p us ≡ None → p x ≡ true → length us < n → find p (take n (us ++ x ∷ zs)) ≡ Some x
find_within p zero us zs x none passes long = absurd (omega arith)
find_within p (suc n) [] zs x none passes long = ap (λ b. cond b (Some x) (find p (take n zs))) passes
find_within p (suc n) (u ∷ us) zs x none passes long =
    elim (cases_Bool (p u)) [
      | inl e ↦ absurd (none-some u (sym none ∙ ap (λ b. cond b (Some u) (find p us)) e))
      | inr e ↦
          let rest : find p us ≡ None = sym (ap (λ b. cond b (Some u) (find p us)) e) ∙ none in
          ap (λ b. cond b (Some u) (find p (take n (us ++ x ∷ zs)))) e ∙ find_within p n us zs x rest passes (omega arith)
    ]

-- EDITS IN A ROW

-- the items of the edits, as if all were kept
abbrev pub all_items : List Replacement → Buffer → List Item
all_items [] x = x.items
all_items (e ∷ es) x = item_for e.a e.b e.put (after es x) ∷ all_items es x

pub serial_after : (es : List Replacement) (x : Buffer) → AreEdits es x → (after es x).serial ≡ x.serial + length es
serial_after [] x edits = omega arith
serial_after (e ∷ es) x edits = serial_edited e.a e.b e.put (after es x) edits.2 ∙ omega (arith, serial_after es x edits.3)

pub items_after : (es : List Replacement) (x : Buffer) → length x.items ≤ 1000 → AreEdits es x → (after es x).items ≡ take 1000 (all_items es x)
items_after [] x few edits = sym (take_all 1000 x.items few)
items_after (e ∷ es) x few edits =
    let i : Item = item_for e.a e.b e.put (after es x) in
    items_edited e.a e.b e.put (after es x) edits.2
    ∙ ap (λ l. i ∷ l) (ap (take 999) (items_after es x few edits.3) ∙ take-take 999 1000 (all_items es x) (omega arith))

-- UNDOS IN A ROW

-- a buffer that some undos have led back to where the edits that are left had led, with the items of what was done since
record IsBack (es : List Replacement) (us : List Item) (x w : Buffer) : Type 0 where
  text : w.text ≡ (after es x).text
  items : w.items ≡ take 1000 (us ++ all_items es x)
  later : (t : ℕ) → t ≤ x.serial + length es → find (has_serial t) us ≡ None
  counted : x.serial + length es ≤ w.serial

-- the target is the latest edit that is left
target_is : (e : Replacement) (es : List Replacement) (us : List Item) (x w : Buffer) → IsBack (e ∷ es) us x w → AreEdits (e ∷ es) x
    → has_serial (x.serial + length (e ∷ es)) (item_for e.a e.b e.put (after es x)) ≡ true
target_is e es us x w back edits = eq-eqb _ (x.serial + length (e ∷ es)) (omega (arith, serial_after es x edits.3))

target_found : (e : Replacement) (es : List Replacement) (us : List Item) (x w : Buffer) (i : Item) → IsBack (e ∷ es) us x w → AreEdits (e ∷ es) x
    → find (has_serial (x.serial + length (e ∷ es))) w.items ≡ Some i → item_for e.a e.b e.put (after es x) ≡ i
target_found e es us x w i back edits found =
    let t : ℕ = x.serial + length (e ∷ es) in
    let j : Item = item_for e.a e.b e.put (after es x) in
    let whole : find (has_serial t) (us ++ all_items (e ∷ es) x) ≡ Some i = find_taken (has_serial t) 1000 (us ++ all_items (e ∷ es) x) i (ap (find (has_serial t)) (sym back.items) ∙ found) in
    let first : find (has_serial t) (us ++ all_items (e ∷ es) x) ≡ Some j = find_past (has_serial t) us (all_items (e ∷ es) x) (back.later t (omega arith)) ∙ ap (λ b. cond b (Some j) (find (has_serial t) (all_items es x))) (target_is e es us x w back edits) in
    same_Some j i (sym first ∙ whole)

-- the inverse of the latest edit that is left leads back one edit more
back_inverse : (e : Replacement) (es : List Replacement) (us : List Item) (x w : Buffer) → IsBack (e ∷ es) us x w → AreEdits (e ∷ es) x
    → IsBack es (item_for e.a (e.a + length e.put) (removed e.a e.b (after es x).text) w ∷ (us ++ item_for e.a e.b e.put (after es x) ∷ [])) x (buffer_edited e.a (e.a + length e.put) (removed e.a e.b (after es x).text) w)
back_inverse e es us x w back edits =
    let t : List ℕ = (after es x).text in
    let i : Item = item_for e.a e.b e.put (after es x) in
    let u : Item = item_for e.a (e.a + length e.put) (removed e.a e.b t) w in
    let is : is_edit e.a (e.a + length e.put) (removed e.a e.b t) ≡ true = inverse_is_edit e.a e.b e.put t edits.0 edits.1 edits.2 in
    let rest : us ++ all_items (e ∷ es) x ≡ us ++ i ∷ [] ++ all_items es x = sym (append_assoc us (i ∷ []) (all_items es x)) in
    record {
      text =
          text_edited e.a (e.a + length e.put) (removed e.a e.b t) w is
          ∙ (ap (edited e.a (e.a + length e.put) (removed e.a e.b t)) (back.text ∙ text_edited e.a e.b e.put (after es x) edits.2)
          ∙ inverse e.a e.b e.put t edits.0 edits.1);
      items =
          items_edited e.a (e.a + length e.put) (removed e.a e.b t) w is
          ∙ ap (λ l. u ∷ l) (ap (take 999) back.items ∙ (take-take 999 1000 (us ++ all_items (e ∷ es) x) (omega arith) ∙ ap (take 999) rest));
      later = λ n few.
          let not_u : (u.serial == n) ≡ false = ne_eqb u.serial n (λ same. absurd (omega (arith, back.counted))) in
          let not_i : (i.serial == n) ≡ false = ne_eqb i.serial n (λ same. absurd (omega (arith, serial_after es x edits.3))) in
          ap (λ b. cond b (Some u) (find (has_serial n) (us ++ i ∷ []))) not_u
          ∙ (find_past (has_serial n) us (i ∷ []) (back.later n (omega arith)) ∙ ap (λ b. cond b (Some i) None) not_i);
      counted = omega (arith, serial_edited e.a (e.a + length e.put) (removed e.a e.b t) w is, back.counted);
    }

-- what an edit put in lies in the text that it leaves
put_within : (a b : ℕ) (put text : List ℕ) → a ≤ b → b ≤ length text → a + length put ≤ length (edited a b put text)
put_within a b put text order within =
    let front : length (take a text) ≡ a = length-take-le a text (omega arith) in
    omega (arith, front, length-append (take a text) put, length-append (take a text ++ put) (drop b text))

-- so an undo in its turn is not cut
uncut : (e : Replacement) (es : List Replacement) (us : List Item) (x w : Buffer) → IsBack (e ∷ es) us x w → AreEdits (e ∷ es) x
    → buffer_edited e.a (e.a + length e.put) (removed e.a e.b (after es x).text) w ≡ item_undone w (item_for e.a e.b e.put (after es x))
uncut e es us x w back edits =
    let out : List ℕ = removed e.a e.b (after es x).text in
    let n : ℕ = length w.text in
    let same : n ≡ length (edited e.a e.b e.put (after es x).text) = ap length (back.text ∙ text_edited e.a e.b e.put (after es x) edits.2) in
    let in_ : e.a + length e.put ≤ n = omega (arith, same, put_within e.a e.b e.put (after es x).text edits.0 edits.1) in
    let low : e.a ≤ n = omega (arith, in_) in
    let from : min e.a n ≡ e.a = min-eq_left low in
    let to : min (e.a + length e.put) n ≡ e.a + length e.put = min-eq_left in_ in
    ap (λ a. buffer_edited a (e.a + length e.put) out w) (sym from) ∙ ap (λ b. buffer_edited (min e.a n) b out w) (sym to)

-- one undo more
back_next : (e : Replacement) (es : List Replacement) (us : List Item) (x w : Buffer) → IsBack (e ∷ es) us x w → AreEdits (e ∷ es) x
    → IsBack es (item_for e.a (e.a + length e.put) (removed e.a e.b (after es x).text) w ∷ (us ++ item_for e.a e.b e.put (after es x) ∷ [])) x (item_undone w (item_for e.a e.b e.put (after es x)))
back_next e es us x w back edits =
    subst (λ y. IsBack es (item_for e.a (e.a + length e.put) (removed e.a e.b (after es x).text) w ∷ (us ++ item_for e.a e.b e.put (after es x) ∷ [])) x y) (uncut e es us x w back edits) (back_inverse e es us x w back edits)

goes_back : (k : ℕ) (es : List Replacement) (us : List Item) (x w y : Buffer) → IsBack es us x w → AreEdits es x → k ≤ length es → undos k (x.serial + length es) w ≡ Some y → y.text ≡ (after (drop k es) x).text
goes_back zero es us x w y back edits few done = ap (λ (b : Buffer). b.text) (sym (same_Some w y done)) ∙ back.text
goes_back (suc k) [] us x w y back edits few done = absurd (omega arith)
goes_back (suc k) (e ∷ es) us x w y back edits few done =
    let t : ℕ = x.serial + length (e ∷ es) in
    let j : Item = item_for e.a e.b e.put (after es x) in
    let v : Item = item_for e.a (e.a + length e.put) (removed e.a e.b (after es x).text) w in
    let below : t - 1 ≡ x.serial + length es = omega arith in
    option_and_then_some (λ item. undos k (t - 1) (item_undone w item)) (find (has_serial t) w.items) y done
    (λ i found rest.
    let same : j ≡ i = target_found e es us x w i back edits found in
    let then : undos k (x.serial + length es) (item_undone w j) ≡ Some y = ap (λ n. undos k n (item_undone w j)) (sym below) ∙ (ap (λ h. undos k (t - 1) (item_undone w h)) same ∙ rest) in
    goes_back k es (v ∷ (us ++ j ∷ [])) x (item_undone w j) y (back_next e es us x w back edits) edits.3 (omega arith) then)

is_kept : (k : ℕ) (es : List Replacement) (us : List Item) (x w : Buffer) → IsBack es us x w → AreEdits es x → k ≤ length es → length us + 2 * k ≤ 1001 → IsSome (undos k (x.serial + length es) w)
is_kept zero es us x w back edits few near = refl
is_kept (suc k) [] us x w back edits few near = absurd (omega arith)
is_kept (suc k) (e ∷ es) us x w back edits few near =
    let t : ℕ = x.serial + length (e ∷ es) in
    let j : Item = item_for e.a e.b e.put (after es x) in
    let v : Item = item_for e.a (e.a + length e.put) (removed e.a e.b (after es x).text) w in
    let below : t - 1 ≡ x.serial + length es = omega arith in
    let found : find (has_serial t) w.items ≡ Some j = ap (find (has_serial t)) back.items ∙ find_within (has_serial t) 1000 us (all_items es x) j (back.later t (omega arith)) (target_is e es us x w back edits) (omega arith) in
    let next : undos (suc k) t w ≡ undos k (x.serial + length es) (item_undone w j) = ap (option_and_then (λ item. undos k (t - 1) (item_undone w item))) found ∙ ap (λ n. undos k n (item_undone w j)) below in
    let more : length (v ∷ (us ++ j ∷ [])) ≡ length us + 2 = omega (arith, length-append us (j ∷ [])) in
    ap is_some next ∙ is_kept k es (v ∷ (us ++ j ∷ [])) x (item_undone w j) (back_next e es us x w back edits) edits.3 (omega arith) (omega (arith, more))

-- no undo yet
back_none : (es : List Replacement) (x : Buffer) → length x.items ≤ 1000 → AreEdits es x → IsBack es [] x (after es x)
back_none es x few edits = record { text = refl; items = items_after es x few edits; later = λ t below. refl; counted = omega (arith, serial_after es x edits) }

pub undos_go_back : UndosGoBack
undos_go_back x es k y few edits enough done =
    goes_back k es [] x (after es x) y (back_none es x few edits) edits enough (ap (λ n. undos k n (after es x)) (sym (serial_after es x edits)) ∙ done)

pub targets_are_kept : TargetsAreKept
targets_are_kept x es k few edits enough near =
    ap (λ n. is_some (undos k n (after es x))) (serial_after es x edits) ∙ is_kept k es [] x (after es x) (back_none es x few edits) edits enough (omega arith)

-- THE RECORD OF A BUFFER

abbrev item_with : ℕ → ℕ → List ℕ → ℕ → Item
item_with n place out put = record { serial = n; place = place; removed = out; put = put }

-- what a record of a buffer keeps of an edit is what the buffer does
pub recorded : (h : History) (e : Edit) (x : Buffer) (a b : ℕ) (put : List ℕ) → history_of x ≡ h → IsEditOf e a b put x → is_edit a b put ≡ true
    → history (item_of (h.serial + 1) e ∷ take 999 h.items) (h.serial + 1) ≡ history_of (buffer_edited a b put x)
recorded h e x a b put shown same edit =
    let item : item_of (x.serial + 1) e ≡ item_for a b put x =
    ap (λ p. item_with (x.serial + 1) p e.removed.items e.added) same.0
    ∙ (ap (λ out. item_with (x.serial + 1) a out e.added) same.1 ∙ ap (item_with (x.serial + 1) a (removed a b x.text)) same.2) in
    ap (λ (v : History). history (item_of (v.serial + 1) e ∷ take 999 v.items) (v.serial + 1)) (sym shown)
    ∙ (ap (λ i. history (i ∷ take 999 x.items) (x.serial + 1)) item
    ∙ (ap (λ items. history items (x.serial + 1)) (sym (items_edited a b put x edit)) ∙ ap (history (buffer_edited a b put x).items) (sym (serial_edited a b put x edit))))
