-- What becomes of the texts: one world after another, by an effect, and what one edit took out and put in.
use Rattle.std.proofs.Common.{◌≡◌, ℕ, ◌+◌, ◌-◌, ◌≤◌, Bool, true, false, cond, List, [], ◌∷◌, ◌++◌, take, drop, length, inl, inr, Some, refl, sym, ap, subst, ◌∙◌, arith}
use Rattle.std.proofs.Math.Seq.{take-append_seam}
use Rattle.std.proofs.lemmas.Bool.{cases_eq, cases_lt}
use Rattle.std.proofs.lemmas.List.{take-append-drop, take_all, drop_all, drop-drop, length-take, length-take-le, length-drop, length-append, append-nil, append_assoc}
use Rattle.mgs_model.specs.Names.{same_name}
use Rattle.mgs_model.specs.Text.{edited, removed, is_edit}
use Rattle.mgs_model.specs.World.{Item, Buffer, is_named, find_buffer}
use Rattle.mgs_model.specs.Outcome.{Effect, No_effect, Edit, Unmodified, SetList, SetOwners, Create, Kill, Save, Quit}
use Rattle.mgs_model.specs.Apply.{change_first, buffer_edited, item_for, buffer_unmodified, buffers_after}
use Rattle.mgs_model.proofs.Moved.{edited_name, of_either}
use Rattle.mgs_laws.proofs.Edits.{buffer_made}
use Rattle.mgs_laws.specs.Apart.{is_anywhere, IsEditedOnce, Follows, AreFollowed, touched_by}

-- ONE BUFFER

-- with its text and its undo record
pub follows_kept : (b c : Buffer) → c.text ≡ b.text → c.items ≡ b.items → c.serial ≡ b.serial → Follows b c
follows_kept b c text items serial = record { later = omega arith; same = λ e. (text, items); once = λ e. absurd (omega arith) }

pub follows_same : (b : Buffer) → Follows b b
follows_same b = follows_kept b b refl refl refl

edit_before : (b c d : Buffer) → c.text ≡ b.text → IsEditedOnce c d → IsEditedOnce b d
edit_before b c d text e = record {
  item = e.item;
  older = e.older;
  items = e.items;
  serial = e.serial;
  until = e.until;
  put = e.put;
  taken = e.taken ∙ ap (removed e.item.place e.until) text;
  added = e.added;
  text = e.text ∙ ap (edited e.item.place e.until e.put) text;
}

edit_behind : (b c d : Buffer) → d.text ≡ c.text → d.items ≡ c.items → d.serial ≡ c.serial → IsEditedOnce b c → IsEditedOnce b d
edit_behind b c d text items serial e = record {
  item = e.item;
  older = e.older;
  items = items ∙ e.items;
  serial = e.serial ∙ sym serial;
  until = e.until;
  put = e.put;
  taken = e.taken;
  added = e.added;
  text = text ∙ e.text;
}

-- one after the other: of two steps at most one is the one edit
pub follows_then : (b c d : Buffer) → Follows b c → Follows c d → Follows b d
follows_then b c d p q = record {
  later = omega (arith, p.later, q.later);
  same = λ e.
      let first = p.same (omega (arith, e, p.later, q.later)) in
      let next = q.same (omega (arith, e, p.later, q.later)) in
      (next.0 ∙ first.0, next.1 ∙ first.1);
  once = λ e.
      elim (cases_eq c.serial b.serial) [
        | inl still ↦ edit_before b c d (p.same still).0 (q.once (omega (arith, e, still)))
        | inr moved ↦
            let stands : d.serial ≡ c.serial = omega (arith, e, moved, p.later, q.later) in
            let next = q.same stands in
            edit_behind b c d next.0 next.1 stands (p.once (omega (arith, e, moved, p.later, q.later)))
      ];
}

follows_made : (a u : ℕ) (put : List ℕ) (b : Buffer) → Follows b (buffer_made a u put b)
follows_made a u put b = record {
  later = omega arith;
  same = λ e. absurd (omega arith);
  once = λ e. record {
    item = item_for a u put b;
    older = take 999 b.items;
    items = refl;
    serial = refl;
    until = u;
    put = put;
    taken = refl;
    added = refl;
    text = refl;
  };
}

follows_edited : (a u : ℕ) (put : List ℕ) (b : Buffer) → Follows b (buffer_edited a u put b)
follows_edited a u put b = of_either (Follows b) (is_edit a u put) (buffer_made a u put b) b (follows_made a u put b) (follows_same b)

follows_unmodified : (b : Buffer) → Follows b (buffer_unmodified b)
follows_unmodified b = follows_kept b (buffer_unmodified b) refl refl refl

-- ALL BUFFERS

pub followed_same : (bs : List Buffer) → AreFollowed bs bs
followed_same bs name b found = (b, found, follows_same b)

pub followed_then : (bs cs ds : List Buffer) → AreFollowed bs cs → AreFollowed cs ds → AreFollowed bs ds
followed_then bs cs ds p q name b found =
    let first = p name b found in
    let next = q name first.0 first.1 in
    (next.0, next.1, follows_then b first.0 next.0 first.2 next.2)

-- the buffer of a name is there and follows
abbrev Stays : List ℕ → Buffer → List Buffer → Type 0
Stays name b cs = (c : Buffer) × (find_buffer name cs ≡ Some c) × Follows b c

-- one of them is changed, whichever it is
followed_first : (p : Buffer → Bool) (f : Buffer → Buffer) → ((b : Buffer) → (f b).name ≡ b.name) → ((b : Buffer) → Follows b (f b)) → (bs : List Buffer) → AreFollowed bs (change_first p f bs)
followed_first p f name follows [] m b found = cc
followed_first p f name follows (x ∷ xs) m b found =
    by (p x) (is_named m x) refl (λ h. followed_first p f name follows xs m b h) found
  where
    by : (changed here : Bool) → is_named m x ≡ here → (find_buffer m xs ≡ Some b → Stays m b (change_first p f xs)) → cond here (Some x) (find_buffer m xs) ≡ Some b → Stays m b (cond changed (f x ∷ xs) (x ∷ change_first p f xs))
    by true true e rest h =
        let same : x ≡ b = cc in
        (f x, ap (λ t. cond t (Some (f x)) (find_buffer m xs)) (ap (same_name m) (name x) ∙ e), subst (λ (z : Buffer). Follows z (f x)) same (follows x))
    by true false e rest h =
        (b, ap (λ t. cond t (Some (f x)) (find_buffer m xs)) (ap (same_name m) (name x) ∙ e) ∙ h, follows_same b)
    by false true e rest h = (b, ap (λ t. cond t (Some x) (find_buffer m (change_first p f xs))) e ∙ h, follows_same b)
    by false false e rest h =
        let more = rest h in
        (more.0, ap (λ t. cond t (Some x) (find_buffer m (change_first p f xs))) e ∙ more.1, more.2)

pub followed_after : (e : Effect) → is_anywhere (touched_by e) ≡ false → (bs : List Buffer) → AreFollowed bs (buffers_after e bs)
followed_after No_effect h bs = followed_same bs
followed_after (Edit name a u put) h bs = followed_first (is_named name) (buffer_edited a u put) (edited_name a u put) (follows_edited a u put) bs
followed_after (Unmodified name) h bs = followed_first (is_named name) buffer_unmodified (λ b. refl) follows_unmodified bs
followed_after (SetList name entries) h bs = cc
followed_after (SetOwners name new) h bs = cc
followed_after (Create name owner) h bs = cc
followed_after (Kill name) h bs = cc
followed_after (Save name text) h bs = followed_first (is_named name) buffer_unmodified (λ b. refl) follows_unmodified bs
followed_after Quit h bs = cc

-- THE PARTS OF AN EDIT

-- what stood before it, what it put in, and what stood behind it
pub record EditParts (old new : Buffer) (item : Item) : Type 0 where
  pub before : List ℕ
  pub put : List ℕ
  pub behind : List ℕ
  pub was : old.text ≡ before ++ (item.removed ++ behind)
  pub came : new.text ≡ before ++ (put ++ behind)
  pub count : length put ≡ item.put
  pub place : before ≡ take item.place old.text
  pub stays : item.place ≤ length old.text → take item.place new.text ≡ before

-- what was taken out stood at its place, where as many characters came and went as are told
cut_out : (a u : ℕ) (text put : List ℕ) → length (edited a u put text) + length (removed a u text) ≡ length text + length put → take a text ++ (removed a u text ++ drop u text) ≡ text
cut_out a u text put sizes =
    elim (cases_lt u a) [
      | inl less ↦
          let nothing : u - a ≡ 0 = omega (arith, less) in
          let whole : length (take a text ++ put ++ drop u text) + length (take (u - a) (drop a text)) ≡ length text + length put = sizes in
          let many : length text ≤ u =
          omega (arith, less, whole, length-append (take a text ++ put) (drop u text), length-append (take a text) put, length-take a text, length-drop u text, ap (λ n. length (take n (drop a text))) nothing) in
          ap (λ ys. take a text ++ (removed a u text ++ ys)) (drop_all u text many)
          ∙ ap (λ n. take a text ++ (take n (drop a text) ++ [])) nothing
          ∙ append-nil (take a text)
          ∙ take_all a text (omega (arith, less, many))
      | inr order ↦
          let further : a + (u - a) ≡ u = omega (arith, order) in
          let behind : drop (u - a) (drop a text) ≡ drop u text = drop-drop (u - a) a text ∙ ap (λ n. drop n text) further in
          ap (λ ys. take a text ++ (removed a u text ++ ys)) (sym behind)
          ∙ ap (λ ys. take a text ++ ys) (take-append-drop (u - a) (drop a text))
          ∙ take-append-drop a text
    ]

-- the characters before a place, in a text that begins with them
begins : (a : ℕ) (text rest : List ℕ) → a ≤ length text → take a (take a text ++ rest) ≡ take a text
begins a text rest within =
    ap (λ n. take n (take a text ++ rest)) (sym (length-take-le a text within)) ∙ take-append_seam (take a text) rest

pub edit_parts : (old new : Buffer) (e : IsEditedOnce old new) → length new.text + length e.item.removed ≡ length old.text + e.item.put → EditParts old new e.item
edit_parts old new e sizes = record {
  before = take e.item.place old.text;
  put = e.put;
  behind = drop e.until old.text;
  was = sym (cut_out e.item.place e.until old.text e.put told) ∙ ap (λ ys. take e.item.place old.text ++ (ys ++ drop e.until old.text)) (sym e.taken);
  came = joined;
  count = sym e.added;
  place = refl;
  stays = λ within. ap (take e.item.place) joined ∙ begins e.item.place old.text (e.put ++ drop e.until old.text) within;
}
  where
    joined : new.text ≡ take e.item.place old.text ++ (e.put ++ drop e.until old.text)
    joined = e.text ∙ append_assoc (take e.item.place old.text) e.put (drop e.until old.text)

    told : length (edited e.item.place e.until e.put old.text) + length (removed e.item.place e.until old.text) ≡ length old.text + length e.put
    told = ap (λ (ys : List ℕ). length ys + length (removed e.item.place e.until old.text)) (sym e.text)
        ∙ ap (λ (ys : List ℕ). length new.text + length ys) (sym e.taken)
        ∙ sizes ∙ ap (λ (n : ℕ). length old.text + n) e.added
