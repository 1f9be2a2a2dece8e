-- Edits of a buffer in a row, and undos in a row. Each undo is an edit too, with an item of its own, and goes by its target:
-- the serial of the item that it undoes.
use Rattle.std.specs.Prelude.{ℕ, zero, suc, ◌-◌, ◌≤◌, ◌≡◌, true, List, [], ◌∷◌, length, drop, find, Option, Some}
use Rattle.std.specs.Option.{option_and_then, IsSome}
use Rattle.mgs_model.specs.Text.{removed, is_edit}
use Rattle.mgs_model.specs.World.{Buffer, Item}
use Rattle.mgs_model.specs.Apply.{buffer_edited}
use Rattle.mgs_model.specs.Plans.{undone_from, undone_to}
use Rattle.mgs_undo.specs.declared.Edit.{Edit}
use Rattle.mgs_undo.specs.History.{History, has_serial}

-- what a record shows of a buffer
abbrev pub history_of : Buffer → History
history_of x = record { items = x.items; serial = x.serial }

-- an edit as it is handed to the record: what it takes out of a buffer, where, and how many it puts in
abbrev pub IsEditOf : Edit → ℕ → ℕ → List ℕ → Buffer → Type 0
IsEditOf e a b put x = (e.at ≡ a) × (e.removed.items ≡ removed a b x.text) × (e.added ≡ length put)

-- of the record of any buffer with such an edit it makes that of the edited buffer
abbrev pub IsEdited : History → History → Edit → Type 0
IsEdited old new e =
    (x : Buffer) (a b : ℕ) (put : List ℕ) → history_of x ≡ old → IsEditOf e a b put x → is_edit a b put ≡ true → new ≡ history_of (buffer_edited a b put x)

-- the characters from a up to b go out, and others come in
pub record Replacement : Type 0 where
  pub a : ℕ
  pub b : ℕ
  pub put : List ℕ

-- a buffer after edits in a row, the latest first
abbrev pub after : List Replacement → Buffer → Buffer
after [] x = x
after (e ∷ es) x = buffer_edited e.a e.b e.put (after es x)

-- each is an edit, within the text that it meets
abbrev pub AreEdits : List Replacement → Buffer → Type 0
AreEdits [] x = Unit
AreEdits (e ∷ es) x = (e.a ≤ e.b) × (e.b ≤ length (after es x).text) × (is_edit e.a e.b e.put ≡ true) × AreEdits es x

-- an item undone: what it put in goes out, and what it took out comes back
abbrev pub item_undone : Buffer → Item → Buffer
item_undone x item = buffer_edited (undone_from (length x.text) item) (undone_to (length x.text) item) item.removed x

-- so many undos in a row: each has the serial before as its target. None where a target is not kept
abbrev pub undos : ℕ → ℕ → Buffer → Option Buffer
undos zero target x = Some x
undos (suc k) target x = option_and_then (λ item. undos k (target - 1) (item_undone x item)) (find (has_serial target) x.items)

-- UNDOS GO BACK: after edits in a row, so many undos in a row give the text before the last so many edits, if every target
-- is kept
abbrev pub UndosGoBack : Type 0
UndosGoBack =
    (x : Buffer) (es : List Replacement) (k : ℕ) (y : Buffer) → length x.items ≤ 1000 → AreEdits es x → k ≤ length es
    → undos k (after es x).serial (after es x) ≡ Some y → y.text ≡ (after (drop k es) x).text

-- TARGETS ARE KEPT: every target of at most 500 undos of as many edits is kept
abbrev pub TargetsAreKept : Type 0
TargetsAreKept =
    (x : Buffer) (es : List Replacement) (k : ℕ) → length x.items ≤ 1000 → AreEdits es x → k ≤ length es → k ≤ 500
    → IsSome (undos k (after es x).serial (after es x))
