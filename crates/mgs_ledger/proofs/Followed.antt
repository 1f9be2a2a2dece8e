-- An event of a list is read as the change that it tells.
use Rattle.std.proofs.Common.{◌≡◌, ◌∙◌, ℕ, zero, suc, ◌+◌, ◌-◌, ◌^◌, ◌<◌, ◌≤◌, true, false, Bool, List, [], ◌∷◌, ◌++◌, length, take, drop, map, Some, refl, sym, ap, ap₂, subst, append_assoc, rules, arith}
use Rattle.std.specs.Prelude.{◌||◌, ◌==◌, cond, codes, decimal, min}
use Rattle.std.specs.List.{list_all, list_any}
use Rattle.std.specs.Str.{bytes_eq}
use Rattle.std.proofs.lemmas.List.{length-map, map-append, take-append-drop, take_all, drop_all, length-take-le}
use Rattle.std.proofs.lemmas.List.Folds.{list_any-append}
use Rattle.mgs_model.specs.Draw.{entry_text, type_text, who_text}
use Rattle.mgs_model.specs.Names.{is_user_char}
use Rattle.mgs_model.specs.Rights.{letter_of, rights_in}
use Rattle.mgs_model.specs.declared.entry.Entry.{Entry}
use Rattle.mgs_model.specs.declared.entry.EntryType.{EntryType}
use Rattle.mgs_model.specs.declared.entry.EntryType.TheVariants.{Allow, Deny}
use Rattle.mgs_model.specs.declared.entry.Who.{Who}
use Rattle.mgs_model.specs.declared.entry.Who.TheVariants.{Owner, OwningGroup, Everyone, User, Group}
use Rattle.mgs_model.specs.declared.right.Right.{Right}
use Rattle.mgs_model.specs.declared.right.Right.TheVariants.{ReadData, WriteData, AppendData, ReadAttributes, Delete, ReadAcl, WriteAcl, WriteOwner}
use Rattle.mgs_acl.specs.Written.{is_writable_who}
use Rattle.mgs_rewind.specs.ListChanges.{ArePlain, has_letter_first, is_semicolon, joined, list_text, list_told, separator}
use Rattle.mgs_rewind.proofs.Spelled.{list_change_read}
use Rattle.mgs_ledger.specs.ListChanges.{AreWritable, ListsAreFollowed, are_alike, common_end, common_start, last_entries, list_change, longest_end, same_entry, without_last}
use Rattle.mgs_ledger.specs.Spelling.{listed, parted, separator as between}
use Rattle.mgs_ledger.proofs.Repeats.{left, right}

-- THE TEXT OF AN ENTRY

none_in : (xs ys : List ℕ) → list_any is_semicolon xs ≡ false → list_any is_semicolon ys ≡ false → list_any is_semicolon (xs ++ ys) ≡ false
none_in xs ys e f = list_any-append is_semicolon xs ys ∙ ap₂ (λ a b. a || b) e f

equal_of : (a b : ℕ) → (a == b) ≡ true → a ≡ b
equal_of a b e = search rules

char_is_none : (c : ℕ) → is_user_char c ≡ true → is_semicolon c ≡ false
char_is_none c user = by (is_semicolon c) refl
  where
    by : (b : Bool) → is_semicolon c ≡ b → b ≡ false
    by false e = refl
    by true e = absurd (let not_so : is_user_char 59 ≡ true = subst (λ x. is_user_char x ≡ true) (equal_of c 59 e) user in cc)

none_in_name : (name : List ℕ) → list_all is_user_char name ≡ true → list_any is_semicolon name ≡ false
none_in_name [] all = refl
none_in_name (c ∷ cs) all =
    ap₂ (λ a b. a || b) (char_is_none c (left (is_user_char c) (list_all is_user_char cs) all)) (none_in_name cs (right (is_user_char c) (list_all is_user_char cs) all))

letter_is_none : (r : Right) → is_semicolon (letter_of r) ≡ false
letter_is_none ReadData = refl
letter_is_none WriteData = refl
letter_is_none AppendData = refl
letter_is_none ReadAttributes = refl
letter_is_none Delete = refl
letter_is_none ReadAcl = refl
letter_is_none WriteAcl = refl
letter_is_none WriteOwner = refl

none_in_letters : (rs : List Right) → list_any is_semicolon (map letter_of rs) ≡ false
none_in_letters [] = refl
none_in_letters (r ∷ rs) = ap₂ (λ a b. a || b) (letter_is_none r) (none_in_letters rs)

none_in_type : (t : EntryType) → list_any is_semicolon (type_text t) ≡ false
none_in_type Allow = refl
none_in_type Deny = refl

none_in_who : (w : Who) → is_writable_who w ≡ true → list_any is_semicolon (who_text w) ≡ false
none_in_who Owner e = refl
none_in_who OwningGroup e = refl
none_in_who Everyone e = refl
none_in_who (User name) e = none_in_name name (right _ (list_all is_user_char name) (right _ _ e))
none_in_who (Group name) e = none_in_name name (right _ (list_all is_user_char name) (right _ _ e))

letter_first : (t : EntryType) (who letters : List ℕ) → has_letter_first ((((type_text t ++ codes " ") ++ who) ++ codes " ") ++ letters) ≡ true
letter_first Allow who letters = refl
letter_first Deny who letters = refl

none_in_entry : (e : Entry) → is_writable_who e.who ≡ true → list_any is_semicolon (entry_text e) ≡ false
none_in_entry e w =
    none_in (((type_text e.entry_type ++ codes " ") ++ who_text e.who) ++ codes " ") (map letter_of (rights_in e.mask))
    (none_in ((type_text e.entry_type ++ codes " ") ++ who_text e.who) (codes " ")
    (none_in (type_text e.entry_type ++ codes " ") (who_text e.who) (none_in (type_text e.entry_type) (codes " ") (none_in_type e.entry_type) refl) (none_in_who e.who w)) refl)
    (none_in_letters (rights_in e.mask))

plain_texts : (es : List Entry) → AreWritable es → ArePlain (map entry_text es)
plain_texts [] w = tt
plain_texts (e ∷ es) w =
    ((none_in_entry e w.0, letter_first e.entry_type (who_text e.who) (map letter_of (rights_in e.mask))), plain_texts es w.1)

writable_take : (n : ℕ) (es : List Entry) → AreWritable es → AreWritable (take n es)
writable_take zero es w = tt
writable_take (suc n) [] w = tt
writable_take (suc n) (e ∷ es) w = (w.0, writable_take n es w.1)

writable_drop : (n : ℕ) (es : List Entry) → AreWritable es → AreWritable (drop n es)
writable_drop zero es w = w
writable_drop (suc n) [] w = tt
writable_drop (suc n) (e ∷ es) w = writable_drop n es w.1

-- THE TEXT OF A LIST

same_between : (is_first : Bool) → between is_first ≡ separator is_first
same_between true = refl
same_between false = refl

parted_joined : (is_first : Bool) (es : List Entry) → parted is_first es ≡ joined is_first (map entry_text es)
parted_joined is_first [] = refl
parted_joined is_first (e ∷ es) = ap₂ (λ s r. (s ++ entry_text e) ++ r) (same_between is_first) (parted_joined false es)

listed_text : (es : List Entry) → listed es ≡ list_text (map entry_text es)
listed_text es = ap₂ (λ n t. cond (n == 0) (codes "-") t) (sym (length-map es entry_text)) (parted_joined true es)

-- WHAT TWO LISTS HAVE IN COMMON

same_text : (a b : List ℕ) → bytes_eq a b ≡ true → a ≡ b
same_text a b e = search rules

one_more : (n : ℕ) → n + 1 ≡ suc n
one_more n = omega arith

start_alike : (xs ys : List Entry) → map entry_text (take (common_start xs ys) xs) ≡ map entry_text (take (common_start xs ys) ys)
start_alike [] ys = none ys
  where
    none : (ys : List Entry) → map entry_text (take 0 []) ≡ map entry_text (take 0 ys)
    none ys = refl
start_alike (x ∷ xs) [] = refl
start_alike (x ∷ xs) (y ∷ ys) = by (start_alike xs ys) (same_entry x y) refl
  where
    by : map entry_text (take (common_start xs ys) xs) ≡ map entry_text (take (common_start xs ys) ys) → (b : Bool) → same_entry x y ≡ b
        → map entry_text (take (cond b (common_start xs ys + 1) 0) (x ∷ xs)) ≡ map entry_text (take (cond b (common_start xs ys + 1) 0) (y ∷ ys))
    by rest true e =
        ap (λ n. map entry_text (take n (x ∷ xs))) (one_more (common_start xs ys))
        ∙ (ap₂ (λ t l. t ∷ l) (same_text (entry_text x) (entry_text y) e) rest ∙ ap (λ n. map entry_text (take n (y ∷ ys))) (sym (one_more (common_start xs ys))))
    by rest false e = refl

start_within : (xs ys : List Entry) → common_start xs ys ≤ length xs
start_within [] ys = none
  where
    none : 0 ≤ 0
    none = omega arith
start_within (x ∷ xs) [] = omega arith
start_within (x ∷ xs) (y ∷ ys) = by (start_within xs ys) (same_entry x y)
  where
    by : common_start xs ys ≤ length xs → (b : Bool) → cond b (common_start xs ys + 1) 0 ≤ suc (length xs)
    by rest true = omega arith
    by rest false = omega arith

alike_texts : (xs ys : List Entry) → are_alike xs ys ≡ true → map entry_text xs ≡ map entry_text ys
alike_texts xs ys e =
    let lengths : length xs ≡ length ys = equal_of (length xs) (length ys) (left (length xs == length ys) (common_start xs ys == length xs) e) in
    let all : common_start xs ys ≡ length xs = equal_of (common_start xs ys) (length xs) (right (length xs == length ys) (common_start xs ys == length xs) e) in
    ap (map entry_text) (sym (take_all (common_start xs ys) xs (omega arith))) ∙ (start_alike xs ys ∙ ap (map entry_text) (take_all (common_start xs ys) ys (omega arith)))

none_at_end : (xs : List Entry) → last_entries 0 xs ≡ []
none_at_end xs = drop_all (length xs - 0) xs (omega arith)

end_alike : (k : ℕ) (xs ys : List Entry) → are_alike (last_entries (common_end k xs ys) xs) (last_entries (common_end k xs ys) ys) ≡ true
end_alike zero xs ys = ap₂ (λ a b. are_alike a b) (none_at_end xs) (none_at_end ys)
end_alike (suc k) xs ys = by (end_alike k xs ys) (are_alike (last_entries (suc k) xs) (last_entries (suc k) ys)) refl
  where
    by : are_alike (last_entries (common_end k xs ys) xs) (last_entries (common_end k xs ys) ys) ≡ true → (b : Bool) → are_alike (last_entries (suc k) xs) (last_entries (suc k) ys) ≡ b
        → are_alike (last_entries (cond b (suc k) (common_end k xs ys)) xs) (last_entries (cond b (suc k) (common_end k xs ys)) ys) ≡ true
    by rest true e = e
    by rest false e = rest

-- THE THREE PARTS OF A LIST

parts : (start : ℕ) (end : ℕ) (es : List Entry) → take start es ++ (without_last end (drop start es) ++ last_entries end (drop start es)) ≡ es
parts start end es =
    ap (λ l. take start es ++ l) (take-append-drop (length (drop start es) - end) (drop start es)) ∙ take-append-drop start es

parts_texts : (xs ys zs : List Entry) → map entry_text (xs ++ (ys ++ zs)) ≡ map entry_text xs ++ (map entry_text ys ++ map entry_text zs)
parts_texts xs ys zs = map-append entry_text xs (ys ++ zs) ∙ ap (λ l. map entry_text xs ++ l) (map-append entry_text ys zs)

listed_parts : (start end : ℕ) (es : List Entry)
    → listed es ≡ list_text (map entry_text (take start es) ++ (map entry_text (without_last end (drop start es)) ++ map entry_text (last_entries end (drop start es))))
listed_parts start end es =
    listed_text es
    ∙ ap list_text (ap (map entry_text) (sym (parts start end es)) ∙ parts_texts (take start es) (without_last end (drop start es)) (last_entries end (drop start es)))

followed : (old new : List Entry) → AreWritable old → AreWritable new → length old + 1 < 2 ^ 64 → list_told (listed old) (list_change old new) ≡ Some (listed new)
followed old new w v fits =
    let start = common_start old new in
    let was = drop start old in
    let is = drop start new in
    let end = longest_end was is in
    let p = map entry_text (take start old) in
    let o = map entry_text (without_last end was) in
    let n = map entry_text (without_last end is) in
    let s = map entry_text (last_entries end was) in
    let same_start : p ≡ map entry_text (take start new) = start_alike old new in
    let same_end : s ≡ map entry_text (last_entries end is) =
    alike_texts (last_entries end was) (last_entries end is) (end_alike (min (length was) (length is)) was is) in
    let within : start ≤ length old = start_within old new in
    let count : length p ≡ start = length-map (take start old) entry_text ∙ length-take-le start old within in
    let plain_was = plain_texts (without_last end was) (writable_take (length was - end) was (writable_drop start old w)) in
    let plain_is = plain_texts (without_last end is) (writable_take (length is - end) is (writable_drop start new v)) in
    let plain_start = plain_texts (take start old) (writable_take start old w) in
    let plain_end = plain_texts (last_entries end was) (writable_drop (length was - end) was (writable_drop start old w)) in
    let room : length p + 1 < 2 ^ 64 = subst (λ k. k + 1 < 2 ^ 64) (sym count) (omega arith) in
    ap₂ (λ l d. list_told l d) (listed_parts start end old)
    (append_assoc (decimal (start + 1)) (codes ": ") ((listed (without_last end was) ++ codes " -> ") ++ listed (without_last end is))
    ∙ (ap (λ k. decimal (k + 1) ++ (codes ": " ++ ((listed (without_last end was) ++ codes " -> ") ++ listed (without_last end is)))) (sym count)
    ∙ ap₂ (λ a b. decimal (length p + 1) ++ (codes ": " ++ ((a ++ codes " -> ") ++ b))) (listed_text (without_last end was)) (listed_text (without_last end is))))
    ∙ (list_change_read p o n s plain_start plain_was plain_is plain_end room
    ∙ ap Some (ap₂ (λ a b. list_text (a ++ (n ++ b))) same_start same_end ∙ sym (listed_parts start end new)))

pub lists_followed : ListsAreFollowed
lists_followed = λ old new w v fits. followed old new w v fits
