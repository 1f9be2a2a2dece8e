-- What the journal writes in a detail is what is read of it.
use Rattle.std.proofs.Common.{◌≡◌, ◌∙◌, ℕ, zero, suc, ◌+◌, ◌^◌, ◌<◌, ◌≤◌, true, false, Bool, List, [], ◌∷◌, ◌++◌, length, take, drop, map, Some, refl, sym, ap, ap₂, subst, append_assoc, rules, arith, None}
use Rattle.std.specs.Prelude.{◌&&◌, ◌||◌, ◌==◌, bytes_eq, codes, cond, decimal, nat_lt, not, option_and_then, option_map, unwrap_or}
use Rattle.std.specs.List.{after_first, before_first, list_any, onto_first, position_or_len, slice_split}
use Rattle.std.specs.Char.{digit_value}
use Rattle.std.specs.Str.Parse.{AllDigits}
use Rattle.std.proofs.lemmas.Fmt.{decimal_injective, decimal_is_IsNumeral}
use Rattle.mgs_rewind.specs.Details.{is_colon, is_space, new_text, stripped}
use Rattle.mgs_rewind.specs.ListChanges.{ArePlain, IsPlain, entries_after, entries_in, first_some, has_letter_first, index_from, is_dash, is_semicolon, joined, list_replaced, list_text, list_told, list_told_at, new_entries, next_stripped, replaced, replaced_first, replaced_from, replacement, separator, without_space}
use Rattle.mgs_rewind.specs.RowChanges.{rights_in}

take_front : (xs ys : List ℕ) → take (length xs) (xs ++ ys) ≡ xs
take_front [] ys = refl
take_front (x ∷ xs) ys = ap (λ l. x ∷ l) (take_front xs ys)

drop_front : (xs ys : List ℕ) → drop (length xs) (xs ++ ys) ≡ ys
drop_front [] ys = refl
drop_front (x ∷ xs) ys = drop_front xs ys

drop_past : (xs : List ℕ) (y : ℕ) (ys : List ℕ) → drop (suc (length xs)) (xs ++ y ∷ ys) ≡ ys
drop_past [] y ys = refl
drop_past (x ∷ xs) y ys = drop_past xs y ys

one_more : (n : ℕ) → n + 1 ≡ suc n
one_more n = omega arith

more : (n : ℕ) → 1 + n ≡ suc n
more n = omega arith

drop_after : (xs : List ℕ) (y : ℕ) (ys : List ℕ) → drop (length xs + 1) (xs ++ y ∷ ys) ≡ ys
drop_after xs y ys = ap (λ n. drop n (xs ++ y ∷ ys)) (one_more (length xs)) ∙ drop_past xs y ys

same : (xs : List ℕ) → bytes_eq xs xs ≡ true
same xs = search rules

-- the first byte that passes is that after a text in which none does
found : (p : ℕ → Bool) (xs : List ℕ) (y : ℕ) (ys : List ℕ) → list_any p xs ≡ false → p y ≡ true → position_or_len p (xs ++ y ∷ ys) ≡ length xs
found p [] y ys none e = ap (λ b. cond (not b) (1 + position_or_len p ys) 0) e
found p (x ∷ xs) y ys none e = by (p x) refl none (found p xs y ys)
  where
    by : (b : Bool) → p x ≡ b → (b || list_any p xs) ≡ false → (list_any p xs ≡ false → p y ≡ true → position_or_len p (xs ++ y ∷ ys) ≡ length xs)
        → cond (not b) (1 + position_or_len p (xs ++ y ∷ ys)) 0 ≡ suc (length xs)
    by true f n rest = absurd cc
    by false f n rest = ap (λ k. 1 + k) (rest n e) ∙ more (length xs)

up_to : (p : ℕ → Bool) (xs : List ℕ) (y : ℕ) (ys : List ℕ) → list_any p xs ≡ false → p y ≡ true → before_first p (xs ++ y ∷ ys) ≡ xs
up_to p xs y ys none e = ap (λ n. take n (xs ++ y ∷ ys)) (found p xs y ys none e) ∙ take_front xs (y ∷ ys)

past : (p : ℕ → Bool) (xs : List ℕ) (y : ℕ) (ys : List ℕ) → list_any p xs ≡ false → p y ≡ true → after_first p (xs ++ y ∷ ys) ≡ ys
past p xs y ys none e = ap (λ n. drop (n + 1) (xs ++ y ∷ ys)) (found p xs y ys none e) ∙ drop_after xs y ys

parts_read : (name owner group list : List ℕ) → list_any is_colon owner ≡ false → list_any is_space group ≡ false
    → rights_in name (owner ++ 58 ∷ (group ++ 32 ∷ list)) ≡ record { name = name; owner = owner; group = group; list = list }
parts_read name owner group list no_colon no_space =
    let rest = past is_colon owner 58 (group ++ 32 ∷ list) no_colon refl in
    ap₂ (λ o r. record { name = name; owner = o; group = before_first is_space r; list = after_first is_space r }) (up_to is_colon owner 58 (group ++ 32 ∷ list) no_colon refl) rest
    ∙ ap₂ (λ g l. record { name = name; owner = owner; group = g; list = l }) (up_to is_space group 32 list no_space refl) (past is_space group 32 list no_space refl)

-- OWNER:GROUP LIST is read as it was written, whatever the list is
pub rights_read : (name owner group list : List ℕ) → list_any is_colon owner ≡ false → list_any is_space group ≡ false
    → rights_in name ((((owner ++ codes ":") ++ group) ++ codes " ") ++ list) ≡ record { name = name; owner = owner; group = group; list = list }
rights_read name owner group list no_colon no_space =
    ap (rights_in name) (append_assoc ((owner ++ codes ":") ++ group) (codes " ") list ∙ (append_assoc (owner ++ codes ":") group (codes " " ++ list) ∙ append_assoc owner (codes ":") (group ++ (codes " " ++ list))))
    ∙ parts_read name owner group list no_colon no_space

-- what stands after a prefix
pub text_after : (prefix text : List ℕ) → stripped prefix (prefix ++ text) ≡ Some text
text_after prefix text =
    ap (λ b. cond b (Some (drop (length prefix) (prefix ++ text))) None) (ap (λ l. bytes_eq l prefix) (take_front prefix text) ∙ same prefix)
    ∙ ap (λ l. Some l) (drop_front prefix text)

-- OLD -> NEW is read as NEW by what OLD is, whatever both are
pub change_read : (old new : List ℕ) → new_text old ((old ++ codes " -> ") ++ new) ≡ Some new
change_read old new =
    ap (new_text old) (append_assoc old (codes " -> ") new)
    ∙ (ap (option_and_then (stripped (codes " -> "))) (text_after old (codes " -> " ++ new)) ∙ text_after (codes " -> ") new)

-- THE CHANGE OF A LIST

-- both tests failed
first_fails : (a b : Bool) → (a || b) ≡ false → a ≡ false
first_fails false b e = refl
first_fails true b e = absurd cc

second_fails : (a b : Bool) → (a || b) ≡ false → b ≡ false
second_fails false b e = e
second_fails true b e = absurd cc

fails : (a : Bool) → not a ≡ true → a ≡ false
fails false e = refl
fails true e = absurd cc

-- a text without a semicolon is one entry
one_piece : (xs : List ℕ) → list_any is_semicolon xs ≡ false → slice_split is_semicolon xs ≡ xs ∷ []
one_piece [] none = refl
one_piece (x ∷ xs) none =
    ap (λ b. cond b ([] ∷ slice_split is_semicolon xs) (onto_first x (slice_split is_semicolon xs))) (first_fails (is_semicolon x) (list_any is_semicolon xs) none)
    ∙ ap (onto_first x) (one_piece xs (second_fails (is_semicolon x) (list_any is_semicolon xs) none))

first_piece : (xs ys : List ℕ) → list_any is_semicolon xs ≡ false → slice_split is_semicolon (xs ++ 59 ∷ ys) ≡ xs ∷ slice_split is_semicolon ys
first_piece [] ys none = refl
first_piece (x ∷ xs) ys none =
    ap (λ b. cond b ([] ∷ slice_split is_semicolon (xs ++ 59 ∷ ys)) (onto_first x (slice_split is_semicolon (xs ++ 59 ∷ ys)))) (first_fails (is_semicolon x) (list_any is_semicolon xs) none)
    ∙ ap (onto_first x) (first_piece xs ys (second_fails (is_semicolon x) (list_any is_semicolon xs) none))

no_more : (xs : List ℕ) → xs ++ [] ≡ xs
no_more xs = search rules

-- entries after a space
pieces_read : (e : List ℕ) (es : List (List ℕ)) → list_any is_semicolon e ≡ false → ArePlain es → map without_space (slice_split is_semicolon (32 ∷ (e ++ joined false es))) ≡ e ∷ es
pieces_read e [] none plain = ap (λ t. map without_space (slice_split is_semicolon (32 ∷ t))) (no_more e) ∙ ap (map without_space) (one_piece (32 ∷ e) none)
pieces_read e (f ∷ fs) none plain =
    ap (map without_space) (first_piece (32 ∷ e) (32 ∷ (f ++ joined false fs)) none) ∙ ap (λ l. e ∷ l) (pieces_read f fs plain.0.0 plain.1)

no_space : (e : List ℕ) → has_letter_first e ≡ true → without_space e ≡ e
no_space [] letter = absurd cc
no_space (c ∷ cs) letter =
    ap (λ b. unwrap_or (cond (b && true) (Some cs) None) (c ∷ cs)) (first_fails (c == 32) (c == 45) (fails (c == 32 || c == 45) letter))

no_dash : (e rest : List ℕ) → has_letter_first e ≡ true → is_dash (e ++ rest) ≡ false
no_dash [] rest letter = absurd cc
no_dash (c ∷ cs) rest letter =
    ap (λ b. b && bytes_eq (cs ++ rest) []) (second_fails (c == 32) (c == 45) (fails (c == 32 || c == 45) letter))

first_entry : (e : List ℕ) (es : List (List ℕ)) → IsPlain e → ArePlain es → map without_space (slice_split is_semicolon (e ++ joined false es)) ≡ e ∷ es
first_entry e [] plain others =
    ap (λ t. map without_space (slice_split is_semicolon t)) (no_more e) ∙ (ap (map without_space) (one_piece e plain.0) ∙ ap (λ x. x ∷ []) (no_space e plain.1))
first_entry e (f ∷ fs) plain others =
    ap (map without_space) (first_piece e (32 ∷ (f ++ joined false fs)) plain.0) ∙ ap₂ (λ x l. x ∷ l) (no_space e plain.1) (pieces_read f fs others.0.0 others.1)

not_empty : (n : ℕ) → (suc n == 0) ≡ false
not_empty n = search rules

text_joined : (e : List ℕ) (es : List (List ℕ)) → list_text (e ∷ es) ≡ joined true (e ∷ es)
text_joined e es = ap (λ b. cond b (codes "-") (joined true (e ∷ es))) (not_empty (length es))

-- the text of a list is read as its entries
entries_read : (es : List (List ℕ)) → ArePlain es → entries_in (list_text es) ≡ es
entries_read [] plain = refl
entries_read (e ∷ es) plain =
    ap entries_in (text_joined e es)
    ∙ (ap (λ b. cond b [] (map without_space (slice_split is_semicolon (e ++ joined false es)))) (no_dash e (joined false es) plain.0.1) ∙ first_entry e es plain.0 plain.1)

-- the entries of OLD after its first, and NEW
rest_read : (k : ℕ) (old others : List (List ℕ)) (new : List ℕ) → replaced_from k (old ++ others) (joined false old ++ (codes " -> " ++ new)) ≡ Some (replacement (k + length old) new)
rest_read k [] [] new = ap (option_map (replacement k)) (text_after (codes " -> ") new) ∙ ap (λ n. Some (replacement n new)) (no_entry k)
  where
    no_entry : (k : ℕ) → k ≡ k + 0
    no_entry k = omega arith
rest_read k [] (x ∷ xs) new =
    ap (λ o. first_some (option_map (replacement k) o) (option_and_then (replaced_from (k + 1) xs) (next_stripped x (codes " -> " ++ new)))) (text_after (codes " -> ") new)
    ∙ ap (λ n. Some (replacement n new)) (no_entry k)
  where
    no_entry : (k : ℕ) → k ≡ k + 0
    no_entry k = omega arith
rest_read k (e ∷ es) others new =
    ap (λ t. option_and_then (replaced_from (k + 1) (es ++ others)) (option_and_then (stripped e) (stripped (codes "; ") (codes "; " ++ t)))) (append_assoc e (joined false es) (codes " -> " ++ new))
    ∙ (ap (λ o. option_and_then (replaced_from (k + 1) (es ++ others)) (option_and_then (stripped e) o)) (text_after (codes "; ") (e ++ (joined false es ++ (codes " -> " ++ new))))
    ∙ (ap (option_and_then (replaced_from (k + 1) (es ++ others))) (text_after e (joined false es ++ (codes " -> " ++ new)))
    ∙ (rest_read (k + 1) es others new ∙ ap (λ n. Some (replacement n new)) (one_entry k (length es)))))
  where
    one_entry : (k n : ℕ) → k + 1 + n ≡ k + suc n
    one_entry k n = omega arith

-- no text that begins with an entry begins with a dash
no_dash_first : (e rest : List ℕ) → has_letter_first e ≡ true → stripped (codes "- -> ") (e ++ rest) ≡ None
no_dash_first [] rest letter = absurd cc
no_dash_first (c ∷ cs) rest letter =
    ap (λ b. cond (b && bytes_eq (take 4 (cs ++ rest)) (codes " -> ")) (Some (drop 4 (cs ++ rest))) None) (second_fails (c == 32) (c == 45) (fails (c == 32 || c == 45) letter))

one_more_than : (n : ℕ) → 1 + n ≡ suc n
one_more_than n = omega arith

change_found : (old others : List (List ℕ)) (new : List ℕ) → ArePlain old → replaced (old ++ others) ((list_text old ++ codes " -> ") ++ new) ≡ Some (replacement (length old) new)
change_found [] others new plain = ap (λ o. first_some (option_map (replacement 0) o) (replaced_first others (codes "- -> " ++ new))) (text_after (codes "- -> ") new)
change_found (e ∷ es) others new plain =
    ap (λ t. replaced (e ∷ (es ++ others)) ((t ++ codes " -> ") ++ new)) (text_joined e es)
    ∙ (ap (replaced (e ∷ (es ++ others))) (append_assoc (e ++ joined false es) (codes " -> ") new ∙ append_assoc e (joined false es) (codes " -> " ++ new))
    ∙ (ap (λ o. first_some (option_map (replacement 0) o) (replaced_first (e ∷ (es ++ others)) (e ++ rest))) (no_dash_first e rest plain.0.1)
    ∙ (ap (option_and_then (replaced_from 1 (es ++ others))) (text_after e rest)
    ∙ (rest_read 1 es others new ∙ ap (λ n. Some (replacement n new)) (one_more_than (length es))))))
  where
    rest : List ℕ
    rest = joined false es ++ (codes " -> " ++ new)

-- a number is the index that it tells
equal_texts : (a b : List ℕ) → bytes_eq a b ≡ true → a ≡ b
equal_texts a b e = search rules

less_than : (a b : ℕ) → nat_lt a b ≡ true → a < b
less_than a b e = search rules

not_less : (a b : ℕ) → nat_lt a b ≡ false → b ≤ a
not_less a b e = search rules

equal_of : (a b : ℕ) → (a == b) ≡ true → a ≡ b
equal_of a b e = search rules

index_found : (n i j : ℕ) → i ≤ j → j < i + n → j + 1 < 2 ^ 64 → index_from i n (decimal (j + 1)) ≡ Some j
index_found zero i j low high fits = absurd (omega arith)
index_found (suc n) i j low high fits =
    by (λ k within more. index_found n k j within more fits) (bytes_eq (decimal (j + 1)) (decimal (i + 1))) refl (nat_lt i j) refl
  where
    by : ((k : ℕ) → k ≤ j → j < k + n → index_from k n (decimal (j + 1)) ≡ Some j) → (b : Bool) → bytes_eq (decimal (j + 1)) (decimal (i + 1)) ≡ b → (c : Bool) → nat_lt i j ≡ c
        → cond b (Some i) (index_from (i + 1) n (decimal (j + 1))) ≡ Some j
    by next true e c f =
        let alike : j + 1 ≡ i + 1 = decimal_injective (j + 1) (i + 1) fits (omega arith) (equal_texts (decimal (j + 1)) (decimal (i + 1)) e) in
        let one : i ≡ j = omega arith in
        ap Some one
    by next false e true f = next (i + 1) (let h : i < j = less_than i j f in omega arith) (omega arith)
    by next false e false f =
        let h : j ≤ i = not_less i j f in
        let one : i ≡ j = omega arith in
        let is : bytes_eq (decimal (j + 1)) (decimal (i + 1)) ≡ true = ap (λ k. bytes_eq (decimal (j + 1)) (decimal (k + 1))) one ∙ same (decimal (j + 1)) in
        absurd (let no_way : true ≡ false = sym is ∙ e in cc)

-- digits are no colons
digit_is_no_colon : (c : ℕ) → digit_value c < 10 → is_colon c ≡ false
digit_is_no_colon c digit = by (is_colon c) refl
  where
    by : (b : Bool) → is_colon c ≡ b → b ≡ false
    by false e = refl
    by true e = absurd (let high : digit_value 58 < 10 = subst (λ x. digit_value x < 10) (equal_of c 58 e) digit in omega arith)

digits_without_colon : (ds : List ℕ) → AllDigits 10 ds → list_any is_colon ds ≡ false
digits_without_colon [] all = refl
digits_without_colon (c ∷ cs) all = ap₂ (λ a b. a || b) (digit_is_no_colon c all.0) (digits_without_colon cs all.1)

number_without_colon : (n : ℕ) → n < 2 ^ 64 → list_any is_colon (decimal n) ≡ false
number_without_colon n fits = digits_without_colon (decimal n) (decimal_is_IsNumeral n fits).0.1

-- entries that stand in a list as one text
joined_parts : (is_first : Bool) (xs ys : List (List ℕ)) (x : List ℕ) → joined is_first ((x ∷ xs) ++ ys) ≡ (separator is_first ++ (x ++ joined false xs)) ++ joined false ys
joined_parts is_first [] ys x = ap (λ t. (separator is_first ++ t) ++ joined false ys) (sym (no_more x))
joined_parts is_first (y ∷ xs) ys x =
    ap (λ t. (separator is_first ++ x) ++ t) (joined_parts false xs ys y)
    ∙ (append_assoc (separator is_first) x ((codes "; " ++ (y ++ joined false xs)) ++ joined false ys)
    ∙ (ap (λ t. separator is_first ++ t) (sym (append_assoc x (codes "; " ++ (y ++ joined false xs)) (joined false ys)))
    ∙ sym (append_assoc (separator is_first) (x ++ (codes "; " ++ (y ++ joined false xs))) (joined false ys))))

joined_as_one : (is_first : Bool) (before xs after : List (List ℕ)) (x : List ℕ)
    → joined is_first (before ++ ((x ++ joined false xs) ∷ after)) ≡ joined is_first (before ++ ((x ∷ xs) ++ after))
joined_as_one is_first [] xs after x = sym (joined_parts is_first xs after x)
joined_as_one is_first (b ∷ bs) xs after x = ap (λ t. (separator is_first ++ b) ++ t) (joined_as_one false bs xs after x)

text_as_one : (before xs after : List (List ℕ)) (x : List ℕ) → list_text (before ++ ((x ++ joined false xs) ∷ after)) ≡ list_text (before ++ ((x ∷ xs) ++ after))
text_as_one [] xs after x =
    text_joined (x ++ joined false xs) after ∙ (joined_as_one true [] xs after x ∙ sym (text_joined x (xs ++ after)))
text_as_one (b ∷ bs) xs after x =
    text_joined b (bs ++ ((x ++ joined false xs) ∷ after)) ∙ (joined_as_one true (b ∷ bs) xs after x ∙ sym (text_joined b (bs ++ ((x ∷ xs) ++ after))))

new_as_one : (before new after : List (List ℕ)) → ArePlain new → list_text (before ++ (new_entries (list_text new) ++ after)) ≡ list_text (before ++ (new ++ after))
new_as_one before [] after plain = refl
new_as_one before (x ∷ xs) after plain =
    ap (λ t. list_text (before ++ (new_entries t ++ after))) (text_joined x xs)
    ∙ (ap (λ b. list_text (before ++ (cond b [] ((x ++ joined false xs) ∷ []) ++ after))) (no_dash x (joined false xs) plain.0.1) ∙ text_as_one before xs after x)

plain_together : (xs ys : List (List ℕ)) → ArePlain xs → ArePlain ys → ArePlain (xs ++ ys)
plain_together [] ys p q = q
plain_together (x ∷ xs) ys p q = (p.0, plain_together xs ys p.1 q)

take_first : (xs ys : List (List ℕ)) → take (length xs) (xs ++ ys) ≡ xs
take_first [] ys = refl
take_first (x ∷ xs) ys = ap (λ l. x ∷ l) (take_first xs ys)

drop_first : (xs ys : List (List ℕ)) → drop (length xs) (xs ++ ys) ≡ ys
drop_first [] ys = refl
drop_first (x ∷ xs) ys = drop_first xs ys

length_together : (xs ys : List (List ℕ)) → length (xs ++ ys) ≡ length xs + length ys
length_together [] ys = nothing (length ys)
  where
    nothing : (n : ℕ) → n ≡ 0 + n
    nothing n = omega arith
length_together (x ∷ xs) ys = ap suc (length_together xs ys) ∙ one_up (length xs) (length ys)
  where
    one_up : (n m : ℕ) → suc (n + m) ≡ suc n + m
    one_up n m = omega arith

entries_then : (before old new after : List (List ℕ)) → ArePlain new
    → list_text (entries_after (before ++ (old ++ after)) (length before) (replacement (length old) (list_text new))) ≡ list_text (before ++ (new ++ after))
entries_then before old new after plain =
    ap₂ (λ b a. list_text (b ++ (new_entries (list_text new) ++ a))) (take_first before (old ++ after)) (ap (drop (length old)) (drop_first before (old ++ after)) ∙ drop_first old after)
    ∙ new_as_one before new after plain

place_within : (b n : ℕ) → b < 0 + (b + n + 1)
place_within b n = omega arith

place_found : (before rest : List (List ℕ)) → length before + 1 < 2 ^ 64 → index_from 0 (length (before ++ rest) + 1) (decimal (length before + 1)) ≡ Some (length before)
place_found before rest fits =
    ap (λ n. index_from 0 (n + 1) (decimal (length before + 1))) (length_together before rest)
    ∙ index_found (length before + length rest + 1) 0 (length before) (omega arith) (place_within (length before) (length rest)) fits

-- `N: OLD -> NEW` is read as NEW in the place of OLD: at N, and with what is around it
pub list_change_read : (before old new after : List (List ℕ)) → ArePlain before → ArePlain old → ArePlain new → ArePlain after → length before + 1 < 2 ^ 64
    → list_told (list_text (before ++ (old ++ after))) (decimal (length before + 1) ++ (codes ": " ++ ((list_text old ++ codes " -> ") ++ list_text new))) ≡ Some (list_text (before ++ (new ++ after)))
list_change_read before old new after p q r s fits =
    let place = decimal (length before + 1) in
    let change = (list_text old ++ codes " -> ") ++ list_text new in
    let all = before ++ (old ++ after) in
    let detail = place ++ (58 ∷ (32 ∷ change)) in
    let known : entries_in (list_text all) ≡ all = entries_read all (plain_together before (old ++ after) p (plain_together old after q s)) in
    let none : list_any is_colon place ≡ false = number_without_colon (length before + 1) fits in
    let index : index_from 0 (length (entries_in (list_text all)) + 1) (before_first is_colon detail) ≡ Some (length before) =
    ap₂ (λ l t. index_from 0 (length l + 1) t) known (up_to is_colon place 58 (32 ∷ change) none refl) ∙ place_found before (old ++ after) fits in
    ap (λ i. list_told_at i (list_text all) detail) index
    ∙ (ap₂ (λ l t. list_replaced l (length before) (without_space t)) known (past is_colon place 58 (32 ∷ change) none refl)
    ∙ (ap (λ l. option_map (λ r. list_text (entries_after all (length before) r)) (replaced l change)) (drop_first before (old ++ after))
    ∙ (ap (option_map (λ r. list_text (entries_after all (length before) r))) (change_found old after (list_text new) q)
    ∙ ap Some (entries_then before old new after r))))
