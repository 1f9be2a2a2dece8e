-- What is printed of an entry is read as that entry.
use Rattle.std.proofs.lemmas.Bool.{eqb-true, and_from, and_parts, not-true, false_from_ne_true}
use Rattle.std.proofs.Common.{◌≡◌, ℕ, zero, suc, ◌+◌, ◌<◌, ◌≤◌, refl, sym, ap, ◌∙◌, Bool, true, false, true≢false, cond, List, [], ◌∷◌, ◌++◌, length, map, get_or, take, drop, append_assoc, arith}
use Rattle.std.specs.Prelude.{◌==◌, Option, Some, None, Ok, fold, filter, not, ◌&&◌, codes, is_some, nat_eq, nat_lt, nat_le, slice_get}
use Rattle.std.specs.List.{All, list_all, starts_with}
use Rattle.std.specs.Option.{option_map, option_and_then}
use Rattle.std.specs.Str.{bytes_eq}
use Rattle.std.specs.Int.Bits.{bit_or}
use Rattle.std.proofs.lemmas.Bool.Decides.{nat_tests}
use Rattle.std.proofs.lemmas.Slice.Eq.{bytes_eq-Decides}
use Rattle.std.proofs.lemmas.List.Splits.{slice_split_at, slice_split_none}
use Rattle.std.proofs.lemmas.Nat.{le_or_l, le_or_r}
use Rattle.std.proofs.lemmas.List.{at_drop_more}
use Rattle.std.proofs.lemmas.List.Sums.{AllPass-from_list_all}
use Rattle.mgs_model.proofs.Firsts.{found_passes}
use Rattle.mgs_model.specs.Names.{is_filled, is_space, is_user_char, is_user_name}
use Rattle.mgs_model.specs.Rights.{bit_of, letter_of, has_right, rights_in, all_rights, mask_of}
use Rattle.mgs_model.specs.Draw.{type_text, who_text, entry_text}
use Rattle.mgs_model.specs.declared.right.Right.{Right}
use Rattle.mgs_model.specs.declared.right.Right.TheVariants.{ReadData, WriteData, AppendData, ReadAttributes, Delete, ReadAcl, WriteAcl, WriteOwner}
use Rattle.mgs_model.specs.declared.entry.EntryType.{EntryType}
use Rattle.mgs_model.specs.declared.entry.EntryType.TheVariants.{Allow, Deny}
use Rattle.mgs_model.specs.declared.entry.Who.{Who}
use Rattle.mgs_model.specs.declared.entry.Who.TheVariants.{Owner, OwningGroup, Everyone, User, Group}
use Rattle.mgs_model.specs.declared.entry.Entry.{Entry}
use Rattle.mgs_model.specs.Spelling.{words, type_named, after_group, named_who, who_named, right_lettered, is_letter, bit_or_none, with_letter, mask_lettered, said, checked, entry_of_words, entry_in}
use Rattle.mgs_acl.specs.Written.{is_writable_who, IsWritable}
use Rattle.mgs_acl.proofs.Masks.{with_right, union, union-rights_in, union-adds}

-- LETTERS

-- the letters of these rights
abbrev pub letters : List Right → List ℕ
letters rights = map letter_of rights

right_lettered-letter_of : (right : Right) → right_lettered (letter_of right) ≡ Some right
right_lettered-letter_of ReadData = refl
right_lettered-letter_of WriteData = refl
right_lettered-letter_of AppendData = refl
right_lettered-letter_of ReadAttributes = refl
right_lettered-letter_of Delete = refl
right_lettered-letter_of ReadAcl = refl
right_lettered-letter_of WriteAcl = refl
right_lettered-letter_of WriteOwner = refl

all_letters : (rights : List Right) → list_all is_letter (letters rights) ≡ true
all_letters [] = refl
all_letters (right ∷ rights) = and_from (is_letter (letter_of right)) (list_all is_letter (letters rights)) (ap is_some (right_lettered-letter_of right)) (all_letters rights)

bits_of_letters : (mask : ℕ) (rights : List Right) → fold with_letter mask (letters rights) ≡ fold with_right mask rights
bits_of_letters mask [] = refl
bits_of_letters mask (right ∷ rights) =
    ap (λ r. fold with_letter (bit_or mask (bit_or_none r)) (letters rights)) (right_lettered-letter_of right) ∙ bits_of_letters (bit_or mask (bit_of right)) rights

some_letters : (rights : List Right) → 0 < union rights → is_filled (letters rights) ≡ true
some_letters [] h = absurd (omega arith)
some_letters (right ∷ rights) h = grind (arith, nat_tests)

-- letters say the mask of their rights
mask_lettered-letters : (rights : List Right) → 0 < union rights → mask_lettered (letters rights) ≡ Some (union rights)
mask_lettered-letters rights h =
    ap (λ b. cond b (Some (fold with_letter 0 (letters rights))) None) (and_from (is_filled (letters rights)) (list_all is_letter (letters rights)) (some_letters rights h) (all_letters rights))
    ∙ ap Some (bits_of_letters 0 rights)

-- THE WHO

-- what a name is not
abbrev is_letters : List ℕ → Bool
is_letters name = list_all is_user_char name

letters_of_name : (name : List ℕ) → is_user_name name ≡ true → is_letters name ≡ true
letters_of_name name h = (and_parts (nat_le (length name) 32) (is_letters name) (and_parts (nat_le 1 (length name)) (nat_le (length name) 32 && is_letters name) h).1).1

not_text : (name text : List ℕ) → is_letters name ≡ true → is_letters text ≡ false → bytes_eq name text ≡ false
not_text name text h k = false_from_ne_true (bytes_eq name text) (λ e. true≢false (sym h ∙ ap is_letters ((bytes_eq-Decides name text).0 e) ∙ k))

letters_in_front : (n : ℕ) (name : List ℕ) → is_letters name ≡ true → is_letters (take n name) ≡ true
letters_in_front zero name h = refl
letters_in_front (suc n) [] h = refl
letters_in_front (suc n) (c ∷ cs) h = and_from (is_user_char c) (is_letters (take n cs)) (and_parts (is_user_char c) (is_letters cs) h).0 (letters_in_front n cs (and_parts (is_user_char c) (is_letters cs) h).1)

no_group : (name : List ℕ) → is_letters name ≡ true → after_group name ≡ None
no_group name h = ap (λ b. cond b (Some (drop 6 name)) None) (false_from_ne_true (starts_with nat_eq name (codes "group:")) (λ e. true≢false (sym (letters_in_front 6 name h) ∙ ap is_letters (sym ((bytes_eq-Decides (codes "group:") (take 6 name)).0 (starts_back name e))))))
  where
    starts_back : (name : List ℕ) → starts_with nat_eq name (codes "group:") ≡ true → bytes_eq (codes "group:") (take 6 name) ≡ true
    starts_back name e = e

who_named-name : (name : List ℕ) → is_user_name name ≡ true → who_named name ≡ Some (User name)
who_named-name name h =
    ap (λ b. cond b (Some Owner) (cond (bytes_eq name (codes "GROUP@")) (Some OwningGroup) (cond (bytes_eq name (codes "EVERYONE@")) (Some Everyone) (named_who name (after_group name))))) (not_text name (codes "OWNER@") (letters_of_name name h) refl)
    ∙ ap (λ b. cond b (Some OwningGroup) (cond (bytes_eq name (codes "EVERYONE@")) (Some Everyone) (named_who name (after_group name)))) (not_text name (codes "GROUP@") (letters_of_name name h) refl)
    ∙ ap (λ b. cond b (Some Everyone) (named_who name (after_group name))) (not_text name (codes "EVERYONE@") (letters_of_name name h) refl)
    ∙ ap (named_who name) (no_group name (letters_of_name name h))
    ∙ ap (λ b. option_map User (cond b (Some name) None)) h

who_named-who_text : (who : Who) → is_writable_who who ≡ true → who_named (who_text who) ≡ Some who
who_named-who_text Owner h = refl
who_named-who_text OwningGroup h = refl
who_named-who_text Everyone h = refl
who_named-who_text (User name) h = who_named-name name h
who_named-who_text (Group name) h = ap (option_map Group) (ap (λ b. cond b (Some name) None) h)

type_named-type_text : (type : EntryType) → type_named (type_text type) ≡ Some type
type_named-type_text Allow = refl
type_named-type_text Deny = refl

-- WORDS

-- no character of the word is a space
abbrev is_unspaced : List ℕ → Bool
is_unspaced word = list_all (λ c. not (is_space c)) word

unspaced_at : (word : List ℕ) → is_unspaced word ≡ true → All (λ c. is_space c ≡ false) word
unspaced_at word h = λ k d l. not-true (is_space (get_or word k d)) (AllPass-from_list_all (λ c. not (is_space c)) word h k d l)

words_apart : (a b c : List ℕ) → is_unspaced a ≡ true → is_unspaced b ≡ true → is_unspaced c ≡ true → is_filled a ≡ true → is_filled b ≡ true → is_filled c ≡ true → words (a ++ 32 ∷ (b ++ 32 ∷ c)) ≡ a ∷ b ∷ c ∷ []
words_apart a b c ua ub uc wa wb wc =
    ap (filter is_filled) (slice_split_at is_space a 32 (b ++ 32 ∷ c) (unspaced_at a ua) refl ∙ ap (λ ps. a ∷ ps) (slice_split_at is_space b 32 c (unspaced_at b ub) refl ∙ ap (λ ps. b ∷ ps) (slice_split_none is_space c (unspaced_at c uc))))
    ∙ rw (wa, wb, wc) refl

unspaced_type : (type : EntryType) → is_unspaced (type_text type) ≡ true
unspaced_type Allow = refl
unspaced_type Deny = refl

word_type : (type : EntryType) → is_filled (type_text type) ≡ true
word_type Allow = refl
word_type Deny = refl

unspaced_char : (c : ℕ) → is_user_char c ≡ true → not (is_space c) ≡ true
unspaced_char c h = grind (arith, nat_tests)

unspaced_name : (name : List ℕ) → is_letters name ≡ true → is_unspaced name ≡ true
unspaced_name [] h = refl
unspaced_name (c ∷ cs) h = and_from (not (is_space c)) (is_unspaced cs) (unspaced_char c (and_parts (is_user_char c) (is_letters cs) h).0) (unspaced_name cs (and_parts (is_user_char c) (is_letters cs) h).1)

unspaced_who : (who : Who) → is_writable_who who ≡ true → is_unspaced (who_text who) ≡ true
unspaced_who Owner h = refl
unspaced_who OwningGroup h = refl
unspaced_who Everyone h = refl
unspaced_who (User name) h = unspaced_name name (letters_of_name name h)
unspaced_who (Group name) h = unspaced_name name (letters_of_name name h)

word_of : (c : ℕ) (cs : List ℕ) → is_filled (c ∷ cs) ≡ true
word_of c cs = grind (arith, nat_tests)

word_name : (name : List ℕ) → is_user_name name ≡ true → is_filled name ≡ true
word_name [] h = h
word_name (c ∷ cs) h = word_of c cs

word_who : (who : Who) → is_writable_who who ≡ true → is_filled (who_text who) ≡ true
word_who Owner h = refl
word_who OwningGroup h = refl
word_who Everyone h = refl
word_who (User name) h = word_name name h
word_who (Group name) h = word_of 103 (114 ∷ 111 ∷ 117 ∷ 112 ∷ 58 ∷ name)

unspaced_letter : (right : Right) → not (is_space (letter_of right)) ≡ true
unspaced_letter ReadData = refl
unspaced_letter WriteData = refl
unspaced_letter AppendData = refl
unspaced_letter ReadAttributes = refl
unspaced_letter Delete = refl
unspaced_letter ReadAcl = refl
unspaced_letter WriteAcl = refl
unspaced_letter WriteOwner = refl

unspaced_letters : (rights : List Right) → is_unspaced (letters rights) ≡ true
unspaced_letters [] = refl
unspaced_letters (right ∷ rights) = and_from (not (is_space (letter_of right))) (is_unspaced (letters rights)) (unspaced_letter right) (unspaced_letters rights)

-- READ BACK

entry_of_words-three : (a b c : List ℕ) (type : EntryType) (who : Who) (mask : ℕ) → type_named a ≡ Some type → who_named b ≡ Some who → mask_lettered c ≡ Some mask → entry_of_words (a ∷ b ∷ c ∷ []) ≡ Ok (record { entry_type = type; who = who; mask = mask })
entry_of_words-three a b c type who mask ta wb mc =
    ap (λ t. checked t (who_named b) (mask_lettered c) false) ta
    ∙ ap (λ w. checked (Some type) w (mask_lettered c) false) wb
    ∙ ap (λ m. checked (Some type) (Some who) m false) mc

spelled_apart : (a b c : List ℕ) → a ++ codes " " ++ b ++ codes " " ++ c ≡ a ++ 32 ∷ (b ++ 32 ∷ c)
spelled_apart a b c = simp append_assoc

pub entry_in-entry_text : (e : Entry) → IsWritable e → entry_in (entry_text e) ≡ Ok e
entry_in-entry_text e h =
    let rights = rights_in e.mask in
    let same : union rights ≡ e.mask = union-adds e.mask ∙ h.rights in
    let some : 0 < union rights = omega (arith, h.some, same) in
    ap entry_in (spelled_apart (type_text e.entry_type) (who_text e.who) (letters rights))
    ∙ ap entry_of_words (words_apart (type_text e.entry_type) (who_text e.who) (letters rights) (unspaced_type e.entry_type) (unspaced_who e.who h.who) (unspaced_letters rights) (word_type e.entry_type) (word_who e.who h.who) (some_letters rights some))
    ∙ entry_of_words-three (type_text e.entry_type) (who_text e.who) (letters rights) e.entry_type e.who e.mask (type_named-type_text e.entry_type) (who_named-who_text e.who h.who) (mask_lettered-letters rights some ∙ ap Some same)

-- WHAT IS READ CAN BE WRITTEN

named_who-spelled : (word : List ℕ) (name : Option (List ℕ)) (who : Who) → named_who word name ≡ Some who → is_writable_who who ≡ true
named_who-spelled word (Some name) who h = by (is_user_name name) refl h
  where
    by : (b : Bool) → is_user_name name ≡ b → option_map Group (cond b (Some name) None) ≡ Some who → is_writable_who who ≡ true
    by true is e = let same : who ≡ Group name = cc in ap is_writable_who same ∙ is
    by false is e = absurd (cc)
named_who-spelled word None who h = by (is_user_name word) refl h
  where
    by : (b : Bool) → is_user_name word ≡ b → option_map User (cond b (Some word) None) ≡ Some who → is_writable_who who ≡ true
    by true is e = let same : who ≡ User word = cc in ap is_writable_who same ∙ is
    by false is e = absurd (cc)

who_named-spelled : (word : List ℕ) (who : Who) → who_named word ≡ Some who → is_writable_who who ≡ true
who_named-spelled word who h = by (bytes_eq word (codes "OWNER@")) (bytes_eq word (codes "GROUP@")) (bytes_eq word (codes "EVERYONE@")) h
  where
    by : (a g b : Bool) → cond a (Some Owner) (cond g (Some OwningGroup) (cond b (Some Everyone) (named_who word (after_group word)))) ≡ Some who → is_writable_who who ≡ true
    by true g b e = let same : who ≡ Owner = cc in ap is_writable_who same
    by false true b e = let same : who ≡ OwningGroup = cc in ap is_writable_who same
    by false false true e = let same : who ≡ Everyone = cc in ap is_writable_who same
    by false false false e = named_who-spelled word (after_group word) who e

-- the right of a letter
right_of : (c : ℕ) (o : Option Right) → right_lettered c ≡ o → is_some o ≡ true → (right : Right) × (c ≡ letter_of right)
right_of c None e h = absurd (cc)
right_of c (Some right) e h = (right, sym (eqb-true (letter_of right) c (found_passes (λ r. letter_of r == c) all_rights right e)))

rights_of : (word : List ℕ) → list_all is_letter word ≡ true → (rights : List Right) × (word ≡ letters rights)
rights_of [] h = ([], refl)
rights_of (c ∷ cs) h =
    let (right, is) = right_of c (right_lettered c) refl (and_parts (is_letter c) (list_all is_letter cs) h).0 in
    let (rights, are) = rights_of cs (and_parts (is_letter c) (list_all is_letter cs) h).1 in
    (right ∷ rights, ap (λ x. x ∷ cs) is ∙ ap (λ xs. letter_of right ∷ xs) are)

grows : (rights : List Right) (mask : ℕ) → mask ≤ fold with_right mask rights
grows [] mask = omega arith
grows (right ∷ rights) mask = omega (arith, grows rights (bit_or mask (bit_of right)), le_or_l mask (bit_of right))

some_bit : (right : Right) → 0 < bit_of right
some_bit ReadData = omega arith
some_bit WriteData = omega arith
some_bit AppendData = omega arith
some_bit ReadAttributes = omega arith
some_bit Delete = omega arith
some_bit ReadAcl = omega arith
some_bit WriteAcl = omega arith
some_bit WriteOwner = omega arith

some_mask : (rights : List Right) → is_filled (letters rights) ≡ true → 0 < union rights
some_mask [] h = absurd (cc)
some_mask (right ∷ rights) h = omega (arith, grows rights (bit_or 0 (bit_of right)), le_or_r 0 (bit_of right), some_bit right)

made_of : (word : List ℕ) (mask : ℕ) → mask_lettered word ≡ Some mask → (0 < mask) × (mask_of (rights_in mask) ≡ mask)
made_of word mask h = by (is_filled word && list_all is_letter word) refl h
  where
    by : (b : Bool) → is_filled word && list_all is_letter word ≡ b → cond b (Some (fold with_letter 0 word)) None ≡ Some mask → (0 < mask) × (mask_of (rights_in mask) ≡ mask)
    by false is e = absurd (cc)
    by true is e =
        let (rights, are) = rights_of word (and_parts (is_filled word) (list_all is_letter word) is).1 in
        let filled : is_filled (letters rights) ≡ true = ap is_filled (sym are) ∙ (and_parts (is_filled word) (list_all is_letter word) is).0 in
        let same : mask ≡ fold with_letter 0 word = cc in
        let made : mask ≡ union rights = same ∙ ap (fold with_letter 0) are ∙ bits_of_letters 0 rights in
        let some : 0 < union rights = some_mask rights filled in
        (omega (arith, made, some), sym (union-adds mask) ∙ ap (λ m. union (rights_in m)) made ∙ union-rights_in rights ∙ sym made)

word_said : {X : Type 0} (reading : List ℕ → Option X) (word : Option (List ℕ)) (x : X) → option_and_then reading word ≡ Some x → (w : List ℕ) × (reading w ≡ Some x)
word_said reading None x h = absurd (cc)
word_said reading (Some word) x h = (word, h)

checked-ok : (type : Option EntryType) (who : Option Who) (mask : Option ℕ) (more : Bool) (e : Entry) → checked type who mask more ≡ Ok e → (who ≡ Some e.who) × (mask ≡ Some e.mask)
checked-ok None who mask more e h = absurd (cc)
checked-ok (Some type) None mask more e h = absurd (cc)
checked-ok (Some type) (Some who) None more e h = absurd (cc)
checked-ok (Some type) (Some who) (Some mask) true e h = absurd (cc)
checked-ok (Some type) (Some who) (Some mask) false e h =
    let same : record { entry_type = type; who = who; mask = mask } ≡ e = cc in
    (ap (λ (x : Entry). Some x.who) same, ap (λ (x : Entry). Some x.mask) same)

pub spelled_of : (text : List ℕ) (e : Entry) → entry_in text ≡ Ok e → IsWritable e
spelled_of text e h =
    let ws = words text in
    let (who, mask) = checked-ok (said type_named 0 ws) (said who_named 1 ws) (said mask_lettered 2 ws) (nat_lt 3 (length ws)) e h in
    let (named, is_named) = word_said who_named (slice_get ws 1) e.who who in
    let (lettered, is_lettered) = word_said mask_lettered (slice_get ws 2) e.mask mask in
    let made = made_of lettered e.mask is_lettered in
    record { who = who_named-spelled named e.who is_named; some = made.0; rights = made.1 }

-- what was read is read again from its printed form
pub entry_in-printed : (text : List ℕ) (e : Entry) → entry_in text ≡ Ok e → entry_in (entry_text e) ≡ Ok e
entry_in-printed text e h = entry_in-entry_text e (spelled_of text e h)

-- the letters of the rights from a place on
pub letters_turn : (mask : ℕ) (rights : List Right) (i : ℕ) (d : Right) (text : List ℕ) → i < length rights → text ++ letters (filter (has_right mask) (drop i rights)) ≡ cond (has_right mask (get_or rights i d)) (text ++ letter_of (get_or rights i d) ∷ []) text ++ letters (filter (has_right mask) (drop (i + 1) rights))
letters_turn mask rights i d text within =
    let right = get_or rights i d in
    let rest = filter (has_right mask) (drop (i + 1) rights) in
    at_drop_more (λ xs. text ++ letters (filter (has_right mask) xs)) rights i d within
    ∙ elim (has_right mask right) as (λ b. text ++ letters (cond b (right ∷ rest) rest) ≡ cond b (text ++ letter_of right ∷ []) text ++ letters rest) [
      | true ↦ sym (append_assoc text (letter_of right ∷ []) (letters rest))
      | false ↦ refl
    ]
