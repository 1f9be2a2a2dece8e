-- A key is read as its last byte is.
use Rattle.std.proofs.Common.{◌≡◌, ℕ, ◌-◌, Bool, true, false, ◌&&◌, ◌||◌, List, [], ◌∷◌, ◌++◌, refl, sym, ap, subst, ◌∙◌, true≢false, not, cond, length}
use Rattle.std.specs.Prelude.{◌==◌, nat_le, ⊤, find, Option, Some, None, is_some, if◌then◌else◌}
use Rattle.std.specs.Option.{option_map}
use Rattle.std.specs.List.{list_all}
use Rattle.std.proofs.lemmas.Bool.{eqb-true}
use Rattle.std.proofs.Math.Bool.{and-false}
use Rattle.mgs_keys.specs.declared.decoder.Key.{Key}
use Rattle.mgs_keys.specs.declared.decoder.Key.TheVariants as key
use Rattle.mgs_model.specs.Keys.{KeyRow, KeyRead, Half, Bound, Not_bound, is_graphic, is_prefix, inserts_itself, found_read, find_row, word_read, ascii_read, value_of, key_rows, ends_in_escape, takes_digit, is_digit, digit_added, four_times, quotes, quoted_read}
use Rattle.mgs_model.specs.Names.{same_name}
use Rattle.mgs_model.specs.declared.session.Argument.{Argument}
use Rattle.mgs_model.specs.declared.session.Insertion.TheVariants.{SelfInsert}
use Rattle.mgs_model.specs.declared.session.Command.{Command}
use Rattle.mgs_model.specs.declared.session.Command.TheVariants.{Insert, Set}
use Rattle.mgs_model.specs.declared.session.Setting.TheVariants.{KeyboardQuit}
use Rattle.mgs_maps.specs.declared.maps.Prefix.{Prefix}
use Rattle.mgs_maps.specs.declared.maps.Prefix.TheVariants.{Empty, ControlX, MetaBracket, Quote}
use Rattle.mgs_maps.specs.declared.maps.Stroke.{Stroke}
use Rattle.mgs_maps.specs.declared.maps.Stroke.TheVariants.{Plain, Meta}
use Rattle.mgs_maps.specs.Held.{prefix_bytes, key_reads, is_bound, Held, FedBy, IsBoundRun}
use Rattle.mgs_maps.specs.declared.maps.Fed.{Fed}
use Rattle.mgs_maps.specs.declared.maps.Fed.TheVariants.{Pending, Run, Unbound}
use Rattle.mgs_maps.specs.Table.{command_of}
use Rattle.mgs_maps.specs.Words.{last_byte, word_of, prefix_after, inserted, chosen, no_row, word_reads, plain_reads, meta_reads, wide_reads}
use Rattle.mgs_maps.proofs.Rows.{is_half, prefix_is}

-- what is read where no row is found
abbrev not_found : Option Argument → ℕ → List ℕ → Bool → KeyRead
not_found a byte word half =
    if half then Half a word
    else if inserts_itself byte word then Bound (Insert (SelfInsert byte)) (value_of a)
    else Not_bound

abbrev by_command : Option Argument → ℕ → List ℕ → Option Command → KeyRead
by_command a byte word (Some c) = Bound c (value_of a)
by_command a byte word None = not_found a byte word (is_half word)

found_by : (a : Option Argument) (byte : ℕ) (word : List ℕ) (o : Option KeyRow) → is_prefix word ≡ (is_some o || is_half word) → found_read a byte word o ≡ by_command a byte word (option_map (λ (r : KeyRow). r.command) o)
found_by a byte word (Some r) h = refl
found_by a byte word None h = ap (not_found a byte word) h

if_character : (g : Bool) (a : Option Argument) (byte : ℕ) → (if g then Bound (Insert (SelfInsert byte)) (value_of a) else Not_bound) ≡ no_row a None (if g then Some byte else None)
if_character true a byte = refl
if_character false a byte = refl

-- a key that is no ESC alone
abbrev IsKey : Stroke → Type 0
IsKey (Plain byte) = (byte == 27) ≡ false
IsKey (Meta byte) = Unit {0}

plain_word : (a : Option Argument) (byte : ℕ) → (byte == 27) ≡ false → not_found a byte (byte ∷ []) (is_half (byte ∷ [])) ≡ no_row a (prefix_after Empty (Plain byte)) (inserted Empty (Plain byte))
plain_word a byte no_escape =
    let goal : ℕ → Type 0 = λ n. not_found a n (n ∷ []) (is_half (n ∷ [])) ≡ no_row a (prefix_after Empty (Plain n)) (inserted Empty (Plain n)) in
    let go : (t : Bool) → (byte == 24) ≡ t → goal byte = λ t. elim t as (λ t. (byte == 24) ≡ t → goal byte) [
      | true ↦ λ e. subst goal (sym (eqb-true byte 24 e)) refl
      | false ↦ λ e. rw (e, no_escape) (if_character (is_graphic byte || (byte == 9)) a byte)
    ]
    in go (byte == 24) refl

meta_word : (a : Option Argument) (byte : ℕ) → not_found a byte (27 ∷ byte ∷ []) (is_half (27 ∷ byte ∷ [])) ≡ no_row a (prefix_after Empty (Meta byte)) None
meta_word a byte =
    let goal : ℕ → Type 0 = λ n. not_found a n (27 ∷ n ∷ []) (is_half (27 ∷ n ∷ [])) ≡ no_row a (prefix_after Empty (Meta n)) None in
    let go : (t : Bool) → (byte == 91) ≡ t → goal byte = λ t. elim t as (λ t. (byte == 91) ≡ t → goal byte) [
      | true ↦ λ e. subst goal (sym (eqb-true byte 91 e)) refl
      | false ↦ λ e. rw e refl
    ]
    in go (byte == 91) refl

chosen_is : (a : Option Argument) (prefix : Prefix) (key : Stroke) (o : Option Command) → IsKey key → by_command a (last_byte key) (word_of prefix key) o ≡ chosen a o (prefix_after prefix key) (inserted prefix key)
chosen_is a prefix key (Some c) k = refl
chosen_is a Empty (Plain byte) None k = plain_word a byte k
chosen_is a Empty (Meta byte) None k = meta_word a byte
chosen_is a ControlX (Plain byte) None k = rw (and-false (byte == 91)) refl
chosen_is a ControlX (Meta byte) None k = refl
chosen_is a MetaBracket (Plain byte) None k = refl
chosen_is a MetaBracket (Meta byte) None k = refl
chosen_is a Quote (Plain byte) None k = rw (and-false (byte == 91)) refl
chosen_is a Quote (Meta byte) None k = refl

word_is_read : (a : Option Argument) (prefix : Prefix) (key : Stroke) → IsKey key → word_read a (last_byte key) (word_of prefix key) ≡ word_reads a prefix key
word_is_read a prefix key k =
    found_by a (last_byte key) (word_of prefix key) (find_row (word_of prefix key)) (prefix_is (word_of prefix key))
    ∙ chosen_is a prefix key (command_of (word_of prefix key)) k

-- a byte that is no ESC
other_byte : (a : Option Argument) (prefix : Prefix) (byte : ℕ) → (byte == 27) ≡ false → ascii_read a (prefix_bytes prefix) byte ≡ plain_reads a prefix byte
other_byte None Empty byte e =
    ap (λ t. if byte == 7 then Bound (Set KeyboardQuit) None else if t && true then Half None (27 ∷ []) else if byte == 21 then Half (Some (four_times None)) [] else if is_digit byte && false then Half (Some (digit_added (byte - 48) None)) [] else if byte == 17 then Half None (17 ∷ []) else word_read None byte (byte ∷ [])) e
    ∙ ap (λ r. if byte == 7 then Bound (Set KeyboardQuit) None else if byte == 21 then Half (Some (four_times None)) [] else if is_digit byte && false then Half (Some (digit_added (byte - 48) None)) [] else if byte == 17 then Half None (17 ∷ []) else r) (word_is_read None Empty (Plain byte) e)
other_byte (Some x) Empty byte e =
    let a : Option Argument = Some x in
    ap (λ t. if byte == 7 then Bound (Set KeyboardQuit) (value_of a) else if t && true then Half a (27 ∷ []) else if byte == 21 then Half (Some (four_times a)) [] else if is_digit byte && true then Half (Some (digit_added (byte - 48) a)) [] else if byte == 17 then Half a (17 ∷ []) else word_read a byte (byte ∷ [])) e
    ∙ ap (λ r. if byte == 7 then Bound (Set KeyboardQuit) (value_of a) else if byte == 21 then Half (Some (four_times a)) [] else if is_digit byte && true then Half (Some (digit_added (byte - 48) a)) [] else if byte == 17 then Half a (17 ∷ []) else r) (word_is_read a Empty (Plain byte) e)
other_byte a ControlX byte e =
    ap (λ t. if byte == 7 then Bound (Set KeyboardQuit) (value_of a) else if t && true then Half a (24 ∷ 27 ∷ []) else if is_digit byte && false then Half (Some (digit_added (byte - 48) a)) [] else word_read a byte (24 ∷ byte ∷ [])) e
    ∙ ap (λ r. if byte == 7 then Bound (Set KeyboardQuit) (value_of a) else if is_digit byte && false then Half (Some (digit_added (byte - 48) a)) [] else r) (word_is_read a ControlX (Plain byte) e)
other_byte a MetaBracket byte e =
    ap (λ t. if byte == 7 then Bound (Set KeyboardQuit) (value_of a) else if t && true then Half a (27 ∷ 91 ∷ 27 ∷ []) else if is_digit byte && false then Half (Some (digit_added (byte - 48) a)) [] else word_read a byte (27 ∷ 91 ∷ byte ∷ [])) e
    ∙ ap (λ r. if byte == 7 then Bound (Set KeyboardQuit) (value_of a) else if is_digit byte && false then Half (Some (digit_added (byte - 48) a)) [] else r) (word_is_read a MetaBracket (Plain byte) e)
other_byte a Quote byte e = refl

plain_escape : (a : Option Argument) (prefix : Prefix) → key_reads a (prefix_bytes prefix) (key.Plain 27) ≡ plain_reads a prefix 27
plain_escape a Empty = refl
plain_escape a ControlX = refl
plain_escape a MetaBracket = refl
plain_escape a Quote = refl

pub plain_is_read : (a : Option Argument) (prefix : Prefix) (byte : ℕ) → key_reads a (prefix_bytes prefix) (key.Plain byte) ≡ plain_reads a prefix byte
plain_is_read a prefix byte =
    let goal : ℕ → Type 0 = λ n. key_reads a (prefix_bytes prefix) (key.Plain n) ≡ plain_reads a prefix n in
    let go : (t : Bool) → (byte == 27) ≡ t → goal byte = λ t. elim t as (λ t. (byte == 27) ≡ t → goal byte) [
      | true ↦ λ e. subst goal (sym (eqb-true byte 27 e)) (plain_escape a prefix)
      | false ↦ λ e. ap (λ t. if t && not (quotes (prefix_bytes prefix)) then Not_bound else ascii_read a (prefix_bytes prefix) byte) e ∙ other_byte a prefix byte e
    ]
    in go (byte == 27) refl

pub meta_is_read : (a : Option Argument) (prefix : Prefix) (byte : ℕ) → key_reads a (prefix_bytes prefix) (key.Meta byte) ≡ meta_reads a prefix byte
meta_is_read a Empty byte = rw (and-false (byte == 27), word_is_read a Empty (Meta byte) tt) refl
meta_is_read a ControlX byte = rw (and-false (byte == 27), word_is_read a ControlX (Meta byte) tt) refl
meta_is_read a MetaBracket byte = rw (and-false (byte == 27), word_is_read a MetaBracket (Meta byte) tt) refl
meta_is_read a Quote byte = refl

pub wide_is_read : (a : Option Argument) (prefix : Prefix) (c : ℕ) → key_reads a (prefix_bytes prefix) (key.Wide c) ≡ wide_reads a prefix c
wide_is_read a Empty c = refl
wide_is_read a ControlX c = refl
wide_is_read a MetaBracket c = refl
wide_is_read a Quote c = refl

-- COMMANDS

abbrev IsBoundRead : KeyRead → Type 0
IsBoundRead (Bound c n) = is_bound c ≡ true
IsBoundRead _ = ⊤

abbrev IsBoundRow : Option KeyRow → Type 0
IsBoundRow None = ⊤
IsBoundRow (Some r) = is_bound r.command ≡ true

either : (t : Bool) (x y : KeyRead) → IsBoundRead x → IsBoundRead y → IsBoundRead (if t then x else y)
either true x y p q = p
either false x y p q = q

both : (s t : Bool) → (s && t) ≡ true → (s ≡ true) × (t ≡ true)
both true t h = (refl, h)
both false t h = absurd (true≢false (sym h))

row_is_bound : (p : KeyRow → Bool) (rs : List KeyRow) → list_all (λ (r : KeyRow). is_bound r.command) rs ≡ true → IsBoundRow (find p rs)
row_is_bound p [] h = tt
row_is_bound p (r ∷ rs) h =
    let parts : (is_bound r.command ≡ true) × (list_all (λ (r : KeyRow). is_bound r.command) rs ≡ true) = both (is_bound r.command) (list_all (λ (r : KeyRow). is_bound r.command) rs) h in
    let go : (t : Bool) → IsBoundRow (cond t (Some r) (find p rs)) = λ t. elim t as (λ t. IsBoundRow (cond t (Some r) (find p rs))) [
      | true ↦ parts.0
      | false ↦ row_is_bound p rs parts.1
    ]
    in go (p r)

word_is_bound : (a : Option Argument) (byte : ℕ) (word : List ℕ) (o : Option KeyRow) → IsBoundRow o → IsBoundRead (found_read a byte word o)
word_is_bound a byte word (Some r) h = h
word_is_bound a byte word None h = either (is_prefix word) (Half a word) (if inserts_itself byte word then Bound (Insert (SelfInsert byte)) (value_of a) else Not_bound) tt (either (inserts_itself byte word) (Bound (Insert (SelfInsert byte)) (value_of a)) Not_bound refl tt)

read_is_bound : (a : Option Argument) (keys : List ℕ) (byte : ℕ) → IsBoundRead (ascii_read a keys byte)
read_is_bound a keys byte =
    let word : List ℕ = keys ++ byte ∷ [] in
    let found : KeyRead = word_read a byte word in
    let quoting : KeyRead = if (length keys == 0) && (byte == 17) then Half a (17 ∷ []) else found in
    let numbered : KeyRead = if is_digit byte && takes_digit a keys then Half (Some (digit_added (byte - 48) a)) [] else quoting in
    let multiplied : KeyRead = if (length keys == 0) && (byte == 21) then Half (Some (four_times a)) [] else numbered in
    let escaped : KeyRead = if (byte == 27) && not (ends_in_escape keys) then Half a (keys ++ 27 ∷ []) else multiplied in
    let plain : KeyRead = if byte == 7 then Bound (Set KeyboardQuit) (value_of a) else escaped in
    either (quotes keys) (quoted_read a byte) plain (either (nat_le byte 127) (Bound (Insert (SelfInsert byte)) (value_of a)) Not_bound refl tt)
    (either (byte == 7) (Bound (Set KeyboardQuit) (value_of a)) escaped refl
    (either ((byte == 27) && not (ends_in_escape keys)) (Half a (keys ++ 27 ∷ [])) multiplied tt
    (either ((length keys == 0) && (byte == 21)) (Half (Some (four_times a)) []) numbered tt
    (either (is_digit byte && takes_digit a keys) (Half (Some (digit_added (byte - 48) a)) []) quoting tt
    (either ((length keys == 0) && (byte == 17)) (Half a (17 ∷ [])) found tt
    (word_is_bound a byte word (find_row word) (row_is_bound (λ (r : KeyRow). same_name word r.keys) key_rows refl)))))))

run_is_bound : (fed : Fed) (read : KeyRead) (new : Held) → FedBy fed read new → IsBoundRead read → IsBoundRun fed
run_is_bound Pending read new h b = tt
run_is_bound (Run c n) read new h b = subst IsBoundRead h.0 b
run_is_bound Unbound read new h b = tt

key_is_bound : (a : Option Argument) (keys : List ℕ) (k : Key) → IsBoundRead (key_reads a keys k)
key_is_bound a keys (key.Plain byte) = either ((byte == 27) && not (quotes keys)) Not_bound (ascii_read a keys byte) tt (read_is_bound a keys byte)
key_is_bound a keys (key.Meta byte) = read_is_bound a (keys ++ 27 ∷ []) byte
key_is_bound a keys (key.Wide c) = either ((length keys == 0) || quotes keys) (Bound (Insert (SelfInsert c)) (value_of a)) Not_bound refl tt

-- what a key makes run is bound
pub fed_is_bound : (fed : Fed) (a : Option Argument) (keys : List ℕ) (k : Key) (new : Held) → FedBy fed (key_reads a keys k) new → IsBoundRun fed
fed_is_bound fed a keys k new h = run_is_bound fed (key_reads a keys k) new h (key_is_bound a keys k)
