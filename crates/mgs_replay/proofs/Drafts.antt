-- A draft that is found by its name and changed.
use Rattle.std.proofs.Common.{◌≡◌, ℕ, ◌+◌, ◌<◌, Bool, true, false, cond, List, [], ◌∷◌, ◌++◌, length, get_or, set, map, Option, Some, None, Result, Ok, Err, refl, sym, ap, ◌∙◌, arith, length-append}
use Rattle.mgs_model.specs.Access.{Directory}
use Rattle.std.specs.Prelude.{not, position, nat_le, nat_lt, is_some}
use Rattle.std.proofs.Common.{inl, inr, subst}
use Rattle.mgs_buffers.specs.MarkedBuffer.{MarkedBuffer, AreUnmarked}
use Rattle.mgs_buffers.proofs.Unmarked.{unmarked_map}
use Rattle.std.proofs.lemmas.Bool.{cases_lt, lt-ltb}
use Rattle.std.specs.List.{position_or_len}
use Rattle.std.specs.Option.{option_map}
use Rattle.std.proofs.lemmas.List.Quantifiers.{position-Some}
use Rattle.std.proofs.lemmas.List.Sums.{position_or_len_is}
use Rattle.mgs_model.proofs.Firsts.{find-map, find_at_place, find_none, position_or_len-map, written_first, place_most}
use Rattle.std.proofs.lemmas.Bool.Decides.{nat_tests}
use Rattle.mgs_model.specs.Apply.{change_first}
use Rattle.mgs_world.specs.Worlds.{buffers_of}
use Rattle.mgs_model.specs.World.{World, Buffer, is_named, find_buffer}
use Rattle.mgs_acl.specs.Spelling.{entry_in}
use Rattle.mgs_script.specs.Lines as lines
use Rattle.mgs_model.specs.declared.entry.Entry.{Entry}
use Rattle.mgs_script.specs.declared.line.LineFault.{LineFault}
use Rattle.mgs_script.specs.declared.line.LineFault.TheVariants.{Bad, Short}
use Rattle.mgs_replay.specs.declared.setup.Draft.{Draft}
use Rattle.std.proofs.lemmas.List.{map-append}
use Rattle.mgs_replay.specs.Settings.{is_group, owngroup_refused, with_group_owned, entry_refused, text_refused, with_entry, with_text, empty_buffer}
use Rattle.mgs_replay.specs.Setups.{Listed, Lengthened, Changes, PutsGroup, Sets, drafted_buffer, buffer_of, buffers_in, is_drafted}

-- the first place that passes
placed : {A : Type 0} (p : A → Bool) (xs : List A) (i : ℕ) (d : A) → Some i ≡ position p xs → (i < length xs) × (position_or_len p xs ≡ i)
placed p xs i d e =
    let h = position-Some p xs i d (sym e) in
    let within : i < length xs = h.0 in
    (within, position_or_len_is p xs i d (omega arith) h.2 (λ w. h.1))

no_place : {A : Type 0} (p : A → Bool) (xs : List A) → None ≡ position p xs → position_or_len p xs ≡ length xs
no_place p xs e =
    elim (cases_lt (position_or_len p xs) (length xs)) [
      | inl lt ↦ let f : None ≡ Some (position_or_len p xs) = e ∙ ap (λ (b : Bool). cond b (Some (position_or_len p xs)) None) (lt-ltb _ _ lt) in cc
      | inr le ↦ omega (arith, place_most p xs)
    ]

-- what is found there
found_draft : (name : List ℕ) (xs : List Draft) (i : ℕ) (x : Draft) → Some i ≡ position (is_drafted name) xs → x ≡ get_or xs i x → find_buffer name (buffers_in xs) ≡ Some (buffer_of x)
found_draft name xs i x e is =
    let at = placed (is_drafted name) xs i x e in
    let place : position_or_len (is_drafted name) xs ≡ i = at.1 in
    let within : position_or_len (is_drafted name) xs < length xs = omega (arith, at.0, at.1) in
    find-map buffer_of (is_drafted name) (is_named name) (λ y. refl) xs
    ∙ ap (option_map buffer_of) (find_at_place (is_drafted name) xs x within)
    ∙ ap (λ (n : ℕ). Some (buffer_of (get_or xs n x))) place
    ∙ ap (λ (y : Draft). Some (buffer_of y)) (sym is)

-- it is changed there
changed_draft : (name : List ℕ) (change : Buffer → Buffer) (xs : List Draft) (i : ℕ) (x y : Draft) → Some i ≡ position (is_drafted name) xs → x ≡ get_or xs i x → buffer_of y ≡ change (buffer_of x)
    → buffers_in (set xs i y) ≡ change_first (is_named name) change (buffers_in xs)
changed_draft name change xs i x y e is does =
    let at = placed (is_drafted name) xs i x e in
    written_first buffer_of (is_named name) change xs i x y (sym at.1 ∙ sym (position_or_len-map buffer_of (is_named name) xs)) at.0 is does

-- nothing is changed
marked_first : (p : Buffer → Bool) (bs : List Buffer) → change_first p (λ b. b) bs ≡ bs
marked_first p [] = refl
marked_first p (b ∷ bs) =
    elim (p b) as (λ t. cond t (b ∷ bs) (b ∷ change_first p (λ x. x) bs) ≡ b ∷ bs) [
      | true ↦ refl
      | false ↦ ap (λ (xs : List Buffer). b ∷ xs) (marked_first p bs)
    ]

-- it stays as it was there
same_draft : (name : List ℕ) (xs : List Draft) (i : ℕ) (x y : Draft) → Some i ≡ position (is_drafted name) xs → x ≡ get_or xs i x → buffer_of y ≡ buffer_of x
    → buffers_in (set xs i y) ≡ buffers_in xs
same_draft name xs i x y e is same = changed_draft name (λ b. b) xs i x y e is same ∙ marked_first (is_named name) (buffers_in xs)

-- none is found
no_draft : (name : List ℕ) (xs : List Draft) → None ≡ position (is_drafted name) xs → find_buffer name (buffers_in xs) ≡ None
no_draft name xs e =
    find-map buffer_of (is_drafted name) (is_named name) (λ y. refl) xs
    ∙ ap (option_map buffer_of) (find_none (is_drafted name) xs (no_place (is_drafted name) xs e))

-- a buffer that is refused where it is not found
pub not_drafted : (refused : Option Buffer → Bool) (name : List ℕ) (xs : List Draft) → None ≡ position (is_drafted name) xs → refused None ≡ true → refused (find_buffer name (buffers_in xs)) ≡ true
not_drafted refused name xs e h = ap refused (no_draft name xs e) ∙ h

by_place : (name : List ℕ) (xs : List Draft) (o : Option ℕ) → o ≡ position (is_drafted name) xs → is_some o ≡ is_some (find_buffer name (buffers_in xs))
by_place name xs None e = sym (ap is_some (no_draft name xs e))
by_place name [] (Some i) e = absurd cc
by_place name (x ∷ xs) (Some i) e =
    let ds : List Draft = x ∷ xs in
    let at = placed (is_drafted name) ds i x e in
    let within : position_or_len (is_drafted name) ds < length ds = omega (arith, at.0, at.1) in
    sym (ap is_some
    (find-map buffer_of (is_drafted name) (is_named name) (λ y. refl) ds
    ∙ ap (option_map buffer_of) (find_at_place (is_drafted name) ds x within)))

-- whether there is one
pub some_draft : (name : List ℕ) (xs : List Draft) → is_some (position (is_drafted name) xs) ≡ is_some (find_buffer name (buffers_in xs))
some_draft name xs = by_place name xs (position (is_drafted name) xs) refl

-- an entry is put last in a draft
pub listed : {F : Type 0} (r : Result (Unit {0}) LineFault) (o : Result Entry F) (name : List ℕ) (xs : List Draft) (i : ℕ) (x y : Draft)
    → Some i ≡ position (is_drafted name) xs → x ≡ get_or xs i x → Listed r x.list y.list o → y.text.items ≡ x.text.items → y.name.now ≡ x.name.now → y.owner.now ≡ x.owner.now → y.group ≡ x.group
    → Changes r (entry_refused (find_buffer name (buffers_in xs)) o) name (with_entry o) (buffers_in xs) (buffers_in (set xs i y))
listed {F = F} (Ok u) (Ok e) name xs i x y at is h t n w g =
    let there : find_buffer name (buffers_in xs) ≡ Some (buffer_of x) = found_draft name xs i x at is in
    let room : nat_le 64 (length x.list) ≡ false = grind (arith, nat_tests) in
    (ap (λ o. entry_refused {F = F} o (Ok e)) there ∙ room, changed_draft name (with_entry {F = F} (Ok e)) xs i x y at is (cc (h.1)))
listed (Ok u) (Err f) name xs i x y at is h t n w g = absurd h
listed {F = F} (Err Bad) (Ok e) name xs i x y at is h t n w g =
    let there : find_buffer name (buffers_in xs) ≡ Some (buffer_of x) = found_draft name xs i x at is in
    let full : nat_le 64 (length x.list) ≡ true = grind (arith, nat_tests) in
    (ap (λ o. entry_refused {F = F} o (Ok e)) there ∙ full, same_draft name xs i x y at is (cc (h.1)))
listed {F = F} (Err Bad) (Err f) name xs i x y at is h t n w g = (ap (λ o. entry_refused {F = F} o (Err f)) (found_draft name xs i x at is), same_draft name xs i x y at is (cc (h)))
listed (Err Short) o name xs i x y at is h t n w g = absurd h

-- characters are put after a draft's text
pub lengthened : (r : Result (Unit {0}) LineFault) (cs : List ℕ) (name : List ℕ) (xs : List Draft) (i : ℕ) (x y : Draft)
    → Some i ≡ position (is_drafted name) xs → x ≡ get_or xs i x → Lengthened r x.text.items y.text.items cs → y.list ≡ x.list → y.name.now ≡ x.name.now → y.owner.now ≡ x.owner.now → y.group ≡ x.group
    → Changes r (text_refused (find_buffer name (buffers_in xs)) cs) name (with_text cs) (buffers_in xs) (buffers_in (set xs i y))
lengthened (Ok u) cs name xs i x y at is h l n w g =
    let there : find_buffer name (buffers_in xs) ≡ Some (buffer_of x) = found_draft name xs i x at is in
    let size : length x.text.items + length cs ≡ length y.text.items = sym (ap length h.0 ∙ length-append x.text.items cs) in
    let room : nat_lt 1048576 (length x.text.items + length cs) ≡ false = grind (arith, nat_tests) in
    (ap (λ o. text_refused o cs) there ∙ room, changed_draft name (with_text cs) xs i x y at is (cc (h.0)))
lengthened (Err Bad) cs name xs i x y at is h l n w g =
    let there : find_buffer name (buffers_in xs) ≡ Some (buffer_of x) = found_draft name xs i x at is in
    let long : nat_lt 1048576 (length x.text.items + length cs) ≡ true = grind (arith, nat_tests) in
    (ap (λ o. text_refused o cs) there ∙ long, same_draft name xs i x y at is (cc (h.1)))
lengthened (Err Short) cs name xs i x y at is h l n w g =
    let there : find_buffer name (buffers_in xs) ≡ Some (buffer_of x) = found_draft name xs i x at is in
    let room : nat_lt 1048576 (length x.text.items + length cs) ≡ false = grind (arith, nat_tests) in
    (ap (λ o. text_refused o cs) there ∙ room, same_draft name xs i x y at is (cc (h.1)))

-- a draft gets its owning group
pub grouped : (name group : List ℕ) (directory : Directory) (xs : List Draft) (i : ℕ) (x y : Draft)
    → Some i ≡ position (is_drafted name) xs → x ≡ get_or xs i x → is_group group directory ≡ true → buffer_of y ≡ with_group_owned group (buffer_of x)
    → PutsGroup (Ok tt) name group directory (buffers_in xs) (buffers_in (set xs i y))
grouped name group directory xs i x y at is named does =
    (ap (λ o. owngroup_refused o group directory) (found_draft name xs i x at is) ∙ ap not named, changed_draft name (with_group_owned group) xs i x y at is does)

-- an owning group's line
pub sets_group : (r : Result (Unit {0}) LineFault) (w : World) (name group : List ℕ) (bs : List Buffer) → PutsGroup r name group w.directory w.buffers bs
    → Sets r (lines.OwnGroup name group) w (record w { buffers = bs })
sets_group (Ok u) w name group bs h = (h.0, ap (λ (xs : List Buffer). record w { buffers = xs }) h.1)
sets_group (Err Bad) w name group bs h = (h.0, ap (λ (xs : List Buffer). record w { buffers = xs }) h.1)
sets_group (Err Short) w name group bs h = (h.0, ap (λ (xs : List Buffer). record w { buffers = xs }) h.1)

-- an entry's line
pub sets_entry : (r : Result (Unit {0}) LineFault) (w : World) (name entry : List ℕ) (bs : List Buffer) → Changes r (entry_refused (find_buffer name w.buffers) (entry_in entry)) name (with_entry (entry_in entry)) w.buffers bs
    → Sets r (lines.Entry name entry) w (record w { buffers = bs })
sets_entry (Ok u) w name entry bs h = (h.0, ap (λ (xs : List Buffer). record w { buffers = xs }) h.1)
sets_entry (Err Bad) w name entry bs h = (h.0, ap (λ (xs : List Buffer). record w { buffers = xs }) h.1)
sets_entry (Err Short) w name entry bs h = (h.0, ap (λ (xs : List Buffer). record w { buffers = xs }) h.1)

-- a draft is put last
pub pushed : (name owner : List ℕ) (ds new : List Draft) (d : Draft) → new ≡ ds ++ d ∷ [] → d.name.now ≡ name → d.owner.now ≡ owner → d.group ≡ None → d.list ≡ [] → d.text.items ≡ [] → buffers_in new ≡ buffers_in ds ++ empty_buffer name owner ∷ []
pushed name owner ds new d is n o g l t =
    let e : buffer_of d ≡ empty_buffer name owner = cc in
    ap buffers_in is ∙ map-append buffer_of ds (d ∷ []) ∙ ap (λ (b : Buffer). buffers_in ds ++ b ∷ []) e

-- THE BUFFERS OF A CORE

pub marked_buffers : (ds : List Draft) → buffers_of (map drafted_buffer ds) ≡ buffers_in ds
marked_buffers [] = refl
marked_buffers (d ∷ ds) = ap (λ (bs : List Buffer). buffer_of d ∷ bs) (marked_buffers ds)

-- no buffer that is written down has a mark in use
pub unmarked_drafts : (ks : List MarkedBuffer) (xs : List Draft) → ks ≡ map drafted_buffer xs → AreUnmarked ks
unmarked_drafts ks xs e = subst AreUnmarked (sym e) (unmarked_map drafted_buffer (λ x. refl) xs)
