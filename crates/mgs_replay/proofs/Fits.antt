-- Buffers that are written down can be kept: no fault but out of memory is left.
use Rattle.std.proofs.Common.{◌≡◌, ℕ, zero, suc, ◌+◌, ◌<◌, ◌≤◌, not, Bool, true, false, cond, List, [], ◌∷◌, ◌++◌, length, get_or, take, map, Option, Some, None, Result, Ok, Err, refl, sym, ap, subst, ◌∙◌, arith, length-append}
use Rattle.std.specs.Prelude.{◌&&◌, ◌||◌, find, All, is_some, nat_le, nat_lt, if◌then◌else◌}
use Rattle.std.specs.Option.{option_map}
use Rattle.std.proofs.lemmas.Bool.Decides.{nat_tests}
use Rattle.std.proofs.lemmas.List.{map-append, length-map, length-take-le}
use Rattle.std.proofs.lemmas.List.Elements.{All-nil, All-cons, All-head, All-tail, All-append, All-push, All-get_or}
use Rattle.mgs_model.proofs.Firsts.{find-map, get_or-map}
use Rattle.mgs_model.specs.Apply.{change_first}
use Rattle.mgs_model.specs.Names.{same_name, is_group_or_none, is_name, is_user_name}
use Rattle.mgs_model.specs.Access.{Directory, is_group_named}
use Rattle.std.proofs.lemmas.Bool.{and_parts}
use Rattle.mgs_model.specs.World.{World, Buffer, is_named, find_buffer}
use Rattle.mgs_model.specs.declared.entry.Entry.{Entry}
use Rattle.mgs_buffers.specs.MarkedBuffer.{marked_named, has_buffer}
use Rattle.mgs_buffers.specs.Adding.{add_fault, are_names as add_names, AddAnswers}
use Rattle.mgs_buffers.specs.declared.refusals.AddFault.{AddFault}
use Rattle.mgs_buffers.specs.declared.refusals.AddFault.TheVariants as adds
use Rattle.mgs_replay.specs.declared.setup.Draft.{Draft}
use Rattle.mgs_replay.specs.Settings.{are_names, is_group, is_user, unmarked, buffer_refused, owngroup_refused, with_group_owned, entry_refused, text_refused, with_entry, with_text, empty_buffer}
use Rattle.mgs_replay.specs.Setups.{cannot_add, Changes, PutsGroup, drafted_buffer, buffer_of, buffers_in, buffer_name, IsFit, AreNew, AreFit, OnlyShort}
use Rattle.mgs_script.specs.declared.line.LineFault.{LineFault}
use Rattle.mgs_script.specs.declared.line.LineFault.TheVariants.{Bad, Short}

-- CHANGES KEEP IT

All-changed : {A : Type 0} (P : A → Type 0) (p : A → Bool) (f : A → A) (xs : List A) → All P xs → ((x : A) → find p xs ≡ Some x → P x → P (f x)) → All P (change_first p f xs)
All-changed P p f [] h does = h
All-changed {A = A} P p f (x ∷ xs) h does =
    let goal : Bool → Type 0 = λ b. ((y : A) → cond b (Some x) (find p xs) ≡ Some y → P y → P (f y)) → All P (cond b (f x ∷ xs) (x ∷ change_first p f xs)) in
    let go : (b : Bool) → goal b =
    λ b. elim b as goal [
      | true ↦ λ k. All-cons P (f x) xs (k x refl (All-head P x xs h)) (All-tail P x xs h)
      | false ↦ λ k. All-cons P x (change_first p f xs) (All-head P x xs h) (All-changed P p f xs (All-tail P x xs h) k)
    ]
    in go (p x) does

names_same : (p : Buffer → Bool) (f : Buffer → Buffer) → ((b : Buffer) → (f b).name ≡ b.name) → (bs : List Buffer) → map buffer_name (change_first p f bs) ≡ map buffer_name bs
names_same p f same [] = refl
names_same p f same (b ∷ bs) =
    elim (p b) as (λ t. map buffer_name (cond t (f b ∷ bs) (b ∷ change_first p f bs)) ≡ b.name ∷ map buffer_name bs) [
      | true ↦ ap (λ (n : List ℕ). n ∷ map buffer_name bs) (same b)
      | false ↦ ap (λ (ns : List (List ℕ)). b.name ∷ ns) (names_same p f same bs)
    ]

fit_changed : (n : List ℕ) (f : Buffer → Buffer) (bs : List Buffer) → ((b : Buffer) → (f b).name ≡ b.name) → ((b : Buffer) → add_names b.name b.owners.owner b.owners.group ≡ true → add_names (f b).name (f b).owners.owner (f b).owners.group ≡ true) → ((b : Buffer) → find_buffer n bs ≡ Some b → length b.text ≤ 1048576 → length (f b).text ≤ 1048576)
    → AreFit bs → AreFit (change_first (is_named n) f bs)
fit_changed n f bs names named texts h =
    let same = names_same (is_named n) f names bs in
    let long : length (change_first (is_named n) f bs) ≡ length bs = sym (length-map (change_first (is_named n) f bs) buffer_name) ∙ ap length same ∙ length-map bs buffer_name in
    record {
      each = All-changed IsFit (is_named n) f bs h.each (λ b e k. record {
        named = named b k.named;
        short = texts b e k.short;
      });
      few = omega (arith, long, h.few);
      new = subst AreNew (sym same) h.new;
    }

entry_name : {F : Type 0} (o : Result Entry F) (b : Buffer) → (with_entry o b).name ≡ b.name
entry_name (Ok e) b = refl
entry_name (Err f) b = refl

entry_named : {F : Type 0} (o : Result Entry F) (b : Buffer) → add_names b.name b.owners.owner b.owners.group ≡ true → add_names (with_entry o b).name (with_entry o b).owners.owner (with_entry o b).owners.group ≡ true
entry_named (Ok e) b h = h
entry_named (Err f) b h = h

entry_text : {F : Type 0} (o : Result Entry F) (b : Buffer) → (with_entry o b).text ≡ b.text
entry_text (Ok e) b = refl
entry_text (Err f) b = refl

-- A BUFFER MORE

new_pushed : (n : List ℕ) (ns : List (List ℕ)) → find (same_name n) ns ≡ None → AreNew ns → AreNew (ns ++ n ∷ [])
new_pushed n [] e h = (All-nil (λ (m : List ℕ). same_name m n ≡ false), tt)
new_pushed n (x ∷ xs) e h =
    let goal : Bool → Type 0 = λ b. same_name n x ≡ b → cond b (Some x) (find (same_name n) xs) ≡ None → AreNew ((x ∷ xs) ++ n ∷ []) in
    let go : (b : Bool) → goal b =
    λ b. elim b as goal [
      | true ↦ λ s f. absurd cc
      | false ↦ λ s f. (
        All-append (λ (m : List ℕ). same_name m x ≡ false) xs (n ∷ []) h.0 (All-cons (λ (m : List ℕ). same_name m x ≡ false) n [] s (All-nil (λ (m : List ℕ). same_name m x ≡ false))),
        new_pushed n xs f h.1,
      )
    ]
    in go (same_name n x) refl e

or_false : (a b : Bool) → (a || b) ≡ false → (a ≡ false) × (b ≡ false)
or_false true b h = absurd cc
or_false false b h = (refl, h)

names_are : (b : Bool) → not b ≡ false → b ≡ true
names_are true h = refl
names_are false h = absurd cc

none_is : {A : Type 0} (o : Option A) → is_some o ≡ false → o ≡ None
none_is None h = refl
none_is (Some x) h = absurd cc

fit_pushed : (n o : List ℕ) (bs : List Buffer) → are_names n o ≡ true → (is_some (find_buffer n bs) || nat_le 256 (length bs)) ≡ false → AreFit bs → AreFit (bs ++ empty_buffer n o ∷ [])
fit_pushed n o bs judged free h =
    let b : Buffer = empty_buffer n o in
    let parts = or_false (is_some (find_buffer n bs)) (nat_le 256 (length bs)) free in
    let unused : find (same_name n) (map buffer_name bs) ≡ None = find-map buffer_name (is_named n) (same_name n) (λ x. refl) bs ∙ ap (option_map buffer_name) (none_is (find_buffer n bs) parts.0) in
    let room : nat_le 256 (length bs) ≡ false = parts.1 in
    let less : length bs < 256 = grind (arith, nat_tests) in
    record {
      each = All-push IsFit bs b h.each (record { named = judged; short = omega arith });
      few = omega (arith, less, length-append bs (b ∷ []));
      new = subst AreNew (sym (map-append buffer_name bs (b ∷ []))) (new_pushed n (map buffer_name bs) unused h.new);
    }

-- LINES

text_room : (n cs : List ℕ) (bs : List Buffer) (b : Buffer) → text_refused (find_buffer n bs) cs ≡ false → find_buffer n bs ≡ Some b → length (b.text ++ cs) ≤ 1048576
text_room n cs bs b h e =
    let room : nat_lt 1048576 (length b.text + length cs) ≡ false = ap (λ o. text_refused o cs) (sym e) ∙ h in
    let le : length b.text + length cs ≤ 1048576 = grind (arith, nat_tests) in
    omega (arith, le, length-append b.text cs)

-- the buffers after an entry's line
pub entry_fits : {F : Type 0} (r : Result (Unit {0}) LineFault) (o : Result Entry F) (n : List ℕ) (bs new : List Buffer) → Changes r (entry_refused (find_buffer n bs) o) n (with_entry o) bs new → AreFit bs → AreFit new
entry_fits (Ok u) o n bs new h fit =
    subst AreFit (sym h.1) (fit_changed n (with_entry o) bs (entry_name o) (entry_named o) (λ b e k. subst (λ (t : List ℕ). length t ≤ 1048576) (sym (entry_text o b)) k) fit)
entry_fits (Err Bad) o n bs new h fit = subst AreFit (sym h.1) fit
entry_fits (Err Short) o n bs new h fit = subst AreFit (sym h.1) fit

-- and after a text's
pub text_fits : (r : Result (Unit {0}) LineFault) (n cs : List ℕ) (bs new : List Buffer) → Changes r (text_refused (find_buffer n bs) cs) n (with_text cs) bs new → AreFit bs → AreFit new
text_fits (Ok u) n cs bs new h fit = subst AreFit (sym h.1) (fit_changed n (with_text cs) bs (λ b. refl) (λ b h. h) (λ b e k. text_room n cs bs b h.0 e) fit)
text_fits (Err Bad) n cs bs new h fit = subst AreFit (sym h.1) fit
text_fits (Err Short) n cs bs new h fit = subst AreFit (sym h.1) fit

-- another group's name in the place of what stood there
group_named : (a b c g : Bool) → a && (b && c) ≡ true → g ≡ true → a && (b && g) ≡ true
group_named true true c g h e = e
group_named true false c g h e = h
group_named false b c g h e = h

group_is : (o : Option Buffer) (group : List ℕ) (directory : Directory) → owngroup_refused o group directory ≡ false → is_user_name group ≡ true
group_is None group directory h = absurd cc
group_is (Some b) group directory h = (and_parts (is_user_name group) (is_group_named group directory.groups) (names_are (is_group group directory) h)).0

-- and after an owning group's
pub group_fits : (r : Result (Unit {0}) LineFault) (n group : List ℕ) (directory : Directory) (bs new : List Buffer) → PutsGroup r n group directory bs new → AreFit bs → AreFit new
group_fits (Ok u) n group directory bs new h fit =
    let named = group_is (find_buffer n bs) group directory h.0 in
    subst AreFit (sym h.1)
    (fit_changed n (with_group_owned group) bs (λ b. refl) (λ b k. group_named (is_name b.name) (is_user_name b.owners.owner) (is_group_or_none b.owners.group) (is_user_name group) k named) (λ b e k. k) fit)
group_fits (Err Bad) n group directory bs new h fit = subst AreFit (sym h.1) fit
group_fits (Err Short) n group directory bs new h fit = subst AreFit (sym h.1) fit

fault_by : Bool → Bool → Bool → Bool → Option AddFault
fault_by a b c d = if not a then Some adds.Name else if b then Some adds.Twice else if c then Some adds.Full else if d then Some adds.Long else None

faulty : (a b c u : Bool) → (is_some (fault_by a b c false) || u) ≡ (not a || (u || (b || c)))
unfolding fault_by
faulty false b c u = refl
faulty true true c true = refl
faulty true true c false = refl
faulty true false true true = refl
faulty true false true false = refl
faulty true false false true = refl
faulty true false false false = refl

some_unmarked : (o : Option Buffer) → is_some (option_map unmarked o) ≡ is_some o
some_unmarked None = refl
some_unmarked (Some b) = refl

pub refused_as : (w : World) (n o : List ℕ) → buffer_refused w n o ≡ cannot_add w n o
unfolding buffer_refused fault_by
refused_as w n o =
    let has : has_buffer n (map unmarked w.buffers) ≡ is_some (find_buffer n w.buffers) = ap is_some (find-map unmarked (is_named n) (marked_named n) (λ x. refl) w.buffers) ∙ some_unmarked (find_buffer n w.buffers) in
    ap (λ (h : Bool). is_some (fault_by (are_names n o) h (nat_le 256 (length (map unmarked w.buffers))) false) || not (is_user o w.directory)) has
    ∙ ap (λ (m : ℕ). is_some (fault_by (are_names n o) (is_some (find_buffer n w.buffers)) (nat_le 256 m) false) || not (is_user o w.directory)) (length-map w.buffers unmarked)
    ∙ faulty (are_names n o) (is_some (find_buffer n w.buffers)) (nat_le 256 (length w.buffers)) (not (is_user o w.directory))

-- and after a buffer's
pub buffer_fits : (w : World) (n o : List ℕ) → buffer_refused w n o ≡ false → AreFit w.buffers → AreFit (w.buffers ++ empty_buffer n o ∷ [])
buffer_fits w n o h fit =
    let parts = or_false (not (are_names n o)) _ (sym (refused_as w n o) ∙ h) in
    fit_pushed n o w.buffers (names_are (are_names n o) parts.0) (or_false _ _ parts.1).1 fit

-- no buffer
pub none_fit : AreFit []
none_fit = record { each = All-nil IsFit; few = omega arith; new = tt }

-- NO FAULT IS LEFT

no_earlier : (ds : List Draft) (i : ℕ) (d : Draft) → i < length ds → AreNew (map buffer_name (buffers_in ds)) → find (marked_named (get_or ds i d).name.now) (map drafted_buffer (take i ds)) ≡ None
no_earlier [] i d l h = absurd (omega arith)
no_earlier (x ∷ xs) zero d l h = refl
no_earlier (x ∷ xs) (suc i) d l h =
    let n : List ℕ = (get_or xs i d).name.now in
    let others : List (List ℕ) = map buffer_name (buffers_in xs) in
    let at : get_or others i d.name.now ≡ n = get_or-map buffer_name (buffers_in xs) i (buffer_of d) ∙ ap buffer_name (get_or-map buffer_of xs i d) in
    let within : i < length others = omega (arith, length-map (buffers_in xs) buffer_name, length-map xs buffer_of) in
    let e : same_name n x.name.now ≡ false = subst (λ (m : List ℕ). same_name m x.name.now ≡ false) at (All-get_or (λ (m : List ℕ). same_name m x.name.now ≡ false) others i d.name.now within h.0) in
    ap (λ b. cond b (Some (drafted_buffer x)) (find (marked_named n) (map drafted_buffer (take i xs)))) e ∙ no_earlier xs i d (omega arith) h.1

fault_none : (a b c d : Bool) → a ≡ true → b ≡ false → c ≡ false → d ≡ false → fault_by a b c d ≡ None
unfolding fault_by
fault_none a b c d ea eb ec ed =
    ap (λ x. fault_by x b c d) ea ∙ ap (λ x. fault_by true x c d) eb ∙ ap (λ x. fault_by true false x d) ec ∙ ap (λ x. fault_by true false false x) ed

pub no_fault : (ds : List Draft) (i : ℕ) (d : Draft) → i < length ds → AreFit (buffers_in ds) → add_fault (get_or ds i d).name.now (get_or ds i d).owner.now (option_map (λ g. g.now) (get_or ds i d).group) (length (get_or ds i d).text.items) (map drafted_buffer (take i ds)) ≡ None
unfolding fault_by
no_fault ds i d l h =
    let x : Draft = get_or ds i d in
    let fit : IsFit (buffer_of x) = subst IsFit (get_or-map buffer_of ds i d) (All-get_or IsFit (buffers_in ds) i (buffer_of d) (omega (arith, length-map ds buffer_of)) h.each) in
    let long : length (map drafted_buffer (take i ds)) ≡ i = length-map (take i ds) drafted_buffer ∙ length-take-le i ds (omega arith) in
    let few : length ds ≤ 256 = omega (arith, h.few, length-map ds buffer_of) in
    let room : nat_le 256 (length (map drafted_buffer (take i ds))) ≡ false = grind (arith, nat_tests) in
    let size : length x.text.items ≤ 1048576 = fit.short in
    let fits : nat_lt 1048576 (length x.text.items) ≡ false = grind (arith, nat_tests) in
    fault_none (add_names x.name.now x.owner.now (option_map (λ g. g.now) x.group)) (has_buffer x.name.now (map drafted_buffer (take i ds))) (nat_le 256 (length (map drafted_buffer (take i ds)))) (nat_lt 1048576 (length x.text.items))
    fit.named (ap is_some (no_earlier ds i d l h.new)) room fits

pub only_short : (A : Type 0) (f : AddFault) (due : Option AddFault) → AddAnswers (Err f) due → due ≡ None → OnlyShort {A = A} (Err f)
only_short A adds.Name due h none = let e : None ≡ Some adds.Name = sym none ∙ h in absurd cc
only_short A adds.Twice due h none = let e : None ≡ Some adds.Twice = sym none ∙ h in absurd cc
only_short A adds.Full due h none = let e : None ≡ Some adds.Full = sym none ∙ h in absurd cc
only_short A adds.Long due h none = let e : None ≡ Some adds.Long = sym none ∙ h in absurd cc
only_short A adds.Short due h none = tt
