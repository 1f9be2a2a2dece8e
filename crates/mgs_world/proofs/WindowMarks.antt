-- What is in use after a mark is added or dropped.
use Rattle.std.proofs.Common.{◌≡◌, ℕ, ◌+◌, ◌≤◌, ◌≢◌, Bool, true, false, cond, List, [], ◌∷◌, ◌++◌, map, Option, Some, None, refl, sym, ap, subst, ◌∙◌, arith, eq-eqb}
use Rattle.std.specs.Prelude.{find, IsSome, is_some, nat_eq, Result, Ok, Err, OnErr}
use Rattle.std.specs.Option.{option_map}
use Rattle.std.specs.Cmp.{unsigned_Decides}
use Rattle.mgs_model.specs.Names.{same_name}
use Rattle.mgs_model.specs.Apply.{change_first}
use Rattle.mgs_marks.specs.Marks.{mark_in, or_zero}
use Rattle.mgs_buffers.specs.MarkedBuffer.{MarkedBuffer, marked_named, marked_at, marked_or_none, HasBuffer, IsMark, mark_at, with_marks, MarkAdded, MarkDropped}
use Rattle.mgs_model.specs.World.{Buffer, Buffer_of, find_buffer, is_named}
use Rattle.mgs_model.proofs.Firsts.{find-map}
use Rattle.mgs_model.specs.World as model
use Rattle.mgs_windows.specs.declared.WindowMarks.{WindowMarks}
use Rattle.mgs_windows.specs.declared.Window.{Window}
use Rattle.mgs_windows.specs.declared.RowPane.{RowPane}
use Rattle.mgs_windows.specs.declared.RowPane.TheVariants.{NoRows}
use Rattle.mgs_session.specs.declared.Session.{Session}
use Rattle.mgs_world.specs.Worlds.{buffers_of, place_of, session_in, session_of, size_named, window_of, window_shown}
use Rattle.mgs_world.specs.Sound.{in_use, one_if, option_uses, sum_of, place_uses, session_uses, window_marks_uses, window_uses}
use Rattle.mgs_world.specs.WindowMarks.{SizesStay, MarksStay, WindowMarksAdded, WindowMarksDropped}
use Rattle.mgs_world.proofs.Found.{found_buffer}
use Rattle.mgs_world.proofs.Frames.{map_local}
use Rattle.mgs_world.proofs.Marks.{is_same, same_is, false_from, found_same, found_other}
use Rattle.mgs_world.proofs.Worlds.{map-change_first_same, same_place, same_positions, same_window, search_same}
use Rattle.mgs_world.proofs.Soundness.{mark_used, AreInUse, some_from, one_if_is, point_used, top_used}

-- a mark of this buffer and this number
abbrev pub this_one : List ℕ → ℕ → List ℕ → ℕ → ℕ
this_one n id m i = cond (same_name n m) (one_if (nat_eq id i)) 0

-- a mark under a name, where those of one buffer were replaced
mark_under : (n m : List ℕ) (ms : List (Option ℕ)) (ks : List MarkedBuffer) (i : ℕ) → HasBuffer n ks → mark_in (marked_at m (change_first (marked_named n) (with_marks ms) ks)).marks i ≡ cond (same_name n m) (mark_in ms i) (mark_in (marked_at m ks).marks i)
mark_under n m ms ks i kept = go (same_name n m) refl
  where
    go : (r : Bool) → same_name n m ≡ r → mark_in (marked_at m (change_first (marked_named n) (with_marks ms) ks)).marks i ≡ cond r (mark_in ms i) (mark_in (marked_at m ks).marks i)
    go true e =
        let k = some_from (find (marked_named m) ks) (subst (λ (x : List ℕ). IsSome (find (marked_named x) ks)) (same_is n m e) kept) in
        ap (λ o. mark_in (marked_or_none o).marks i) (found_same n m (with_marks ms) ks (λ k. refl) e) ∙ ap (λ o. mark_in (marked_or_none (option_map (with_marks ms) o)).marks i) k.1
    go false e = ap (λ o. mark_in (marked_or_none o).marks i) (found_other n m (with_marks ms) ks (λ k. refl) e)

this : (id i : ℕ) → nat_eq id i ≡ true → id ≡ i
this id i h = (unsigned_Decides id i).0 h

-- it is the mark of the buffer's own name
own : (n m : List ℕ) (id i : ℕ) (ks : List MarkedBuffer) → same_name n m ≡ true → nat_eq id i ≡ true → mark_in (marked_at m ks).marks i ≡ mark_in (marked_at n ks).marks id
own n m id i ks same at = ap (λ (y : List ℕ). mark_in (marked_at y ks).marks i) (sym (same_is n m same)) ∙ ap (mark_in (marked_at n ks).marks) (sym (this id i at))

-- a mark is looked up after one was added or dropped
mark_after : (n : List ℕ) (id : ℕ) (got : Option ℕ) (ms : List (Option ℕ)) (old new : List MarkedBuffer) (m : List ℕ) (i : ℕ) → HasBuffer n old → new ≡ change_first (marked_named n) (with_marks ms) old → mark_in ms id ≡ got → ((k : ℕ) → k ≢ id → mark_in ms k ≡ mark_in (marked_at n old).marks k)
    → mark_in (marked_at m new).marks i ≡ cond (same_name n m) (cond (nat_eq id i) got (mark_in (marked_at m old).marks i)) (mark_in (marked_at m old).marks i)
mark_after n id got ms old new m i kept shape here others =
    ap (λ (x : List MarkedBuffer). mark_in (marked_at m x).marks i) shape ∙ mark_under n m ms old i kept ∙ go (same_name n m) refl (nat_eq id i) refl
  where
    go : (r : Bool) → same_name n m ≡ r → (b : Bool) → nat_eq id i ≡ b → cond r (mark_in ms i) (mark_in (marked_at m old).marks i) ≡ cond r (cond b got (mark_in (marked_at m old).marks i)) (mark_in (marked_at m old).marks i)
    go true same true e = ap (mark_in ms) (sym (this id i e)) ∙ here
    go true same false e = others i (λ is. let t : nat_eq id i ≡ true = eq-eqb id i (sym is) in cc) ∙ ap (λ (y : List ℕ). mark_in (marked_at y old).marks i) (same_is n m same)
    go false same b e = refl

mark_after_added : (n : List ℕ) (p id : ℕ) (old new : List MarkedBuffer) (m : List ℕ) (i : ℕ) → HasBuffer n old → MarkAdded n p id old new → mark_in (marked_at m new).marks i ≡ cond (same_name n m) (cond (nat_eq id i) (Some p) (mark_in (marked_at m old).marks i)) (mark_in (marked_at m old).marks i)
mark_after_added n p id old new m i kept h = mark_after n id (Some p) h.marks old new m i kept h.shape h.added h.others

-- what holds of it where this is the one, and where it is another
either : (holds : Option ℕ → ℕ → Type 0) (same this : Bool) (x got : Option ℕ) → (same ≡ true → this ≡ true → holds got 1) → holds x 0 → holds (cond same (cond this got x) x) (cond same (one_if this) 0)
either holds true true x got one other = one refl refl
either holds true false x got one other = other
either holds false this x got one other = other

pub in_use_added : (n : List ℕ) (p id : ℕ) (old new : List MarkedBuffer) (m : List ℕ) (i : ℕ) → HasBuffer n old → MarkAdded n p id old new → in_use m i new ≡ in_use m i old + this_one n id m i
in_use_added n p id old new m i kept h =
    let x = mark_in (marked_at m old).marks i in
    ap (λ (o : Option ℕ). one_if (is_some o)) (mark_after_added n p id old new m i kept h)
    ∙ either (λ o k. one_if (is_some o) ≡ one_if (is_some x) + k) (same_name n m) (nat_eq id i) x (Some p) (λ same at. let e : one_if (is_some x) ≡ 0 = ap (λ (o : Option ℕ). one_if (is_some o)) (own n m id i old same at ∙ h.free) in omega (arith, e)) (omega arith)

pub in_use_dropped : (n : List ℕ) (id : ℕ) (old new : List MarkedBuffer) (m : List ℕ) (i : ℕ) → HasBuffer n old → IsMark n id old → MarkDropped n id old new → in_use m i old ≡ in_use m i new + this_one n id m i
in_use_dropped n id old new m i kept mark h =
    let x = mark_in (marked_at m old).marks i in
    either (λ o k. one_if (is_some x) ≡ one_if (is_some o) + k) (same_name n m) (nat_eq id i) x None (λ same at. ap (λ (o : Option ℕ). one_if (is_some o)) (own n m id i old same at) ∙ ap one_if mark) (omega arith)
    ∙ ap (λ (o : Option ℕ). one_if (is_some o) + this_one n id m i) (sym (mark_after n id None h.marks old new m i kept h.shape h.gone h.others))

-- MARKS OF A WINDOW ARE ADDED

pub marked_marked_kept : (n : List ℕ) (ms : List (Option ℕ)) (ks new : List MarkedBuffer) → HasBuffer n ks → new ≡ change_first (marked_named n) (with_marks ms) ks → HasBuffer n new
marked_marked_kept n ms ks new kept e =
    ap is_some (ap (find (marked_named n)) e ∙ found_same n n (with_marks ms) ks (λ k. refl) (is_same n n refl) ∙ ap (option_map (with_marks ms)) (some_from (find (marked_named n) ks) kept).1)

pub buffers_marked : (n : List ℕ) (ms : List (Option ℕ)) (ks new : List MarkedBuffer) → new ≡ change_first (marked_named n) (with_marks ms) ks → buffers_of new ≡ buffers_of ks
buffers_marked n ms ks new e = ap buffers_of e ∙ map-change_first_same (λ (k : MarkedBuffer). k.buffer) (marked_named n) (with_marks ms) (λ k. refl) ks

not_used : (x : Option ℕ) → x ≡ None → 1 ≤ one_if (is_some x) → ⊥
not_used x e h = let z : one_if (is_some x) ≡ 0 = ap (λ (o : Option ℕ). one_if (is_some o)) e in omega (arith, h, z)

pub stays_added : (n : List ℕ) (p id : ℕ) (old new : List MarkedBuffer) (m : List ℕ) (i : ℕ) → HasBuffer n old → MarkAdded n p id old new → 1 ≤ in_use m i old → mark_in (marked_at m new).marks i ≡ mark_in (marked_at m old).marks i
stays_added n p id old new m i kept h used =
    let x = mark_in (marked_at m old).marks i in
    mark_after_added n p id old new m i kept h
    ∙ either (λ o k. o ≡ x) (same_name n m) (nat_eq id i) x (Some p) (λ same at. absurd (not_used x (own n m id i old same at ∙ h.free) used)) refl

pub stays_dropped : (n : List ℕ) (id : ℕ) (old new : List MarkedBuffer) (m : List ℕ) (i : ℕ) → HasBuffer n old → MarkDropped n id old new → 1 ≤ in_use m i new → mark_in (marked_at m new).marks i ≡ mark_in (marked_at m old).marks i
stays_dropped n id old new m i kept h used =
    let x = mark_in (marked_at m old).marks i in
    let after = mark_after n id None h.marks old new m i kept h.shape h.gone h.others in
    after ∙ either (λ o k. o ≡ x) (same_name n m) (nat_eq id i) x None (λ same at. absurd (not_used _ (after ∙ rw (same, at) refl) used)) refl

same_sym : (n m : List ℕ) → same_name n m ≡ same_name m n
same_sym n m = go (same_name n m) refl
  where
    go : (r : Bool) → same_name n m ≡ r → r ≡ same_name m n
    go true e = sym (is_same m n (sym (same_is n m e)))
    go false e = sym (false_from (same_name m n) (λ f. let t : same_name n m ≡ true = is_same n m (sym (same_is m n f)) in cc))

-- how often a window's marks use a mark, mark by mark
window_marks_parts : (n m : List ℕ) (i : ℕ) (x : WindowMarks) → x.name ≡ n → window_marks_uses m i (Some x) ≡ this_one n x.point m i + this_one n x.top m i + cond (same_name n m) (option_uses i x.mark) 0
window_marks_parts n m i x named =
    let a = one_if (nat_eq x.point i) in
    let b = option_uses i x.mark in
    let c = one_if (nat_eq x.top i) in
    let go : (r : Bool) → cond r (a + b + c) 0 ≡ cond r a 0 + cond r c 0 + cond r b 0 = λ r. elim r as (λ r. cond r (a + b + c) 0 ≡ cond r a 0 + cond r c 0 + cond r b 0) [ true ↦ omega arith | false ↦ omega arith ] in
    ap (λ (y : List ℕ). cond (same_name m y) (a + b + c) 0) named ∙ ap (λ (r : Bool). cond r (a + b + c) 0) (same_sym m n) ∙ go (same_name n m)

no_mark : (n m : List ℕ) (i : ℕ) (o : Option ℕ) → o ≡ None → cond (same_name n m) (option_uses i o) 0 ≡ 0
no_mark n m i o e = ap (λ (q : Option ℕ). cond (same_name n m) (option_uses i q) 0) e ∙ elim (same_name n m) as (λ r. cond {A = ℕ} r 0 0 ≡ 0) [ true ↦ refl | false ↦ refl ]

pub found_added : (n : List ℕ) (p id : ℕ) (old new : List MarkedBuffer) → HasBuffer n old → MarkAdded n p id old new → mark_in (marked_at n new).marks id ≡ Some p
found_added n p id old new kept h =
    let same : same_name n n ≡ true = is_same n n refl in
    let at : nat_eq id id ≡ true = eq-eqb id id refl in
    mark_after_added n p id old new n id kept h ∙ rw (same, at) refl

-- the same buffers have the same texts
pub buffer_same : (n : List ℕ) (ks ls : List MarkedBuffer) → HasBuffer n ks → buffers_of ls ≡ buffers_of ks → HasBuffer n ls × ((marked_at n ls).buffer ≡ (marked_at n ks).buffer)
buffer_same n ks ls kept same =
    let kept_ls : HasBuffer n ls =
    sym (some_mapped (find (marked_named n) ls))
    ∙ ap is_some (sym (found_in ls) ∙ ap (find_buffer n) same ∙ found_in ks)
    ∙ some_mapped (find (marked_named n) ks) ∙ kept in
    (kept_ls, cc (sym (found_buffer n ls kept_ls) ∙ ap (find_buffer n) same ∙ found_buffer n ks kept))
  where
    some_mapped : (o : Option MarkedBuffer) → is_some (option_map (λ (k : MarkedBuffer). k.buffer) o) ≡ is_some o
    some_mapped None = refl
    some_mapped (Some k) = refl

    found_in : (ks : List MarkedBuffer) → find_buffer n (buffers_of ks) ≡ option_map (λ (k : MarkedBuffer). k.buffer) (find (marked_named n) ks)
    found_in ks = find-map (λ (k : MarkedBuffer). k.buffer) (marked_named n) (is_named n) (λ k. refl) ks

-- point and top
pub window_marks_added : (n : List ℕ) (p t : ℕ) (x : WindowMarks) (a b c : List MarkedBuffer) → HasBuffer n a → MarkAdded n p x.point a b → MarkAdded n t x.top b c → x.name ≡ n → x.mark ≡ None → WindowMarksAdded n p None t x a c
window_marks_added n p t x a b c kept h g named unmarked =
    let kept_b = marked_marked_kept n h.marks a b kept h.shape in
    let used_point : 1 ≤ in_use n x.point b = let e : in_use n x.point b ≡ 1 = ap (λ (o : Option ℕ). one_if (is_some o)) (found_added n p x.point a b kept h) in omega (arith, e) in
    record {
      buffers = buffers_marked n g.marks b c g.shape ∙ buffers_marked n h.marks a b h.shape;
      uses = λ m i. omega (arith, in_use_added n p x.point a b m i kept h, in_use_added n t x.top b c m i kept_b g, window_marks_parts n m i x named, no_mark n m i x.mark unmarked);
      stay = λ m i used after. ap or_zero (stays_added n t x.top b c m i kept_b g (omega (arith, used, in_use_added n p x.point a b m i kept h)) ∙ stays_added n p x.point a b m i kept h used);
      named = named;
      point = ap or_zero (stays_added n t x.top b c n x.point kept_b g used_point ∙ found_added n p x.point a b kept h);
      mark = ap (option_map (mark_at n c)) unmarked;
      top = ap or_zero (found_added n t x.top b c kept_b g);
    }

pub with_mark_uses : (n m : List ℕ) (i k : ℕ) (x : WindowMarks) → x.name ≡ n → x.mark ≡ None → window_marks_uses m i (Some (record x { mark = Some k })) ≡ window_marks_uses m i (Some x) + this_one n k m i
with_mark_uses n m i k x named unmarked =
    omega (arith, window_marks_parts n m i (record x { mark = Some k }) named, window_marks_parts n m i x named, no_mark n m i x.mark unmarked)

-- and the mark
pub window_mark_added : (n : List ℕ) (p q t k : ℕ) (x : WindowMarks) (a c d : List MarkedBuffer) → HasBuffer n c → WindowMarksAdded n p None t x a c → x.mark ≡ None → MarkAdded n q k c d → WindowMarksAdded n p (Some q) t (record x { mark = Some k }) a d
window_mark_added n p q t k x a c d kept h unmarked g =
    let used_point : 1 ≤ in_use n x.point c = omega (arith, h.uses n x.point, subst (λ (y : List ℕ). 1 ≤ window_marks_uses y x.point (Some x)) h.named (point_used x)) in
    let used_top : 1 ≤ in_use n x.top c = omega (arith, h.uses n x.top, subst (λ (y : List ℕ). 1 ≤ window_marks_uses y x.top (Some x)) h.named (top_used x)) in
    record {
      buffers = buffers_marked n g.marks c d g.shape ∙ h.buffers;
      uses = λ m i. omega (arith, h.uses m i, in_use_added n q k c d m i kept g, with_mark_uses n m i k x h.named unmarked);
      stay = λ m i used after. let mid : 1 ≤ in_use m i c = omega (arith, used, h.uses m i) in ap or_zero (stays_added n q k c d m i kept g mid) ∙ h.stay m i used mid;
      named = h.named;
      point = ap or_zero (stays_added n q k c d n x.point kept g used_point) ∙ h.point;
      mark = ap (λ (r : ℕ). Some r) (ap or_zero (found_added n q k c d kept g));
      top = ap or_zero (stays_added n q k c d n x.top kept g used_top) ∙ h.top;
    }

pub sum_append : {A : Type 0} (used : A → ℕ) (xs : List A) (y : A) → sum_of used (xs ++ y ∷ []) ≡ sum_of used xs + used y
sum_append used [] y = omega arith
sum_append used (x ∷ xs) y = omega (arith, sum_append used xs y)

-- MARKS OF A WINDOW ARE GIVEN UP

this_is_one : (n : List ℕ) (i : ℕ) → this_one n i n i ≡ 1
this_is_one n i =
    let same : same_name n n ≡ true = is_same n n refl in
    let at : nat_eq i i ≡ true = eq-eqb i i refl in
    rw (same, at) refl

-- what a drop needs and leaves, where all of the window's marks is in use
pub top_still_used : (n : List ℕ) (x : WindowMarks) (a b : List MarkedBuffer) → x.name ≡ n → HasBuffer n a → ((m : List ℕ) (i : ℕ) → window_marks_uses m i (Some x) ≤ in_use m i a) → IsMark n x.point a → MarkDropped n x.point a b → IsMark n x.top b
top_still_used n x a b named kept within mark h =
    one_if_is (is_some (mark_in (marked_at n b).marks x.top)) (omega (arith, within n x.top, window_marks_parts n n x.top x named, in_use_dropped n x.point a b n x.top kept mark h, this_is_one n x.top))

pub mark_still_used : (n : List ℕ) (x : WindowMarks) (k : ℕ) (a b c : List MarkedBuffer) → x.name ≡ n → x.mark ≡ Some k → HasBuffer n a → ((m : List ℕ) (i : ℕ) → window_marks_uses m i (Some x) ≤ in_use m i a) → IsMark n x.point a → MarkDropped n x.point a b → IsMark n x.top b → MarkDropped n x.top b c → IsMark n k c
mark_still_used n x k a b c named marked kept within mark h top g =
    let kept_b = marked_marked_kept n h.marks a b kept h.shape in
    let same : same_name n n ≡ true = is_same n n refl in
    let uses_k : cond (same_name n n) (option_uses k x.mark) 0 ≡ 1 = ap (λ (r : Bool). cond r (option_uses k x.mark) 0) same ∙ ap (option_uses k) marked ∙ ap one_if (eq-eqb k k refl) in
    one_if_is (is_some (mark_in (marked_at n c).marks k)) (omega (arith, within n k, window_marks_parts n n k x named, in_use_dropped n x.point a b n k kept mark h, in_use_dropped n x.top b c n k kept_b top g, uses_k))

pub window_marks_dropped : (n : List ℕ) (x : WindowMarks) (a b c : List MarkedBuffer) → x.name ≡ n → x.mark ≡ None → HasBuffer n a → IsMark n x.point a → MarkDropped n x.point a b → IsMark n x.top b → MarkDropped n x.top b c → WindowMarksDropped (Some x) a c
window_marks_dropped n x a b c named unmarked kept mark h top g =
    let kept_b = marked_marked_kept n h.marks a b kept h.shape in
    record {
      buffers = buffers_marked n g.marks b c g.shape ∙ buffers_marked n h.marks a b h.shape;
      uses = λ m i. omega (arith, in_use_dropped n x.point a b m i kept mark h, in_use_dropped n x.top b c m i kept_b top g, window_marks_parts n m i x named, no_mark n m i x.mark unmarked);
      stay = λ m i used after. ap or_zero (stays_dropped n x.top b c m i kept_b g after ∙ stays_dropped n x.point a b m i kept h (omega (arith, after, in_use_dropped n x.top b c m i kept_b top g)));
    }

pub marked_window_marks_dropped : (n : List ℕ) (x : WindowMarks) (k : ℕ) (a b c d : List MarkedBuffer) → x.name ≡ n → x.mark ≡ Some k → HasBuffer n a → IsMark n x.point a → MarkDropped n x.point a b → IsMark n x.top b → MarkDropped n x.top b c → IsMark n k c → MarkDropped n k c d → WindowMarksDropped (Some x) a d
marked_window_marks_dropped n x k a b c d named marked kept mark h top g last f =
    let kept_b = marked_marked_kept n h.marks a b kept h.shape in
    let kept_c = marked_marked_kept n g.marks b c kept_b g.shape in
    let rest = window_marks_dropped n (record x { mark = None }) a b c named refl kept mark h top g in
    record {
      buffers = buffers_marked n f.marks c d f.shape ∙ rest.buffers;
      uses = λ m i. omega (arith, rest.uses m i, in_use_dropped n k c d m i kept_c last f, with_mark_uses n m i k (record x { mark = None }) named refl, ap (λ (o : Option ℕ). let y : WindowMarks = record x { mark = o } in window_marks_uses m i (Some y)) marked);
      stay = λ m i used after. let mid : 1 ≤ in_use m i c = omega (arith, after, in_use_dropped n k c d m i kept_c last f) in ap or_zero (stays_dropped n k c d m i kept_c f after) ∙ rest.stay m i used mid;
    }

-- a mark that was added is dropped again
pub undone : (n : List ℕ) (p id : ℕ) (a b d : List MarkedBuffer) → HasBuffer n a → MarkAdded n p id a b → MarkDropped n id b d → WindowMarksDropped None a d
undone n p id a b d kept h g =
    let kept_b = marked_marked_kept n h.marks a b kept h.shape in
    let mark : IsMark n id b = ap is_some (found_added n p id a b kept h) in
    record {
      buffers = buffers_marked n g.marks b d g.shape ∙ buffers_marked n h.marks a b h.shape;
      uses = λ m i. omega (arith, in_use_added n p id a b m i kept h, in_use_dropped n id b d m i kept_b mark g);
      stay = λ m i used after. ap or_zero (stays_dropped n id b d m i kept_b g after ∙ stays_added n p id a b m i kept h used);
    }

pub when_err : {A E P : Type 0} (r : Result A E) → P → OnErr r P
when_err (Ok x) p = tt
when_err (Err e) p = p

pub added_mark : (n : List ℕ) (p id : ℕ) (a b : List MarkedBuffer) → HasBuffer n a → MarkAdded n p id a b → IsMark n id b
added_mark n p id a b kept h = ap is_some (found_added n p id a b kept h)

-- WHAT A SESSION READS: only the marks that it uses

mark_local : (ks ls : List MarkedBuffer) (x : WindowMarks) (o : Option ℕ) → x.mark ≡ o → ((n : List ℕ) (i : ℕ) → 1 ≤ window_marks_uses n i (Some x) → mark_at n ks i ≡ mark_at n ls i) → option_map (mark_at x.name ks) o ≡ option_map (mark_at x.name ls) o
mark_local ks ls x None is same = refl
mark_local ks ls x (Some k) is same = ap (λ (p : ℕ). Some p) (same x.name k (mark_used x k is))

shown_local : (ks ls : List MarkedBuffer) (height : ℕ) (o : Option WindowMarks) (rows : RowPane) → ((n : List ℕ) (i : ℕ) → 1 ≤ window_marks_uses n i o → mark_at n ks i ≡ mark_at n ls i) → window_shown ks height o rows ≡ window_shown ls height o rows
shown_local ks ls height None rows same = refl
shown_local ks ls height (Some x) rows same =
    same_window (Buffer_of x.name) _ _ _ _ _ _ 0 height (same x.name x.point (point_used x)) (mark_local ks ls x x.mark refl same) (same x.name x.top (top_used x))

pub window_local : (ks ls : List MarkedBuffer) (w : Window) → ((n : List ℕ) (i : ℕ) → 1 ≤ window_uses n i w → mark_at n ks i ≡ mark_at n ls i) → window_of ks w ≡ window_of ls w
window_local ks ls w same = shown_local ks ls w.height w.shows w.rows same

pub place_local : (ks ls : List MarkedBuffer) (x : WindowMarks) → ((n : List ℕ) (i : ℕ) → 1 ≤ place_uses n i x → mark_at n ks i ≡ mark_at n ls i) → place_of ks x ≡ place_of ls x
place_local ks ls x same =
    let w = shown_local ks ls 0 (Some x) NoRows same in
    same_place x.name _ _ _ _ (ap (λ (y : model.Window). y.point) w) (ap (λ (y : model.Window). y.mark) w)

-- its search is in texts of the same lengths
pub session_in_local : (bs : List Buffer) (ks ls : List MarkedBuffer) (x : Session) → ((n : List ℕ) (i : ℕ) → 1 ≤ session_uses n i x → mark_at n ks i ≡ mark_at n ls i) → session_in bs ks x ≡ session_in bs ls x
session_in_local bs ks ls x same =
    same_positions (session_in bs ks x) _ _ _ _ _ _
    (map_local (λ s n i. mark_at n s i) window_uses window_of window_local ks ls x.windows.windows (λ n i u. same n i (omega (arith, u))))
    (map_local (λ s n i. mark_at n s i) place_uses place_of place_local ks ls x.windows.places (λ n i u. same n i (omega (arith, u))))
    refl

pub session_sized : (bs cs : List Buffer) (ks : List MarkedBuffer) (x : Session) → SizesStay bs cs → session_in cs ks x ≡ session_in bs ks x
session_sized bs cs ks x sizes = λ i. record (session_in bs ks x) { search = search_same cs bs x.state.search sizes i }

pub same_sizes : (ks ls : List MarkedBuffer) → buffers_of ls ≡ buffers_of ks → SizesStay (buffers_of ks) (buffers_of ls)
same_sizes ks ls same = λ n. ap (size_named n) same

pub session_local : (ks ls : List MarkedBuffer) (x : Session) → SizesStay (buffers_of ls) (buffers_of ks) → ((n : List ℕ) (i : ℕ) → 1 ≤ session_uses n i x → mark_at n ks i ≡ mark_at n ls i) → session_of ks x ≡ session_of ls x
session_local ks ls x sizes same = session_sized (buffers_of ls) (buffers_of ks) ks x sizes ∙ session_in_local (buffers_of ls) ks ls x same

-- sessions whose marks are in use before and after
pub sessions_stay : (ks ls : List MarkedBuffer) (xs : List Session) → AreInUse ks xs → AreInUse ls xs → SizesStay (buffers_of ks) (buffers_of ls) → MarksStay ks ls → map (session_of ls) xs ≡ map (session_of ks) xs
sessions_stay ks ls xs before after sizes stay =
    all_sized xs
    ∙ map_local (λ s n i. mark_at n s i) session_uses (session_in (buffers_of ks)) (session_in_local (buffers_of ks)) ls ks xs (λ n i used. stay n i (omega (arith, used, before.once n i)) (omega (arith, used, after.once n i)))
  where
    all_sized : (ys : List Session) → map (session_of ls) ys ≡ map (session_in (buffers_of ks) ls) ys
    all_sized [] = refl
    all_sized (y ∷ ys) = λ i. session_sized (buffers_of ks) (buffers_of ls) ls y sizes i ∷ all_sized ys i
