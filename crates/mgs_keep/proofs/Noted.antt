-- As many are noted as are open or to be told.
use Rattle.std.proofs.Common.{◌≡◌, ℕ, suc, ◌+◌, ◌≤◌, Bool, true, false, cond, List, [], ◌∷◌, ◌++◌, map, length, Option, Some, None, refl, sym, ap, subst, ◌∙◌, arith, length-append}
use Rattle.std.proofs.lemmas.Bool.{eqb-true, eq-eqb, leb-false, lt-ltb}
use Rattle.std.proofs.lemmas.List.{length-map, map-append}
use Rattle.std.proofs.lemmas.List.Elements.{All-cons, All-head, All-nil, All-tail}
use Rattle.std.specs.Prelude.{All, ◌==◌, filter, find, is_some, nat_le, nat_lt, if◌then◌else◌}
use Rattle.std.specs.Option.{option_map, option_or}
use Rattle.mgs_model.specs.Apply.{change_first, remove_first}
use Rattle.mgs_model.specs.Events.{open_fault}
use Rattle.mgs_model.specs.World.{Session, find_session}
use Rattle.mgs_model.specs.declared.errors.Keyed.{Keyed}
use Rattle.mgs_model.specs.declared.errors.Keyed.TheVariants as keyed
use Rattle.mgs_model.specs.declared.errors.OpenFault.{OpenFault}
use Rattle.mgs_model.specs.declared.errors.OpenFault.TheVariants.{Full}
use Rattle.mgs_core.specs.Calls.{user_in}
use Rattle.mgs_engine.specs.Does.{taken_by}
use Rattle.mgs_engine.specs.Queues.{Queue, after_taking, find_queue, is_queue_of, queue_id}
use Rattle.mgs_engine.specs.Serving.{IsWellFormed, Serving, all_ended_by, ended_by, ended_keyed, ids_keyed, opening_fault, queue_ids, size_id, slots_used, to_tell}
use Rattle.mgs_engine.specs.declared.session_end.Cause.{Cause}
use Rattle.mgs_engine.specs.declared.session_end.Cause.TheVariants as causes
use Rattle.mgs_keep.specs.Ends.{AreNoted, end_noted, end_of, ends_told, ids_due, is_noted, listed, noted, noted_id, noted_left, passing}
use Rattle.mgs_keep.specs.declared.session_users.Noted.{Noted}

abbrev end_id : ℕ × Cause → ℕ
end_id e = e.0

abbrev IsNamed : Noted → Type 0
IsNamed x = is_some x.user ≡ true

-- SO MANY PASS

module _ (p : ℕ → Bool) where
  abbrev one : ℕ → ℕ
  one x = cond (p x) 1 0

  more : (x : ℕ) (xs : List ℕ) → passing p (x ∷ xs) ≡ one x + passing p xs
  more x xs = elim (p x) as (λ b. length (cond b (x ∷ filter p xs) (filter p xs)) ≡ cond b 1 0 + length (filter p xs)) [ true ↦ omega arith | false ↦ omega arith ]

  both : (xs ys : List ℕ) → passing p (xs ++ ys) ≡ passing p xs + passing p ys
  both [] ys = omega arith
  both (x ∷ xs) ys =
      let whole = more x (xs ++ ys) in
      let rest = both xs ys in
      let first = more x xs in
      omega (arith, whole, rest, first)

  -- one that is served goes, and is to be told
  gone : (id : ℕ) (cause : Cause) (qs : List Queue) → passing p (map queue_id (remove_first (is_queue_of id) qs)) + passing p (map end_id (cond (is_some (find_queue id qs)) ((id, cause) ∷ []) [])) ≡ passing p (map queue_id qs)
  gone id cause [] = omega arith
  gone id cause (q ∷ qs) = by (is_queue_of id q) refl (gone id cause qs)
    where
      by : (b : Bool) → is_queue_of id q ≡ b
          → passing p (map queue_id (remove_first (is_queue_of id) qs)) + passing p (map end_id (cond (is_some (find_queue id qs)) ((id, cause) ∷ []) [])) ≡ passing p (map queue_id qs)
          → passing p (map queue_id (cond b qs (q ∷ remove_first (is_queue_of id) qs))) + passing p (map end_id (cond (is_some (cond b (Some q) (find_queue id qs))) ((id, cause) ∷ []) [])) ≡ passing p (map queue_id (q ∷ qs))
      by true e rest =
          let first = more q.id (map queue_id qs) in
          let last = more id [] in
          let same = ap one (eqb-true q.id id e) in
          omega (arith, first, last, same)
      by false e rest =
          let left = more q.id (map queue_id (remove_first (is_queue_of id) qs)) in
          let all = more q.id (map queue_id qs) in
          omega (arith, left, all, rest)

  pub due_ended : (cause : Cause) (id : ℕ) (s : Serving) → passing p (ids_due (ended_by cause id s)) ≡ passing p (ids_due s)
  due_ended cause id s =
      let told = to_tell cause id s in
      let new = both (map queue_id (remove_first (is_queue_of id) s.queues)) (map end_id (s.ended ++ told)) in
      let ends = ap (passing p) (map-append end_id s.ended told) ∙ both (map end_id s.ended) (map end_id told) in
      let old = both (queue_ids s) (map end_id s.ended) in
      let goes = gone id cause s.queues in
      omega (arith, new, ends, old, goes)

  pub due_all : (cause : Cause) (ids : List ℕ) (s : Serving) → passing p (ids_due (all_ended_by cause ids s)) ≡ passing p (ids_due s)
  due_all cause [] s = refl
  due_all cause (id ∷ ids) s = due_all cause ids (ended_by cause id s) ∙ due_ended cause id s

  due_stays : (old typed : Serving) → queue_ids typed ≡ queue_ids old → typed.ended ≡ old.ended → passing p (ids_due typed) ≡ passing p (ids_due old)
  due_stays old typed q e =
      ap (λ (xs : List ℕ). passing p (xs ++ map end_id typed.ended)) q ∙ ap (λ (es : List (ℕ × Cause)). passing p (queue_ids old ++ map end_id es)) e

  due_keyed : (k : Keyed) (id : ℕ) (old typed : Serving) → queue_ids typed ≡ ids_keyed k id (queue_ids old) → typed.ended ≡ ended_keyed k id old → (k ≡ keyed.Quit → typed ≡ ended_by causes.Quit id old)
      → passing p (ids_due typed) ≡ passing p (ids_due old)
  due_keyed keyed.Quit id old typed q e quits = ap (λ (s : Serving). passing p (ids_due s)) (quits refl) ∙ due_ended causes.Quit id old
  due_keyed keyed.Done id old typed q e quits = due_stays old typed q e
  due_keyed keyed.Short id old typed q e quits = due_stays old typed q e
  due_keyed keyed.NoSession id old typed q e quits = due_stays old typed q e

  pub due_typed : (k : Keyed) (id : ℕ) (ids : List ℕ) (old typed new : Serving) → queue_ids typed ≡ ids_keyed k id (queue_ids old) → typed.ended ≡ ended_keyed k id old
      → (k ≡ keyed.Quit → typed ≡ ended_by causes.Quit id old) → new ≡ all_ended_by causes.Slow ids typed → passing p (ids_due new) ≡ passing p (ids_due old)
  due_typed k id ids old typed new q e quits slow = ap (λ (s : Serving). passing p (ids_due s)) slow ∙ due_all causes.Slow ids typed ∙ due_keyed k id old typed q e quits

same_ids : (id n : ℕ) (qs : List Queue) → map queue_id (change_first (is_queue_of id) (after_taking n) qs) ≡ map queue_id qs
same_ids id n [] = refl
same_ids id n (q ∷ qs) =
    elim (is_queue_of id q) as (λ b. map queue_id (cond b (after_taking n q ∷ qs) (q ∷ change_first (is_queue_of id) (after_taking n) qs)) ≡ map queue_id (q ∷ qs)) [
      | true ↦ refl
      | false ↦ ap (λ (xs : List ℕ). q.id ∷ xs) (same_ids id n qs)
    ]

-- CALLS

pub noted_still : (s t : Serving) (us : List Noted) → ((p : ℕ → Bool) → passing p (ids_due t) ≡ passing p (ids_due s)) → AreNoted s us → AreNoted t us
noted_still s t us same before = record { each = λ p. before.each p ∙ sym (same p); named = before.named }

pub noted_closed : (cause : Cause) (id : ℕ) (s t : Serving) (us : List Noted) → t ≡ ended_by cause id s → AreNoted s us → AreNoted t us
noted_closed cause id s t us is = noted_still s t us (λ p. ap (λ (v : Serving). passing p (ids_due v)) is ∙ due_ended p cause id s)

pub noted_took : (id n : ℕ) (s t : Serving) (us : List Noted) → t ≡ taken_by id n s → AreNoted s us → AreNoted t us
noted_took id n s t us is =
    noted_still s t us (λ p. ap (λ (v : Serving). passing p (ids_due v)) is ∙ ap (λ (xs : List ℕ). passing p (xs ++ map end_id s.ended)) (same_ids id n s.queues))

-- AN OPEN: there is room

all_pass : (xs : List ℕ) → passing (λ x. true) xs ≡ length xs
all_pass [] = refl
all_pass (x ∷ xs) = ap suc (all_pass xs)

no_fault : (o : Option OpenFault) (b : Bool) → option_or o (if b then Some Full else None) ≡ None → b ≡ false
no_fault None true e = absurd cc
no_fault None false e = refl
no_fault (Some f) b e = absurd cc

room : (old : Serving) (user : List ℕ) (rows cols : ℕ) (us : List Noted) → AreNoted old us → IsWellFormed old → opening_fault old user rows cols ≡ None → nat_lt (length us) 64 ≡ true
room old user rows cols us before formed none =
    let many = before.each (λ x. true) in
    let users = all_pass (map noted_id us) ∙ length-map us noted_id in
    let due = all_pass (ids_due old) in
    let parts = length-append (queue_ids old) (map end_id old.ended) in
    let ends = length-map old.ended end_id in
    let served = ap length formed.queues ∙ length-map _ size_id ∙ length-map old.world.sessions _ in
    let left = leb-false 64 (slots_used old) (no_fault (open_fault old.world user rows cols) (nat_le 64 (slots_used old)) none) in
    lt-ltb (length us) 64 (omega (arith, many, users, due, parts, ends, served, left))

all_then : (us : List Noted) (x : Noted) → All IsNamed us → IsNamed x → All IsNamed (us ++ x ∷ [])
all_then [] x all is = All-cons IsNamed x [] is (All-nil IsNamed)
all_then (u ∷ us) x all is = All-cons IsNamed u (us ++ x ∷ []) (All-head IsNamed u us all) (all_then us x (All-tail IsNamed u us all) is)

pub noted_open : (old new : Serving) (user : List ℕ) (rows cols id : ℕ) (us vs : List Noted) (x : Session) → queue_ids new ≡ queue_ids old ++ id ∷ [] → new.ended ≡ old.ended
    → opening_fault old user rows cols ≡ None → IsWellFormed old → find_session id new.world.sessions ≡ Some x → vs ≡ noted id (user_in (find_session id new.world.sessions)) us
    → AreNoted old us → AreNoted new vs
noted_open old new user rows cols id us vs x queues ended none formed found is before =
    let y : Noted = record { id = id; user = Some x.user } in
    let put : vs ≡ us ++ y ∷ [] =
    is ∙ ap (λ (o : Option Session). noted id (user_in o) us) found ∙ ap (λ (b : Bool). cond b (us ++ y ∷ []) us) (room old user rows cols us before formed none)
    in
    subst (AreNoted new) (sym put) (record {
      each = λ p.
          let us_then = ap (passing p) (map-append noted_id us (y ∷ [])) ∙ both p (map noted_id us) (id ∷ []) in
          let here = both p (queue_ids old) (map end_id old.ended) in
          let now = ap (λ (xs : List ℕ). passing p (xs ++ map end_id new.ended)) queues ∙ ap (λ (es : List (ℕ × Cause)). passing p ((queue_ids old ++ id ∷ []) ++ map end_id es)) ended
          ∙ both p (queue_ids old ++ id ∷ []) (map end_id old.ended)
          in
          let next = both p (queue_ids old) (id ∷ []) in
          let was = before.each p in
          omega (arith, us_then, here, now, next, was);
      named = all_then us y before.named refl;
    })

-- ENDS ARE TOLD

there_is : (i : ℕ) (us : List Noted) → 1 ≤ passing (λ x. x == i) (map noted_id us) → is_some (find (is_noted i) us) ≡ true
there_is i [] some = absurd (omega (arith, some))
there_is i (u ∷ us) some = by (is_noted i u) some (there_is i us)
  where
    by : (b : Bool) → 1 ≤ length (cond b (u.id ∷ filter (λ x. x == i) (map noted_id us)) (filter (λ x. x == i) (map noted_id us)))
        → (1 ≤ passing (λ x. x == i) (map noted_id us) → is_some (find (is_noted i) us) ≡ true) → is_some (cond b (Some u) (find (is_noted i) us)) ≡ true
    by true some rest = refl
    by false some rest = rest some

goes : (p : ℕ → Bool) (i : ℕ) (us : List Noted) → is_some (find (is_noted i) us) ≡ true → passing p (map noted_id (remove_first (is_noted i) us)) + one p i ≡ passing p (map noted_id us)
goes p i [] there = absurd cc
goes p i (u ∷ us) there = by (is_noted i u) refl there (goes p i us)
  where
    by : (b : Bool) → is_noted i u ≡ b → is_some (cond b (Some u) (find (is_noted i) us)) ≡ true
        → (is_some (find (is_noted i) us) ≡ true → passing p (map noted_id (remove_first (is_noted i) us)) + one p i ≡ passing p (map noted_id us))
        → passing p (map noted_id (cond b us (u ∷ remove_first (is_noted i) us))) + one p i ≡ passing p (map noted_id (u ∷ us))
    by true e there rest =
        let first = more p u.id (map noted_id us) in
        let same = ap (one p) (eqb-true u.id i e) in
        omega (arith, first, same)
    by false e there rest =
        let left = more p u.id (map noted_id (remove_first (is_noted i) us)) in
        let all = more p u.id (map noted_id us) in
        let less = rest there in
        omega (arith, left, all, less)

named_left : (i : ℕ) (us : List Noted) → All IsNamed us → All IsNamed (remove_first (is_noted i) us)
named_left i [] all = all
named_left i (u ∷ us) all =
    elim (is_noted i u) as (λ b. All IsNamed (cond b us (u ∷ remove_first (is_noted i) us))) [
      | true ↦ All-tail IsNamed u us all
      | false ↦ All-cons IsNamed u (remove_first (is_noted i) us) (All-head IsNamed u us all) (named_left i us (All-tail IsNamed u us all))
    ]

said_once : (cause : Cause) (o : Option (List ℕ)) → is_some o ≡ true → length (listed (option_map (λ user. end_of user cause) o)) ≡ 1
said_once cause None is = absurd cc
said_once cause (Some user) is = refl

told_once : (i : ℕ) (cause : Cause) (us : List Noted) → All IsNamed us → is_some (find (is_noted i) us) ≡ true → length (listed (end_noted (find (is_noted i) us) cause)) ≡ 1
told_once i cause [] all there = absurd cc
told_once i cause (u ∷ us) all there = by (is_noted i u) there (told_once i cause us (All-tail IsNamed u us all))
  where
    by : (b : Bool) → is_some (cond b (Some u) (find (is_noted i) us)) ≡ true
        → (is_some (find (is_noted i) us) ≡ true → length (listed (end_noted (find (is_noted i) us) cause)) ≡ 1)
        → length (listed (end_noted (cond b (Some u) (find (is_noted i) us)) cause)) ≡ 1
    by true there rest = said_once cause u.user (All-head IsNamed u us all)
    by false there rest = rest there

pub record AreTold (os : List ℕ) (us : List Noted) (es : List (ℕ × Cause)) : Type 0 where
  pub each : length (ends_told us es) ≡ length es
  pub left : (p : ℕ → Bool) → passing p (map noted_id (noted_left us es)) ≡ passing p (os ++ [])
  pub named : All IsNamed (noted_left us es)

pub are_told : (os : List ℕ) (us : List Noted) (es : List (ℕ × Cause)) → ((p : ℕ → Bool) → passing p (map noted_id us) ≡ passing p (os ++ map end_id es)) → All IsNamed us → AreTold os us es
are_told os us [] all names = record { each = refl; left = all; named = names }
are_told os us (e ∷ es) all names =
    let i = e.0 in
    let q : ℕ → Bool = λ x. x == i in
    let itself : one q i ≡ 1 = ap (λ (b : Bool). cond b 1 0) (eq-eqb i i refl) in
    let parts = both q os (map end_id (e ∷ es)) in
    let first = more q i (map end_id es) in
    let many = all q in
    let there = there_is i us (omega (arith, itself, parts, first, many)) in
    let rest = are_told os (remove_first (is_noted i) us) es (λ p.
    let less = goes p i us there in
    let now = all p in
    let two = both p os (map end_id (e ∷ es)) in
    let head = more p i (map end_id es) in
    let last = both p os (map end_id es) in
    omega (arith, less, now, two, head, last)) (named_left i us names)
    in
    let said = told_once i e.1 us names there in
    let long = length-append (listed (end_noted (find (is_noted i) us) e.1)) (ends_told (remove_first (is_noted i) us) es) in
    let others = rest.each in
    record { each = omega (arith, said, long, others); left = rest.left; named = rest.named }
