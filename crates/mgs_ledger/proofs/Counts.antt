-- Whatever is told is counted once, for its user and for no other.
use Rattle.std.proofs.Common.{◌≡◌, ◌∙◌, ℕ, ℤ, ◌+◌, ◌<◌, true, false, Bool, List, Some, None, Ok, Err, Result, refl, sym, ap, ap₂, subst, rules, arith}
use Rattle.std.specs.Prelude.{Option, cond, min, nat_lt, slice_set, sum_by, get_or, length, OnOk}
use Rattle.std.specs.Ordering.{int_eq}
use Rattle.std.proofs.lemmas.List.Sums.{sum_by-set, sum_by_push}
use Rattle.std.proofs.lemmas.List.Quantifiers.{position-Some}
use Rattle.std.proofs.lemmas.Option.{slice_get-get_or}
use Rattle.mgs_model.proofs.Blind as blind
use Rattle.mgs_journal.specs.declared.Told.{Told}
use Rattle.mgs_ledger.specs.declared.batch.EventKind.{EventKind}
use Rattle.mgs_ledger.specs.declared.batch.EventKind.TheVariants.{One, More}
use Rattle.mgs_ledger.specs.declared.batch.Gathered.{Gathered}
use Rattle.mgs_ledger.specs.Counting.{CountsEach, CountsForUser, Gathering, count_for, count_limit, counted, counted_at, counting_place, first_row, gathered_more, gathering, has_all_rows, has_equal, is_counting, is_one, kind_of, one_if, one_more, row_counted, same_kind, same_user, takes_row, tally_if, users_at, Rows}
use Rattle.mgs_ledger.specs.Telling.{IsGathered}
use Rattle.mgs_ledger.specs.Gathering.{kind_user, told_user}
use Rattle.mgs_ledger.proofs.Repeats.{equal, left, right}

less_of : (a b : ℕ) → nat_lt a b ≡ true → a < b
less_of a b e = search rules

capped : (n limit : ℕ) → n < limit → min (n + 1) limit ≡ n + 1
capped n limit e = omega arith

cancelled : (s t a b n : ℕ) → s + a ≡ t + b → b ≡ a + n → s ≡ t + n
cancelled s t a b n e f = omega arith

-- an element of a sum in the place of another one
grown : {X : Type 0} (f : X → ℕ) (xs : List X) (i : ℕ) (y d : X) (n : ℕ) → i < length xs → f y ≡ f (get_or xs i d) + n → sum_by f (slice_set xs i y) ≡ sum_by f xs + n
grown f xs i y d n within e = cancelled (sum_by f (slice_set xs i y)) (sum_by f xs) (f (get_or xs i d)) (f y) n (sum_by-set f xs i y d within) e

-- a sum over rows grows by what the new row adds, or by what one more adds to the row that counts it
counted_sum : (f : Gathered → ℕ) (n : ℕ) (row : Gathered) (events : List Gathered)
    → f row ≡ n → ((e : Gathered) → is_counting row e ≡ true → f (one_more e) ≡ f e + n) → sum_by f (counted row events) ≡ sum_by f events + n
counted_sum f n row events new more = by (counting_place row events) refl
  where
    by : (place : Option ℕ) → counting_place row events ≡ place → sum_by f (counted_at place row events) ≡ sum_by f events + n
    by None e = sum_by_push f events row ∙ ap (λ k. sum_by f events + k) new
    by (Some i) e =
        let found = position-Some (is_counting row) events i row e in
        let old = get_or events i row in
        subst (λ o. sum_by f (row_counted i o events) ≡ sum_by f events + n) (sym (slice_get-get_or events i row found.0))
        (grown f events i (one_more old) row n found.0 (more old found.1))

-- the row has room for one more
room : (row e : Gathered) → is_counting row e ≡ true → (one_more e).count ≡ e.count + 1
room row e is =
    capped e.count count_limit (less_of e.count count_limit (right (same_kind row.kind e.kind) (nat_lt e.count count_limit) (right (int_eq e.at row.at) _ is)))

row_sum : (row : Gathered) (events : List Gathered) → row.count ≡ 1 → sum_by (λ e. e.count) (counted row events) ≡ sum_by (λ e. e.count) events + 1
row_sum row events one = counted_sum (λ e. e.count) 1 row events one (λ e is. room row e is)

counts_each : (t : Told) (at : ℤ) (g : Gathering) → sum_by (λ e. e.count) (gathered_more t at g).events ≡ sum_by (λ e. e.count) g.events + 1
counts_each t at g =
    row_sum (first_row at (kind_of t (is_one (has_equal t at g.events) (has_all_rows (told_user t) (users_at at g.tally))))) g.events refl

one_user : (a b : Option (List ℕ)) → same_user a b ≡ true → a ≡ b
one_user None None e = refl
one_user None (Some b) e = absurd cc
one_user (Some a) None e = absurd cc
one_user (Some a) (Some b) e = ap Some (blind.same_names a b e)

-- events that are counted together are of one user
kind_users : (a b : EventKind) → same_kind a b ≡ true → kind_user a ≡ kind_user b
kind_users (One t) (One u) e = ap told_user (equal t u e)
kind_users (One t) (More v) e = absurd cc
kind_users (More u) (One t) e = absurd cc
kind_users (More u) (More v) e = one_user u v e

own_user : (t : Told) (b : Bool) → kind_user (kind_of t b) ≡ told_user t
own_user t true = refl
own_user t false = refl

adds_one : (b : Bool) (n m : ℕ) → m ≡ n + 1 → cond b m 0 ≡ cond b n 0 + one_if b
adds_one true n m e = e
adds_one false n m e = refl

one_or_none : (b : Bool) → cond b 1 0 ≡ one_if b
one_or_none true = refl
one_or_none false = refl

user_sum : (user : Option (List ℕ)) (at : ℤ) (kind : EventKind) (events : List Gathered)
    → sum_by (count_for user) (counted (first_row at kind) events) ≡ sum_by (count_for user) events + one_if (same_user user (kind_user kind))
user_sum user at kind events =
    counted_sum (count_for user) (one_if (same_user user (kind_user kind))) (first_row at kind) events (one_or_none (same_user user (kind_user kind))) more
  where
    more : (e : Gathered) → is_counting (first_row at kind) e ≡ true → count_for user (one_more e) ≡ count_for user e + one_if (same_user user (kind_user kind))
    more e is =
        let users : kind_user kind ≡ kind_user e.kind = kind_users kind e.kind (left (same_kind kind e.kind) (nat_lt e.count count_limit) (right (int_eq e.at at) _ is)) in
        subst (λ u. count_for user (one_more e) ≡ count_for user e + one_if (same_user user u)) (sym users)
        (adds_one (same_user user (kind_user e.kind)) e.count (one_more e).count (room (first_row at kind) e is))

counts_for_user : (t : Told) (at : ℤ) (g : Gathering) (user : Option (List ℕ))
    → sum_by (count_for user) (gathered_more t at g).events ≡ sum_by (count_for user) g.events + one_if (same_user user (told_user t))
counts_for_user t at g user =
    user_sum user at _ g.events ∙ ap (λ u. sum_by (count_for user) g.events + one_if (same_user user u)) (own_user t _)

-- nothing is lost and nothing invented
pub all_counted : CountsEach
all_counted = λ t at g. counts_each t at g

-- for its user, and for no other
pub all_for_users : CountsForUser
all_for_users = λ t at g user. counts_for_user t at g user

-- what is told is gathered by what was found of it
gathered : (t : Told) (at : ℤ) (events new : List Gathered) (tally rows : Rows) (is_equal is_full : Bool)
    → is_equal ≡ has_equal t at events → is_full ≡ has_all_rows (told_user t) (users_at at tally)
    → new ≡ counted (first_row at (kind_of t (is_one is_equal is_full))) events → rows ≡ tally_if (takes_row is_equal is_full) t at tally
    → gathering new rows ≡ gathered_more t at (gathering events tally)
gathered t at events new tally rows is_equal is_full e f g h =
    ap₂ (λ x y. gathering x y) g h ∙ ap₂ (λ x y. gathering (counted (first_row at (kind_of t (is_one x y))) events) (tally_if (takes_row x y) t at tally)) e f

pub is_gathered : {T E : Type 0} (t : Told) (at : ℤ) (events new : List Gathered) (tally rows : Rows) (is_equal is_full : Bool) (answer : Result T E)
    → is_equal ≡ has_equal t at events → is_full ≡ has_all_rows (told_user t) (users_at at tally)
    → new ≡ counted (first_row at (kind_of t (is_one is_equal is_full))) events → OnOk answer (rows ≡ tally_if (takes_row is_equal is_full) t at tally)
    → OnOk answer (IsGathered t (gathering events tally) (gathering new rows))
is_gathered t at events new tally rows is_equal is_full (Ok x) e f g h = (at, gathered t at events new tally rows is_equal is_full e f g h)
is_gathered t at events new tally rows is_equal is_full (Err x) e f g h = tt
