-- What a completion is: name by name, and in plain words.
use Rattle.std.proofs.Common.{◌≡◌, ℕ, ◌+◌, one-add, ◌≤◌, Bool, true, false, ◌&&◌, cond, List, [], ◌∷◌, map, length, take, Some, None, refl, sym, ap, ◌∙◌, arith}
use Rattle.std.proofs.lemmas.Bool.{eq-eqb, eqb-true, le-leb, leb-true}
use Rattle.std.specs.Prelude.{◌==◌, nat_le, filter, fold, IfSome}
use Rattle.std.specs.List.{common_prefix_len, list_all}
use Rattle.mgs_model.specs.Access.{Directory}
use Rattle.mgs_model.specs.Keys.{begins_with}
use Rattle.mgs_model.specs.World.{World, Buffer, Session, may}
use Rattle.mgs_model.specs.View.{BufferSeen, buffer_seen, is_granted, view}
use Rattle.mgs_model.specs.Completion.{candidates, common, common_of, completion, shown_names}
use Rattle.mgs_mini.specs.Narrowing.{granted_names, narrowed, AllBegin, IsCompletion}
use Rattle.mgs_model.specs.declared.right.Right.TheVariants.{ReadAttributes}

-- THE GRANTED NAMES

shown_granted : (directory : Directory) (user : List ℕ) (bs : List Buffer) → map (λ (b : BufferSeen). b.name) (filter (λ (b : BufferSeen). is_granted b ReadAttributes) (map (buffer_seen directory user) bs)) ≡ granted_names directory user bs
shown_granted directory user [] = refl
shown_granted directory user (b ∷ bs) =
    let names : List BufferSeen → List (List ℕ) = map (λ (s : BufferSeen). s.name) in
    let rest : List BufferSeen = filter (λ (s : BufferSeen). is_granted s ReadAttributes) (map (buffer_seen directory user) bs) in
    let others : List Buffer = filter (may directory user ReadAttributes) bs in
    let goal : Bool → Type 0 = λ t. names (cond t (buffer_seen directory user b ∷ rest) rest) ≡ map (λ (b : Buffer). b.name) (cond t (b ∷ others) others) in
    elim (may directory user ReadAttributes b) as goal [
      | true ↦ ap (λ ns. b.name ∷ ns) (shown_granted directory user bs)
      | false ↦ shown_granted directory user bs
    ]

-- the names that a session's user may see are those of the buffers on which he is granted READ_ATTRIBUTES
pub shown_names_of : (w : World) (x : Session) → shown_names (view w x) ≡ granted_names w.directory x.user w.buffers
shown_names_of w x = shown_granted w.directory x.user w.buffers

-- NAME BY NAME

narrowed_from : (input text : List ℕ) (names : List (List ℕ)) → fold (narrowed input) (Some text) names ≡ Some (fold common text (candidates names input))
narrowed_from input text [] = refl
narrowed_from input text (name ∷ names) =
    let goal : Bool → Type 0 = λ t. fold (narrowed input) (cond t (Some (common text name)) (Some text)) names ≡ Some (fold common text (cond t (name ∷ candidates names input) (candidates names input))) in
    elim (begins_with name input) as goal [
      | true ↦ narrowed_from input (common text name) names
      | false ↦ narrowed_from input text names
    ]

pub completion_by_names : (input : List ℕ) (names : List (List ℕ)) → fold (narrowed input) None names ≡ completion names input
completion_by_names input [] = refl
completion_by_names input (name ∷ names) =
    let goal : Bool → Type 0 = λ t. fold (narrowed input) (cond t (Some name) None) names ≡ common_of (cond t (name ∷ candidates names input) (candidates names input)) in
    elim (begins_with name input) as goal [
      | true ↦ narrowed_from input name names
      | false ↦ completion_by_names input names
    ]

-- TEXTS THAT BEGIN WITH OTHERS

left : (a b : Bool) → (a && b) ≡ true → a ≡ true
left true b h = refl
left false b h = cc

right : (a b : Bool) → (a && b) ≡ true → b ≡ true
right true b h = h
right false b h = cc

both : (a b : Bool) → a ≡ true → b ≡ true → (a && b) ≡ true
both true b p q = q
both false b p q = cc

begins_none : (a : List ℕ) → begins_with a [] ≡ true
begins_none [] = refl
begins_none (x ∷ xs) = refl

begins_itself : (a : List ℕ) → begins_with a a ≡ true
begins_itself [] = refl
begins_itself (x ∷ xs) = both (x == x) (begins_with xs xs) (eq-eqb x x refl) (begins_itself xs)

begins_along : (a b c : List ℕ) → begins_with a b ≡ true → begins_with b c ≡ true → begins_with a c ≡ true
begins_along [] [] c p q = q
begins_along [] (y ∷ ys) c p q = cc
begins_along (x ∷ xs) b [] p q = refl
begins_along (x ∷ xs) [] (z ∷ zs) p q = cc
begins_along (x ∷ xs) (y ∷ ys) (z ∷ zs) p q =
    let first : z ≡ x = eqb-true z y (left (z == y) (begins_with ys zs) q) ∙ eqb-true y x (left (y == x) (begins_with xs ys) p) in
    both (z == x) (begins_with xs zs) (eq-eqb z x first) (begins_along xs ys zs (right (y == x) (begins_with xs ys) p) (right (z == y) (begins_with ys zs) q))

common_next : (x y : ℕ) (xs ys : List ℕ) → common (x ∷ xs) (y ∷ ys) ≡ cond (x == y) (x ∷ common xs ys) []
common_next x y xs ys =
    elim (x == y) as (λ t. take (cond t (1 + common_prefix_len (λ x y. x == y) xs ys) 0) (x ∷ xs) ≡ cond t (x ∷ common xs ys) []) [
      | true ↦ ap (λ k. take k (x ∷ xs)) (one-add (common_prefix_len (λ x y. x == y) xs ys))
      | false ↦ refl
    ]

first_begins : (a b : List ℕ) → begins_with a (common a b) ≡ true
first_begins [] b = refl
first_begins (x ∷ xs) [] = refl
first_begins (x ∷ xs) (y ∷ ys) =
    ap (begins_with (x ∷ xs)) (common_next x y xs ys)
    ∙ elim (x == y) as (λ t. begins_with (x ∷ xs) (cond t (x ∷ common xs ys) []) ≡ true) [
      | true ↦ both (x == x) (begins_with xs (common xs ys)) (eq-eqb x x refl) (first_begins xs ys)
      | false ↦ refl
    ]

second_begins : (a b : List ℕ) → begins_with b (common a b) ≡ true
second_begins [] b = begins_none b
second_begins (x ∷ xs) [] = refl
second_begins (x ∷ xs) (y ∷ ys) =
    let goal : Bool → Type 0 = λ t. x == y ≡ t → begins_with (y ∷ ys) (cond t (x ∷ common xs ys) []) ≡ true in
    let go : (t : Bool) → goal t = λ t. elim t as goal [
      | true ↦ λ e. both (x == y) (begins_with ys (common xs ys)) e (second_begins xs ys)
      | false ↦ λ e. refl
    ]
    in ap (begins_with (y ∷ ys)) (common_next x y xs ys) ∙ go (x == y) refl

common_longest : (a b other : List ℕ) → begins_with a other ≡ true → begins_with b other ≡ true → begins_with (common a b) other ≡ true
common_longest [] b other p q = p
common_longest (x ∷ xs) b [] p q = begins_none (common (x ∷ xs) b)
common_longest (x ∷ xs) [] (z ∷ zs) p q = cc
common_longest (x ∷ xs) (y ∷ ys) (z ∷ zs) p q =
    let same : x ≡ y = sym (eqb-true z x (left (z == x) (begins_with xs zs) p)) ∙ eqb-true z y (left (z == y) (begins_with ys zs) q) in
    ap (λ c. begins_with c (z ∷ zs)) (common_next x y xs ys ∙ ap (λ t. cond t (x ∷ common xs ys) []) (eq-eqb x y same))
    ∙ both (z == x) (begins_with (common xs ys) zs) (left (z == x) (begins_with xs zs) p) (common_longest xs ys zs (right (z == x) (begins_with xs zs) p) (right (z == y) (begins_with ys zs) q))

no_longer : (a b : List ℕ) → begins_with a b ≡ true → length b ≤ length a
no_longer a [] h = omega arith
no_longer [] (y ∷ ys) h = cc
no_longer (x ∷ xs) (y ∷ ys) h = let rest : length ys ≤ length xs = no_longer xs ys (right (y == x) (begins_with xs ys) h) in omega (arith, rest)

-- THE LAWS

fold_first : (a : List ℕ) (names : List (List ℕ)) → begins_with a (fold common a names) ≡ true
fold_first a [] = begins_itself a
fold_first a (name ∷ names) = begins_along a (common a name) (fold common (common a name) names) (first_begins a name) (fold_first (common a name) names)

fold_begins : (a : List ℕ) (names : List (List ℕ)) → AllBegin names (fold common a names)
fold_begins a [] = refl
fold_begins a (name ∷ names) =
    let text : List ℕ = fold common (common a name) names in
    both (begins_with name text) (list_all (λ n. begins_with n text) names) (begins_along name (common a name) text (second_begins a name) (fold_first (common a name) names)) (fold_begins (common a name) names)

fold_longest : (other a : List ℕ) (names : List (List ℕ)) → begins_with a other ≡ true → AllBegin names other → begins_with (fold common a names) other ≡ true
fold_longest other a [] p q = p
fold_longest other a (name ∷ names) p q =
    let rest : Bool = list_all (λ n. begins_with n other) names in
    fold_longest other (common a name) names (common_longest a name other p (left (begins_with name other) rest q)) (right (begins_with name other) rest q)

candidates_begin : (names : List (List ℕ)) (input : List ℕ) → AllBegin (candidates names input) input
candidates_begin [] input = refl
candidates_begin (name ∷ names) input =
    let goal : Bool → Type 0 = λ t. begins_with name input ≡ t → AllBegin (cond t (name ∷ candidates names input) (candidates names input)) input in
    let go : (t : Bool) → goal t = λ t. elim t as goal [
      | true ↦ λ e. both (begins_with name input) (list_all (λ n. begins_with n input) (candidates names input)) e (candidates_begin names input)
      | false ↦ λ e. candidates_begin names input
    ]
    in go (begins_with name input) refl

all_within : (text : List ℕ) (names : List (List ℕ)) → AllBegin names text → list_all (λ name. nat_le (length text) (length name)) names ≡ true
all_within text [] h = refl
all_within text (name ∷ names) h =
    let rest : Bool = list_all (λ n. begins_with n text) names in
    both (nat_le (length text) (length name)) (list_all (λ n. nat_le (length text) (length n)) names)
    (le-leb (length text) (length name) (no_longer name text (left (begins_with name text) rest h)))
    (all_within text names (right (begins_with name text) rest h))

common_is : (input : List ℕ) (names : List (List ℕ)) → AllBegin names input → IfSome (common_of names) (IsCompletion names input)
common_is input [] h = tt
common_is input (name ∷ names) h =
    let text : List ℕ = fold common name names in
    let begins : AllBegin (name ∷ names) text = both (begins_with name text) (list_all (λ n. begins_with n text) names) (fold_first name names) (fold_begins name names) in
    let longest : (other : List ℕ) → AllBegin (name ∷ names) other → begins_with text other ≡ true =
    λ other all. let rest : Bool = list_all (λ n. begins_with n other) names in fold_longest other name names (left (begins_with name other) rest all) (right (begins_with name other) rest all) in
    record { goes_on = longest input h; begins = begins; longest = longest; within = all_within text (name ∷ names) begins }

pub completion_is : (names : List (List ℕ)) (input : List ℕ) → IfSome (completion names input) (IsCompletion (candidates names input) input)
completion_is names input = common_is input (candidates names input) (candidates_begin names input)

-- ROOM: what names are completed to is no longer than they are

candidates_within : (limit : ℕ) (names : List (List ℕ)) (input : List ℕ) → list_all (λ name. nat_le (length name) limit) names ≡ true → list_all (λ name. nat_le (length name) limit) (candidates names input) ≡ true
candidates_within limit [] input h = refl
candidates_within limit (name ∷ names) input h =
    let first : nat_le (length name) limit ≡ true = left (nat_le (length name) limit) (list_all (λ n. nat_le (length n) limit) names) h in
    let rest : list_all (λ n. nat_le (length n) limit) (candidates names input) ≡ true = candidates_within limit names input (right (nat_le (length name) limit) (list_all (λ n. nat_le (length n) limit) names) h) in
    elim (begins_with name input) as (λ t. list_all (λ n. nat_le (length n) limit) (cond t (name ∷ candidates names input) (candidates names input)) ≡ true) [
      | true ↦ both (nat_le (length name) limit) (list_all (λ n. nat_le (length n) limit) (candidates names input)) first rest
      | false ↦ rest
    ]

common_within : (limit : ℕ) (names : List (List ℕ)) → list_all (λ name. nat_le (length name) limit) names ≡ true → IfSome (common_of names) (λ text. length text ≤ limit)
common_within limit [] h = tt
common_within limit (name ∷ names) h =
    let first : length name ≤ limit = leb-true (length name) limit (left (nat_le (length name) limit) (list_all (λ n. nat_le (length n) limit) names) h) in
    let no_more : length (fold common name names) ≤ length name = no_longer name (fold common name names) (fold_first name names) in
    omega (arith, first, no_more)

pub completion_within : (limit : ℕ) (names : List (List ℕ)) (input : List ℕ) → list_all (λ name. nat_le (length name) limit) names ≡ true → IfSome (completion names input) (λ text. length text ≤ limit)
completion_within limit names input h = common_within limit (candidates names input) (candidates_within limit names input h)
