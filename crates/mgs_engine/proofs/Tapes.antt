-- Bytes put on a tape.
use Rattle.std.proofs.Common.{◌≡◌, ℕ, ◌<◌, ◌≤◌, Bool, true, false, cond, List, [], ◌∷◌, ◌++◌, length, get_or, set, zero, suc, Option, Some, None, Result, Ok, Err, refl, sym, ap, subst, ◌∙◌, arith}
use Rattle.std.specs.Prelude.{nat_eq, OnOk, OnErr}
use Rattle.std.specs.List.{position_or_len}
use Rattle.std.specs.Option.{option_map, option_or}
use Rattle.std.proofs.lemmas.Bool.{eqb-true}
use Rattle.std.proofs.lemmas.List.{append-nil}
use Rattle.std.proofs.lemmas.List.Folds.{find-append}
use Rattle.mgs_model.specs.Apply.{change_first}
use Rattle.mgs_model.proofs.Firsts.{find-change_first, find-change_first_other, find-map, find_at_place, find_none, position_or_len-map, written_first}
use Rattle.mgs_engine.specs.declared.tape.Piece.{Piece}
use Rattle.mgs_engine.specs.Queues.{Queue, find_queue, is_queue_of, waiting_in}
use Rattle.mgs_engine.specs.Tapes.{IsAdded, bytes_in, has_piece_id, piece_queue, pieces_of, with_more}

-- a piece that is written over by one that reads the same
pub set_same : (xs : List Piece) (i : ℕ) (d y : Piece) → i < length xs → piece_queue y ≡ piece_queue (get_or xs i d) → pieces_of (set xs i y) ≡ pieces_of xs
set_same [] i d y l e = refl
set_same (z ∷ zs) zero d y l e = ap (λ s. s ∷ pieces_of zs) e
set_same (z ∷ zs) (suc i) d y l e = ap (λ ss. piece_queue z ∷ ss) (set_same zs i d y (omega arith) e)

-- A PIECE THAT IS THERE

apart : (id j : ℕ) → nat_eq id j ≡ false → (x : Queue) → is_queue_of id x ≡ true → is_queue_of j x ≡ false
apart id j other x e = ap (λ n. nat_eq n j) (eqb-true x.id id e) ∙ other

lengthened : (id : ℕ) (bytes : List ℕ) (qs : List Queue) (q : Queue) → find_queue id qs ≡ Some q → IsAdded id bytes qs (change_first (is_queue_of id) (with_more bytes) qs)
lengthened id bytes qs q there j =
    let goal : Bool → Type 0 = λ b. bytes_in j (change_first (is_queue_of id) (with_more bytes) qs) ≡ bytes_in j qs ++ cond b bytes [] in
    let go : (b : Bool) → nat_eq id j ≡ b → goal b =
    λ b. elim b as (λ b. nat_eq id j ≡ b → goal b) [
      | true ↦ λ e.
          let same : id ≡ j = eqb-true id j e in
          let f : find_queue id (change_first (is_queue_of id) (with_more bytes) qs) ≡ Some (with_more bytes q) = find-change_first (is_queue_of id) (with_more bytes) (λ x. refl) qs ∙ ap (option_map (with_more bytes)) there in
          subst (λ n. bytes_in n (change_first (is_queue_of id) (with_more bytes) qs) ≡ bytes_in n qs ++ bytes) same
          (ap waiting_in f ∙ ap (λ o. waiting_in o ++ bytes) (sym there))
      | false ↦ λ e.
          ap waiting_in (find-change_first_other (is_queue_of id) (is_queue_of j) (with_more bytes) (λ x. refl) (apart id j e) qs) ∙ sym (append-nil (bytes_in j qs))
    ]
    in go (nat_eq id j) refl

found_piece : (id : ℕ) (xs : List Piece) (at : ℕ) (d : Piece) → at ≡ position_or_len (has_piece_id id) xs → at < length xs → find_queue id (pieces_of xs) ≡ Some (piece_queue (get_or xs at d))
found_piece id xs at d e l =
    find-map piece_queue (has_piece_id id) (is_queue_of id) (λ x. refl) xs
    ∙ ap (option_map piece_queue) (find_at_place (has_piece_id id) xs d (omega (arith, e, l)) ∙ ap (λ n. Some (get_or xs n d)) (sym e))

pub added_there : (id : ℕ) (bytes : List ℕ) (xs : List Piece) (at : ℕ) (x y : Piece) → at ≡ position_or_len (has_piece_id id) xs → at < length xs → x ≡ get_or xs at x → piece_queue y ≡ with_more bytes (piece_queue x)
    → IsAdded id bytes (pieces_of xs) (pieces_of (set xs at y))
added_there id bytes xs at x y e l is more =
    let written : pieces_of (set xs at y) ≡ change_first (is_queue_of id) (with_more bytes) (pieces_of xs) =
    written_first piece_queue (is_queue_of id) (with_more bytes) xs at x y (e ∙ sym (position_or_len-map piece_queue (is_queue_of id) xs)) l is more in
    subst (IsAdded id bytes (pieces_of xs)) (sym written) (lengthened id bytes (pieces_of xs) (piece_queue (get_or xs at x)) (found_piece id xs at x e l))

-- A FIRST PIECE

or_none : (o : Option Queue) → option_or o None ≡ o
or_none None = refl
or_none (Some x) = refl

begun : (id : ℕ) (bytes : List ℕ) (qs : List Queue) → find_queue id qs ≡ None → IsAdded id bytes qs (qs ++ record { id = id; bytes = bytes } ∷ [])
begun id bytes qs none j =
    let q : Queue = record { id = id; bytes = bytes } in
    let goal : Bool → Type 0 = λ b. waiting_in (option_or (find_queue j qs) (cond b (Some q) None)) ≡ bytes_in j qs ++ cond b bytes [] in
    let go : (b : Bool) → nat_eq id j ≡ b → goal b =
    λ b. elim b as (λ b. nat_eq id j ≡ b → goal b) [
      | true ↦ λ e.
          let here : find_queue j qs ≡ None = subst (λ n. find_queue n qs ≡ None) (eqb-true id j e) none in
          ap (λ o. waiting_in (option_or o (Some q))) here ∙ ap (λ o. waiting_in o ++ bytes) (sym here)
      | false ↦ λ e. ap waiting_in (or_none (find_queue j qs)) ∙ sym (append-nil (bytes_in j qs))
    ]
    in ap waiting_in (find-append (is_queue_of j) qs (q ∷ [])) ∙ go (nat_eq id j) refl

no_piece : (id : ℕ) (xs : List Piece) (at : ℕ) → at ≡ position_or_len (has_piece_id id) xs → at ≤ length xs → length xs ≤ at → find_queue id (pieces_of xs) ≡ None
no_piece id xs at e w l =
    find-map piece_queue (has_piece_id id) (is_queue_of id) (λ x. refl) xs
    ∙ ap (option_map piece_queue) (find_none (has_piece_id id) xs (omega (arith, e, w, l)))

pub added_first : (id : ℕ) (bytes : List ℕ) (xs : List Piece) (ys : List Queue) (at : ℕ) → at ≡ position_or_len (has_piece_id id) xs → at ≤ length xs → length xs ≤ at → ys ≡ pieces_of xs ++ record { id = id; bytes = bytes } ∷ []
    → IsAdded id bytes (pieces_of xs) ys
added_first id bytes xs ys at e w l is = subst (IsAdded id bytes (pieces_of xs)) (sym is) (begun id bytes (pieces_of xs) (no_piece id xs at e w l))

-- WHAT IS READ

pub piece_at : (id : ℕ) (xs : List Piece) (at : ℕ) (x : Piece) → at ≡ position_or_len (has_piece_id id) xs → at < length xs → x ≡ get_or xs at x → bytes_in id (pieces_of xs) ≡ x.bytes.items
piece_at id xs at x e l is = ap waiting_in (found_piece id xs at x e l) ∙ ap (λ (y : Piece). y.bytes.items) (sym is)

pub piece_none : (id : ℕ) (xs : List Piece) (at : ℕ) → at ≡ position_or_len (has_piece_id id) xs → at ≤ length xs → length xs ≤ at → bytes_in id (pieces_of xs) ≡ []
piece_none id xs at e w l = ap waiting_in (no_piece id xs at e w l)

-- CASES OF AN ANSWER

pub ok_then : {E : Type 0} {P Q : Type 0} (r : Result (Unit {0}) E) → OnOk r P → (P → Q) → OnOk r Q
ok_then (Ok u) p f = f p
ok_then (Err e) p f = tt

pub err_then : {E : Type 0} {P Q : Type 0} (r : Result (Unit {0}) E) → OnErr r P → (P → Q) → OnErr r Q
err_then (Ok u) p f = tt
err_then (Err e) p f = f p
