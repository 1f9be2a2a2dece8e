-- A place of a buffer: what stands there, and that a change of one buffer moves none.
use Rattle.std.proofs.Common.{◌≡◌, ℕ, ◌+◌, ◌-◌, ◌<◌, ◌≤◌, ◌^◌, ◌&&◌, ◌||◌, ◌==◌, nat_lt, Bool, true, false, not, cond, List, [], ◌∷◌, length, Option, Some, None, refl, ap, arith, ltb-false}
use Rattle.std.specs.List.{position, position_or_len}
use Rattle.std.proofs.lemmas.List.{length-map}
use Rattle.mgs_model.specs.Acts.{is_full}
use Rattle.mgs_model.specs.Apply.{change_first}
use Rattle.mgs_model.specs.Names.{same_name}
use Rattle.mgs_model.specs.Text.{is_edit}
use Rattle.mgs_model.proofs.Firsts.{place_found}
use Rattle.mgs_buffers.specs.declared.buffer.Buffer.{Buffer}
use Rattle.mgs_buffers.specs.Contents.{marked_all, marked_of}
use Rattle.mgs_buffers.specs.MarkedBuffer.{HasBuffer, MarkedBuffer, marked_named}

-- a change of one buffer that keeps its name moves none
pub place_stays : (n m : List ℕ) (f : MarkedBuffer → MarkedBuffer) → ((k : MarkedBuffer) → (f k).buffer.name ≡ k.buffer.name) → (ks : List MarkedBuffer) → position_or_len (marked_named n) (change_first (marked_named m) f ks) ≡ position_or_len (marked_named n) ks
place_stays n m f same [] = refl
place_stays n m f same (k ∷ ks) = go (marked_named m k) (place_stays n m f same ks)
  where
    go : (b : Bool) → position_or_len (marked_named n) (change_first (marked_named m) f ks) ≡ position_or_len (marked_named n) ks
        → position_or_len (marked_named n) (cond b (f k ∷ ks) (k ∷ change_first (marked_named m) f ks)) ≡ position_or_len (marked_named n) (k ∷ ks)
    go true more = ap (λ (x : List ℕ). cond (not (same_name n x)) (1 + position_or_len (marked_named n) ks) 0) (same k)
    go false more = ap (λ i. cond (not (marked_named n k)) (1 + i) 0) more

-- the place of a buffer that is there is one of an entry
pub place_within : {T : Type 0} (text : T → List ℕ) (marks : T → List (Option ℕ)) (name : List ℕ) (at : ℕ) (es : List (List ℕ × Buffer T)) (ks : List MarkedBuffer) → marked_all text marks es ≡ ks → HasBuffer name ks → at ≡ position_or_len (marked_named name) ks → at < length es
place_within text marks name at es ks view kept place =
    omega (arith, place, place_found (marked_named name) ks kept, ap (λ (xs : List MarkedBuffer). length xs) view, length-map es (λ e. marked_of text marks e.0 e.1))

-- the index at which a name is found among the keys
pub index_place : {A : Type 0} (p : A → Bool) (xs : List A) (i : ℕ) → position p xs ≡ Some i → i ≡ position_or_len p xs
index_place p xs i found = by (nat_lt (position_or_len p xs) (length xs)) found
  where
    by : (b : Bool) → Path (Option ℕ) (cond b (Some (position_or_len p xs)) None) (Some i) → i ≡ position_or_len p xs
    by true e = cc
    by false e = cc

-- what there is room for
both : (e long last : Bool) → e ≡ true → (e && (long || last)) ≡ false → (long ≡ false) × (last ≡ false)
both true true last e r = cc
both true false true e r = cc
both true false false e r = (refl, refl)
both false long last e r = cc

pub room_left : (size serial a b : ℕ) (put : List ℕ) → a ≤ b → b ≤ size → is_edit a b put ≡ true → is_full size serial a b put ≡ false → size + length put ≤ 1048576 + (b - a)
room_left size serial a b put order within edit room =
    omega (arith, order, within, ltb-false 1048576 (size - (b - a) + length put) (both (is_edit a b put) (nat_lt 1048576 (size - (b - a) + length put)) (serial == 18446744073709551615) edit room).0)

last_not : (serial : ℕ) → (serial == 18446744073709551615) ≡ false → serial < 2 ^ 64 → serial < 2 ^ 64 - 1
last_not serial last small = grind arith

pub serial_left : (size serial a b : ℕ) (put : List ℕ) → serial < 2 ^ 64 → is_edit a b put ≡ true → is_full size serial a b put ≡ false → serial < 2 ^ 64 - 1
serial_left size serial a b put small edit room =
    last_not serial (both (is_edit a b put) (nat_lt 1048576 (size - (b - a) + length put)) (serial == 18446744073709551615) edit room).1 small
