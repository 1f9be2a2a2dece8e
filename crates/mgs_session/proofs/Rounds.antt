-- What is left of a macro that is played.
use Rattle.std.proofs.Common.{◌≡◌, ℕ, zero, suc, Bool, true, false, List, [], ◌∷◌, ◌==◌, length, map, Option, None, Some, refl, ◌∙◌}
use Rattle.std.proofs.Math.Dec.{eqb-suc-zero}
use Rattle.mgs_model.specs.Acts.{without_all}
use Rattle.mgs_model.specs.World.{Played, Replace_all, Play}
use Rattle.mgs_session.specs.Playing.{IsNext, Playing, are_behind, are_played, rounds, todo_in}
use Rattle.mgs_session.specs.declared.player.Pending.TheVariants.{Replacement, FirstReplacement}

-- no bytes are no bytes, however often
pub no_rounds : (n : ℕ) (bytes : List ℕ) → true ≡ (length bytes == 0) → rounds n bytes ≡ []
no_rounds zero bytes h = refl
no_rounds (suc n) [] h = no_rounds n [] refl
no_rounds (suc n) (byte ∷ bytes) h = let e : true ≡ false = h ∙ eqb-suc-zero (length bytes) in cc

-- they are all of a macro
pub played_all : (bytes : List ℕ) → are_played (map Played bytes) ≡ true
played_all [] = refl
played_all (byte ∷ bytes) = played_all bytes

-- a play begins again with what is left of it
pub begins_again : (typed : Option ℕ) (begins all : Bool) (left : List ℕ) → are_behind (todo_in typed begins all left) ≡ true → todo_in typed true all left ≡ Play ∷ todo_in typed begins all left
begins_again (Some byte) begins all left h = cc
begins_again None true all left h = cc
begins_again None false all left h = refl

-- no more are to be replaced
pub none_replaced : (typed : Option ℕ) (begins all : Bool) (left : List ℕ) → todo_in typed begins false left ≡ without_all (todo_in typed begins all left)
none_replaced (Some byte) begins all left = refl
none_replaced None true true left = refl
none_replaced None true false [] = refl
none_replaced None true false (byte ∷ left) = refl
none_replaced None false true left = refl
none_replaced None false false [] = refl
none_replaced None false false (byte ∷ left) = refl

-- all replacements come before it
pub replaced_all : (typed : Option ℕ) (begins all : Bool) (left : List ℕ) → are_played (todo_in typed begins all left) ≡ true → todo_in typed begins true left ≡ Replace_all ∷ todo_in typed begins all left
replaced_all (Some byte) begins all left h = cc
replaced_all None true all left h = cc
replaced_all None false true left h = cc
replaced_all None false false left h = refl

-- of all further replacements one comes next, and all stay to be done
pub replacement_next : (typed : Option ℕ) (begins all playing : Bool) (left : List ℕ) → typed ≡ None → begins ≡ false → all ≡ true → (let p : Playing = record { playing = playing; todo = todo_in typed begins all left } in IsNext Replacement p p)
replacement_next typed begins all playing left none other more =
    rw (none, other, more) (record { todo = refl; playing = refl; taken = (map Played left, refl, played_all left) })

pub first_replacement : (typed : Option ℕ) (begins all playing : Bool) (left : List ℕ) → typed ≡ None → begins ≡ true → all ≡ true → (let p : Playing = record { playing = playing; todo = todo_in typed begins all left } in IsNext FirstReplacement p p)
first_replacement typed begins all playing left none first more =
    rw (none, first, more) (record { todo = refl; playing = refl; taken = (map Played left, refl, played_all left) })
