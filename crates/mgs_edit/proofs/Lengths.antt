-- How many characters a plan puts in.
use Rattle.std.proofs.Common.{◌≡◌, ℕ, zero, suc, ◌+◌, ◌-◌, ◌*◌, ◌≤◌, List, ◌++◌, length, refl, ap, ◌∙◌, arith, length-append}
use Rattle.std.specs.Prelude.{replicate, slice_range}
use Rattle.std.specs.List.{repeat}
use Rattle.std.proofs.Math.Nat.{suc-mul}
use Rattle.std.proofs.lemmas.List.{length-replicate}
use Rattle.mgs_fill.proofs.Lengths.{length_cased_range, length_range}
use Rattle.mgs_edit.specs.Reading.{put_read, PutWithin}
use Rattle.mgs_edit.specs.declared.plan.Put.{Put}
use Rattle.mgs_edit.specs.declared.plan.Put.TheVariants.{Nothing, Character, KillBuffer, Indented, Exchanged, Cased, Filled}

-- how many characters that is, where the kill buffer has so many
abbrev pub put_length : ℕ → Put → ℕ
put_length killed Nothing = 0
put_length killed (Character c n) = n
put_length killed (KillBuffer n) = n * killed
put_length killed (Indented n a b) = n + (b - a)
put_length killed (Exchanged q) = 2
put_length killed (Cased a b case) = b - a
put_length killed (Filled a b fill len) = len

length_repeat : (n : ℕ) (xs : List ℕ) → length (repeat n xs) ≡ n * length xs
length_repeat zero xs = omega arith
length_repeat (suc n) xs =
    let both : length (xs ++ repeat n xs) ≡ length xs + length (repeat n xs) = length-append xs (repeat n xs) in
    let rest : length (repeat n xs) ≡ n * length xs = length_repeat n xs in
    let all : suc n * length xs ≡ n * length xs + length xs = suc-mul n (length xs) in
    omega arith

length_put : (text kill : List ℕ) (p : Put) → PutWithin text p → length (put_read text kill p) ≡ put_length (length kill) p
length_put text kill Nothing h = refl
length_put text kill (Character c n) h = length-replicate n c
length_put text kill (KillBuffer n) h = length_repeat n kill
length_put text kill (Indented n a b) h =
    omega (arith, length-append (replicate {A = ℕ} n 10) (slice_range text a b), length-replicate {A = ℕ} n 10, length_range text a b h.0 h.1)
length_put text kill (Exchanged q) h =
    let one : 1 ≤ q = h.0 in
    let within : q + 1 ≤ length text = h.1 in
    let after : length (slice_range text q (q + 1)) ≡ (q + 1) - q = length_range text q (q + 1) (omega arith) within in
    let before : length (slice_range text (q - 1) q) ≡ q - (q - 1) = length_range text (q - 1) q (omega arith) (omega arith) in
    omega (arith, length-append (slice_range text q (q + 1)) (slice_range text (q - 1) q))
length_put text kill (Cased a b case) h = length_cased_range case text a b h.0 h.1
length_put text kill (Filled a b fill len) h = h.2

pub length_killed : (text kill : List ℕ) (p : Put) (killed : ℕ) → PutWithin text p → length kill ≡ killed → length (put_read text kill p) ≡ put_length killed p
length_killed text kill p killed h k = length_put text kill p h ∙ ap (λ n. put_length n p) k
