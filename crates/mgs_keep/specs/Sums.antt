-- A SUM OF A TEXT: the hash of 64 bits of Fowler, Noll and Vo, over characters.
use Rattle.std.specs.Prelude.{ℕ, ℤ, ◌*◌, ◌%◌, ◌^◌, List, [], ◌∷◌, bit_xor}
use Rattle.std.specs.Int.{cast_signed, w64}

-- the sum goes on over these characters
abbrev pub summed : ℕ → List ℕ → ℕ
summed sum [] = sum
summed sum (c ∷ cs) = summed (bit_xor sum c * 0x0000_0100_0000_01b3 % 2 ^ 64) cs

abbrev pub sum_of : List ℕ → ℤ
sum_of text = cast_signed w64 (summed 0xcbf2_9ce4_8422_2325 text)
