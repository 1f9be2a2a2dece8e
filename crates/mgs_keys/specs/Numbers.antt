-- Numbers written in digits.
use Rattle.std.specs.Prelude.{ℕ, ◌+◌, ◌-◌, ◌*◌, ◌==◌, nat_le, Bool, ◌&&◌, List, length, slice_index, Option, Some, None, if◌then◌else◌}
use Rattle.std.specs.Char.{is_ascii_digit}

-- a digit that a number of two or three may begin with
abbrev pub is_first_digit : ℕ → Bool
is_first_digit b = nat_le 49 b && nat_le b 57

-- a number of 1 to 3 digits without leading zeros
unfoldable pub number_of : List ℕ → Option ℕ
number_of w =
    if (length w == 1) && is_ascii_digit (slice_index w 0) then Some (slice_index w 0 - 48)
    else if (length w == 2) && (is_first_digit (slice_index w 0) && is_ascii_digit (slice_index w 1))
    then Some ((slice_index w 0 - 48) * 10 + (slice_index w 1 - 48))
    else if (length w == 3) && (is_first_digit (slice_index w 0) && (is_ascii_digit (slice_index w 1) && is_ascii_digit (slice_index w 2)))
    then Some ((slice_index w 0 - 48) * 100 + (slice_index w 1 - 48) * 10 + (slice_index w 2 - 48))
    else None
