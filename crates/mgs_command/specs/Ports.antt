-- Ports of a server.
use Rattle.std.specs.Prelude.{ℕ, ◌<◌, List}
use Rattle.std.specs.Str.Parse.{IsNumeral, digits_value}

-- a port: decimal digits and nothing else, of a number that 16 bits hold
abbrev pub IsPort : List ℕ → Type 0
IsPort word = IsNumeral 10 word × (digits_value 10 word < 65536)
