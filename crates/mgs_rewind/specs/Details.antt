-- How the details of events are read.
use Rattle.std.specs.Prelude.{ℕ, Bool, ◌==◌, List, Option, None, Some, length, take, drop, bytes_eq, codes, option_and_then, if◌then◌else◌}

abbrev pub is_colon : ℕ → Bool
is_colon byte = byte == 58

abbrev pub is_space : ℕ → Bool
is_space byte = byte == 32

-- the text after a prefix that it must begin with
abbrev pub stripped : List ℕ → List ℕ → Option (List ℕ)
stripped prefix text = if bytes_eq (take (length prefix) text) prefix then Some (drop (length prefix) text) else None

-- NEW of the detail OLD -> NEW, if OLD is this text
abbrev pub new_text : List ℕ → List ℕ → Option (List ℕ)
new_text old detail = option_and_then (stripped (codes " -> ")) (stripped old detail)
