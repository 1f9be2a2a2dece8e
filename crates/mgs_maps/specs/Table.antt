-- The table of the code, as the rows by which keys are read.
use Rattle.std.specs.Prelude.{ℕ, List, find, map, Option, cond}
use Rattle.std.specs.Option.{option_map}
use Rattle.mgs_model.specs.Names.{same_name}
use Rattle.mgs_model.specs.Keys.{KeyRow, find_row}
use Rattle.mgs_model.specs.Commands.{has_name}
use Rattle.mgs_mini.specs.Narrowing.{narrowed}
use Rattle.mgs_model.specs.declared.session.Command.{Command}
use Rattle.mgs_maps.specs.declared.table.Binding.{Binding}

abbrev pub row_of : Binding → KeyRow
row_of b = record { keys = b.keys.now; name = b.name.now; command = b.command }

abbrev pub rows_of : List Binding → List KeyRow
rows_of bindings = map row_of bindings

-- the command of a word in the table
abbrev pub command_of : List ℕ → Option Command
command_of word = option_map (λ (r : KeyRow). r.command) (find_row word)

-- the command of a name among rows
abbrev pub named_row : List ℕ → List KeyRow → Option Command
named_row name rows = option_map (λ (r : KeyRow). r.command) (find (λ (r : KeyRow). same_name name r.name) rows)

-- what the names so far have in common that begin with what was typed, with the name of a row
abbrev pub narrowed_row : List ℕ → Option (List ℕ) → KeyRow → Option (List ℕ)
narrowed_row input found r = cond (has_name r) (narrowed input found r.name) found
