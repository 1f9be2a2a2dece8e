-- The lines of the modes in the echo row.
use Rattle.std.specs.Prelude.{ℕ, Bool, true, false, List, ◌++◌, Option, Some, None, codes}
use Rattle.mgs_model.specs.Commands.{prompt_text}
use Rattle.mgs_model.specs.declared.search.Direction.{Direction}
use Rattle.mgs_model.specs.declared.search.Direction.TheVariants.{Forward, Backward}
use Rattle.mgs_model.specs.declared.session.Mode.{Mode}
use Rattle.mgs_model.specs.declared.session.Mode.TheVariants.{Plain, Prompt, Searching, Replacing}
use Rattle.mgs_model.specs.declared.session.Question.{Question}

-- the input stands behind the prompt
abbrev pub prompt_line : Question → List ℕ → List ℕ
prompt_line c input = prompt_text c ++ input

-- an incremental search says which way it goes, and whether it found nothing
abbrev pub search_text : Direction → Bool → List ℕ
search_text Forward false = codes "I-search: "
search_text Forward true = codes "Failing I-search: "
search_text Backward false = codes "I-search backward: "
search_text Backward true = codes "Failing I-search backward: "

-- the line of a mode, with what was typed in it
abbrev pub line_in_mode : Mode → List ℕ → Option (List ℕ)
line_in_mode Plain input = None
line_in_mode (Prompt c) input = Some (prompt_line c input)
line_in_mode (Searching d failing) input = Some (search_text d failing ++ input)
line_in_mode Replacing input = Some (codes "Replace? ")
