use Rattle.std.proofs.Common.{◌≡◌, ◌++◌, take, drop}
use Rattle.mgs_model.specs.Cases.{capitalized, capitalized_from}
use Rattle.mgs_fill.proofs.cases.capitalize.Given as goal

-- what is left, behind what is done, gives what all does
abbrev pub invariant-loop-c : goal.invariant-loop-c
invariant-loop-c l = take l.c-index l.chars ++ capitalized_from l.begins (drop l.c-index l.chars) ≡ capitalized l.initial.chars
