use Rattle.std.proofs.Common.{◌≡◌, ◌++◌, take, drop}
use Rattle.mgs_model.specs.Cases.{lowercased}
use Rattle.mgs_fill.proofs.cases.lowercase.Given as goal

-- what is left, behind what is done, gives what all does
abbrev pub invariant-loop-c : goal.invariant-loop-c
invariant-loop-c l = take l.c-index l.chars ++ lowercased (drop l.c-index l.chars) ≡ lowercased l.initial.chars
