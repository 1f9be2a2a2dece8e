use Rattle.std.proofs.Common.{◌≡◌, take, map}
use Rattle.mgs_acl.proofs.entry_reader.name_spelled.Given as goal

-- the characters so far are copied
abbrev pub invariant-loop-character : goal.invariant-loop-character
invariant-loop-character g l = l.text.bytes ≡ map g.C.Character.number (take l.character-index l.word)
