use Rattle.std.proofs.Common.{◌≡◌, drop, map}
use Rattle.std.specs.Prelude.{fold}
use Rattle.std.specs.List.{list_all}
use Rattle.mgs_model.specs.Spelling.{is_letter, with_letter}
use Rattle.mgs_acl.proofs.entry_reader.mask_lettered.Given as goal

-- the letters that are left decide, and their bits come to those so far
abbrev pub invariant-loop-letter : goal.invariant-loop-letter
invariant-loop-letter g l = record {
  letters : list_all is_letter (map g.C.Character.number (drop l.letter-index l.word)) ≡ list_all is_letter (map g.C.Character.number l.word);
  mask : fold with_letter l.mask (map g.C.Character.number (drop l.letter-index l.word)) ≡ fold with_letter 0 (map g.C.Character.number l.word);
}
