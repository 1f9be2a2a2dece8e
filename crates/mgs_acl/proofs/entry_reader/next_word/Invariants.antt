use Rattle.std.proofs.Common.{◌≡◌, length, map}
use Rattle.mgs_model.specs.Spelling.{words}
use Rattle.mgs_acl.proofs.entry_reader.next_word.Given as goal

abbrev pub invariant-loop-text : goal.invariant-loop-text
invariant-loop-text g l = record {
  same_words : words (map g.C.Character.number l.text) ≡ words (map g.C.Character.number l.initial.text);
}

abbrev pub decreases-loop-text : goal.decreases-loop-text
decreases-loop-text g l = length l.text
