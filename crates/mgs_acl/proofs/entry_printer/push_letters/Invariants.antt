use Rattle.std.proofs.Common.{◌≡◌, ◌+◌, ◌≤◌, ◌++◌, map, drop}
use Rattle.std.specs.Prelude.{filter}
use Rattle.arrayvec.specs.ArrayString.{array_string_len}
use Rattle.mgs_model.specs.Rights.{letter_of, has_right, rights_in}
use Rattle.mgs_acl.proofs.entry_printer.push_letters.Given as goal

-- the letters of the rights that are left are still to come
abbrev pub invariant-loop-right : goal.invariant-loop-right
invariant-loop-right l = record {
  letters : l.text.bytes ++ map letter_of (filter (has_right l.mask) (drop l.right-index l.right-items)) ≡ l.fn.text.bytes ++ map letter_of (rights_in l.mask);
  room : array_string_len l.text ≤ 56 + l.right-index;
}
