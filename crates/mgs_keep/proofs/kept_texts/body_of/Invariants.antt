use Rattle.std.proofs.Common.{◌≡◌, ◌++◌, ◌≤◌, ◌-◌, drop, length}
use Rattle.std.specs.Prelude.{string_bytes}
use Rattle.std.specs.Str.{encode_utf8_all}
use Rattle.mgs_keep.proofs.kept_texts.body_of.Given as goal

abbrev pub invariant-loop-at : goal.invariant-loop-at
invariant-loop-at g l = record {
  within : l.at ≤ length (g.T.Text.text l.text);
  made : string_bytes l.body ++ encode_utf8_all (drop l.at (g.T.Text.text l.text)) ≡ encode_utf8_all (g.T.Text.text l.text);
}

abbrev pub decreases-loop-at : goal.decreases-loop-at
decreases-loop-at g l = length (g.T.Text.text l.text) - l.at
