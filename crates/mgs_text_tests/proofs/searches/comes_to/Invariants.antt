use Rattle.std.proofs.Common.{◌≤◌, length}
use Rattle.mgs_text_tests.proofs.searches.comes_to.Given as goal

-- the places lie in the text
abbrev pub invariant-loop-byte : goal.invariant-loop-byte
invariant-loop-byte g l =
    record {
      origin : l.places.origin ≤ length (g.T.Text.text l.text);
      anchor : l.places.anchor ≤ length (g.T.Text.text l.text);
    }
