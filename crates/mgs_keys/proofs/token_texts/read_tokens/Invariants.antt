use Rattle.std.proofs.Common.{◌≡◌, Some}
use Rattle.mgs_keys.specs.Words.{words_of}
use Rattle.mgs_keys.specs.Tokens.{spelled_by, then_bytes}
use Rattle.mgs_keys.proofs.Cuts.{length_left}
use Rattle.mgs_keys.proofs.Taken.{words_left}
use Rattle.mgs_keys.proofs.token_texts.read_tokens.Given as goal

-- the bytes so far and those of the words left are those of all
abbrev pub invariant-loop-left : goal.invariant-loop-left
invariant-loop-left g l = then_bytes (Some l.bytes.items) (spelled_by g.T.Tokens.bytes_of (words_left l.left)) ≡ spelled_by g.T.Tokens.bytes_of (words_of l.tokens)

abbrev pub decreases-loop-left : goal.decreases-loop-left
decreases-loop-left g l = length_left l.left
