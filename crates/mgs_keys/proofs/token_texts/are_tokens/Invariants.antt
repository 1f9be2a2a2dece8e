use Rattle.std.proofs.Common.{◌≡◌, is_some}
use Rattle.mgs_keys.specs.Words.{words_of}
use Rattle.mgs_keys.specs.Tokens.{spelled_by}
use Rattle.mgs_keys.proofs.Cuts.{length_left}
use Rattle.mgs_keys.proofs.Taken.{words_left}
use Rattle.mgs_keys.proofs.token_texts.are_tokens.Given as goal

-- all words are tokens where those left are
abbrev pub invariant-loop-left : goal.invariant-loop-left
invariant-loop-left g l = is_some (spelled_by g.T.Tokens.bytes_of (words_left l.left)) ≡ is_some (spelled_by g.T.Tokens.bytes_of (words_of l.fn.text))

abbrev pub decreases-loop-left : goal.decreases-loop-left
decreases-loop-left g l = length_left l.left
