-- Whether bytes are UTF-8, as a test.
use Rattle.std.proofs.Common.{◌≡◌, ℕ, List, Some, None}
use Rattle.std.specs.Str.{IsUtf8}
use Rattle.std.proofs.lemmas.Bool.{cond-true, cond-false, false_from_ne_true}
use Rattle.std.proofs.lemmas.Str.{IsUtf8-from_is_utf8, is_utf8-from_IsUtf8}
use Rattle.mgs_keys.specs.Words.{utf8_of}

pub utf8_of-text : (bs : List ℕ) → IsUtf8 bs → utf8_of bs ≡ Some bs
utf8_of-text bs h = cond-true _ _ _ (is_utf8-from_IsUtf8 bs h)

pub utf8_of-other : (bs : List ℕ) → ¬ (IsUtf8 bs) → utf8_of bs ≡ None
utf8_of-other bs h = cond-false _ _ _ (false_from_ne_true _ (λ e. h (IsUtf8-from_is_utf8 bs e)))
