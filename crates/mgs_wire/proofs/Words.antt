-- What is said by words that are parted once more.
use Rattle.std.proofs.Common.{◌≡◌, ℕ, List, ◌∷◌, None, ap}
use Rattle.mgs_model.specs.Names.{is_space}
use Rattle.mgs_keys.specs.Words.{words_of}
use Rattle.mgs_keys.proofs.Cuts.{parts_first}
use Rattle.mgs_wire.specs.Login.{login_of}

-- a login line has no sixth word
pub six_words : (a b c d e rest : List ℕ) → login_of (a ∷ b ∷ c ∷ d ∷ e ∷ words_of rest) ≡ None
six_words a b c d e rest = ap (λ (ws : List (List ℕ)). login_of (a ∷ b ∷ c ∷ d ∷ e ∷ ws)) (parts_first is_space rest)
