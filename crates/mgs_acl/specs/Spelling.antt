-- How an entry is written, for those who read lists.
use Rattle.std.specs.Prelude.{ℕ, List, [], ◌∷◌, Option, Some, None}
use Rattle.mgs_model.specs.Spelling.{words}
pub use Rattle.mgs_model.specs.Spelling.{entry_in}

-- the words of a text that was cut after its first word
abbrev pub words_cut : Option (List ℕ × List ℕ) → List (List ℕ)
words_cut None = []
words_cut (Some (word, rest)) = word ∷ words rest
