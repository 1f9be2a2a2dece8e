-- By what access the buffers of a start are decided.
use Rattle.std.specs.Prelude.{◌≡◌, ℕ, suc, drop, Bool, ◌||◌, is_some, find, cond, List, [], ◌∷◌, ◌++◌}
use Rattle.mgs_laws.specs.Apart.{Rules}
use Rattle.mgs_journal.specs.Kept.{is_of}

-- some buffer of these has the name
abbrev pub has_name : List ℕ → List Rules → Bool
has_name name all = is_some (find (is_of name) all)

-- those that are kept, and behind them each other one of a configuration whose name none before it has and no user took
abbrev pub with_others : (List ℕ → Bool) → List Rules → List Rules → List Rules
with_others taken kept [] = kept
with_others taken kept (r ∷ rs) = with_others taken (cond (taken r.name || has_name r.name kept) kept (kept ++ r ∷ [])) rs

-- one of a configuration was added where none before it has its name and no user took it: what the others make of it is as before
abbrev pub AddsOther : (List ℕ → Bool) → ℕ → List Rules → List Rules → List Rules → Type 0
AddsOther taken i rules old new = (whole : List Rules) → with_others taken old (drop i rules) ≡ whole → with_others taken new (drop (suc i) rules) ≡ whole
