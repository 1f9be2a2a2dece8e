use Rattle.std.proofs.Common.{◌≡◌, ℕ, List, length, take, drop}
use Rattle.std.specs.List.{list_all}
use Rattle.mgs_model.specs.Names.{is_visible}
use Rattle.mgs_plan.proofs.new_name.spelled.Given as goal

-- What is before `at` is copied, and whether all of it are a name's characters is left to the rest.
pub record IsSpelled (at : ℕ) (typed bytes : List ℕ) : Type 0 where
  pub room : length bytes ≡ 32
  pub done : take at bytes ≡ take at typed
  pub rest : list_all is_visible (drop at typed) ≡ list_all is_visible typed

abbrev pub invariant-loop-at : goal.invariant-loop-at
invariant-loop-at l = IsSpelled l.at l.typed l.bytes
