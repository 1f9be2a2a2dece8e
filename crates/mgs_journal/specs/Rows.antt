-- WHAT A JOURNAL KEEPS OF A BUFFER'S RIGHTS.
use Rattle.std.specs.Prelude.{ℕ, List, map}
use Rattle.mgs_laws.specs.Apart.{Rules}

-- who owns the buffer and who may do what with it; and its birth number, by which a buffer that is made under the name of a killed one is
-- known to be another: 0 for a buffer that was there when the server began
pub record KeptRights : Type 0 where
  pub rules : Rules
  pub birth : ℕ

abbrev pub rules_of_row : KeptRights → Rules
rules_of_row k = k.rules

abbrev pub birth_of_row : KeptRights → ℕ
birth_of_row k = k.birth

abbrev pub rules_in_rows : List KeptRights → List Rules
rules_in_rows rows = map rules_of_row rows

abbrev pub births_in_rows : List KeptRights → List ℕ
births_in_rows rows = map birth_of_row rows
