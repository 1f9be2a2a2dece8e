-- A query-replace of a session.
use Rattle.std.specs.Prelude.{ℕ, List}

pub record Replacing : Type 0 where
  -- what is replaced
  pub pattern : List ℕ
  -- what comes in its place
  pub put : List ℕ
  -- how often it did
  pub count : ℕ
