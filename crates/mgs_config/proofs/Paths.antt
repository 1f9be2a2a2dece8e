-- Paths of files, table by table.
use Rattle.std.proofs.Common.{◌≡◌, ℕ, ◌+◌, ◌<◌, refl, ap, ◌∙◌, List, [], ◌∷◌, ◌++◌, length, get_or, Option, Some, None}
use Rattle.toml.specs.Data.{Data}
use Rattle.toml.specs.View.{view}
use Rattle.toml.specs.declared.value.Value.{Value}
use Rattle.mgs_config.specs.Buffers.{name_of, path_of}
use Rattle.mgs_config.specs.World.{with_path, paths_in}
use Rattle.mgs_config.proofs.Firsts.{rows_before, rows_more}

with_path-append : (path : Option (List ℕ)) (name : List ℕ) (a b : List (List ℕ × List ℕ)) → with_path path name (a ++ b) ≡ with_path path name a ++ b
with_path-append None name a b = refl
with_path-append (Some path) name a b = refl

paths_in-append : (xs ys : List Data) → paths_in (xs ++ ys) ≡ paths_in xs ++ paths_in ys
paths_in-append [] ys = refl
paths_in-append (x ∷ xs) ys = ap (with_path (path_of x) (name_of x)) (paths_in-append xs ys) ∙ with_path-append (path_of x) (name_of x) (paths_in xs) (paths_in ys)

pub paths_more : (rows : List Value) (i : ℕ) (d : Value) → i < length rows → paths_in (rows_before rows (i + 1)) ≡ paths_in (rows_before rows i) ++ paths_in (view (get_or rows i d) ∷ [])
paths_more rows i d within = ap paths_in (rows_more rows i d within) ∙ paths_in-append (rows_before rows i) (view (get_or rows i d) ∷ [])
