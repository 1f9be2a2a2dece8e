-- The document of a configuration.
use Rattle.std.specs.Prelude.{ℕ, Bool, true, false, ◌&&◌, List, [], ◌∷◌, codes, Option, Some, None, is_some}
use Rattle.std.specs.Option.{option_map, unwrap_or}
use Rattle.std.specs.List.{list_all}
use Rattle.toml.specs.Data.{Data, table, get, as_array, as_table}
use Rattle.toml.specs.Parse.{parse_document}
use Rattle.mgs_config.specs.Rows.{data_in, has_only, values_at}

-- the document that a text writes (TOML 1.1)
abbrev pub document_in : List ℕ → Option Data
document_in text = option_map table (parse_document text)

abbrev pub is_table : Data → Bool
is_table d = is_some (as_table d)

-- a list of tables
abbrev pub are_tables : Data → Bool
are_tables d = unwrap_or (option_map (λ items. list_all is_table (data_in items)) (as_array d)) false

abbrev pub tables_or_none : Option Data → Bool
tables_or_none None = true
tables_or_none (Some d) = are_tables d

abbrev pub are_tables_at : List ℕ → Data → Bool
are_tables_at key d = tables_or_none (get key d)

-- lists of tables of users, groups and buffers, and nothing else
abbrev pub is_configuration : Data → Bool
is_configuration d =
    has_only (codes "user" ∷ codes "group" ∷ codes "buffer" ∷ []) d
    && (are_tables_at (codes "user") d && (are_tables_at (codes "group") d && are_tables_at (codes "buffer") d))

-- the tables of the list at a key
abbrev pub rows_at : List ℕ → Data → List Data
rows_at key d = unwrap_or (values_at key d) []
