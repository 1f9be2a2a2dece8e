-- Lists of strings and of keys, as code has them.
use Rattle.std.proofs.Common.{◌≡◌, ℕ, refl, ap, cond, List, [], ◌∷◌, map, Bor, length}
use Rattle.std.proofs.lemmas.List.{length-map}
use Rattle.std.specs.Prelude.{Some, None, ◌||◌}
use Rattle.std.specs.List.{list_all, list_any}
use Rattle.std.proofs.lemmas.List.Folds.{list_all-map}
use Rattle.mgs_model.specs.Names.{same_name}
use Rattle.mgs_model.specs.Access.{is_among}
use Rattle.toml.specs.Data.{Data}
use Rattle.toml.specs.View.{view, items_of, items_view}
use Rattle.toml.specs.declared.value.Value.{Value}
use Rattle.mgs_config.specs.Document.{is_table}
use Rattle.mgs_config.specs.Buffers.{is_entry}
use Rattle.mgs_config.specs.Rows.{data_in, is_text, text_of, texts_in}

pub among_keys : (key : List ℕ) (keys : List (Bor (List ℕ))) → is_among key (map (λ k. k.now) keys) ≡ list_any (λ k. same_name key k.now) keys
among_keys key [] = refl
among_keys key (k ∷ keys) = ap (λ rest. same_name key k.now || rest) (among_keys key keys)

pub data_in-items : (ds : List Data) → data_in (items_of ds) ≡ ds
data_in-items [] = refl
data_in-items (d ∷ ds) = ap (λ rest. d ∷ rest) (data_in-items ds)

pub all_texts : (vs : List Value) → list_all is_text (map view vs) ≡ list_all (λ v. is_text (view v)) vs
all_texts vs = list_all-map is_text view vs

map_texts : (vs : List Value) → map text_of (map view vs) ≡ map (λ v. text_of (view v)) vs
map_texts [] = refl
map_texts (v ∷ vs) = ap (λ rest. text_of (view v) ∷ rest) (map_texts vs)

pub data_in_view : (vs : List Value) → data_in (items_view vs) ≡ map view vs
data_in_view vs = data_in-items (map view vs)

pub texts_in_values : (vs : List Value) → texts_in (map view vs) ≡ cond (list_all (λ v. is_text (view v)) vs) (Some (map (λ v. text_of (view v)) vs)) None
texts_in_values vs = rw (all_texts vs, map_texts vs)

pub tables_in_values : (vs : List Value) → list_all is_table (data_in (items_view vs)) ≡ list_all (λ v. is_table (view v)) vs
tables_in_values vs = rw (data_in-items (map view vs)) (list_all-map is_table view vs)

pub entries_in_values : (vs : List Value) → list_all is_entry (map view vs) ≡ list_all (λ v. is_entry (view v)) vs
entries_in_values vs = list_all-map is_entry view vs

pub values_count : (vs : List Value) → length (map view vs) ≡ length vs
values_count vs = simp length-map
