-- Entries, value by value.
use Rattle.std.proofs.Common.{◌≡◌, ℕ, ◌+◌, ◌<◌, ◌≤◌, refl, sym, ap, ◌∙◌, arith, List, [], ◌∷◌, ◌++◌, length, get_or}
use Rattle.std.specs.Prelude.{Result, Ok, Err}
use Rattle.toml.specs.Data.{Data}
use Rattle.toml.specs.View.{view}
use Rattle.toml.specs.declared.value.Value.{Value}
use Rattle.mgs_model.specs.declared.entry.Entry.{Entry}
use Rattle.mgs_acl.specs.Spelling.{entry_in}
use Rattle.mgs_config.specs.Rows.{text_of}
use Rattle.mgs_config.specs.Buffers.{entries_in, with_entry}
use Rattle.mgs_config.proofs.Firsts.{rows_before, rows_more, rows_count}

with_entry-append : {F : Type 0} (r : Result Entry F) (es fs : List Entry) → with_entry r es ++ fs ≡ with_entry r (es ++ fs)
with_entry-append (Ok e) es fs = refl
with_entry-append (Err f) es fs = refl

entries_in-append : (xs ys : List Data) → entries_in (xs ++ ys) ≡ entries_in xs ++ entries_in ys
entries_in-append [] ys = refl
entries_in-append (x ∷ xs) ys = ap (with_entry (entry_in (text_of x))) (entries_in-append xs ys) ∙ sym (with_entry-append (entry_in (text_of x)) (entries_in xs) (entries_in ys))

with_entry-length : {F : Type 0} (r : Result Entry F) (es : List Entry) → length (with_entry r es) ≤ length es + 1
with_entry-length (Ok e) es = omega arith
with_entry-length (Err f) es = omega arith

entries_in-length : (ds : List Data) → length (entries_in ds) ≤ length ds
entries_in-length [] = omega arith
entries_in-length (d ∷ ds) = omega (arith, with_entry-length (entry_in (text_of d)) (entries_in ds), entries_in-length ds)

pub entries_more : (rows : List Value) (i : ℕ) (d : Value) → i < length rows → entries_in (rows_before rows (i + 1)) ≡ entries_in (rows_before rows i) ++ entries_in (view (get_or rows i d) ∷ [])
entries_more rows i d within = ap entries_in (rows_more rows i d within) ∙ entries_in-append (rows_before rows i) (view (get_or rows i d) ∷ [])

pub entries_room : (rows : List Value) (i : ℕ) (list : List Entry) → list ≡ entries_in (rows_before rows i) → i < length rows → length rows ≤ 64 → length list ≤ 63
entries_room rows i list is within few =
    let few_entries : length (entries_in (rows_before rows i)) ≤ length (rows_before rows i) = entries_in-length (rows_before rows i) in
    let count : length (rows_before rows i) ≡ i = rows_count rows i (omega arith) in
    let same : length list ≡ length (entries_in (rows_before rows i)) = ap length is in
    omega arith
