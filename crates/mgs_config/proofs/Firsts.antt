-- The first fault of tables, table by table.
use Rattle.std.proofs.Common.{◌≡◌, ◌≢◌, ℕ, ◌+◌, ◌<◌, ◌≤◌, refl, sym, ap, ◌∙◌, arith, append_assoc, List, [], ◌∷◌, ◌++◌, length, map, get_or, take, drop, Option, Some, None, length-take}
use Rattle.std.proofs.lemmas.List.{take_more, drop_more, map-append, length-map, append-nil}
use Rattle.toml.specs.Data.{Data}
use Rattle.toml.specs.View.{view}
use Rattle.toml.specs.declared.value.Value.{Value}
use Rattle.mgs_config.specs.declared.config_fault.TableFault.{TableFault}
use Rattle.mgs_config.specs.declared.config_fault.TableFault.TheVariants.{Short}
use Rattle.mgs_config.specs.Faults.{first_fault, or_later}

-- the first i tables, and the others
abbrev pub rows_before : List Value → ℕ → List Data
rows_before rows i = map view (take i rows)

abbrev pub rows_from : List Value → ℕ → List Data
rows_from rows i = map view (drop i rows)

pub rows_more : (rows : List Value) (i : ℕ) (d : Value) → i < length rows → rows_before rows (i + 1) ≡ rows_before rows i ++ view (get_or rows i d) ∷ []
rows_more rows i d within = ap (map view) (take_more rows i d within) ∙ map-append view (take i rows) (get_or rows i d ∷ [])

pub rows_less : (rows : List Value) (i : ℕ) (d : Value) → i < length rows → rows_from rows i ≡ view (get_or rows i d) ∷ rows_from rows (i + 1)
rows_less rows i d within = ap (map view) (drop_more rows i d within)

pub rows_count : (rows : List Value) (i : ℕ) → i ≤ length rows → length (rows_before rows i) ≡ i
rows_count rows i within = simp (length-map, length-take) (omega arith)

first_passed : (f : List Data → Data → Option TableFault) (before : List Data) (row : Data) (rows : List Data) → f before row ≡ None → first_fault f before (row ∷ rows) ≡ first_fault f (before ++ row ∷ []) rows
first_passed f before row rows none = rw none

first_found : (f : List Data → Data → Option TableFault) (before : List Data) (row : Data) (rows : List Data) (fault : TableFault) → f before row ≡ Some fault → first_fault f before (row ∷ rows) ≡ Some (length before + 1, fault)
first_found f before row rows fault some = rw some

-- a table without fault
pub passed : (f : List Data → Data → Option TableFault) (rows : List Value) (i : ℕ) (d : Value) (all : Option (ℕ × TableFault)) → i < length rows → f (rows_before rows i) (view (get_or rows i d)) ≡ None
    → first_fault f (rows_before rows i) (rows_from rows i) ≡ all → first_fault f (rows_before rows (i + 1)) (rows_from rows (i + 1)) ≡ all
passed f rows i d all within none left =
    rw (rows_more rows i d within)
    (sym (first_passed f (rows_before rows i) (view (get_or rows i d)) (rows_from rows (i + 1)) none) ∙ ap (first_fault f (rows_before rows i)) (sym (rows_less rows i d within)) ∙ left)

-- a table with a fault
pub found : (f : List Data → Data → Option TableFault) (rows : List Value) (i : ℕ) (d : Value) (all : Option (ℕ × TableFault)) (fault : TableFault) → i < length rows
    → (fault ≢ Short → f (rows_before rows i) (view (get_or rows i d)) ≡ Some fault)
    → first_fault f (rows_before rows i) (rows_from rows i) ≡ all → fault ≢ Short → all ≡ Some (i + 1, fault)
found f rows i d all fault within due left long =
    sym left
    ∙ ap (first_fault f (rows_before rows i)) (rows_less rows i d within)
    ∙ first_found f (rows_before rows i) (view (get_or rows i d)) (rows_from rows (i + 1)) fault (due long)
    ∙ ap (λ n. Some (n + 1, fault)) (rows_count rows i (omega arith))

-- ONE TABLE MORE

none_of : (first : Option TableFault) (n : ℕ) (later : Option (ℕ × TableFault)) → or_later first n later ≡ None → (first ≡ None) × (later ≡ None)
none_of None n later h = (refl, h)
none_of (Some fault) n later h = absurd (cc)

first_none : (f : List Data → Data → Option TableFault) (start xs : List Data) (row : Data) → first_fault f start xs ≡ None → f (start ++ xs) row ≡ None → first_fault f start (xs ++ row ∷ []) ≡ None
first_none f start [] row none due = ap (λ o. or_later o (length start + 1) None) (ap (λ before. f before row) (sym (append-nil start)) ∙ due)
first_none f start (x ∷ xs) row none due =
    let here : (f start x ≡ None) × (first_fault f (start ++ x ∷ []) xs ≡ None) = none_of (f start x) (length start + 1) (first_fault f (start ++ x ∷ []) xs) none in
    ap (λ o. or_later o (length start + 1) (first_fault f (start ++ x ∷ []) (xs ++ row ∷ []))) here.0
    ∙ first_none f (start ++ x ∷ []) xs row here.1 (ap (λ before. f before row) (append_assoc start (x ∷ []) xs) ∙ due)

-- tables without a fault, and one more
pub none_more : (f : List Data → Data → Option TableFault) (rows : List Value) (i : ℕ) (d : Value) → i < length rows → first_fault f [] (rows_before rows i) ≡ None → f (rows_before rows i) (view (get_or rows i d)) ≡ None
    → first_fault f [] (rows_before rows (i + 1)) ≡ None
none_more f rows i d within none due = rw (rows_more rows i d within) (first_none f [] (rows_before rows i) (view (get_or rows i d)) none due)
