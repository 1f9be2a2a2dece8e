-- Buffers, table by table.
use Rattle.std.proofs.Common.{◌≡◌, ℕ, ◌+◌, ◌<◌, ◌≤◌, refl, sym, ap, ◌∙◌, arith, Bool, true, false, cond, List, [], ◌∷◌, ◌++◌, length, map, get_or, take, drop, Option, Some, None, suc, subst}
use Rattle.std.specs.Prelude.{◌||◌, find, is_some, not, nat_lt}
use Rattle.std.specs.List.{list_all}
use Rattle.std.proofs.lemmas.List.{map-append, take-append-drop}
use Rattle.std.proofs.lemmas.Bool.Decides.{nat_tests}
use Rattle.toml.specs.Data.{Data}
use Rattle.toml.specs.View.{view}
use Rattle.toml.specs.declared.value.Value.{Value}
use Rattle.mgs_model.specs.Names.{same_name}
use Rattle.mgs_model.specs.Access.{Directory, is_among}
use Rattle.mgs_buffers.specs.MarkedBuffer.{MarkedBuffer, has_buffer, marked_named}
use Rattle.mgs_config.specs.declared.config_fault.TableFault.{TableFault}
use Rattle.mgs_config.specs.Faults.{first_fault}
use Rattle.mgs_config.specs.Buffers.{name_of, are_known, listed, path_of, written, is_entry, refused_where, names_refused, contents_refused, or_else, buffer_refused}
use Rattle.mgs_config.specs.Files.{Tells, Gives, GivesNoMore, file_fault, table_refused, IsTableFault, IsAdded, AreBuffers, IsTextFrom, IsTextOf, buffer_of, IsBufferFault}
use Rattle.mgs_config.proofs.Firsts.{rows_before, rows_from, rows_more, rows_less, rows_count, none_more}

few_if : {A : Type 0} (listed : Bool) (n : ℕ) (x y : A) (rest : Option A) → cond (not listed) (Some x) (cond (nat_lt 64 n) (Some y) rest) ≡ None → n ≤ 64
few_if true n x y rest h = grind (arith, nat_tests)
few_if false n x y rest h = absurd (cc)

few_contents : (count : ℕ) (row : Data) → contents_refused count row ≡ None → length (listed row) ≤ 64
few_contents count row h = few_if (list_all is_entry (listed row)) (length (listed row)) _ _ _ h

few_after : (names : Option TableFault) (taken known : Bool) (count : ℕ) (row : Data) → names_refused taken known row ≡ names → refused_where taken known count row ≡ None → length (listed row) ≤ 64
few_after None taken known count row e h = few_contents count row (rw e at h)
few_after (Some fault) taken known count row e h =
    let no : Some fault ≡ None = rw e at h in
    absurd (cc)

pub listed_few : (taken known : Bool) (count : ℕ) (row : Data) → refused_where taken known count row ≡ None → length (listed row) ≤ 64
listed_few taken known count row h = few_after (names_refused taken known row) taken known count row refl h

-- WHAT STANDS SO FAR

last_added : (tells : Tells) (gives : Gives) (rows : List Data) (row : Data) (text : List ℕ) (ks : List MarkedBuffer) → AreBuffers tells gives rows ks → IsTextOf tells gives row text → AreBuffers tells gives (rows ++ row ∷ []) (ks ++ buffer_of row text ∷ [])
last_added tells gives [] row text [] h told = (record { text = text; same = refl; told = told }, tt)
last_added tells gives [] row text (k ∷ ks) h told = absurd h
last_added tells gives (r ∷ rows) row text [] h told = absurd h
last_added tells gives (r ∷ rows) row text (k ∷ ks) h told = (h.0, last_added tells gives rows row text ks h.1 told)

added_to : (tells : Tells) (gives : Gives) (rows : List Data) (row : Data) (ks new : List MarkedBuffer) → AreBuffers tells gives rows ks → IsAdded tells gives row ks new → AreBuffers tells gives (rows ++ row ∷ []) new
added_to tells gives rows row ks new h a = rw a.last (last_added tells gives rows row a.text ks h a.told)

-- WHAT FILES GIVE

text_kept : (tells : Tells) (now gives : Gives) (path : Option (List ℕ)) (written text : List ℕ) → GivesNoMore now gives → IsTextFrom tells now path written text → IsTextFrom tells gives path written text
text_kept tells now gives None written text kept h = h
text_kept tells now gives (Some path) written text kept h = record { told = h.told; given = kept path text h.given; few = h.few }

added_kept : (tells : Tells) (now gives : Gives) (row : Data) (ks new : List MarkedBuffer) → GivesNoMore now gives → IsAdded tells now row ks new → IsAdded tells gives row ks new
added_kept tells now gives row ks new kept a = record { text = a.text; last = a.last; told = text_kept tells now gives (path_of row) (written row) a.text kept a.told }

fault_kept : (own : Option TableFault) (tells : Tells) (now gives : Gives) (path : Option (List ℕ)) (fault : TableFault) → GivesNoMore now gives → IsTableFault own tells now path fault → IsTableFault own tells gives path fault
fault_kept (Some due) tells now gives path fault kept h = h
fault_kept None tells now gives None fault kept h = absurd h
fault_kept None tells now gives (Some path) fault kept h = record {
  told = h.told;
  given = λ is.
      let more = h.given is in
      record { text = more.text; given = kept path more.text more.given; long = more.long };
}

-- one buffer more
more_buffers : (tells : Tells) (gives : Gives) (rows : List Value) (i : ℕ) (d : Value) (ks new : List MarkedBuffer) → i < length rows → AreBuffers tells gives (rows_before rows i) ks
    → IsAdded tells gives (view (get_or rows i d)) ks new → AreBuffers tells gives (rows_before rows (i + 1)) new
more_buffers tells gives rows i d ks new within h a =
    rw (rows_more rows i d within) (added_to tells gives (rows_before rows i) (view (get_or rows i d)) ks new h a)

some_or : (b : Bool) (k : MarkedBuffer) (o : Option MarkedBuffer) → is_some (cond b (Some k) o) ≡ b || is_some o
some_or true k o = refl
some_or false k o = refl

has_same : (tells : Tells) (gives : Gives) (name : List ℕ) (rows : List Data) (ks : List MarkedBuffer) → AreBuffers tells gives rows ks → has_buffer name ks ≡ is_among name (map name_of rows)
has_same tells gives name [] [] h = refl
has_same tells gives name [] (k ∷ ks) h = absurd h
has_same tells gives name (row ∷ rows) [] h = absurd h
has_same tells gives name (row ∷ rows) (k ∷ ks) h =
    some_or (marked_named name k) k (find (marked_named name) ks)
    ∙ ap (λ b. b || has_buffer name ks) (ap (marked_named name) h.0.same)
    ∙ ap (λ b. same_name name (name_of row) || b) (has_same tells gives name rows ks h.1)

count_same : (tells : Tells) (gives : Gives) (rows : List Data) (ks : List MarkedBuffer) → AreBuffers tells gives rows ks → length ks ≡ length rows
count_same tells gives [] [] h = refl
count_same tells gives [] (k ∷ ks) h = absurd h
count_same tells gives (row ∷ rows) [] h = absurd h
count_same tells gives (row ∷ rows) (k ∷ ks) h = ap suc (count_same tells gives rows ks h.1)

refused_same : (tells : Tells) (gives : Gives) (directory : Directory) (before : List Data) (row : Data) (ks : List MarkedBuffer) → AreBuffers tells gives before ks
    → buffer_refused directory before row ≡ refused_where (has_buffer (name_of row) ks) (are_known directory row) (length ks) row
refused_same tells gives directory before row ks h = rw (has_same tells gives (name_of row) before ks h, count_same tells gives before ks h)

-- a table without a fault, and a file that has none
none_at : (own : Option TableFault) (of_file : Option TableFault) → own ≡ None → of_file ≡ None → or_else own of_file ≡ None
none_at None of_file own none = none
none_at (Some fault) of_file own none = absurd (cc)

-- AS THE LOOP HAS THEM

-- one buffer more
pub loop_buffers : (tells now : Tells) (gives left : Gives) (rows : List Value) (i : ℕ) (v : Value) (ks new : List MarkedBuffer) → i < length rows → v ≡ get_or rows i v → now ≡ tells → GivesNoMore left gives
    → AreBuffers tells gives (rows_before rows i) ks → IsAdded now left (view v) ks new → AreBuffers tells gives (rows_before rows (i + 1)) new
loop_buffers tells now gives left rows i v ks new within is same kept h a =
    let told : IsAdded tells left (view v) ks new = rw same at a in
    let added : IsAdded tells gives (view v) ks new = added_kept tells left gives (view v) ks new kept told in
    more_buffers tells gives rows i v ks new within h (subst (λ (x : Value). IsAdded tells gives (view x) ks new) is added)

-- one table more without a fault
pub loop_none : (tells now : Tells) (gives : Gives) (directory : Directory) (rows : List Value) (i : ℕ) (v : Value) (ks : List MarkedBuffer) → i < length rows → v ≡ get_or rows i v → now ≡ tells → AreBuffers tells gives (rows_before rows i) ks
    → refused_where (has_buffer (name_of (view v)) ks) (are_known directory (view v)) (length ks) (view v) ≡ None
    → file_fault now (path_of (view v)) ≡ None
    → first_fault (table_refused tells directory) [] (rows_before rows i) ≡ None → first_fault (table_refused tells directory) [] (rows_before rows (i + 1)) ≡ None
loop_none tells now gives directory rows i v ks within is same h own of_file none =
    let refused : table_refused tells directory (rows_before rows i) (view v) ≡ None = none_at _ _ (refused_same tells gives directory (rows_before rows i) (view v) ks h ∙ own) (rw same at of_file) in
    none_more (table_refused tells directory) rows i v within none (subst (λ (x : Value). table_refused tells directory (rows_before rows i) (view x) ≡ None) is refused)

split_at : (rows : List Value) (i : ℕ) (d : Value) → i < length rows → map view rows ≡ rows_before rows i ++ view (get_or rows i d) ∷ rows_from rows (i + 1)
split_at rows i d within =
    ap (map view) (sym (take-append-drop i rows)) ∙ map-append view (take i rows) (drop i rows) ∙ ap (λ rest. rows_before rows i ++ rest) (rows_less rows i d within)

-- a table that is refused
pub loop_refused : (tells now : Tells) (gives left : Gives) (directory : Directory) (rows : List Value) (i : ℕ) (v : Value) (ks : List MarkedBuffer) (fault : TableFault) → i < length rows → v ≡ get_or rows i v → now ≡ tells → GivesNoMore left gives
    → AreBuffers tells gives (rows_before rows i) ks
    → first_fault (table_refused tells directory) [] (rows_before rows i) ≡ None
    → IsTableFault (refused_where (has_buffer (name_of (view v)) ks) (are_known directory (view v)) (length ks) (view v)) now left (path_of (view v)) fault
    → IsBufferFault tells gives directory (map view rows) (i + 1, fault)
loop_refused tells now gives left directory rows i v ks fault within is same kept h none due =
    let own = refused_where (has_buffer (name_of (view v)) ks) (are_known directory (view v)) (length ks) (view v) in
    let told : IsTableFault own tells left (path_of (view v)) fault = rw same at due in
    let here : IsTableFault own tells gives (path_of (view v)) fault = fault_kept own tells left gives (path_of (view v)) fault kept told in
    record {
      before = rows_before rows i;
      row = view v;
      after = rows_from rows (i + 1);
      split = split_at rows i v within ∙ ap (λ x. rows_before rows i ++ view x ∷ rows_from rows (i + 1)) (sym is);
      number = ap (λ n. n + 1) (sym (rows_count rows i (omega arith)));
      none = none;
      due = subst (λ (own : Option TableFault). IsTableFault own tells gives (path_of (view v)) fault) (sym (refused_same tells gives directory (rows_before rows i) (view v) ks h)) here;
    }
