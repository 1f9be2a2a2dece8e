-- Commands by name: those of two tables, which are the model's.
use Rattle.std.proofs.Common.{◌≡◌, ℕ, ◌≤◌, Bool, true, false, ◌&&◌, cond, List, [], ◌∷◌, ◌++◌, map, length, Option, Some, None, refl, sym, ap, subst, ◌∙◌, arith}
use Rattle.std.proofs.lemmas.Bool.{eqb-true, lt-ltb}
use Rattle.std.specs.Prelude.{◌==◌, filter, find, fold, nat_lt, IfSome}
use Rattle.std.specs.List.{list_all}
use Rattle.std.specs.Option.{option_map, option_or}
use Rattle.std.proofs.lemmas.List.Sums.{fold-append}
use Rattle.std.proofs.lemmas.List.Folds.{find-append}
use Rattle.mgs_model.specs.Names.{same_name}
use Rattle.mgs_model.specs.Keys.{KeyRow, key_rows}
use Rattle.mgs_model.specs.Commands.{keyless_rows, has_name, command_rows, find_command, command_names}
use Rattle.mgs_model.specs.Completion.{completion}
use Rattle.mgs_mini.specs.Narrowing.{narrowed}
use Rattle.mgs_mini.proofs.Completions.{completion_by_names, completion_within}
use Rattle.mgs_model.specs.declared.session.Command.{Command}
use Rattle.mgs_maps.specs.declared.table.Binding.{Binding}
use Rattle.mgs_maps.specs.Held.{is_bound}
use Rattle.mgs_maps.specs.Table.{rows_of, named_row, narrowed_row}
use Rattle.mgs_maps.proofs.Rows.{found_in}

-- A COMMAND IN TWO TABLES

is_longer : (n : ℕ) (ns : List ℕ) → nat_lt 0 (length (n ∷ ns)) ≡ true
is_longer n ns = lt-ltb 0 (length (n ∷ ns)) (omega arith)

-- only a row that has a name has one that is not empty
found_named : (c : ℕ) (cs : List ℕ) (rs : List KeyRow) → find (λ (r : KeyRow). same_name (c ∷ cs) r.name) (filter has_name rs) ≡ find (λ (r : KeyRow). same_name (c ∷ cs) r.name) rs
found_named c cs [] = refl
found_named c cs (r ∷ rs) = at (found_named c cs rs) r.name refl
  where
    p : KeyRow → Bool
    p s = same_name (c ∷ cs) s.name

    rest : List KeyRow
    rest = filter has_name rs

    at : find p rest ≡ find p rs → (k : List ℕ) → r.name ≡ k → find p (cond (nat_lt 0 (length r.name)) (r ∷ rest) rest) ≡ cond (same_name (c ∷ cs) r.name) (Some r) (find p rs)
    at later [] e =
        ap (λ (k : List ℕ). find p (cond (nat_lt 0 (length k)) (r ∷ rest) rest)) e
        ∙ later
        ∙ sym (ap (λ (k : List ℕ). cond (same_name (c ∷ cs) k) (Some r) (find p rs)) e)
    at later (n ∷ ns) e =
        ap (λ (k : List ℕ). find p (cond (nat_lt 0 (length k)) (r ∷ rest) rest)) e
        ∙ ap (λ (t : Bool). find p (cond t (r ∷ rest) rest)) (is_longer n ns)
        ∙ ap (λ (o : Option KeyRow). cond (same_name (c ∷ cs) r.name) (Some r) o) later

none_named : (rs : List KeyRow) → find (λ (r : KeyRow). same_name [] r.name) (filter has_name rs) ≡ None
none_named [] = refl
none_named (r ∷ rs) = at (none_named rs) r.name refl
  where
    p : KeyRow → Bool
    p s = same_name [] s.name

    rest : List KeyRow
    rest = filter has_name rs

    at : find p rest ≡ None → (k : List ℕ) → r.name ≡ k → find p (cond (nat_lt 0 (length r.name)) (r ∷ rest) rest) ≡ None
    at later [] e = ap (λ (k : List ℕ). find p (cond (nat_lt 0 (length k)) (r ∷ rest) rest)) e ∙ later
    at later (n ∷ ns) e =
        ap (λ (k : List ℕ). find p (cond (nat_lt 0 (length k)) (r ∷ rest) rest)) e
        ∙ ap (λ (t : Bool). find p (cond t (r ∷ rest) rest)) (is_longer n ns)
        ∙ ap (λ (k : List ℕ). cond (same_name [] k) (Some r) (find p rest)) e
        ∙ later

either : {A B : Type 0} (f : A → B) (a b : Option A) → option_map f (option_or a b) ≡ option_or (option_map f a) (option_map f b)
either f None b = refl
either f (Some a) b = refl

pub no_name : (name : List ℕ) → (length name == 0) ≡ true → None ≡ find_command name
unfolding find_command
no_name [] e = sym (ap (option_map (λ (r : KeyRow). r.command)) (none_named (key_rows ++ keyless_rows)))
no_name (c ∷ cs) e = let none : length (c ∷ cs) ≡ 0 = eqb-true (length (c ∷ cs)) 0 e in absurd (omega (arith, none))

pub in_rows : (name : List ℕ) (bs : List Binding) → option_map (λ (b : Binding). b.command) (find (λ (b : Binding). same_name name b.name.now) bs) ≡ named_row name (rows_of bs)
in_rows name bs = sym (found_in (λ (r : KeyRow). same_name name r.name) bs)

pub in_tables : (name : List ℕ) (ts us : List KeyRow) → ts ≡ key_rows → us ≡ keyless_rows → (length name == 0) ≡ false → option_or (named_row name ts) (named_row name us) ≡ find_command name
unfolding find_command
in_tables [] ts us t_is u_is some = cc
in_tables (c ∷ k) ts us t_is u_is some =
    let p : KeyRow → Bool = λ r. same_name (c ∷ k) r.name in
    let command : KeyRow → Command = λ r. r.command in
    ap (λ rs. option_or (named_row (c ∷ k) rs) (named_row (c ∷ k) us)) t_is
    ∙ ap (λ rs. option_or (named_row (c ∷ k) key_rows) (named_row (c ∷ k) rs)) u_is
    ∙ sym (either command (find p key_rows) (find p keyless_rows))
    ∙ ap (option_map command) (sym (find-append p key_rows keyless_rows) ∙ sym (found_named c k (key_rows ++ keyless_rows)))

-- WHAT THEIR NAMES HAVE IN COMMON

names_by_rows : (input : List ℕ) (found : Option (List ℕ)) (rs : List KeyRow) → fold (narrowed_row input) found rs ≡ fold (narrowed input) found (map (λ (r : KeyRow). r.name) (filter has_name rs))
names_by_rows input found [] = refl
names_by_rows input found (r ∷ rs) =
    elim (has_name r) as (λ t. fold (narrowed_row input) (cond t (narrowed input found r.name) found) rs ≡ fold (narrowed input) found (map (λ (r : KeyRow). r.name) (cond t (r ∷ filter has_name rs) (filter has_name rs)))) [
      | true ↦ names_by_rows input (narrowed input found r.name) rs
      | false ↦ names_by_rows input found rs
    ]

pub by_rows : (input : List ℕ) (bs cs : List Binding) → rows_of bs ≡ key_rows → rows_of cs ≡ keyless_rows → fold (narrowed_row input) (fold (narrowed_row input) None (rows_of bs)) (rows_of cs) ≡ completion command_names input
unfolding command_names
by_rows input bs cs b_is c_is =
    ap (λ rs. fold (narrowed_row input) (fold (narrowed_row input) None rs) (rows_of cs)) b_is
    ∙ ap (fold (narrowed_row input) (fold (narrowed_row input) None key_rows)) c_is
    ∙ sym (fold-append (narrowed_row input) None key_rows keyless_rows)
    ∙ names_by_rows input None (key_rows ++ keyless_rows)
    ∙ completion_by_names input command_names

-- WHAT IS FOUND IS BOUND

both : (a b : Bool) → (a && b) ≡ true → (a ≡ true) × (b ≡ true)
both true b h = (refl, h)
both false b h = cc

row_is_bound : (p : KeyRow → Bool) (rs : List KeyRow) → list_all (λ (r : KeyRow). is_bound r.command) rs ≡ true → IfSome (option_map (λ (r : KeyRow). r.command) (find p rs)) (λ c. is_bound c ≡ true)
row_is_bound p [] h = tt
row_is_bound p (r ∷ rs) h =
    let parts : (is_bound r.command ≡ true) × (list_all (λ (r : KeyRow). is_bound r.command) rs ≡ true) = both (is_bound r.command) (list_all (λ (r : KeyRow). is_bound r.command) rs) h in
    elim (p r) as (λ t. IfSome (option_map (λ (r : KeyRow). r.command) (cond t (Some r) (find p rs))) (λ c. is_bound c ≡ true)) [
      | true ↦ parts.0
      | false ↦ row_is_bound p rs parts.1
    ]

pub found_is_bound : (name : List ℕ) (o : Option Command) → o ≡ find_command name → IfSome o (λ c. is_bound c ≡ true)
unfolding find_command
found_is_bound name o is = subst (λ (o : Option Command). IfSome o (λ c. is_bound c ≡ true)) (sym is) (row_is_bound (λ (r : KeyRow). same_name name r.name) command_rows refl)

-- ROOM

pub names_are_short : (input : List ℕ) (o : Option (List ℕ)) → o ≡ completion command_names input → IfSome o (λ text. length text ≤ 120)
unfolding command_names
names_are_short input o is = subst (λ (o : Option (List ℕ)). IfSome o (λ text. length text ≤ 120)) (sym is) (completion_within 120 command_names input refl)
