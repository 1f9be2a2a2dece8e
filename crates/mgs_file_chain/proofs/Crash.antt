-- What is found after each of the steps.
use Rattle.std.proofs.Common.{sym, Bool, true, false, ◌≡◌, ◌∙◌, ℕ, zero, suc, List, [], Option, None, Some, refl, ap, arith, inl, inr}
use Rattle.std.specs.Prelude.{Result, Ok, Err, OnOk, OnErr, is_some, take}
use Rattle.std.specs.Option.{option_map}
use Rattle.mgs_file_chain.specs.Names.{FindsOne, Follows, KeepsOld, Names, SettlesFound, after, done, file_kept, file_placed, found, kept_with, log_dropped, log_placed, renamed, settled}

renamed_none : (o : Option ℕ) → renamed o None ≡ o
renamed_none None = refl
renamed_none (Some f) = refl

-- there are four steps
done_no_more : (count : ℕ) (s : Names) → done (take count []) s ≡ s
done_no_more zero s = refl
done_no_more (suc count) s = refl

after_four : (s : Names) (number count : ℕ) → after number (suc (suc (suc (suc count)))) s ≡ after number 4 s
after_four s number count = done_no_more count (after number 4 s)

with_own_log : (s : Names) (new : ℕ) → ◌≡◌ {A = Option (ℕ × Option ℕ)} (Some (new, renamed s.next_log None)) (Some (new, s.next_log))
with_own_log s new = ap (λ (l : Option ℕ). Some (new, l)) (renamed_none s.next_log)

pub finds_one : FindsOne
finds_one s old new number zero is next = inl (rw is refl)
finds_one s old new number (suc zero) is next = inr (inl (rw is refl))
finds_one s old new number (suc (suc zero)) is next = inr (inr (rw next (with_own_log s new)))
finds_one s old new number (suc (suc (suc zero))) is next = inr (inr (rw next (with_own_log s new)))
finds_one s old new number (suc (suc (suc (suc count)))) is next = inr (inr (ap found (after_four s number count) ∙ rw next (with_own_log s new)))

pub keeps_old : KeepsOld
keeps_old s old number zero is = inl is
keeps_old s old number (suc zero) is = inl is
keeps_old s old number (suc (suc zero)) is = inr (ap (λ f. kept_with number f s.kept) is)
keeps_old s old number (suc (suc (suc zero))) is = inr (ap (λ f. kept_with number f s.kept) is)
keeps_old s old number (suc (suc (suc (suc count)))) is = inr (ap (λ (n : Names). n.kept) (after_four s number count) ∙ ap (λ f. kept_with number f s.kept) is)

abbrev names_of : Option ℕ → Option ℕ → Option ℕ → Option ℕ → List (ℕ × ℕ) → Names
names_of file log next next_log kept = record { file = file; log = log; next = next; next_log = next_log; kept = kept }

settles : (file log next next_log : Option ℕ) (kept : List (ℕ × ℕ)) → found (settled (names_of file log next next_log kept)) ≡ found (names_of file log next next_log kept)
settles (Some file) log next next_log kept = refl
settles None log None next_log kept = refl
settles None log (Some next) next_log kept = refl

pub settles_found : SettlesFound
settles_found s = settles s.file s.log s.next s.next_log s.kept

-- THE STEPS OF A RUN

unstepped : (number : ℕ) (k : Option Names) → k ≡ option_map (after number 0) k
unstepped number None = refl
unstepped number (Some s) = refl

twice : (number : ℕ) (k : Option Names) → option_map (file_kept number) (option_map log_dropped k) ≡ option_map (after number 2) k
twice number None = refl
twice number (Some s) = refl

thrice : (number : ℕ) (k : Option Names) → option_map log_placed (option_map (after number 2) k) ≡ option_map (after number 3) k
thrice number None = refl
thrice number (Some s) = refl

all_four : (number : ℕ) (k : Option Names) → option_map file_placed (option_map (after number 3) k) ≡ option_map (after number 4) k
all_four number None = refl
all_four number (Some s) = refl

pub follows_none : {V E : Type 0} (error : E) (number : ℕ) (k0 k1 : Option Names) → k1 ≡ k0 → Follows {V = V} (Err error) number k0 k1
follows_none error number k0 k1 same = record { count = 0; all = omega arith; names = same ∙ unstepped number k0 }

pub follows_one : {V E : Type 0} (error : E) (number : ℕ) (k0 k1 k2 : Option Names) → k1 ≡ option_map log_dropped k0 → k2 ≡ k1 → Follows {V = V} (Err error) number k0 k2
follows_one error number k0 k1 k2 p same = record { count = 1; all = omega arith; names = same ∙ p }

two : (number : ℕ) (k0 k1 k2 : Option Names) → k1 ≡ option_map log_dropped k0 → k2 ≡ option_map (file_kept number) k1 → k2 ≡ option_map (after number 2) k0
two number k0 k1 k2 p q = q ∙ (ap (option_map (file_kept number)) p ∙ twice number k0)

three : (number : ℕ) (k0 k1 k2 k3 : Option Names) → k1 ≡ option_map log_dropped k0 → k2 ≡ option_map (file_kept number) k1 → k3 ≡ option_map log_placed k2
    → k3 ≡ option_map (after number 3) k0
three number k0 k1 k2 k3 p q r = r ∙ (ap (option_map log_placed) (two number k0 k1 k2 p q) ∙ thrice number k0)

pub follows_two : {V E : Type 0} (error : E) (number : ℕ) (k0 k1 k2 k3 : Option Names) → k1 ≡ option_map log_dropped k0 → k2 ≡ option_map (file_kept number) k1 → k3 ≡ k2
    → Follows {V = V} (Err error) number k0 k3
follows_two error number k0 k1 k2 k3 p q same = record { count = 2; all = omega arith; names = same ∙ two number k0 k1 k2 p q }

-- the last step's answer is that of the run
pub follows_all : {V E : Type 0} (result : Result V E) (number : ℕ) (k0 k1 k2 k3 k4 : Option Names) → k1 ≡ option_map log_dropped k0 → k2 ≡ option_map (file_kept number) k1
    → k3 ≡ option_map log_placed k2 → OnOk result (k4 ≡ option_map file_placed k3) → OnErr result (k4 ≡ k3) → Follows result number k0 k4
follows_all (Ok value) number k0 k1 k2 k3 k4 p q r placed same =
    record { count = 4; all = refl; names = placed ∙ (ap (option_map file_placed) (three number k0 k1 k2 k3 p q r) ∙ all_four number k0) }
follows_all (Err error) number k0 k1 k2 k3 k4 p q r placed same = record { count = 3; all = omega arith; names = same ∙ three number k0 k1 k2 k3 p q r }

-- WHAT A CRASH LEFT

settled_with : (s : Names) (file : Option ℕ) → s.file ≡ file → is_some file ≡ true → settled s ≡ s
settled_with s None is there = cc
settled_with s (Some file) is there = rw is refl

settled_without : (s : Names) (file : Option ℕ) → s.file ≡ file → is_some file ≡ false → settled s ≡ file_placed (log_placed s)
settled_without s None is there = rw is refl
settled_without s (Some file) is there = cc

pub settled_there : (there : Bool) (k : Option Names) → ((s : Names) → k ≡ Some s → there ≡ is_some s.file) → there ≡ true → k ≡ option_map settled k
settled_there there None is has = refl
settled_there there (Some s) is has = ap (λ (n : Names). Some n) (sym (settled_with s s.file refl (sym (is s refl) ∙ has)))

settled_by : (there : Bool) (k : Option Names) → ((s : Names) → k ≡ Some s → there ≡ is_some s.file) → there ≡ false → option_map file_placed (option_map log_placed k) ≡ option_map settled k
settled_by there None is missing = refl
settled_by there (Some s) is missing = ap (λ (n : Names). Some n) (sym (settled_without s s.file refl (sym (is s refl) ∙ missing)))

pub settled_missing : {V E : Type 0} (result : Result V E) (there : Bool) (k0 k1 k2 : Option Names) → ((s : Names) → k0 ≡ Some s → there ≡ is_some s.file) → there ≡ false
    → k1 ≡ option_map log_placed k0 → OnOk result (k2 ≡ option_map file_placed k1) → OnOk result (k2 ≡ option_map settled k0)
settled_missing (Ok value) there k0 k1 k2 is missing p placed = placed ∙ (ap (option_map file_placed) p ∙ settled_by there k0 is missing)
settled_missing (Err error) there k0 k1 k2 is missing p placed = placed
