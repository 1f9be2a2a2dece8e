-- What repeats is equal, and an equal denial or refused login repeats.
use Rattle.std.proofs.Common.{◌≡◌, ◌∙◌, ℕ, true, false, Bool, List, refl, sym, ap, ap₂, subst, rules}
use Rattle.std.specs.Prelude.{◌&&◌, ◌==◌, cond}
use Rattle.mgs_model.specs.Names.{same_name}
use Rattle.mgs_model.specs.Rights.{bit_of}
use Rattle.mgs_model.specs.declared.entry.Decision.{Decision}
use Rattle.mgs_model.specs.declared.entry.Decision.TheVariants.{Granted, DeniedBy, NotGranted}
use Rattle.mgs_model.specs.declared.right.Right.{Right}
use Rattle.mgs_model.specs.declared.right.Right.TheVariants.{ReadData, WriteData, AppendData, ReadAttributes, Delete, ReadAcl, WriteAcl, WriteOwner}
use Rattle.mgs_model.proofs.Blind as blind
use Rattle.mgs_wire.specs.declared.refusal.Refusal.{Refusal}
use Rattle.mgs_wire.specs.declared.refusal.Refusal.TheVariants.{Line, NoUser, Ticket, Size, Full, Short}
use Rattle.mgs_journal.specs.declared.Told.{Told}
use Rattle.mgs_journal.specs.declared.Told.TheVariants as told
use Rattle.mgs_ledger.specs.Counting.{cause_number, is_countable, is_denial_of, is_refusal_of, is_repeat, is_unnamed_refusal_of, same_cause, same_decision}

eq_of : (a b : ℕ) → (a == b) ≡ true → a ≡ b
eq_of a b e = search rules

self : (a : ℕ) → (a == a) ≡ true
self a = search rules

-- both tests passed
pub left : (a b : Bool) → (a && b) ≡ true → a ≡ true
left true b e = refl
left false b e = absurd cc

pub right : (a b : Bool) → (a && b) ≡ true → b ≡ true
right true b e = e
right false b e = absurd cc

both : (a b : Bool) → a ≡ true → b ≡ true → (a && b) ≡ true
both a b e f = ap₂ (λ x y. x && y) e f

-- the right of a bit
right_of : ℕ → Right
right_of bit = cond (bit == 1) ReadData (cond (bit == 2) WriteData (cond (bit == 4) AppendData (cond (bit == 128) ReadAttributes (cond (bit == 65536) Delete (cond (bit == 131072) ReadAcl (cond (bit == 262144) WriteAcl WriteOwner))))))

right_back : (r : Right) → right_of (bit_of r) ≡ r
unfolding right_of
right_back ReadData = refl
right_back WriteData = refl
right_back AppendData = refl
right_back ReadAttributes = refl
right_back Delete = refl
right_back ReadAcl = refl
right_back WriteAcl = refl
right_back WriteOwner = refl

same_right : (a b : Right) → (bit_of a == bit_of b) ≡ true → a ≡ b
same_right a b e = sym (right_back a) ∙ (ap right_of (eq_of (bit_of a) (bit_of b) e) ∙ right_back b)

-- the cause of a number
cause_of : ℕ → Refusal
cause_of n = cond (n == 1) Line (cond (n == 2) NoUser (cond (n == 3) Ticket (cond (n == 4) Size (cond (n == 5) Full Short))))

cause_back : (c : Refusal) → cause_of (cause_number c) ≡ c
unfolding cause_of
cause_back Line = refl
cause_back NoUser = refl
cause_back Ticket = refl
cause_back Size = refl
cause_back Full = refl
cause_back Short = refl

one_cause : (a b : Refusal) → same_cause a b ≡ true → a ≡ b
one_cause a b e = sym (cause_back a) ∙ (ap cause_of (eq_of (cause_number a) (cause_number b) e) ∙ cause_back b)

one_decision : (a b : Decision) → same_decision a b ≡ true → a ≡ b
one_decision Granted Granted e = refl
one_decision Granted (DeniedBy n r) e = absurd cc
one_decision Granted (NotGranted r) e = absurd cc
one_decision (DeniedBy n r) Granted e = absurd cc
one_decision (DeniedBy n r) (DeniedBy m q) e =
    ap₂ (λ k p. DeniedBy k p) (eq_of n m (left (n == m) (bit_of r == bit_of q) e)) (same_right r q (right (n == m) (bit_of r == bit_of q) e))
one_decision (DeniedBy n r) (NotGranted q) e = absurd cc
one_decision (NotGranted r) Granted e = absurd cc
one_decision (NotGranted r) (DeniedBy m q) e = absurd cc
one_decision (NotGranted r) (NotGranted q) e = ap (λ p. NotGranted p) (same_right r q e)

one_name : (a b : List ℕ) → same_name a b ≡ true → a ≡ b
one_name a b e = blind.same_names a b e

same_self : (a : List ℕ) → same_name a a ≡ true
same_self a = search rules

decision_self : (d : Decision) → same_decision d d ≡ true
decision_self Granted = refl
decision_self (DeniedBy n r) = both (n == n) (bit_of r == bit_of r) (self n) (self (bit_of r))
decision_self (NotGranted r) = self (bit_of r)

one_denial : (user buffer : List ℕ) (d : Decision) (t : Told) → is_denial_of user buffer d t ≡ true → told.Denied user buffer d ≡ t
one_denial user buffer d (told.Denied other b f) e =
    let rest = right (same_name user other) (same_name buffer b && same_decision d f) e in
    ap₂ (λ n k. told.Denied n buffer k) (one_name user other (left (same_name user other) (same_name buffer b && same_decision d f) e)) (one_decision d f (right (same_name buffer b) (same_decision d f) rest))
    ∙ ap (λ n. told.Denied other n f) (one_name buffer b (left (same_name buffer b) (same_decision d f) rest))
one_denial user buffer d t e = absurd cc

one_refusal : (user : List ℕ) (c : Refusal) (t : Told) → is_refusal_of user c t ≡ true → told.Refused user c ≡ t
one_refusal user c (told.Refused other b) e =
    ap₂ (λ n k. told.Refused n k) (one_name user other (left (same_name user other) (same_cause c b) e)) (one_cause c b (right (same_name user other) (same_cause c b) e))
one_refusal user c t e = absurd cc

one_unnamed : (c : Refusal) (t : Told) → is_unnamed_refusal_of c t ≡ true → told.RefusedUnnamed c ≡ t
one_unnamed c (told.RefusedUnnamed b) e = ap (λ k. told.RefusedUnnamed k) (one_cause c b e)
one_unnamed c t e = absurd cc

pub equal : (a b : Told) → is_repeat a b ≡ true → a ≡ b
equal (told.Denied user buffer d) b e = one_denial user buffer d b e
equal (told.Refused user c) b e = one_refusal user c b e
equal (told.RefusedUnnamed c) b e = one_unnamed c b e
equal a b e = absurd cc

repeats_self : (a : Told) → is_countable a ≡ true → is_repeat a a ≡ true
repeats_self (told.Denied user buffer d) e =
    both (same_name user user) (same_name buffer buffer && same_decision d d) (same_self user) (both (same_name buffer buffer) (same_decision d d) (same_self buffer) (decision_self d))
repeats_self (told.Refused user c) e = both (same_name user user) (same_cause c c) (same_self user) (self (cause_number c))
repeats_self (told.RefusedUnnamed c) e = self (cause_number c)
repeats_self a e = absurd cc

-- what repeats is equal
pub repeats_are_equal : (a b : Told) (answer : Bool) → answer ≡ is_repeat a b → answer ≡ true → a ≡ b
repeats_are_equal a b answer is e = equal a b (sym is ∙ e)

-- an equal denial or refused login repeats
pub equal_repeats : (a b : Told) (answer : Bool) → answer ≡ is_repeat a b → a ≡ b → is_countable a ≡ true → answer ≡ true
equal_repeats a b answer is e f = is ∙ subst (λ t. is_repeat a t ≡ true) e (repeats_self a f)
