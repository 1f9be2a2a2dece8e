-- Lines that are printed.
use Rattle.std.proofs.Common.{◌≡◌, ℕ, ◌+◌, ◌-◌, ◌^◌, min, List, [], ◌++◌, take, drop, Option, None, Some, refl, sym, ap, ◌∙◌, subst, inl, inr, ◌⊎◌, append_assoc, append-nil}
use Rattle.std.specs.Prelude.{Result, Ok, Err, OnOk, OnErr}
use Rattle.std.specs.Io.KnownBytes.{Appends}
use Rattle.mgs_keeper.specs.Printing.{Announces, IsAdded, PrintsLine, Sends, SendsCount, count_due}

-- appended one after the other
appends_both : (a b c : Option (List ℕ)) (xs ys : List ℕ) → Appends a b xs → Appends b c ys → Appends a c (xs ++ ys)
appends_both None b c xs ys one two = tt
appends_both (Some a) None c xs ys one two = absurd one
appends_both (Some a) (Some b) None xs ys one two = absurd two
appends_both (Some a) (Some b) (Some c) xs ys one two = two ∙ ap (λ x. x ++ ys) one ∙ append_assoc a xs ys

-- nothing is
appends_none : (a : Option (List ℕ)) → Appends a a []
appends_none None = tt
appends_none (Some a) = sym (append-nil a)

-- nothing was written yet
pub sends_none : (a : Option (List ℕ)) (waiting : List ℕ) → Sends a waiting a waiting
sends_none a waiting = record { part = []; shape = refl; written = appends_none a }

-- what waits is sent, more is put behind what is left, and that is sent
pub sends_both : (a b c : Option (List ℕ)) (waiting mid added left : List ℕ) → Sends a waiting b mid → Sends b (mid ++ added) c left → Sends a (waiting ++ added) c left
sends_both a b c waiting mid added left one two =
    record {
      part = one.part ++ two.part;
      shape = ap (λ w. w ++ added) one.shape ∙ append_assoc one.part mid added ∙ ap (λ x. one.part ++ x) two.shape ∙ sym (append_assoc one.part two.part left);
      written = appends_both a b c one.part two.part one.written two.written;
    }

-- it is sent again
pub sends_on : (a b c : Option (List ℕ)) (waiting mid left : List ℕ) → Sends a waiting b mid → Sends b mid c left → Sends a waiting c left
sends_on a b c waiting mid left one two =
    record {
      part = one.part ++ two.part;
      shape = one.shape ∙ ap (λ x. one.part ++ x) two.shape ∙ sym (append_assoc one.part two.part left);
      written = appends_both a b c one.part two.part one.written two.written;
    }

-- a line is put behind what was not taken, or counted, and sent
pub prints_line : {O : Type 0} (written : O → Option (List ℕ)) (line : List ℕ) (a b b2 c : O) (waiting mid put left : List ℕ) (missed next : ℕ)
    → Sends (written a) waiting (written b) mid → b2 ≡ b → ((added : List ℕ) × IsAdded missed line added next × (put ≡ mid ++ added)) → Sends (written b2) put (written c) left
    → PrintsLine line (written a) waiting missed (written c) left next
prints_line {O = O} written line a b b2 c waiting mid put left missed next one same adds two =
    record {
      added = adds.0;
      adds = adds.1;
      sends = sends_both (written a) (written b) (written c) waiting mid adds.0 left one
          (subst (λ (w : List ℕ). Sends (written b) w (written c) left) adds.2 (subst (λ (o : O). Sends (written o) put (written c) left) same two));
    }

-- the count is put behind what was taken whole, and sent, or memory is refused
pub sends_count : {O E : Type 0} (written : O → Option (List ℕ)) (r : Result Unit E) (a b c : O) (waiting mid left : List ℕ) (missed next : ℕ)
    → Sends (written a) waiting (written b) mid
    → OnOk r (Announces [] (written b) mid missed (written c) left next)
    → OnErr r ((c ≡ b) × (left ≡ mid) × (next ≡ missed))
    → SendsCount (written a) waiting missed (written c) left next
sends_count written (Ok x) a b c waiting mid left missed next one done failed =
    inr (
      subst (λ (w : List ℕ). Sends (written a) (waiting ++ w) (written c) left) (append-nil (count_due missed))
          (sends_both (written a) (written b) (written c) waiting mid (count_due missed ++ []) left one done.sends),
      done.none,
    )
sends_count written (Err e) a b c waiting mid left missed next one done failed =
    inl (subst (λ (w : List ℕ). Sends (written a) waiting (written c) w) (sym failed.1) (subst (λ o. Sends (written a) waiting (written o) mid) (sym failed.0) one), failed.2)

-- nothing waits after it, or the outlet takes nothing
pub count_full : {O E : Type 0} (full : O → Type 0) (r : Result Unit E) (b c : O) (mid left : List ℕ) (missed next : ℕ) → mid ≡ []
    → OnOk r ((left ≡ []) ⊎ full c) → OnErr r ((c ≡ b) × (left ≡ mid) × (next ≡ missed)) → (left ≡ []) ⊎ full c
count_full full (Ok x) b c mid left missed next none done failed = done
count_full full (Err e) b c mid left missed next none done failed = inl (failed.1 ∙ none)
