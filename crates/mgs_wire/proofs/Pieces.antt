-- Bytes that are read in two pieces, and in one.
use Rattle.std.proofs.Common.{◌≡◌, ℕ, Bool, true, false, nat_le, MatchBool, List, [], ◌∷◌, ◌++◌, length, Option, Some, None, Result, Ok, Err, refl, sym, ap, ◌∙◌, subst, append_assoc, arith}
use Rattle.std.proofs.lemmas.Bool.{lt-leb, leb-false}
use Rattle.mgs_model.specs.declared.errors.OpenFault.{OpenFault}
use Rattle.mgs_model.specs.declared.errors.Keyed.{Keyed}
use Rattle.mgs_wire.specs.declared.login.TheConstants.{LOGIN_LIMIT}
use Rattle.mgs_wire.specs.declared.refusal.Refusal.{Refusal}
use Rattle.mgs_wire.specs.declared.refusal.Refusal.TheVariants as refusals
use Rattle.mgs_wire.specs.Login.{Opening, line_in, after_line, admission, name_in, refusal_of}
use Rattle.mgs_wire.specs.Calls.{Call, Byte, Refuse, Typed}
use Rattle.mgs_wire.specs.Connections.{Connection, Logging_in, Serving, Refused, Over, refused, Answered, TurnsAway, Enters, Continues, ReadsLogin, Receives, ReadsInPieces}
use Rattle.mgs_wire.proofs.Feeds.{line_in_whole, line_in_stays, after_line_stays, line_in_grows}

-- what a byte of an open session is followed by
abbrev Goes : {E : Type 0} → (E → Call → E → Type 0) → (ℕ → E → Bool) → ℕ → ℕ → List ℕ → E → E → Type 0
Goes {E = E} does live id b bs old new = (answer : Keyed) × (mid : E) × does old (Byte id b answer) mid × Typed does live id bs mid new

-- nothing is typed where the session is not open
none_typed : {E : Type 0} (does : E → Call → E → Type 0) (live : ℕ → E → Bool) (id : ℕ) (bytes : List ℕ) (old new : E) → live id old ≡ false → Typed does live id bytes old new → new ≡ old
none_typed does live id [] old new e t = t
none_typed {E} does live id (b ∷ bs) old new e t =
    subst (λ v. MatchBool v (Goes does live id b bs old new) (new ≡ old)) e t

typed_step : {E : Type 0} (does : E → Call → E → Type 0) (live : ℕ → E → Bool) (id b : ℕ) (xs ys : List ℕ) (old now new : E)
    → ((mid : E) → Typed does live id xs mid now → Typed does live id (xs ++ ys) mid new)
    → (v : Bool) → live id old ≡ v → MatchBool v (Goes does live id b xs old now) (now ≡ old) → Typed does live id ys now new → MatchBool v (Goes does live id b (xs ++ ys) old new) (new ≡ old)
typed_step does live id b xs ys old now new more true e p q = (p.0, p.1, p.2, more p.1 p.3)
typed_step does live id b xs ys old now new more false e p q = none_typed does live id ys now new (ap (live id) p ∙ e) q ∙ p

-- keys in two pieces are those of one
typed_append : {E : Type 0} (does : E → Call → E → Type 0) (live : ℕ → E → Bool) (id : ℕ) (xs ys : List ℕ) (old now new : E)
    → Typed does live id xs old now → Typed does live id ys now new → Typed does live id (xs ++ ys) old new
typed_append does live id [] ys old now new p q = subst (λ s. Typed does live id ys s new) p q
typed_append does live id (x ∷ xs) ys old now new p q =
    typed_step does live id x xs ys old now new (λ mid t. typed_append does live id xs ys mid now new t q) (live id old) refl p q

-- a refused connection drops what is read
drops : {E : Type 0} (does : E → Call → E → Type 0) (live : ℕ → E → Bool) (tickets : List (List ℕ × List ℕ)) (ys : List ℕ) (r : Refusal) (mid next : Connection) (old now new : E)
    → (mid ≡ refused r) × (now ≡ old) → Receives does live tickets ys mid now next new → (next ≡ refused r) × (new ≡ old)
drops does live tickets ys r mid next old now new p q =
    let d = subst (λ c. Receives does live tickets ys c now next new) p.0 q in
    (d.0, d.1 ∙ p.1)

-- so does one that was turned away
turned_append : {E : Type 0} (does : E → Call → E → Type 0) (live : ℕ → E → Bool) (tickets : List (List ℕ × List ℕ)) (ys name : List ℕ) (r : Refusal) (mid next : Connection) (old now new : E)
    → TurnsAway does name r old mid now → Receives does live tickets ys mid now next new → TurnsAway does name r old next new
turned_append does live tickets ys name r mid next old now new p q =
    let d = subst (λ c. Receives does live tickets ys c now next new) p.0 q in
    (d.0, subst (does old (Refuse name r)) (sym d.1) p.1)

answered_append : {E : Type 0} (does : E → Call → E → Type 0) (live : ℕ → E → Bool) (tickets : List (List ℕ × List ℕ)) (answer : Result ℕ OpenFault) (rest ys : List ℕ) (mid next : Connection) (old now new : E)
    → Answered does live answer rest old mid now → Receives does live tickets ys mid now next new → Answered does live answer (rest ++ ys) old next new
answered_append does live tickets (Ok id) rest ys mid next old now new p q =
    let d = subst (λ c. Receives does live tickets ys c now next new) p.0 q in
    (d.0, typed_append does live id rest ys old now new p.1 d.1)
answered_append does live tickets (Err fault) rest ys mid next old now new p q = drops does live tickets ys (refusal_of fault) mid next old now new p q

enters_append : {E : Type 0} (does : E → Call → E → Type 0) (live : ℕ → E → Bool) (tickets : List (List ℕ × List ℕ)) (name : List ℕ) (who : Result Opening Refusal) (rest ys : List ℕ) (mid next : Connection) (old now new : E)
    → Enters does live name who rest old mid now → Receives does live tickets ys mid now next new → Enters does live name who (rest ++ ys) old next new
enters_append does live tickets name (Ok o) rest ys mid next old now new p q = (p.0, p.1, p.2, answered_append does live tickets p.0 rest ys mid next p.1 now new p.3 q)
enters_append does live tickets name (Err r) rest ys mid next old now new p q = turned_append does live tickets ys name r mid next old now new p q

-- a line that goes on, or is whole
continues_append : {E : Type 0} (does : E → Call → E → Type 0) (live : ℕ → E → Bool) (tickets : List (List ℕ × List ℕ)) (bytes ys : List ℕ) (mid next : Connection) (old now new : E)
    → (v : nat_le (length (line_in bytes)) LOGIN_LIMIT ≡ true) → (o : Option (List ℕ)) → after_line bytes ≡ o → Continues does live tickets (line_in bytes) o old mid now → Receives does live tickets ys mid now next new → ReadsLogin does live tickets (bytes ++ ys) old next new
continues_append does live tickets bytes ys mid next old now new v None e p q =
    let d = subst (λ c. Receives does live tickets ys c now next new) p.0 q in
    subst (λ s. ReadsLogin does live tickets (bytes ++ ys) s next new) p.1 (subst (λ line. ReadsLogin does live tickets (line ++ ys) now next new) (line_in_whole bytes e) d)
continues_append does live tickets bytes ys mid next old now new v (Some rest) e p q =
    rw (line_in_stays bytes ys rest e, after_line_stays bytes ys rest e, v) (enters_append does live tickets (name_in (line_in bytes)) (admission tickets (line_in bytes)) rest ys mid next old now new p q)

-- a line that is too long stays so
long_append : (bytes ys : List ℕ) → nat_le (length (line_in bytes)) LOGIN_LIMIT ≡ false → nat_le (length (line_in (bytes ++ ys))) LOGIN_LIMIT ≡ false
long_append bytes ys e = lt-leb (length (line_in (bytes ++ ys))) LOGIN_LIMIT (omega (arith, leb-false (length (line_in bytes)) LOGIN_LIMIT e, line_in_grows bytes ys))

logs_in_append : {E : Type 0} (does : E → Call → E → Type 0) (live : ℕ → E → Bool) (tickets : List (List ℕ × List ℕ)) (bytes ys : List ℕ) (mid next : Connection) (old now new : E)
    → (v : Bool) → nat_le (length (line_in bytes)) LOGIN_LIMIT ≡ v
    → MatchBool v (Continues does live tickets (line_in bytes) (after_line bytes) old mid now) (TurnsAway does [] refusals.Line old mid now)
    → Receives does live tickets ys mid now next new → ReadsLogin does live tickets (bytes ++ ys) old next new
logs_in_append does live tickets bytes ys mid next old now new true e p q = continues_append does live tickets bytes ys mid next old now new e (after_line bytes) refl p q
logs_in_append does live tickets bytes ys mid next old now new false e p q = rw (long_append bytes ys e) (turned_append does live tickets ys [] refusals.Line mid next old now new p q)

-- the law
pub in_pieces : {E : Type 0} (does : E → Call → E → Type 0) (live : ℕ → E → Bool) → ReadsInPieces does live
in_pieces does live tickets xs ys (Logging_in line) mid next old now new p q =
    subst (λ bytes. ReadsLogin does live tickets bytes old next new) (append_assoc line xs ys) (logs_in_append does live tickets (line ++ xs) ys mid next old now new (nat_le (length (line_in (line ++ xs))) LOGIN_LIMIT) refl p q)
in_pieces does live tickets xs ys (Serving id) mid next old now new p q =
    let d = subst (λ c. Receives does live tickets ys c now next new) p.0 q in
    (d.0, typed_append does live id xs ys old now new p.1 d.1)
in_pieces does live tickets xs ys (Refused left) mid next old now new p q =
    let d = subst (λ c. Receives does live tickets ys c now next new) p.0 q in
    (d.0, d.1 ∙ p.1)
in_pieces does live tickets xs ys (Over session) mid next old now new p q =
    let d = subst (λ c. Receives does live tickets ys c now next new) p.0 q in
    (d.0, d.1 ∙ p.1)
