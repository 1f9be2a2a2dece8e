-- Labels whose sessions are open, and what an event of one of these sessions leaves of that.
use Rattle.std.proofs.Common.{◌≡◌, ℕ, nat_eq, Bool, true, false, cond, List, map, Option, Some, None, refl, sym, ap, subst, ◌∙◌}
use Rattle.std.specs.Prelude.{find, All, IsSome, is_some}
use Rattle.std.proofs.lemmas.Bool.{eqb-true}
use Rattle.std.proofs.lemmas.List.Elements.{All-weaker, All-map}
use Rattle.mgs_model.specs.World.{World, Session, find_session}
use Rattle.mgs_model.specs.Events.{is_open}
use Rattle.mgs_model.specs.declared.errors.Keyed.{Keyed}
use Rattle.mgs_model.specs.declared.errors.Keyed.TheVariants as keyed
use Rattle.mgs_births.specs.Telling.{StoreTold}
use Rattle.mgs_core.specs.Calls.{KeyedBy}
use Rattle.mgs_core.proofs.Ids.{All-found}
use Rattle.mgs_replay.specs.declared.client.Cause.{Cause}
use Rattle.mgs_replay.specs.Players.{Label, label, Standing, Never, Has, Gone, is_called, standing_of, session_now, gone}
use Rattle.mgs_replay.specs.Served.{AreApart}
use Rattle.mgs_replay.proofs.Labels.{both, HasNot, OnlyCalled, only_called, found_now}
use Rattle.mgs_replay.proofs.Staying.{Beside, beside_byte}

-- the session that a label has is open
unfoldable pub IsThere : World → Standing → Type 0
IsThere w Never = Unit {0}
IsThere w (Has id) = is_open id w ≡ true
IsThere w (Gone cause) = Unit {0}

abbrev pub AreThere : World → List Label → Type 0
AreThere w ls = All (λ (x : Label). IsThere w x.standing) ls

-- the session that a label has
pub there_now : (w : World) (name : List ℕ) (id : ℕ) (ls : List Label) → session_now (standing_of name ls) ≡ Some id → AreThere w ls → is_open id w ≡ true
unfolding IsThere
there_now w name id ls now h =
    let z = found_now (find (is_called name) ls) id now in
    subst (IsThere w) z.2 (All-found (λ (x : Label). IsThere w x.standing) (is_called name) ls z.0 h z.1)

-- ALL SESSIONS STAY

there_kept : (w v : World) → ((id : ℕ) → is_open id w ≡ true → is_open id v ≡ true) → (s : Standing) → IsThere w s → IsThere v s
unfolding IsThere
there_kept w v keeps Never h = tt
there_kept w v keeps (Has id) h = keeps id h
there_kept w v keeps (Gone cause) h = tt

pub are_kept : (w v : World) (ls : List Label) → ((id : ℕ) → is_open id w ≡ true → is_open id v ≡ true) → AreThere w ls → AreThere v ls
are_kept w v ls keeps h = All-weaker (λ y. IsThere w y.standing) (λ y. IsThere v y.standing) (λ y. there_kept w v keeps y.standing) ls h

stays_beside : (w v : World) (id mine : ℕ) → Beside id w v → is_open id v ≡ true → is_open mine w ≡ true → is_open mine v ≡ true
stays_beside w v id mine beside still h = go (nat_eq id mine) refl
  where
    go : (b : Bool) → nat_eq id mine ≡ b → is_open mine v ≡ true
    go true e = ap (λ n. is_open n v) (sym (eqb-true _ _ e)) ∙ still
    go false e = beside.others mine e ∙ h

-- the session of the event stays open
pub are_still : (w v : World) (id : ℕ) (ls : List Label) → Beside id w v → is_open id v ≡ true → AreThere w ls → AreThere v ls
are_still w v id ls beside still h = are_kept w v ls (λ mine there. stays_beside w v id mine beside still there) h

-- ONE SESSION ENDS, AND SO DOES ITS LABEL'S

there_gone : (w v : World) (name : List ℕ) (id : ℕ) (cause : Cause) → Beside id w v → (x : Label) → OnlyCalled name id x → IsThere w x.standing → IsThere v (gone name cause x).standing
unfolding IsThere HasNot OnlyCalled
there_gone w v name id cause beside x only h = go (is_called name x) refl
  where
    by : (s : Standing) → HasNot id s → IsThere w s → IsThere v s
    by Never n t = tt
    by (Has mine) n t = beside.others mine n ∙ t
    by (Gone c) n t = tt

    go : (b : Bool) → is_called name x ≡ b → IsThere v (cond b (label x.name (Gone cause)) x).standing
    go true e = tt
    go false e = by x.standing (only e) h

pub are_gone : (w v : World) (name : List ℕ) (id : ℕ) (cause : Cause) (ls : List Label) → Beside id w v → session_now (standing_of name ls) ≡ Some id → AreApart ls → AreThere w ls → AreThere v (map (gone name cause) ls)
are_gone w v name id cause ls beside now apart h =
    let z = found_now (find (is_called name) ls) id now in
    All-map (λ (y : Label). IsThere v y.standing) (gone name cause) ls
    (both (OnlyCalled name id) (λ y. IsThere w y.standing) (λ y. IsThere v (gone name cause y).standing) (λ y. there_gone w v name id cause beside y) ls
    (only_called name id ls z.0 z.1 z.2 apart) h)

-- A BYTE: by the worlds before and after it

pub keyed_beside : {before after : StoreTold} (w v : World) (id byte : ℕ) (k : Keyed) → KeyedBy w v before after id byte k → Beside id w v
keyed_beside w v id byte k by = subst (Beside id w) (sym by.step) (beside_byte id byte by.stored by.stop w)

open_unless : (o p : Option Session) (k : Keyed) → is_some o ≡ true → (k ≡ keyed.Quit → ⊥) → (IsSome o × (p ≡ None) → k ≡ keyed.Quit) → is_some p ≡ true
open_unless o None k there other quits = absurd (other (quits (there, refl)))
open_unless o (Some y) k there other quits = refl

-- its session is open but where it is told that it ended
pub keyed_still : {before after : StoreTold} (w v : World) (id byte : ℕ) (k : Keyed) → KeyedBy w v before after id byte k → is_open id w ≡ true → (k ≡ keyed.Quit → ⊥) → is_open id v ≡ true
keyed_still w v id byte k by there other = open_unless (find_session id w.sessions) (find_session id v.sessions) k there other by.quit.1
