-- Which connections are closed since their login lines do not end.
use Rattle.std.proofs.Common.{◌≡◌, ◌≢◌, ℕ, Bool, true, false, Option, None, is_some, refl, sym, ap, subst, ◌∙◌, inl, inr}
use Rattle.std.proofs.lemmas.Bool.{cases_eq}
use Rattle.mgs_wire.specs.Connections.{Connection}
use Rattle.mgs_server.specs.Peers.{ClosesLogins, IsChanged, is_login}

pub none_closed : (s : ℕ → Option Connection) → ClosesLogins s s
none_closed s = record { gone = λ key n y. let f : false ≡ true = sym n ∙ y in absurd cc; kept = λ key y. refl }

pub same_closed : (old new : ℕ → Option Connection) → new ≡ old → ClosesLogins old new
same_closed old new e = subst (λ s. ClosesLogins old s) (sym e) (none_closed old)

gone_then : (key : ℕ) (old mid new : ℕ → Option Connection) → ClosesLogins old mid → ClosesLogins mid new → is_some (new key) ≡ false → is_some (old key) ≡ true → (v : Bool) → is_some (mid key) ≡ v → is_login (old key) ≡ true
gone_then key old mid new p q n y true e = ap is_login (sym (p.kept key e)) ∙ q.gone key n e
gone_then key old mid new p q n y false e = p.gone key e y

pub closed_then : (old mid new : ℕ → Option Connection) → ClosesLogins old mid → ClosesLogins mid new → ClosesLogins old new
closed_then old mid new p q = record {
  gone = λ key n y. gone_then key old mid new p q n y (is_some (mid key)) refl;
  kept = λ key y. q.kept key y ∙ p.kept key (ap is_some (sym (q.kept key y)) ∙ y);
}

-- where all but one key, and that one as well, have what they had, none was closed
pub kept_closed : (key : ℕ) (old new : ℕ → Option Connection) → ((k : ℕ) → k ≢ key → new k ≡ old k) → new key ≡ old key → ClosesLogins old new
kept_closed key old new others same =
    let all : (k : ℕ) → new k ≡ old k = λ k.
    elim (cases_eq k key) [
      | inl e ↦ subst (λ n. new n ≡ old n) (sym e) same
      | inr d ↦ others k d
    ] in
    record {
      gone = λ k n y. let f : false ≡ true = sym n ∙ ap is_some (all k) ∙ y in absurd cc;
      kept = λ k y. all k;
    }

-- the one was closed
pub login_closed : (key : ℕ) (old mid new : ℕ → Option Connection) → ((k : ℕ) → k ≢ key → mid k ≡ old k) → is_login (old key) ≡ true → IsChanged key None mid new → ClosesLogins old new
login_closed key old mid new others late c = record {
  gone = λ k n y.
      elim (cases_eq k key) [
        | inl e ↦ subst (λ m. is_login (old m) ≡ true) (sym e) late
        | inr d ↦ let f : false ≡ true = sym n ∙ ap is_some (c.others k d ∙ others k d) ∙ y in absurd cc
      ];
  kept = λ k y.
      elim (cases_eq k key) [
        | inl e ↦ let f : false ≡ true = sym (ap is_some c.changed) ∙ subst (λ m. is_some (new m) ≡ true) e y in absurd cc
        | inr d ↦ c.others k d ∙ others k d
      ];
}
