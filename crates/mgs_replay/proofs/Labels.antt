-- Labels and the sessions that they have: no two have the same.
use Rattle.std.proofs.Common.{◌≡◌, ℕ, nat_eq, Bool, true, false, cond, List, [], ◌∷◌, ◌++◌, map, Option, Some, None, refl, sym, ap, subst, ◌∙◌}
use Rattle.std.specs.Prelude.{find, All}
use Rattle.std.specs.Option.{option_map}
use Rattle.std.proofs.lemmas.List.Elements.{All-nil, All-cons, All-head, All-tail, All-weaker, All-map, All-append}
use Rattle.mgs_model.specs.Names.{same_name}
use Rattle.mgs_core.proofs.Ids.{All-found, differ}
use Rattle.mgs_replay.specs.declared.client.Cause.{Cause}
use Rattle.mgs_replay.specs.Players.{Label, label, Standing, Never, Has, Gone, is_called, session_now, gone}
use Rattle.mgs_replay.specs.Served.{Differ, IsApart, AreApart}

-- LISTS

pub both : {A : Type 0} (P Q R : A → Type 0) → ((x : A) → P x → Q x → R x) → (xs : List A) → All P xs → All Q xs → All R xs
both P Q R f [] h k = All-nil R
both P Q R f (x ∷ xs) h k = All-cons R x xs (f x (All-head P x xs h) (All-head Q x xs k)) (both P Q R f xs (All-tail P x xs h) (All-tail Q x xs k))

-- APART

pub differ_never : (s : Standing) → Differ s Never
differ_never Never = tt
differ_never (Has id) = tt
differ_never (Gone cause) = tt

differ_gone : (s : Standing) (cause : Cause) → Differ s (Gone cause)
differ_gone Never cause = tt
differ_gone (Has id) cause = tt
differ_gone (Gone other) cause = tt

pub apart_push : (xs : List Label) (y : Label) → AreApart xs → All (λ x. IsApart x y) xs → AreApart (xs ++ y ∷ [])
apart_push [] y h a = (All-nil (IsApart y), tt)
apart_push (x ∷ xs) y h a = (
  All-append (IsApart x) xs (y ∷ []) h.0 (All-cons (IsApart x) y [] (All-head (λ x. IsApart x y) x xs a) (All-nil (IsApart x))),
  apart_push xs y h.1 (All-tail (λ x. IsApart x y) x xs a),
)

pub each : {A : Type 0} (P : A → Type 0) (xs : List A) → ((x : A) → P x) → All P xs
each P [] h = All-nil P
each P (x ∷ xs) h = All-cons P x xs (h x) (each P xs h)

gone_apart : (name : List ℕ) (cause : Cause) (x y : Label) → IsApart x y → IsApart (gone name cause x) (gone name cause y)
gone_apart name cause x y h =
    elim (same_name name x.name) as (λ b. IsApart (cond b (label x.name (Gone cause)) x) (gone name cause y)) [
      | true ↦ tt
      | false ↦ elim (same_name name y.name) as (λ b. IsApart x (cond b (label y.name (Gone cause)) y)) [
        | true ↦ differ_gone x.standing cause
        | false ↦ h
      ]
    ]

pub apart_gone : (name : List ℕ) (cause : Cause) (xs : List Label) → AreApart xs → AreApart (map (gone name cause) xs)
apart_gone name cause [] h = h
apart_gone name cause (x ∷ xs) h = (
  All-map (IsApart (gone name cause x)) (gone name cause) xs
      (All-weaker (IsApart x) (λ y. IsApart (gone name cause x) (gone name cause y)) (gone_apart name cause x) xs h.0),
  apart_gone name cause xs h.1,
)

-- THE LABEL OF A SESSION

has_now : (s : Standing) (id : ℕ) → session_now (Some s) ≡ Some id → s ≡ Has id
has_now Never id h = absurd cc
has_now (Has mine) id h = let e : mine ≡ id = cc in ap Has e
has_now (Gone cause) id h = absurd cc

-- a label that has this open session
pub found_now : (o : Option Label) (id : ℕ) → session_now (option_map (λ (x : Label). x.standing) o) ≡ Some id → (z : Label) × (o ≡ Some z) × (z.standing ≡ Has id)
found_now None id h = absurd cc
found_now (Some z) id h = (z, refl, has_now z.standing id h)

-- a label has not this open session
unfoldable pub HasNot : ℕ → Standing → Type 0
HasNot id Never = Unit {0}
HasNot id (Has mine) = nat_eq id mine ≡ false
HasNot id (Gone cause) = Unit {0}

later_has : (id : ℕ) (s : Standing) → Differ (Has id) s → HasNot id s
unfolding HasNot
later_has id Never h = tt
later_has id (Has mine) h = differ mine id h
later_has id (Gone cause) h = tt

earlier_has : (id : ℕ) (s : Standing) → Differ s (Has id) → HasNot id s
unfolding HasNot
earlier_has id Never h = tt
earlier_has id (Has mine) h = h
earlier_has id (Gone cause) h = tt

-- the label is called so, or has not this session
unfoldable pub OnlyCalled : List ℕ → ℕ → Label → Type 0
OnlyCalled name id x = is_called name x ≡ false → HasNot id x.standing

-- no label of another name has the session of this one
pub only_called : (name : List ℕ) (id : ℕ) (xs : List Label) (z : Label) → find (is_called name) xs ≡ Some z → z.standing ≡ Has id → AreApart xs → All (OnlyCalled name id) xs
unfolding OnlyCalled
only_called name id [] z found is apart = All-nil (OnlyCalled name id)
only_called name id (x ∷ xs) z found is apart =
    let goal : Bool → Type 0 = λ b. is_called name x ≡ b → cond b (Some x) (find (is_called name) xs) ≡ Some z → All (OnlyCalled name id) (x ∷ xs) in
    let go : (b : Bool) → goal b =
    λ b. elim b as goal [
      | true ↦ λ e f.
          let same : x ≡ z = cc in
          let has : x.standing ≡ Has id = ap (λ (y : Label). y.standing) same ∙ is in
          All-cons (OnlyCalled name id) x xs (λ no. let clash : true ≡ false = sym e ∙ no in cc)
          (All-weaker (IsApart x) (OnlyCalled name id) (λ y a no. later_has id y.standing (subst (λ (s : Standing). Differ s y.standing) has a)) xs apart.0)
      | false ↦ λ e f.
          let differs : IsApart x z = All-found (IsApart x) (is_called name) xs z apart.0 f in
          All-cons (OnlyCalled name id) x xs (λ no. earlier_has id x.standing (subst (λ (s : Standing). Differ x.standing s) is differs)) (only_called name id xs z f is apart.1)
    ]
    in go (is_called name x) refl found
