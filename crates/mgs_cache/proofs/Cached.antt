-- What a cache of requests holds after a call.
use Rattle.std.proofs.Common.{◌≡◌, ℕ, inl, inr, Bool, true, ◌&&◌, ◌==◌, List, ◌∷◌, Contains, Option, Some, None, IfSome, sym, ap, subst, ◌∙◌, OnOk, OnErr, Result, Ok, Err}
use Rattle.std.specs.Cmp.Lexicographic.{same_text}
use Rattle.std.specs.Map.{lookup}
use Rattle.std.proofs.lemmas.Bool.{and_parts}
use Rattle.std.proofs.lemmas.Map.Views.{Contains-from_lookup, exact_unsigned_eq}
use Rattle.lru.specs.LruCache.{LruCache, lru_cache, promoted, put_entries}
use Rattle.lru.proofs.CallerLemmas.{Contains-promoted, Contains-put_entries}
use Rattle.lru.proofs.Splits.{Contains-head, Contains-tail}
use Rattle.mgs_model.specs.Names.{same_name}
use Rattle.mgs_model.specs.declared.entry.Decision.{Decision}
use Rattle.mgs_cache.specs.declared.request.Request.{Request}
use Rattle.mgs_cache.specs.Kept.{Kept, kept, AreAmong}
use Rattle.mgs_cache.specs.Requests.{kept_as, kept_all}
use Rattle.mgs_cache.proofs.Among.{Contains-map, Contains-from_map, among_one}

-- what the derived `==` computes to
abbrev pub same_request : Request → Request → Bool
same_request a b = (a.buffer == b.buffer) && (same_name a.user b.user && (a.mask == b.mask))

joined : (a b : Request) → a.buffer ≡ b.buffer → a.user ≡ b.user → a.mask ≡ b.mask → a ≡ b
joined a b buffer user mask =
    let made : ℕ → List ℕ → ℕ → Request = λ p u m. record { buffer = p; user = u; mask = m } in
    ap (λ p. made p a.user a.mask) buffer ∙ ap (λ u. made b.buffer u a.mask) user ∙ ap (λ m. made b.buffer b.user m) mask

-- requests that are equal are the same
exact : (a b : Request) → same_request a b ≡ true → a ≡ b
exact a b h =
    let (buffer, rest) = and_parts (a.buffer == b.buffer) (same_name a.user b.user && (a.mask == b.mask)) h in
    let (user, mask) = and_parts (same_name a.user b.user) (a.mask == b.mask) rest in
    joined a b (exact_unsigned_eq a.buffer b.buffer buffer) (same_text a.user b.user (sym user)) (exact_unsigned_eq a.mask b.mask mask)

-- what a look-up finds is kept
found : (es : List (Request × Decision)) (request : Request) (o : Option Decision) → o ≡ lookup (same_request request) es → IfSome o (λ d. Contains (kept_all es) (kept_as (request, d)))
found es request None is = tt
found es request (Some d) is = Contains-map kept_as es (request, d) (Contains-from_lookup exact request d es (sym is))

-- in the words of the request
pub found_kept : (es : List (Request × Decision)) (keeps : List Kept) (request : Request) (buffer : ℕ) (user : List ℕ) (mask : ℕ) (o : Option Decision) → kept_all es ≡ keeps → ((d : Decision) → kept_as (request, d) ≡ kept buffer user mask d) → o ≡ lookup (same_request request) es → IfSome o (λ d. Contains keeps (kept buffer user mask d))
found_kept es keeps request buffer user mask o seen asked is = go o (found es request o is)
  where
    go : (o : Option Decision) → IfSome o (λ d. Contains (kept_all es) (kept_as (request, d))) → IfSome o (λ d. Contains keeps (kept buffer user mask d))
    go None h = tt
    go (Some d) h = subst (λ (ks : List Kept). Contains ks (kept buffer user mask d)) seen (subst (Contains (kept_all es)) (asked d) h)

-- each pair after `put` is the new one, or was there
put_pair : (c : LruCache Request Decision) (request : Request) (d : Decision) (e : Request × Decision) → Contains (put_entries same_request c request d) e → Contains ((request, d) ∷ c.entries) e
put_pair c request d e h = elim (Contains-put_entries same_request c request d e h) [
  | inl was ↦ Contains-tail (request, d) c.entries e was
  | inr new ↦ let key : request ≡ e.0 = elim new.1 [ inl same ↦ sym same | inr old ↦ exact request e.0 old.2 ] in
      subst (Contains ((request, d) ∷ c.entries)) (ap (λ k. (k, d)) key ∙ ap (λ v. (e.0, v)) (sym new.0)) (Contains-head (request, d) c.entries)
]

put_among : (c : LruCache Request Decision) (request : Request) (d : Decision) → AreAmong (kept_all (put_entries same_request c request d)) (kept_as (request, d) ∷ kept_all c.entries)
put_among c request d = record {
  each = λ k h.
      let from = Contains-from_map kept_as (put_entries same_request c request d) k h in
      subst (Contains (kept_as (request, d) ∷ kept_all c.entries)) from.2 (Contains-map kept_as ((request, d) ∷ c.entries) from.0 (put_pair c request d from.0 from.1));
}

-- after `put`, whether there was memory or not
pub kept_among : {X E : Type 0} (before after : LruCache Request Decision) (keeps : List Kept) (request : Request) (buffer : ℕ) (user : List ℕ) (mask : ℕ) (d : Decision) (answer : Result X E) → kept_all before.entries ≡ keeps → ((d : Decision) → kept_as (request, d) ≡ kept buffer user mask d) → OnOk answer (after ≡ lru_cache (put_entries same_request before request d) before.cap) → OnErr answer (after ≡ before) → AreAmong (kept_all after.entries) (kept buffer user mask d ∷ keeps)
kept_among {X = X} {E = E} before after keeps request buffer user mask d answer seen asked ok err =
    subst (λ (ks : List Kept). AreAmong (kept_all after.entries) (kept buffer user mask d ∷ ks)) seen
    (subst (λ (k : Kept). AreAmong (kept_all after.entries) (k ∷ kept_all before.entries)) (asked d) (go answer ok err))
  where
    moved : (c : LruCache Request Decision) → after ≡ c → AreAmong (kept_all c.entries) (kept_as (request, d) ∷ kept_all before.entries) → AreAmong (kept_all after.entries) (kept_as (request, d) ∷ kept_all before.entries)
    moved c is = subst (λ (c : LruCache Request Decision). AreAmong (kept_all c.entries) (kept_as (request, d) ∷ kept_all before.entries)) (sym is)

    go : (answer : Result X E) → OnOk answer (after ≡ lru_cache (put_entries same_request before request d) before.cap) → OnErr answer (after ≡ before) → AreAmong (kept_all after.entries) (kept_as (request, d) ∷ kept_all before.entries)
    go (Ok x) ok err = moved (lru_cache (put_entries same_request before request d) before.cap) ok (put_among before request d)
    go (Err x) ok err = moved before err (among_one (kept_all before.entries) (kept_as (request, d)))

-- whatever is promoted, each pair was there
promoted_were : (test : Request → Bool) (es : List (Request × Decision)) → AreAmong (kept_all (promoted test es)) (kept_all es)
promoted_were test es = record {
  each = λ k h.
      let from = Contains-from_map kept_as (promoted test es) k h in
      subst (Contains (kept_all es)) from.2 (Contains-map kept_as es from.0 (Contains-promoted test es from.0 from.1));
}

pub promoted_among : (test : Request → Bool) (before after : LruCache Request Decision) (keeps : List Kept) → kept_all before.entries ≡ keeps → after ≡ lru_cache (promoted test before.entries) before.cap → AreAmong (kept_all after.entries) keeps
promoted_among test before after keeps seen is =
    subst (AreAmong (kept_all after.entries)) seen
    (subst (λ (c : LruCache Request Decision). AreAmong (kept_all c.entries) (kept_all before.entries)) (sym is) (promoted_were test before.entries))
