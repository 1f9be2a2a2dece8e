-- A replacement as it is planned: what it takes out is in the text, and the next match is less far from its end.
use Rattle.std.proofs.Common.{◌≡◌, ℕ, ◌+◌, ◌-◌, ◌<◌, ◌≤◌, min, Bool, true, false, cond, List, [], ◌∷◌, ◌&&◌, ◌++◌, length, take, drop, Option, Some, None, refl, sym, ap, subst, subst₂, ◌∙◌, arith, length-append, length-drop}
use Rattle.std.proofs.lemmas.List.{length-take}
use Rattle.std.specs.Prelude.{Result, Ok}
use Rattle.std.specs.Char.{eq_ignore_ascii_case}
use Rattle.mgs_model.specs.Outcome.{Anchor_at, At, Keep_position, SearchPlan}
use Rattle.mgs_model.specs.SearchCommands.{AroundSearch, Goes_on, ModePlan, Over, SearchChange, met, replace}
use Rattle.mgs_model.specs.Searching.{begins, first_in, first_match, matches_at}
use Rattle.mgs_model.specs.Text.{edited}
use Rattle.mgs_model.specs.declared.session.Replacement.TheVariants.{ReplaceLast, ReplaceMatch}
use Rattle.mgs_edit.specs.Reading.{top_read}
use Rattle.mgs_search.specs.Planned.{IsReplacement, replacement_read}
use Rattle.mgs_search.specs.declared.query_matches.MatchPlan.{MatchPlan}
use Rattle.mgs_session.specs.Replacing.{Replacing}
use Rattle.mgs_seek.specs.Planning.{IsPlan, one_met, put_by, to_by}
use Rattle.mgs_seek.specs.Replacing.{replacement}

-- WHERE A MATCH IS

begins_fits : (ps xs : List ℕ) → begins ps xs ≡ true → length ps ≤ length xs
begins_fits [] xs e = omega arith
begins_fits (p ∷ ps) [] e = cc
begins_fits (p ∷ ps) (x ∷ xs) e = by (eq_ignore_ascii_case p x) (begins_fits ps xs) e
  where
    by : (b : Bool) → (begins ps xs ≡ true → length ps ≤ length xs) → (b && begins ps xs) ≡ true → length (p ∷ ps) ≤ length (x ∷ xs)
    by true rest is = omega (arith, rest is)
    by false rest is = cc

matches_fit : (ps text : List ℕ) (a : ℕ) → a ≤ length text → matches_at ps text a ≡ true → a + length ps ≤ length text
matches_fit ps text a inside is = omega (arith, inside, begins_fits ps (drop a text) is, length-drop a text)

first_in_within : (ps : List ℕ) (i : ℕ) (ys : List ℕ) (m : ℕ) → first_in ps i ys ≡ Some m → (i ≤ m) × (m + length ps ≤ i + length ys)
first_in_within ps i [] m is = by (begins ps []) refl is
  where
    by : (b : Bool) → begins ps [] ≡ b → Path (Option ℕ) (cond b (Some i) None) (Some m) → (i ≤ m) × (m + length ps ≤ i + 0)
    by true here e = (let same : i ≡ m = cc in (omega (arith, same), omega (arith, same, begins_fits ps [] here)))
    by false here e = cc
first_in_within ps i (y ∷ ys) m is = by (begins ps (y ∷ ys)) refl (first_in_within ps (i + 1) ys m) is
  where
    by : (b : Bool) → begins ps (y ∷ ys) ≡ b → (first_in ps (i + 1) ys ≡ Some m → (i + 1 ≤ m) × (m + length ps ≤ i + 1 + length ys)) → Path (Option ℕ) (cond b (Some i) (first_in ps (i + 1) ys)) (Some m) → (i ≤ m) × (m + length ps ≤ i + length (y ∷ ys))
    by true here rest e = (let same : i ≡ m = cc in (omega (arith, same), omega (arith, same, begins_fits ps (y ∷ ys) here)))
    by false here rest e = (let r = rest e in (omega (arith, r.0), omega (arith, r.1)))

first_within : (ps text : List ℕ) (i m : ℕ) → i ≤ length text → first_match ps text i ≡ Some m → (i ≤ m) × (m + length ps ≤ length text)
first_within ps text i m inside is = (let r = first_in_within ps i (drop i text) m is in (r.0, omega (arith, r.1, inside, length-drop i text)))

-- it is further on where there is none at the place itself
first_past : (ps text : List ℕ) (i m : ℕ) → matches_at ps text i ≡ false → first_match ps text i ≡ Some m → i < m
first_past ps text i m other is = past (drop i text) other is
  where
    past : (ys : List ℕ) → begins ps ys ≡ false → first_in ps i ys ≡ Some m → i < m
    past [] e found = (let none : Path (Option ℕ) None (Some m) = ap (λ (b : Bool). cond b (Some i) None) (sym e) ∙ found in cc)
    past (y ∷ ys) e found =
        let r = first_in_within ps (i + 1) ys m (ap (λ (b : Bool). cond b (Some i) (first_in ps (i + 1) ys)) (sym e) ∙ found) in
        omega (arith, r.0)

-- WHAT IS PLANNED, read off what the model plans

either : {T E : Type 0} (f : Bool → T) (b : Bool) → Path (Result T E) (cond b (Ok (f true)) (Ok (f false))) (Ok (f b))
either f true = refl
either f false = refl

-- where a search goes on by what is left, and how many more were replaced
abbrev place_of : SearchPlan → Option ℕ
place_of (Anchor_at p) = Some p
place_of _ = None

abbrev count_of : ModePlan → ℕ
count_of (Goes_on n) = n
count_of (Over n) = n
count_of _ = 0

-- a match of so many characters is replaced by this, or nothing is, and the next one is there
abbrev change : ℕ → ℕ → List ℕ → Bool → Option ℕ → SearchChange
change a len put q next =
    cond q (record { a = a; b = a + len; put = put; finish = met len 1 (At (a + length put)) next })
    (record { a = a; b = a; put = []; finish = met len 0 Keep_position next })

change_count : (a len : ℕ) (put : List ℕ) (q : Bool) (next : Option ℕ) → count_of (change a len put q next).finish.mode ≡ one_met q
change_count a len put true None = refl
change_count a len put false None = refl
change_count a len put _ _ = refl

change_place : (a len : ℕ) (put : List ℕ) (q : Bool) (next : Option ℕ) → place_of (change a len put q next).finish.sought ≡ next
change_place a len put true None = refl
change_place a len put false None = refl
change_place a len put _ _ = refl

one_same : (p q : Bool) → one_met p ≡ one_met q → p ≡ q
one_same true true e = refl
one_same false false e = refl
one_same true false e = (let no : ◌≡◌ {A = ℕ} 1 0 = e in absurd (omega (arith, no)))
one_same false true e = (let no : ◌≡◌ {A = ℕ} 1 0 = sym e in absurd (omega (arith, no)))

-- as the model plans it: the last one looks for no next match
abbrev next_by : Bool → List ℕ → List ℕ → ℕ → Option ℕ
next_by true old text from = None
next_by false old text from = first_match old text from

abbrev next_there : Bool → ℕ → List ℕ → List ℕ → List ℕ → Bool → Option ℕ
next_there last a old put text true = next_by last old (edited a (a + length old) put text) (a + length put)
next_there last a old put text false = next_by last old text a

module _ (last : Bool) (a : ℕ) (r : Replacing) (text : List ℕ) (plan : MatchPlan) (inside : a ≤ length text) (planned : IsPlan text a r last plan) where
  abbrev old : List ℕ
  old = r.pattern

  abbrev put : List ℕ
  put = r.put

  abbrev found : Bool
  found = matches_at old text a

  abbrev next_found : Bool → Option ℕ
  next_found q = next_there last a old put text q

  abbrev given : AroundSearch
  given = record { name = []; places = record { origin = 0; anchor = a; point = 0 }; sought_here = true; old = old; typed = put }

  planned_so : (q : Bool) → replace (replacement q) text given ≡ Ok (change a (length old) put found (next_there q a old put text found))
  planned_so true = either (λ b. change a (length old) put b (next_there true a old put text b)) found
  planned_so false = either (λ b. change a (length old) put b (next_there false a old put text b)) found

  same : change a (length old) put plan.replaces plan.next ≡ change a (length old) put found (next_found found)
  same = cc (planned given ∙ planned_so last)

  replaces_is : plan.replaces ≡ found
  replaces_is = one_same plan.replaces found (sym (change_count a (length old) put plan.replaces plan.next) ∙ ap (λ (c : SearchChange). count_of c.finish.mode) same ∙ change_count a (length old) put found (next_found found))

  next_is : plan.next ≡ next_found found
  next_is = sym (change_place a (length old) put plan.replaces plan.next) ∙ ap (λ (c : SearchChange). place_of c.finish.sought) same ∙ change_place a (length old) put found (next_found found)

  pub within_text : to_by plan.replaces a old ≤ length text
  within_text = by plan.replaces replaces_is
    where
      by : (q : Bool) → q ≡ found → to_by q a old ≤ length text
      by true is = matches_fit old text a inside (sym is)
      by false is = inside

  abbrev size_by : Bool → ℕ
  size_by q = length text - (to_by q a old - a) + length (put_by q put)

  length_put : a + length old ≤ length text → length (edited a (a + length old) put text) ≡ size_by true
  length_put fits = omega (arith, fits, length-append (take a text ++ put) (drop (a + length old) text), length-append (take a text) put, length-take a text, length-drop (a + length old) text)

  first_found : (q : Bool) (from : ℕ) (text : List ℕ) (m : ℕ) → next_by q old text from ≡ Some m → first_match old text from ≡ Some m
  first_found true from text m is = cc
  first_found false from text m is = is

  pub next_facts : (m : ℕ) → plan.next ≡ Some m → (m + length old ≤ size_by plan.replaces) × (0 < length old → size_by plan.replaces - min m (size_by plan.replaces) < length text - a)
  next_facts m is = subst (λ (q : Bool). (m + length old ≤ size_by q) × (0 < length old → size_by q - min m (size_by q) < length text - a)) (sym replaces_is) (by found refl (sym next_is ∙ is))
    where
      by : (q : Bool) → found ≡ q → next_found q ≡ Some m → (m + length old ≤ size_by q) × (0 < length old → size_by q - min m (size_by q) < length text - a)
      by true here e =
          let fits : a + length old ≤ length text = matches_fit old text a inside here in
          let after = edited a (a + length old) put text in
          let there = first_within old after (a + length put) m (omega (arith, fits, length_put fits)) (first_found last (a + length put) after m e) in
          (omega (arith, there.1, length_put fits), λ some. omega (arith, fits, there.0, there.1, length_put fits, some))
      by false here e =
          let first = first_found last a text m e in
          let there = first_within old text a m inside first in
          let past = first_past old text a m here first in
          (omega (arith, there.1), λ some. omega (arith, there.1, past))

  -- the change, with what it leaves
  pub change_read : replacement_read a (length old) put plan ≡ record { a = a; b = to_by plan.replaces a old; put = put_by plan.replaces put; finish = met (length old) (one_met plan.replaces) (top_read (cond plan.replaces (Some (a + length (put_by plan.replaces put))) None)) plan.next }
  change_read = by plan.replaces
    where
      by : (q : Bool) → change a (length old) put q plan.next ≡ record { a = a; b = to_by q a old; put = put_by q put; finish = met (length old) (one_met q) (top_read (cond q (Some (a + length (put_by q put))) None)) plan.next }
      by true = refl
      by false = refl

-- the last one, whatever is put in
pub last_planned : (last : Bool) (a : ℕ) (r : Replacing) (q text : List ℕ) (plan : MatchPlan) → last ≡ true → q ≡ r.pattern
    → ((put : List ℕ) → IsReplacement ReplaceLast q put text a plan)
    → IsPlan text a r last plan
last_planned last a r q text plan is eq planned =
    subst (λ (k : Bool). IsReplacement (replacement k) r.pattern r.put text a plan) (sym is) (subst (λ (k : List ℕ). IsReplacement ReplaceLast k r.put text a plan) eq (planned r.put))

-- one that looks for the next match, with what is put in
pub next_planned : (last : Bool) (a : ℕ) (r : Replacing) (q p text : List ℕ) (plan : MatchPlan) → last ≡ false → q ≡ r.pattern → p ≡ r.put → IsReplacement ReplaceMatch q p text a plan → IsPlan text a r last plan
next_planned last a r q p text plan is eq same planned =
    subst (λ (k : Bool). IsReplacement (replacement k) r.pattern r.put text a plan) (sym is) (subst₂ (λ (k u : List ℕ). IsReplacement ReplaceMatch k u text a plan) eq same planned)
