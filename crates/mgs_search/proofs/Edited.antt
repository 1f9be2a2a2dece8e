-- A match behind an edit, and what a step of an incremental search leaves.
use Rattle.std.proofs.Common.{◌≡◌, ℕ, true, false, ◌+◌, ◌-◌, List, [], ◌∷◌, ◌++◌, Bool, cond, length, take, drop, Option, Some, None, is_none, refl, sym, ap, ◌∙◌, arith, length-append}
use Rattle.std.specs.Prelude.{Result, Ok}
use Rattle.std.specs.Option.{option_map}
use Rattle.std.proofs.Math.Seq.{drop-append_seam}
use Rattle.mgs_model.specs.Outcome.{Keep_position, At}
use Rattle.mgs_model.specs.Text.{edited}
use Rattle.mgs_model.specs.Searching.{begins, first_in, first_match, matches_at, match_from, match_past, found_places, Sought, places_after, sought_after}
use Rattle.mgs_model.specs.SearchCommands.{AroundSearch, SearchFinish, SearchChange, met, next_match, seek, replace}
use Rattle.mgs_model.specs.declared.echo_text.Message.{Message}
use Rattle.mgs_model.specs.declared.search.SearchPlaces.{SearchPlaces}
use Rattle.mgs_model.specs.declared.search.SearchStep.{SearchStep}
use Rattle.mgs_model.specs.declared.search.SearchStep.TheVariants.{Stays, FromAnchor, PastAnchor, FromOrigin, ToOrigin, Ends, Quits, Leaves}
use Rattle.mgs_model.specs.declared.session.Replacement.TheVariants.{ReplaceMatch}
use Rattle.mgs_model.specs.declared.session.Seeking.TheVariants.{SearchOn}
use Rattle.mgs_search.specs.Planned.{replacement_read, stepped}

-- COUNTED FROM FURTHER ON
first_moved : (ps ys : List ℕ) (i d : ℕ) → first_in ps (i + d) ys ≡ option_map (λ m. m + d) (first_in ps i ys)
first_moved ps [] i d = by (begins ps [])
  where
    by : (b : Bool) → cond b (Some (i + d)) None ≡ option_map (λ m. m + d) (cond b (Some i) None)
    by true = refl
    by false = refl
first_moved ps (c ∷ cs) i d = by (begins ps (c ∷ cs)) (first_moved ps cs (i + 1) d)
  where
    by : (b : Bool) → first_in ps (i + 1 + d) cs ≡ option_map (λ m. m + d) (first_in ps (i + 1) cs) → cond b (Some (i + d)) (first_in ps (i + d + 1) cs) ≡ option_map (λ m. m + d) (cond b (Some i) (first_in ps (i + 1) cs))
    by true e = refl
    by false e = (let same : i + d + 1 ≡ i + 1 + d = omega arith in ap (λ k. first_in ps k cs) same ∙ e)

counted : (ps ys : List ℕ) (from to : ℕ) → first_in ps to ys ≡ option_map (λ m. m - from + to) (first_in ps from ys)
counted ps ys from to =
    sym (ap (λ k. first_in ps k ys) (from_none to)) ∙ first_moved ps ys 0 to ∙ by (first_in ps 0 ys) ∙ sym (ap (option_map (λ m. m - from + to)) (sym (ap (λ k. first_in ps k ys) (from_none from)) ∙ first_moved ps ys 0 from))
  where
    by : (o : Option ℕ) → option_map (λ m. m + to) o ≡ option_map (λ m. m - from + to) (option_map (λ m. m + from) o)
    by None = refl
    by (Some k) = (let same : k + to ≡ k + from - from + to = omega arith in ap Some same)

    from_none : (k : ℕ) → 0 + k ≡ k
    from_none k = omega arith

-- BEHIND WHAT WAS PUT IN the text is as it was
behind : (a b : ℕ) (put text : List ℕ) → length (take a text) ≡ a → drop (a + length put) (edited a b put text) ≡ drop b text
behind a b put text size =
    sym (ap (λ n. drop n (edited a b put text)) (length-append (take a text) put ∙ ap (λ n. n + length put) size)) ∙ drop-append_seam (take a text ++ put) (drop b text)

next_behind : (old put text : List ℕ) (a b : ℕ) → length (take a text) ≡ a → first_match old (edited a b put text) (a + length put) ≡ option_map (λ m. m - b + (a + length put)) (first_match old text b)
next_behind old put text a b size =
    ap (first_in old (a + length put)) (behind a b put text size) ∙ counted old (drop b text) b (a + length put)

abbrev given : ℕ → List ℕ → List ℕ → AroundSearch → AroundSearch
given anchor old put rest = record rest { places = record rest.places { anchor = anchor }; sought_here = true; old = old; typed = put }

-- replaced or kept, with what each leaves
abbrev either : ℕ → List ℕ → List ℕ → List ℕ → AroundSearch → Bool → Result SearchChange Message
either anchor old put text rest b =
    let x : AroundSearch = given anchor old put rest in
    let after : List ℕ = edited anchor (anchor + length old) put text in
    cond b (Ok (record { a = anchor; b = anchor + length old; put = put; finish = next_match x (anchor + length put) 1 (At (anchor + length put)) after }))
    (Ok (record { a = anchor; b = anchor; put = []; finish = next_match x anchor 0 Keep_position text }))

pub replaced_so : (anchor : ℕ) (old put text : List ℕ) (next : Option ℕ) (rest : AroundSearch) → length (take anchor text) ≡ anchor → matches_at old text anchor ≡ true
    → next ≡ option_map (λ m. m - (anchor + length old) + (anchor + length put)) (first_match old text (anchor + length old))
    → Ok (replacement_read anchor (length old) put (record { replaces = true; next = next })) ≡ replace ReplaceMatch text (given anchor old put rest)
replaced_so anchor old put text next rest size here is =
    ap (λ (o : Option ℕ). Ok (record { a = anchor; b = anchor + length old; put = put; finish = met (length old) 1 (At (anchor + length put)) o })) (is ∙ sym (next_behind old put text anchor (anchor + length old) size))
    ∙ sym (ap (either anchor old put text rest) here)

pub kept_so : (anchor : ℕ) (old put text : List ℕ) (next : Option ℕ) (rest : AroundSearch) → matches_at old text anchor ≡ false
    → next ≡ first_match old text anchor
    → Ok (replacement_read anchor (length old) put (record { replaces = false; next = next })) ≡ replace ReplaceMatch text (given anchor old put rest)
kept_so anchor old put text next rest gone is =
    ap (λ (o : Option ℕ). Ok (record { a = anchor; b = anchor; put = []; finish = met (length old) 0 Keep_position o })) is
    ∙ sym (ap (either anchor old put text rest) gone)

-- A STEP OF AN INCREMENTAL SEARCH: where it goes does not depend on whether it was failing
places_same : (o : Option ℕ) (s : Sought) (x : SearchPlaces) → found_places o s x ≡ found_places o (record s { failing = false }) x
places_same None s x = refl
places_same (Some p) s x = refl

abbrev ended_at : SearchStep → Option ℕ → SearchPlaces → Result SearchFinish Message
ended_at step o y = Ok (stepped step y (is_none o))

pub step_planned : (step : SearchStep) (s : Sought) (text : List ℕ) (x : SearchPlaces) (rest : AroundSearch)
    → Ok (stepped step (places_after step s text x) (sought_after step s text x).failing) ≡ seek (SearchOn s.direction step) text (record rest { places = x; sought_here = true; typed = s.pattern })
step_planned Stays s text x rest = refl
step_planned FromAnchor s text x rest =
    let o : Option ℕ = match_from s.direction s.pattern text x.anchor in
    ap (ended_at FromAnchor o) (places_same o s x)
step_planned PastAnchor s text x rest =
    let o : Option ℕ = match_past s.direction s.pattern text x.anchor in
    ap (ended_at PastAnchor o) (places_same o s x)
step_planned FromOrigin s text x rest =
    let o : Option ℕ = match_from s.direction s.pattern text x.origin in
    ap (ended_at FromOrigin o) (places_same o s (record x { anchor = x.origin }))
step_planned ToOrigin s text x rest = refl
step_planned Ends s text x rest = refl
step_planned Quits s text x rest = refl
step_planned Leaves s text x rest = refl
