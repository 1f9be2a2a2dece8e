-- Each change of the fields of a block leaves a block.
use Rattle.std.proofs.Common.{◌≡◌, ℕ, ◌+◌, ◌-◌, ◌<◌, ◌≤◌, ◌^◌, List, [], ◌++◌, Option, Some, None, map, take, drop, length, sym, ap, ap₂, ◌∙◌, arith, length-take, length-drop, drop-drop, append_assoc, take_all, replicate}
use Rattle.std.proofs.lemmas.List.{length-append, length-map, length-replicate, drop_all, drop_at, drop-take, take_at, map-append, take-append-le, drop-append-le}
use Rattle.std.proofs.lemmas.List.Edits.{length-paste, take-paste, drop-paste}
use Rattle.std.proofs.Math.Seq.{take-append-add, drop-append-add}
use denote.RawPtr.{count_of}
use Rattle.mgs_gap.specs.Places.{IsRun, raised, lowered, written, somes}
use Rattle.mgs_gap.specs.Gapped.{Gapped, gapped}
use Rattle.mgs_gap.specs.Blocks.{front_in, back_in, IsBlock}
use Rattle.mgs_gap.specs.declared.block.Block.TheInside.{Inside}
use Rattle.mgs_gap.specs.declared.cells.Cells.{Cells}
use Rattle.mgs_gap.proofs.Slots.{somes_all, some_take, some_drop, take_less, raised_long, lowered_long}

abbrev pub Owned : Inside → Type 0
Owned b = (b.right.at ≡ b.cells.at) × (b.right.len ≡ b.before + b.gap + b.after) × (b.right.alloc ≡ b.alloc)

-- the fields are a block that shows this
abbrev pub Shows : Inside → List ℕ → List ℕ → Type 0
Shows b f k = IsBlock b × (gapped (front_in b) b.gap (back_in b) ≡ gapped f b.gap k)

pub made : (b : Inside) (f k : List ℕ) → Owned b → count_of b.cells.at ≡ 0 → take b.before b.cells.slots ≡ map Some f → drop (b.before + b.gap) b.cells.slots ≡ map Some k
    → length b.cells.slots ≡ b.before + b.gap + b.after → b.before + b.gap + b.after < 2 ^ 61 → Shows b f k
unfolding front_in back_in
made b f k owned start e d n small =
    let front : front_in b ≡ f = ap (λ cs. somes cs) e ∙ somes_all f in
    let back : back_in b ≡ k = ap (λ cs. somes cs) d ∙ somes_all k in (
      record {
        owned = owned;
        start = start;
        front = e ∙ ap (λ (l : List ℕ). map Some l) (sym front);
        back = d ∙ ap (λ (l : List ℕ). map Some l) (sym back);
        sizes = (n, small);
      },
      ap₂ (λ x y. gapped x b.gap y) front back,
    )

module _ (b : Inside) (is : IsBlock b) where
  pub front_long : length (front_in b) ≡ b.before
  front_long = let e = ap (λ (l : List (Option ℕ)). length l) is.front in omega (arith, e, is.sizes.0, length-map (front_in b) Some, length-take b.before b.cells.slots)

  pub back_long : length (back_in b) ≡ b.after
  back_long = let e = ap (λ (l : List (Option ℕ)). length l) is.back in omega (arith, e, is.sizes.0, length-map (back_in b) Some, length-drop (b.before + b.gap) b.cells.slots)

  pub back_run : take b.after (drop (b.before + b.gap) b.cells.slots) ≡ map Some (back_in b)
  back_run = ap (λ (l : List (Option ℕ)). take b.after l) is.back ∙ take_all b.after (map Some (back_in b)) (omega (arith, length-map (back_in b) Some, back_long))

pub same_run : (xs ys : List ℕ) → map Some xs ≡ map Some ys → xs ≡ ys
same_run xs ys e = sym (somes_all xs) ∙ ap (λ cs. somes cs) e ∙ somes_all ys

-- a block that is all gap
pub all_gap : (b : Inside) → Owned b → count_of b.cells.at ≡ 0 → b.cells.slots ≡ replicate b.gap None → b.before ≡ 0 → b.after ≡ 0 → b.gap < 2 ^ 61 → Shows b [] []
all_gap b owned start e n m small =
    let long : length b.cells.slots ≡ b.gap = ap (λ (l : List (Option ℕ)). length l) e ∙ length-replicate b.gap None in
    made b [] [] owned start (ap (λ i. take i b.cells.slots) n) (ap (λ i. drop (i + b.gap) b.cells.slots) n ∙ drop_all (0 + b.gap) b.cells.slots (omega (arith, long))) (omega (arith, long, n, m)) (omega (arith, n, m, small))

-- b after characters are put at its gap's start
pub put_shows : (b : Inside) → IsBlock b → (w : Cells) (xs : List ℕ) → w.at ≡ b.cells.at → w.slots ≡ written b.cells.slots b.before xs (length xs) → length xs ≤ b.gap
    → Shows (record b { cells = w; before = b.before + length xs; gap = b.gap - length xs }) (front_in b ++ xs) (back_in b)
put_shows b is w xs at e fits =
    let cs = b.cells.slots in let n : ℕ = length xs in let some : List (Option ℕ) = map Some xs in
    let room : b.before + n ≤ length cs = omega (arith, is.sizes.0, fits) in
    let long : n ≤ length some = omega (arith, length-map xs Some) in
    let same : length w.slots ≡ length cs = ap (λ (l : List (Option ℕ)). length l) e ∙ length-paste cs b.before some n room long in
    let on : b.before + n + (b.gap - n) ≡ b.before + b.gap = omega (arith, fits) in
    let head : take (b.before + n) w.slots ≡ map Some (front_in b ++ xs) = ap (λ (l : List (Option ℕ)). take (b.before + n) l) e ∙ take-paste cs b.before some n (omega (arith, room)) long
    ∙ ap₂ (λ (x y : List (Option ℕ)). x ++ y) is.front (take_all n some (omega (arith, length-map xs Some))) ∙ sym (map-append Some (front_in b) xs) in
    let tail : drop (b.before + n + (b.gap - n)) w.slots ≡ map Some (back_in b) = sym (drop-drop (b.gap - n) (b.before + n) w.slots) ∙ ap (λ (l : List (Option ℕ)). drop (b.gap - n) (drop (b.before + n) l)) e
    ∙ ap (λ (l : List (Option ℕ)). drop (b.gap - n) l) (drop-paste cs b.before some n (omega (arith, room)) long) ∙ drop-drop (b.gap - n) (b.before + n) cs ∙ ap (λ i. drop i cs) on ∙ is.back in
    made (record b { cells = w; before = b.before + n; gap = b.gap - n }) (front_in b ++ xs) (back_in b) (is.owned.0 ∙ sym at, omega (arith, is.owned.1, fits), is.owned.2) (ap count_of at ∙ is.start)
    head tail (omega (arith, same, is.sizes.0, fits)) (omega (arith, is.sizes.1, fits))

-- b after a move of its gap
module _ (b : Inside) (is : IsBlock b) (w : Cells) (at : w.at ≡ b.cells.at) where
  abbrev cs : List (Option ℕ)
  cs = b.cells.slots

  module _ (n : ℕ) (less : n ≤ b.after) where
    pub run_of_back : IsRun cs (b.before + b.gap) n
    run_of_back = (omega (arith, is.sizes.0, less), (take n (back_in b), ap (λ (l : List (Option ℕ)). take n l) is.back ∙ some_take (back_in b) n))

    pub right_shows : w.slots ≡ lowered cs b.before b.gap n → Shows (record b { cells = w; before = b.before + n; after = b.after - n }) (front_in b ++ take n (back_in b)) (drop n (back_in b))
    right_shows e =
        let front : List (Option ℕ) = take b.before cs in let run : List (Option ℕ) = take n (drop (b.before + b.gap) cs) in
        let none : Option ℕ = None in let nones : List (Option ℕ) = replicate b.gap none in let rest : List (Option ℕ) = drop (b.before + (b.gap + n)) cs in
        let both : length (front ++ run) ≡ b.before + n = omega (arith, is.sizes.0, less, length-append front run, length-take b.before cs, length-take n (drop (b.before + b.gap) cs), length-drop (b.before + b.gap) cs) in
        let three : length ((front ++ run) ++ nones) ≡ b.before + n + b.gap = omega (arith, both, length-append (front ++ run) nones, length-replicate b.gap none) in
        let same : length w.slots ≡ length cs = ap (λ (l : List (Option ℕ)). length l) e ∙ lowered_long cs b.before b.gap n (omega (arith, is.sizes.0, less)) in
        let two : w.slots ≡ (front ++ run) ++ (nones ++ rest) = e ∙ sym (append_assoc front run (nones ++ rest)) in
        let parts : w.slots ≡ ((front ++ run) ++ nones) ++ rest = two ∙ sym (append_assoc (front ++ run) nones rest) in
        let on : b.before + (b.gap + n) ≡ b.before + b.gap + n = omega arith in
        let head : take (b.before + n) w.slots ≡ map Some (front_in b ++ take n (back_in b)) = ap (λ (l : List (Option ℕ)). take (b.before + n) l) two ∙ take_at (front ++ run) (nones ++ rest) (b.before + n) both
        ∙ ap₂ (λ (x y : List (Option ℕ)). x ++ take n y) is.front is.back ∙ ap (λ (l : List (Option ℕ)). map Some (front_in b) ++ l) (some_take (back_in b) n) ∙ sym (map-append Some (front_in b) (take n (back_in b))) in
        let tail : drop (b.before + n + b.gap) w.slots ≡ map Some (drop n (back_in b)) = ap (λ (l : List (Option ℕ)). drop (b.before + n + b.gap) l) parts ∙ drop_at ((front ++ run) ++ nones) rest (b.before + n + b.gap) three
        ∙ ap (λ i. drop i cs) on ∙ sym (drop-drop n (b.before + b.gap) cs) ∙ ap (λ (l : List (Option ℕ)). drop n l) is.back ∙ some_drop (back_in b) n in
        made (record b { cells = w; before = b.before + n; after = b.after - n }) (front_in b ++ take n (back_in b)) (drop n (back_in b)) (is.owned.0 ∙ sym at, omega (arith, is.owned.1, less), is.owned.2) (ap count_of at ∙ is.start)
        head tail (omega (arith, same, is.sizes.0, less)) (omega (arith, is.sizes.1, less))

  module _ (a : ℕ) (less : a ≤ b.before) where
    in_front : take (b.before - a) (drop a cs) ≡ map Some (drop a (front_in b))
    in_front =
        let sum : a + (b.before - a) ≡ b.before = omega (arith, less) in
        sym (drop-take a (b.before - a) cs) ∙ ap (λ k. drop a (take k cs)) sum ∙ ap (λ (l : List (Option ℕ)). drop a l) is.front ∙ some_drop (front_in b) a

    pub run_of_front : IsRun cs a (b.before - a)
    run_of_front = (omega (arith, is.sizes.0, less), (drop a (front_in b), in_front))

    pub left_shows : w.slots ≡ raised cs a b.gap (b.before - a) → Shows (record b { cells = w; before = a; after = b.after + (b.before - a) }) (take a (front_in b)) (drop a (front_in b) ++ back_in b)
    left_shows e =
        let n : ℕ = b.before - a in
        let front : List (Option ℕ) = take a cs in let none : Option ℕ = None in let nones : List (Option ℕ) = replicate b.gap none in
        let run : List (Option ℕ) = take n (drop a cs) in let rest : List (Option ℕ) = drop (a + (b.gap + n)) cs in
        let long : length front ≡ a = omega (arith, is.sizes.0, less, length-take a cs) in
        let both : length (front ++ nones) ≡ a + b.gap = omega (arith, long, length-append front nones, length-replicate b.gap none) in
        let same : length w.slots ≡ length cs = ap (λ (l : List (Option ℕ)). length l) e ∙ raised_long cs a b.gap n (omega (arith, is.sizes.0, less)) in
        let on : a + (b.gap + n) ≡ b.before + b.gap = omega (arith, less) in
        let head : take a w.slots ≡ map Some (take a (front_in b)) = ap (λ (l : List (Option ℕ)). take a l) e ∙ take_at front (nones ++ (run ++ rest)) a long
        ∙ sym (take_less cs a b.before less) ∙ ap (λ (l : List (Option ℕ)). take a l) is.front ∙ some_take (front_in b) a in
        let tail : drop (a + b.gap) w.slots ≡ map Some (drop a (front_in b) ++ back_in b) = ap (λ (l : List (Option ℕ)). drop (a + b.gap) l) (e ∙ sym (append_assoc front nones (run ++ rest))) ∙ drop_at (front ++ nones) (run ++ rest) (a + b.gap) both
        ∙ ap₂ (λ (x y : List (Option ℕ)). x ++ y) in_front (ap (λ i. drop i cs) on ∙ is.back) ∙ sym (map-append Some (drop a (front_in b)) (back_in b)) in
        made (record b { cells = w; before = a; after = b.after + n }) (take a (front_in b)) (drop a (front_in b) ++ back_in b) (is.owned.0 ∙ sym at, omega (arith, is.owned.1, less), is.owned.2) (ap count_of at ∙ is.start)
        head tail (omega (arith, same, is.sizes.0, less)) (omega (arith, is.sizes.1, less))

-- b after its gap is wider by n places
pub wider_shows : (b : Inside) → IsBlock b → (n : ℕ) → n ≤ b.after → Shows (record b { gap = b.gap + n; after = b.after - n }) (front_in b) (drop n (back_in b))
wider_shows b is n h =
    let same : b.before + (b.gap + n) ≡ b.before + b.gap + n = omega arith in
    made (record b { gap = b.gap + n; after = b.after - n }) (front_in b) (drop n (back_in b)) (is.owned.0, omega (arith, is.owned.1, h), is.owned.2) is.start is.front
    (ap (λ i. drop i b.cells.slots) same ∙ sym (drop-drop n (b.before + b.gap) b.cells.slots) ∙ ap (λ (l : List (Option ℕ)). drop n l) is.back ∙ some_drop (back_in b) n)
    (omega (arith, is.sizes.0, h)) (omega (arith, is.sizes.1, h))

-- the gap lies at the place a of the text
pub gap_back : (v : Gapped) (a : ℕ) → a ≤ length v.front → gapped (take a v.front) v.gap (drop a v.front ++ v.back) ≡ gapped (take a (v.front ++ v.back)) v.gap (drop a (v.front ++ v.back))
gap_back v a within = ap₂ (λ x y. gapped x v.gap y) (sym (take-append-le a v.front v.back within)) (sym (drop-append-le a v.front v.back within))

pub gap_on : (v : Gapped) (a n : ℕ) → length v.front + n ≡ a → gapped (v.front ++ take n v.back) v.gap (drop n v.back) ≡ gapped (take a (v.front ++ v.back)) v.gap (drop a (v.front ++ v.back))
gap_on v a n at = ap₂ (λ x y. gapped x v.gap y) (sym (take-append-add v.front v.back n)) (sym (drop-append-add v.front v.back n)) ∙ ap (λ i. gapped (take i (v.front ++ v.back)) v.gap (drop i (v.front ++ v.back))) at
