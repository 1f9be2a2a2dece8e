-- Where the newest bytes of pages are, and what it takes that a file has them.
use Rattle.std.proofs.Common.{◌≡◌, ◌≢◌, ℕ, zero, suc, ◌+◌, ◌*◌, ◌/◌, ◌<◌, ◌≤◌, Bool, true, false, cond, eqb, List, [], length, slice_index, Option, Some, None, sym, refl, ◌∙◌, ap, add-one, arith, inl, inr, add-zero}
use Rattle.std.proofs.Common.{slice_index_or, take, drop, mul-le-mul_right, replicate, is_some, subst}
use Rattle.std.proofs.lemmas.List.{length-replicate, get_or-replicate, get_or_past}
use Rattle.std.specs.Str.{bytes_eq}
use Rattle.std.proofs.lemmas.Slice.Eq.{bytes_eq-Decides}
use Rattle.std.proofs.lemmas.Bool.{cases_eq, cases_lt, eq-eqb, ne_eqb, le-leb, lt-leb, and_from, and_right, false≢true}
use Rattle.mgs_tables.specs.LogCheck.{IsInUse, IsUsed, IsBegun, IsLog, IsCarriedOver, IsBegunAgain, with_first, page_at, AreNewest}
use Rattle.mgs_tables.proofs.LogFrames.{next_frame, later_frame, gate_open, same_end}
use Rattle.sqlite_wal.specs.Format.{part, be32, page_number, commit_size}
use Rattle.sqlite_wal.specs.Recovery.{frame_at, frame, Passes, file_page, page_count, page_after, pages_after}
use Rattle.sqlite_wal.proofs.FormatLemmas.{be32-part, part_is}
use Rattle.sqlite_wal.proofs.FileLemmas.{content-frame}
use Rattle.sqlite_wal.proofs.RecoveryLemmas.{same_pages}

pub cond_true : {A : Type 0} (b : Bool) (x y : A) → b ≡ true → cond b x y ≡ x
cond_true true x y is = refl
cond_true false x y is = absurd (false≢true is)

pub cond_false : {A : Type 0} (b : Bool) (x y : A) → b ≡ false → cond b x y ≡ y
cond_false false x y is = refl
cond_false true x y is = absurd (false≢true (sym is))

all_zero : (n m : ℕ) → slice_index (replicate n 0) m ≡ 0
all_zero n m = elim (cases_lt m n) [ inl near ↦ get_or-replicate n m 0 0 near | inr past ↦ get_or_past (replicate n 0) m 0 (rw (length-replicate {A = ℕ} n 0) past) ]

-- before the first frame the file has each page
pub none_newest : (page_size : ℕ) (log : List ℕ) (count : ℕ) (newest : List ℕ) → length newest ≡ count + 1 → ((n : ℕ) → slice_index newest n ≡ 0) → page_size ≤ length log → AreNewest page_size log count 0 newest
none_newest page_size log count newest len zeros some = record {
  all = len;
  each = λ db n low. sym (ap (page_at page_size log db n) (zeros n));
  within = λ n. omega (arith, zeros n, some);
}

-- the bytes of a page that is in the log
pub page_in_log : (page_size : ℕ) (log db : List ℕ) (n at : ℕ) → at ≢ 0 → page_at page_size log db n at ≡ part log at page_size
page_in_log page_size log db n at some = cond_false (eqb at 0) _ _ (ne_eqb at 0 some)

-- the page that a frame is for
pub number_at : (log : List ℕ) (page_size i : ℕ) → page_number (frame page_size log i) ≡ be32 log (frame_at page_size i)
number_at log page_size i =
    let here : frame_at page_size i + 0 ≡ frame_at page_size i = add-zero _ in
    be32-part log (frame_at page_size i) (24 + page_size) 0 (omega arith) ∙ ap (be32 log) here

-- what is noted of one page after one more frame
pub page_noted : (page_size : ℕ) (log db : List ℕ) (n i was is : ℕ) → page_after page_size log db n i ≡ page_at page_size log db n was
    → is ≡ cond (eqb (be32 log (frame_at page_size i)) n) (frame_at page_size i + 24) was
    → page_after page_size log db n (suc i) ≡ page_at page_size log db n is
page_noted page_size log db n i was is before noted =
    let number = number_at log page_size i in
    elim (cases_eq (be32 log (frame_at page_size i)) n) [
      | inl same ↦
          let place : is ≡ frame_at page_size i + 24 = noted ∙ cond_true _ _ _ (eq-eqb _ _ same) in
          cond_true _ _ _ (eq-eqb _ _ (number ∙ same)) ∙ content-frame page_size log i
          ∙ sym (page_in_log page_size log db n (frame_at page_size i + 24) (omega arith)) ∙ ap (page_at page_size log db n) (sym place)
      | inr differs ↦
          cond_false _ _ _ (ne_eqb _ _ (λ same. differs (sym number ∙ same))) ∙ before
          ∙ ap (page_at page_size log db n) (sym (noted ∙ cond_false _ _ _ (ne_eqb _ _ differs)))
    ]

-- an offset that is noted lies in the log
pub offset_noted : (page_size len n i at was is : ℕ) → was + page_size ≤ len → at + 24 + page_size ≤ len → is ≡ cond (eqb i n) (at + 24) was → is + page_size ≤ len
offset_noted page_size len n i at was is before within noted =
    elim (cases_eq i n) [
      | inl same ↦ omega (arith, within, noted ∙ cond_true _ _ _ (eq-eqb _ _ same))
      | inr differs ↦ omega (arith, before, noted ∙ cond_false _ _ _ (ne_eqb _ _ differs))
    ]

-- one more frame
pub next_newest : (page_size : ℕ) (log : List ℕ) (count i at : ℕ) (old new : List ℕ) → AreNewest page_size log count i old → at ≡ frame_at page_size i → at + (24 + page_size) ≤ length log
    → length new ≡ length old → ((n : ℕ) → n < length old → slice_index new n ≡ cond (eqb (be32 log at) n) (at + 24) (slice_index old n))
    → ((n : ℕ) → length old ≤ n → slice_index new n ≡ slice_index old n) → AreNewest page_size log count (i + 1) new
next_newest page_size log count i at old new was here within len noted past =
    rw (add-one i) record {
      all = len ∙ was.all;
      each = λ db n low. page_noted page_size log db n i (slice_index old n) (slice_index new n) (was.each db n low) (rw (← here) (noted n (omega (arith, low, was.all))));
      within = λ n. elim (cases_lt n (length old)) [
        | inl low ↦ offset_noted page_size (length log) n (be32 log at) at (slice_index old n) (slice_index new n) (was.within n) (omega (arith, within)) (noted n low)
        | inr high ↦ omega (arith, was.within n, past n high)
      ];
    }

-- the number of pages after the last frame
pub count_last : (page_size : ℕ) (log db : List ℕ) (k size : ℕ) → k ≢ 0 → ((i : ℕ) → i + 1 ≡ k → size ≡ commit_size (frame page_size log i)) → page_count page_size log db k ≡ size
count_last page_size log db zero size some commit = absurd (some refl)
count_last page_size log db (suc i) size some commit = sym (commit i (add-one i))

-- no frame changes no page
pub carried_none : (page_size : ℕ) (log db : List ℕ) → IsCarriedOver page_size log db 0
carried_none page_size log db = same_pages page_size [] db log db 0 0 refl (λ n low high. refl)

-- the file has each page that it has with the log
pub carried_from : (page_size : ℕ) (log db : List ℕ) (k count : ℕ) → page_count page_size log db k ≡ count → length db / page_size ≡ count
    → ((n : ℕ) → 1 ≤ n → n ≤ count → page_after page_size log db n k ≡ file_page page_size db n) → IsCarriedOver page_size log db k
carried_from page_size log db k count is in_file same =
    same_pages page_size [] db log db 0 k (is ∙ sym in_file) (λ n low high. same n low (omega (arith, high, in_file)))

some_bytes : Option (List ℕ) → List ℕ
some_bytes (Some x) = x
some_bytes None = []

some_same : (x y : List ℕ) → Some x ≡ Some y → x ≡ y
unfolding some_bytes
some_same x y same = ap some_bytes same

some_none : (x : List ℕ) → Some x ≡ None → ⊥
some_none x same = false≢true (sym (ap (λ (o : Option (List ℕ)). is_some o) same))

-- page n is there exactly up to the count
pub page_there : (page_size : ℕ) (log db : List ℕ) (k n : ℕ) → 1 ≤ n → n ≤ page_count page_size log db k → pages_after page_size log db k n ≡ Some (page_after page_size log db n k)
unfolding pages_after
page_there page_size log db k n low high = cond_true _ _ _ (and_from _ _ (le-leb _ _ low) (le-leb _ _ high))

pub page_absent : (page_size : ℕ) (log db : List ℕ) (k n : ℕ) → page_count page_size log db k < n → pages_after page_size log db k n ≡ None
unfolding pages_after
page_absent page_size log db k n high = cond_false _ _ _ (and_right _ _ (lt-leb _ _ high))

pub carried_page : (page_size : ℕ) (log db : List ℕ) (k count n : ℕ) → page_count page_size log db k ≡ count → length db / page_size ≡ count → IsCarriedOver page_size log db k
    → 1 ≤ n → n ≤ count → page_after page_size log db n k ≡ file_page page_size db n
carried_page page_size log db k count n is in_file carried low high =
    some_same _ _ (sym (page_there page_size log db k n low (omega (arith, is, high))) ∙ ap (λ (pages : ℕ → Option (List ℕ)). pages n) carried
    ∙ page_there page_size [] db 0 n low (omega (arith, in_file, high)))

pub carried_count : (page_size : ℕ) (log db : List ℕ) (k count : ℕ) → page_count page_size log db k ≡ count → IsCarriedOver page_size log db k → length db / page_size ≡ count
carried_count page_size log db k count is carried =
    let m = length db / page_size in
    let at : (n : ℕ) → pages_after page_size log db k n ≡ pages_after page_size [] db 0 n = λ n. ap (λ (pages : ℕ → Option (List ℕ)). pages n) carried in
    elim (cases_lt m count) [
      | inl fewer ↦ absurd (some_none _ (sym (page_there page_size log db k count (omega (arith, fewer)) (omega (arith, is))) ∙ at count ∙ page_absent page_size [] db 0 count (omega (arith, fewer))))
      | inr more ↦ elim (cases_lt count m) [
        | inl fewer ↦ absurd (some_none _ (sym (page_there page_size [] db 0 m (omega (arith, fewer)) (omega arith)) ∙ sym (at m) ∙ page_absent page_size log db k m (omega (arith, is, fewer))))
        | inr same ↦ omega (arith, more, same)
      ]
    ]

-- a log is used in one way
pub shut_end : (log : List ℕ) (page_size k : ℕ) → IsInUse page_size log k → Passes page_size log k → ⊥
shut_end log page_size k is passes = is.salt (sym (gate_open log page_size k passes) ∙ is.shut)

pub one_size : (log : List ℕ) (p q j k : ℕ) → IsInUse p log j → IsInUse q log k → p ≡ q
one_size log p q j k a b = sym a.head.size ∙ b.head.size

pub one_end : (log : List ℕ) (p j k : ℕ) → IsInUse p log j → IsInUse p log k → j ≡ k
one_end log p j k a b = same_end log p j k a b.passes (shut_end log p k b)

-- what `==` says of two parts
pub same_bytes : (b : Bool) (log db : List ℕ) (at start n m m' : ℕ) → b ≡ bytes_eq (take m (drop at log)) (take m' (drop start db)) → m ≡ n → m' ≡ n
    → (b ≡ true → part log at n ≡ part db start n) × (part log at n ≡ part db start n → b ≡ true)
same_bytes b log db at start n m m' is one two =
    let a : take m (drop at log) ≡ part log at n = ap (λ (k : ℕ). take k (drop at log)) one ∙ sym (part_is log at n) in
    let d : take m' (drop start db) ≡ part db start n = ap (λ (k : ℕ). take k (drop start db)) two ∙ sym (part_is db start n) in (
      λ yes'. sym a ∙ (bytes_eq-Decides _ _).0 (sym is ∙ yes') ∙ d,
      λ same. is ∙ (bytes_eq-Decides _ _).1 (a ∙ same ∙ sym d),
    )

-- a page below the count lies in the file
pub page_within : (page_size n count len : ℕ) → n ≤ count → count * page_size ≤ len → n * page_size ≤ len
page_within page_size n count len low within =
    let less : n * page_size ≤ count * page_size = mul-le-mul_right page_size low in
    omega (arith, less, within)

-- a frame before the last one lies in the log
pub frame_within : (page_size i frames at len : ℕ) → i < frames → at ≡ frame_at page_size i → frame_at page_size frames ≤ len → at + (24 + page_size) ≤ len
frame_within page_size i frames at len low here within =
    omega (arith, within, next_frame page_size at i here, later_frame page_size (i + 1) frames (omega (arith, low)))

-- before the first frame no page is noted
pub zero_newest : (page_size : ℕ) (log : List ℕ) (count : ℕ) (newest : List ℕ) → newest ≡ replicate (count + 1) 0 → page_size ≤ length log → AreNewest page_size log count 0 newest
zero_newest page_size log count newest is some =
    none_newest page_size log count newest (ap length is ∙ length-replicate {A = ℕ} (count + 1) 0) (λ n. ap (λ (xs : List ℕ). slice_index xs n) is ∙ all_zero (count + 1) n) some

-- how the log is used that is begun again
pub again_from : (log l m db : List ℕ) (b : Bool) (p k : ℕ) → l ≡ with_first log → m ≡ with_first log → slice_index log 0 ≡ 0 → IsInUse p l k
    → (b ≡ true → IsCarriedOver p m db k) → (IsCarriedOver p m db k → b ≡ true) → (b ≡ true → IsBegunAgain log db) × (IsBegunAgain log db → b ≡ true)
again_from log l m db b p k is also first used there back =
    let here : IsInUse p (with_first log) k = subst (λ (x : List ℕ). IsInUse p x k) is used in (
      λ yes'. (first, (p, k, here, subst (λ (x : List ℕ). IsCarriedOver p x db k) also (there yes'))),
      λ again.
          let some = again.1 in
          let size : some.0 ≡ p = one_size (with_first log) some.0 p some.1 k some.2 here in
          let same : IsInUse p (with_first log) some.1 = subst (λ (q : ℕ). IsInUse q (with_first log) some.1) size some.2 in
          let end : some.1 ≡ k = one_end (with_first log) p some.1 k same here in
          let carried : IsCarriedOver p (with_first log) db some.1 = subst (λ (q : ℕ). IsCarriedOver q (with_first log) db some.1) size some.3 in
          back (subst (λ (x : List ℕ). IsCarriedOver p x db k) (sym also) (subst (λ (j : ℕ). IsCarriedOver p (with_first log) db j) end carried)),
    )

-- a log that is neither being begun, nor used, nor begun again
pub not_log : (log db a b d e : List ℕ) → a ≡ log → b ≡ log → d ≡ log → e ≡ db → (IsBegun a → ⊥) → (IsUsed b → ⊥) → (IsBegunAgain d e → ⊥) → IsLog log db → ⊥
not_log log db a b d e is_a is_b is_d is_e new used again some = elim some [
  | inl begun ↦ new (subst IsBegun (sym is_a) begun)
  | inr rest ↦ elim rest [
    | inl in_use ↦ used (subst IsUsed (sym is_b) in_use)
    | inr more ↦ again (subst (λ (x : List ℕ). IsBegunAgain x e) (sym is_d) (subst (λ (x : List ℕ). IsBegunAgain log x) (sym is_e) more))
  ]
]

pub log_again : (log db d e : List ℕ) → d ≡ log → e ≡ db → IsBegunAgain d e → IsLog log db
log_again log db d e is_d is_e again = inr (inr (subst (λ (x : List ℕ). IsBegunAgain log x) is_e (subst (λ (x : List ℕ). IsBegunAgain x e) is_d again)))

-- a first byte that reads 0
pub first_zero : (log : List ℕ) (first : ℕ) → first ≡ slice_index_or log 0 first → first ≡ 0 → slice_index log 0 ≡ 0
first_zero log first is none = ap (λ (d : ℕ). slice_index_or log 0 d) (sym none) ∙ sym is ∙ none
