-- A run of characters of a row, with the places beside it, as a copy in the machine takes them and leaves them.
use Rattle.std.proofs.Common.{◌≡◌, ℕ, ◌+◌, ◌-◌, ◌*◌, ◌^◌, ◌<◌, ◌≤◌, List, [], ◌∷◌, ◌++◌, Option, Some, None, map, replicate, length, take, drop, refl, sym, ap, ◌∙◌, arith, add-zero, drop-drop, length-take, length-drop}
use Rattle.std.proofs.lemmas.List.{length-map, length-replicate}
use mathlib.Core.Bool.{Bool, true, false}
use mathlib.Core.Logic.{⊎_elim}
use lib.ListN.{take-append-drop}
use seplogic.Ra.Ura.{Ura}
use base.Fraction.{full_share}
use base.Logic.{ent, sep, id⊢, mono_r}
use base.Fml.{Fml, fsep, froom}
use types.Logic.{Logic, sem}
use types.Kit.{‵, ◌⊛◌, given, ◌$◌, ◌∵◌, !, qed, move, by, use1, use2, use3, split, split3, fsplit, fjoin, learn, rewrite, done}
use borrow.Table.Char.{char_laws}
use denote.Array.{Array}
use denote.Index.{row}
use denote.Memory.{part_at}
use denote.Param.{param}
use denote.RattleType.{RattleType}
use denote.RawPtr.{block_ptr}
use denote.Text.{Char}
use Rattle.core.proofs.ptr.Rows.{El, whole, apart}
use Rattle.core.proofs.str.Laws.{order}
use Rattle.core.specs.Ptr.{IsShiftWithinBlock, memory_before_copy, memory_after_copy}
use Rattle.mgs_gap.specs.Ownership.{block_type, slots}
use Rattle.mgs_gap.specs.Places.{raised, lowered}
use Rattle.mgs_gap.proofs.Row.{cut, glue, of_room, to_room}
use Rattle.mgs_gap.proofs.Slots.{raised_long, lowered_long}

-- a list is its first a elements, the m after those, the l after those, and those from e on
four_parts : {X : Type 0} (cs : List X) (a m l e : ℕ) → a + m + l ≡ e → take a cs ++ (take m (drop a cs) ++ (take l (drop (a + m) cs) ++ drop e cs)) ≡ cs
four_parts {X} cs a m l e at =
    let last : take l (drop (a + m) cs) ++ drop e cs ≡ drop (a + m) cs = ap (λ (j : ℕ). take l (drop (a + m) cs) ++ drop j cs) (sym at)
    ∙ ap (λ (t : List X). take l (drop (a + m) cs) ++ t) (sym (drop-drop l (a + m) cs)) ∙ take-append-drop l (drop (a + m) cs) in
    let next : take m (drop a cs) ++ drop (a + m) cs ≡ drop a cs = ap (λ (t : List X). take m (drop a cs) ++ t) (sym (drop-drop m a cs)) ∙ take-append-drop m (drop a cs) in
    ap (λ (t : List X). take a cs ++ (take m (drop a cs) ++ t)) last ∙ ap (λ (t : List X). take a cs ++ t) next ∙ take-append-drop a cs

-- a move by no place is one down as well
still : (cs : List (Option ℕ)) (at n : ℕ) → raised cs at 0 n ≡ lowered cs at 0 n
still cs at n = ap (λ (j : ℕ). take at cs ++ (take n (drop j cs) ++ drop (at + (0 + n)) cs)) (sym (add-zero at))

abbrev pub R : RattleType
R = param 0 Char

abbrev E : El
E = record { row = Char; laws = char_laws }

module _ {M : Type 1} {𝓤 : Ura M} (𝓛 : Logic 𝓤) (b : ℕ) where
  abbrev Row : ℕ → List (Option ℕ) → Fml
  Row = slots b

  abbrev Run : ℕ → List ℕ → ℕ → Fml
  Run n xs o = part_at (Array R n) full_share xs b o

  to_row : (xs : List ℕ) (o : ℕ) → ent 𝓤 (sem 𝓛 (Row o (map Some xs))) (sem 𝓛 (row R full_share xs b o))
  to_row [] o = id⊢ 𝓤 _
  to_row (x ∷ xs) o = mono_r 𝓤 (sem 𝓛 (part_at Char full_share x b o)) (to_row xs (o + 4))

  of_row : (xs : List ℕ) (o : ℕ) → ent 𝓤 (sem 𝓛 (row R full_share xs b o)) (sem 𝓛 (Row o (map Some xs)))
  of_row [] o = id⊢ 𝓤 _
  of_row (x ∷ xs) o = mono_r 𝓤 (sem 𝓛 (part_at Char full_share x b o)) (of_row xs (o + 4))

  run_out : (xs : List ℕ) (n o : ℕ) → length xs ≡ n → ent 𝓤 (sem 𝓛 (Row o (map Some xs))) (sem 𝓛 (Run n xs o))
  run_out xs n o long = qed 𝓛 (‵ (Row o (map Some xs)) ∷ []) ∵ use1 𝓛 (‵ (row R full_share xs b o)) (to_row xs o) $ by ! (whole E 𝓛 full_share n xs b o long)

  run_in : (xs : List ℕ) (n o : ℕ) → ent 𝓤 (sem 𝓛 (Run n xs o)) (sem 𝓛 (Row o (map Some xs)))
  run_in xs n o = qed 𝓛 (‵ (Run n xs o) ∷ []) ∵ use1 𝓛 (given (length xs ≡ n) (‵ (row R full_share xs b o))) (apart E 𝓛 full_share n xs b o) $ learn ! (λ _. by ! (of_row xs o))

  -- what lies around two runs side by side
  abbrev Around : ℕ → List (Option ℕ) → ℕ → List (Option ℕ) → Fml
  Around o front end zs = fsep (Row o front) (Row end zs)

  module _ (front bs cs zs : List (Option ℕ)) (o at mid end : ℕ) (is_at : at ≡ length front * 4 + o) (is_mid : mid ≡ length bs * 4 + at) (is_end : end ≡ length cs * 4 + mid) where
    parts_out : ent 𝓤 (sem 𝓛 (Row o (front ++ (bs ++ (cs ++ zs))))) (sep 𝓤 (sem 𝓛 (Row at bs)) (sep 𝓤 (sem 𝓛 (Row mid cs)) (sem 𝓛 (Around o front end zs))))
    parts_out = qed 𝓛 (‵ (Row o (front ++ (bs ++ (cs ++ zs)))) ∷ []) ∵
        use1 𝓛 (‵ (Row o front) ⊛ ‵ (Row at (bs ++ (cs ++ zs)))) (cut 𝓛 b front (bs ++ (cs ++ zs)) o at is_at) $ split ! $ move ! (1 ∷ []) $
        use1 𝓛 (‵ (Row at bs) ⊛ ‵ (Row mid (cs ++ zs))) (cut 𝓛 b bs (cs ++ zs) at mid is_mid) $ split ! $ move ! (1 ∷ []) $
        use1 𝓛 (‵ (Row mid cs) ⊛ ‵ (Row end zs)) (cut 𝓛 b cs zs mid end is_end) $ split ! $
        move ! (3 ∷ 1 ∷ []) $ fjoin ! $ move ! (2 ∷ 1 ∷ 0 ∷ []) $ done !

    parts_in : ent 𝓤 (sep 𝓤 (sem 𝓛 (Row at bs)) (sep 𝓤 (sem 𝓛 (Row mid cs)) (sem 𝓛 (Around o front end zs)))) (sem 𝓛 (Row o (front ++ (bs ++ (cs ++ zs)))))
    parts_in = qed 𝓛 (‵ (Row at bs) ∷ ‵ (Row mid cs) ∷ ‵ (Around o front end zs) ∷ []) ∵ move ! (2 ∷ []) $ fsplit ! $ move ! (3 ∷ 1 ∷ []) $
        use2 𝓛 (‵ (Row mid (cs ++ zs))) (glue 𝓛 b cs zs mid end is_end) $ move ! (2 ∷ 0 ∷ []) $
        use2 𝓛 (‵ (Row at (bs ++ (cs ++ zs)))) (glue 𝓛 b bs (cs ++ zs) at mid is_mid) $ move ! (1 ∷ 0 ∷ []) $ by ! (glue 𝓛 b front (bs ++ (cs ++ zs)) o at is_at)

  module _ (cs : List (Option ℕ)) (o from to n : ℕ) (xs : List ℕ) where
    abbrev Before : Bool → ℕ → Fml
    Before up k = memory_before_copy R up k n (block_ptr b (from * 4 + o)) (block_ptr b (to * 4 + o)) xs

    abbrev After : Bool → ℕ → Fml
    After up k = memory_after_copy R up k n (block_ptr b (from * 4 + o)) (block_ptr b (to * 4 + o)) xs

    -- which way the characters xs go, what of the row goes there and what stays, and the row that comes of it
    pub record Way : Type 1 where
      pub up : Bool
      pub distance : ℕ
      pub apart : IsShiftWithinBlock R up distance n (block_ptr b (from * 4 + o)) (block_ptr b (to * 4 + o))
      pub news : List (Option ℕ)
      pub long : length news ≡ length cs
      pub rest : Fml
      pub out : ent 𝓤 (sem 𝓛 (Row o cs)) (sep 𝓤 (sem 𝓛 (Before up distance)) (sem 𝓛 rest))
      pub back : ent 𝓤 (sep 𝓤 (sem 𝓛 (After up distance)) (sem 𝓛 rest)) (sem 𝓛 (Row o news))
      pub raises : (k : ℕ) → to ≡ from + k → news ≡ raised cs from k n
      pub lowers : (k : ℕ) → from ≡ to + k → news ≡ lowered cs to k n

    module _ (low : o ≡ 0) (small : length cs * 4 < 2 ^ 63) (fits : from + n ≤ length cs) (room : to + n ≤ length cs) (shows : take n (drop from cs) ≡ map Some xs) where
      all : length xs ≡ n
      all = omega (arith, fits, ap (λ (l : List (Option ℕ)). length l) shows, length-map xs Some, length-take n (drop from cs), length-drop from cs)

      upward : from ≤ to → Way
      upward le =
          let k : ℕ = to - from in let far : to ≡ from + k = omega (arith, le) in
          let src : ℕ = from * 4 + o in let dst : ℕ = to * 4 + o in let mid : ℕ = n * 4 + src in let end : ℕ = k * 4 + mid in
          let front : List (Option ℕ) = take from cs in let some : List (Option ℕ) = map Some xs in let ms : List (Option ℕ) = take k (drop (from + n) cs) in
          let zs : List (Option ℕ) = drop (from + (k + n)) cs in let none : Option ℕ = None in let nones : List (Option ℕ) = replicate k none in
          let short : length front ≡ from = omega (arith, fits, length-take from cs) in
          let many : length some ≡ n = omega (arith, all, length-map xs Some) in
          let between : length ms ≡ k = omega (arith, room, far, length-take k (drop (from + n) cs), length-drop (from + n) cs) in
          let empty : length nones ≡ k = length-replicate k none in
          record {
            up = true;
            distance = k;
            apart = (ap (λ (j : ℕ). block_ptr b j) (omega (arith, far)), omega (arith, low, small, room, far));
            news = raised cs from k n;
            long = raised_long cs from k n (omega (arith, room, far));
            rest = Around o front end zs;
            out = qed 𝓛 (‵ (Row o cs) ∷ []) ∵ rewrite ! 0 (λ (l : List (Option ℕ)). ‵ (Row o l)) (sym (four_parts cs from n k (from + (k + n)) (omega arith)) ∙ ap (λ (l : List (Option ℕ)). front ++ (l ++ (ms ++ zs))) shows) refl $
                use1 𝓛 (‵ (Row src some) ⊛ ‵ (Row mid ms) ⊛ ‵ (Around o front end zs)) (parts_out front some ms zs o src mid end (omega (arith, short)) (omega (arith, many)) (omega (arith, between))) $ split3 ! $
                use1 𝓛 (‵ (Run n xs src)) (run_out xs n src all) $ move ! (1 ∷ []) $ use1 𝓛 (‵ (froom (block_type (length ms)) b mid)) (to_room 𝓛 b ms mid) $
                rewrite ! 0 (λ (j : ℕ). ‵ (froom (block_type j) b mid)) between refl $ move ! (1 ∷ 0 ∷ []) $ fjoin ! $ done !;
            back = qed 𝓛 (‵ (fsep (Run n xs dst) (froom (block_type k) b src)) ∷ ‵ (Around o front end zs) ∷ []) ∵ fsplit ! $
                use1 𝓛 (‵ (Row dst some)) (run_in xs n dst) $ move ! (1 ∷ []) $ use1 𝓛 (‵ (Row src nones)) (of_room 𝓛 b k src) $
                use3 𝓛 (‵ (Row o (front ++ (nones ++ (some ++ zs))))) (parts_in front nones some zs o src dst end (omega (arith, short)) (omega (arith, empty, far)) (omega (arith, many, far))) $
                rewrite ! 0 (λ (l : List (Option ℕ)). ‵ (Row o l)) (ap (λ (l : List (Option ℕ)). front ++ (nones ++ (l ++ zs))) (sym shows)) refl $ done !;
            raises = λ k' e. let same : k ≡ k' = omega (arith, e) in ap (λ (j : ℕ). raised cs from j n) same;
            lowers = λ k' e. let stays : k ≡ 0 = omega (arith, e) in let same : from ≡ to = omega (arith, e, le) in let zero' : 0 ≡ k' = omega (arith, e, le) in
                ap (λ (j : ℕ). raised cs from j n) stays ∙ still cs from n ∙ ap (λ (j : ℕ). lowered cs j 0 n) same ∙ ap (λ (j : ℕ). lowered cs to j n) zero';
          }

      downward : to < from → Way
      downward lt =
          let k : ℕ = from - to in let far : from ≡ to + k = omega (arith, lt) in
          let src : ℕ = from * 4 + o in let dst : ℕ = to * 4 + o in let mid : ℕ = n * 4 + dst in let end : ℕ = k * 4 + mid in
          let front : List (Option ℕ) = take to cs in let some : List (Option ℕ) = map Some xs in let ms : List (Option ℕ) = take k (drop to cs) in
          let zs : List (Option ℕ) = drop (to + (k + n)) cs in let none : Option ℕ = None in let nones : List (Option ℕ) = replicate k none in
          let short : length front ≡ to = omega (arith, room, length-take to cs) in
          let many : length some ≡ n = omega (arith, all, length-map xs Some) in
          let between : length ms ≡ k = omega (arith, fits, far, length-take k (drop to cs), length-drop to cs) in
          let empty : length nones ≡ k = length-replicate k none in
          let shows' : take n (drop (to + k) cs) ≡ some = ap (λ (j : ℕ). take n (drop j cs)) (sym far) ∙ shows in
          record {
            up = false;
            distance = k;
            apart = (ap (λ (j : ℕ). block_ptr b j) (omega (arith, far)), omega (arith, low, small, fits, far), omega (arith, lt));
            news = lowered cs to k n;
            long = lowered_long cs to k n (omega (arith, fits, far));
            rest = Around o front end zs;
            out = qed 𝓛 (‵ (Row o cs) ∷ []) ∵ rewrite ! 0 (λ (l : List (Option ℕ)). ‵ (Row o l)) (sym (four_parts cs to k n (to + (k + n)) (omega arith)) ∙ ap (λ (l : List (Option ℕ)). front ++ (ms ++ (l ++ zs))) shows') refl $
                use1 𝓛 (‵ (Row dst ms) ⊛ ‵ (Row src some) ⊛ ‵ (Around o front end zs)) (parts_out front ms some zs o dst src end (omega (arith, short)) (omega (arith, between, far)) (omega (arith, many, far))) $ split3 ! $
                use1 𝓛 (‵ (froom (block_type (length ms)) b dst)) (to_room 𝓛 b ms dst) $ rewrite ! 0 (λ (j : ℕ). ‵ (froom (block_type j) b dst)) between refl $ move ! (1 ∷ []) $
                use1 𝓛 (‵ (Run n xs src)) (run_out xs n src all) $ fjoin ! $ done !;
            back = qed 𝓛 (‵ (fsep (Run n xs dst) (froom (block_type k) b mid)) ∷ ‵ (Around o front end zs) ∷ []) ∵ fsplit ! $ move ! (1 ∷ []) $
                use1 𝓛 (‵ (Row mid nones)) (of_room 𝓛 b k mid) $ move ! (1 ∷ []) $ use1 𝓛 (‵ (Row dst some)) (run_in xs n dst) $
                use3 𝓛 (‵ (Row o (front ++ (some ++ (nones ++ zs))))) (parts_in front some nones zs o dst mid end (omega (arith, short)) (omega (arith, many)) (omega (arith, empty))) $
                rewrite ! 0 (λ (l : List (Option ℕ)). ‵ (Row o l)) (ap (λ (l : List (Option ℕ)). front ++ (l ++ (nones ++ zs))) (sym shows')) refl $ done !;
            raises = λ k' e. absurd (omega (arith, e, lt));
            lowers = λ k' e. let same : k ≡ k' = omega (arith, e) in ap (λ (j : ℕ). lowered cs to j n) same;
          }

      pub way : Way
      way = ⊎_elim downward upward (order to from)
