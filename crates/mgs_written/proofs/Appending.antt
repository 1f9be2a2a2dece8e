-- What is written and what is left.
use Rattle.std.proofs.Common.{◌≡◌, ℕ, ◌+◌, ◌<◌, List, [], ◌∷◌, ◌++◌, Option, None, Some, length, drop, slice_index, subst, sym, ap, ◌∙◌, append_assoc, append-nil}
use Rattle.std.proofs.lemmas.List.{drop_more}
use Rattle.std.specs.Char.{encode_utf8}
use Rattle.std.specs.Str.{encode_utf8_all}
use Rattle.std.specs.Io.KnownBytes.{Appends, append_known}

-- with what is left behind it, this is all
abbrev pub Ahead : Option (List ℕ) → Option (List ℕ) → List ℕ → List ℕ → Type 0
Ahead start known left all = Appends start (append_known known left) all

-- a first part of what is left was taken
pub ahead : (start old new : Option (List ℕ)) (bs left all : List ℕ) → Appends old new bs → Ahead start old (bs ++ left) all → Ahead start new left all
ahead None old new bs left all p h = tt
ahead (Some x) None new bs left all p h = absurd h
ahead (Some x) (Some y) None bs left all p h = absurd p
ahead (Some x) (Some y) (Some z) bs left all p h = ap (λ l. l ++ left) p ∙ append_assoc y bs left ∙ h

-- more was gathered
gathered : (known : Option (List ℕ)) (room bs : List ℕ) → Appends (append_known known room) (append_known known (room ++ bs)) bs
gathered None room bs = tt
gathered (Some x) room bs = sym (append_assoc x room bs)

-- a character was gathered, and what stood in the room before it may have been written
pub ahead_more : (start k0 k1 : Option (List ℕ)) (r0 r1 r2 text all : List ℕ) (i c : ℕ) → i < length text → c ≡ slice_index text i
    → Appends (append_known k0 r0) (append_known k1 r1) [] → r2 ≡ r1 ++ encode_utf8 c
    → Ahead start (append_known k0 r0) (encode_utf8_all (drop i text)) all → Ahead start (append_known k1 r2) (encode_utf8_all (drop (i + 1) text)) all
ahead_more start k0 k1 r0 r1 r2 text all i c within is made put so =
    let split : drop i text ≡ c ∷ drop (i + 1) text = drop_more text i 0 within ∙ ap (λ (x : ℕ). x ∷ drop (i + 1) text) (sym is) in
    let left = encode_utf8_all (drop (i + 1) text) in
    let before = subst (λ (l : List ℕ). Ahead start (append_known k0 r0) (encode_utf8_all l) all) split so in
    let mid = ahead start (append_known k0 r0) (append_known k1 r1) [] (encode_utf8 c ++ left) all made before in
    subst (λ (r : List ℕ). Ahead start (append_known k1 r) left all) (sym put) (ahead start (append_known k1 r1) (append_known k1 (r1 ++ encode_utf8 c)) (encode_utf8 c) left all (gathered k1 r1 (encode_utf8 c)) mid)

-- all was gathered, and what was gathered is written
pub ahead_written : (start known last : Option (List ℕ)) (room all : List ℕ) → Ahead start (append_known known room) [] all → Appends known last room → Appends start last all
ahead_written None known last room all h p = tt
ahead_written (Some x) None last room all h p = absurd h
ahead_written (Some x) (Some y) None room all h p = absurd p
ahead_written (Some x) (Some y) (Some z) room all h p = p ∙ sym (append-nil (y ++ room)) ∙ h

-- nothing was written yet
pub ahead_first : (start : Option (List ℕ)) (room all : List ℕ) → room ≡ [] → Ahead start (append_known start room) all all
ahead_first None room all e = tt
ahead_first (Some x) room all e = ap (λ l. (x ++ l) ++ all) e ∙ ap (λ l. l ++ all) (append-nil x)
