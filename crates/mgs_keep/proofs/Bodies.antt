-- Texts as UTF-8, piece by piece, and the buffers whose they are.
use Rattle.std.proofs.Common.{◌≡◌, ℕ, zero, suc, ◌+◌, ◌<◌, Bool, true, false, List, [], ◌∷◌, ◌++◌, map, drop, length, Option, Some, refl, sym, ap, ◌∙◌, subst, append_assoc}
use Rattle.std.proofs.lemmas.List.{drop_more}
use Rattle.std.proofs.lemmas.Option.{slice_get_within, slice_get-map}
use Rattle.std.proofs.lemmas.Slice.Eq.{bytes_eq-Decides}
use Rattle.std.specs.Prelude.{find, get_or, slice_get, IsSome, if◌then◌else◌}
use Rattle.std.specs.Option.{option_map}
use Rattle.std.specs.Char.{encode_utf8}
use Rattle.std.specs.Str.{encode_utf8_all}
use Rattle.mgs_model.specs.World.{Buffer, is_named}
use Rattle.mgs_laws.specs.Apart.{Rules, rules_in, rules_of}
use Rattle.mgs_buffers.specs.Found.{Named as Found}
use Rattle.mgs_buffers.specs.Judging.{rules_kept}
use Rattle.mgs_buffers.specs.MarkedBuffer.{HasBuffer, MarkedBuffer, marked_at, marked_named, marked_or_none}
use Rattle.mgs_journal.specs.Texts.{KeptText}
use Rattle.mgs_engine.specs.Serving.{Serving}
use Rattle.mgs_journal.specs.Rows.{KeptRights}
use Rattle.mgs_keep.specs.Keeping.{IsAt, IsOf, file_sum, row_of, rows_in}

pub encodes_then : (xs ys : List ℕ) → encode_utf8_all (xs ++ ys) ≡ encode_utf8_all xs ++ encode_utf8_all ys
encodes_then [] ys = refl
encodes_then (x ∷ xs) ys = ap (λ bs. encode_utf8 x ++ bs) (encodes_then xs ys) ∙ sym (append_assoc (encode_utf8 x) (encode_utf8_all xs) (encode_utf8_all ys))

-- one character more
pub character_more : (body put all text : List ℕ) (i c : ℕ) → i < length text → c ≡ get_or text i c → put ≡ body ++ encode_utf8 c
    → body ++ encode_utf8_all (drop i text) ≡ all → put ++ encode_utf8_all (drop (i + 1) text) ≡ all
character_more body put all text i c within is made so =
    let split : drop i text ≡ c ∷ drop (i + 1) text = drop_more text i c within ∙ ap (λ (x : ℕ). x ∷ drop (i + 1) text) (sym is) in
    ap (λ (bs : List ℕ). bs ++ encode_utf8_all (drop (i + 1) text)) made
    ∙ append_assoc body (encode_utf8 c) (encode_utf8_all (drop (i + 1) text))
    ∙ ap (λ (cs : List ℕ). body ++ encode_utf8_all cs) (sym split)
    ∙ so

-- one piece more
pub piece_more : (body put text piece : List ℕ) (at : ℕ) → drop at text ≡ piece ++ drop (at + length piece) text → put ≡ body ++ encode_utf8_all piece
    → body ++ encode_utf8_all (drop at text) ≡ encode_utf8_all text → put ++ encode_utf8_all (drop (at + length piece) text) ≡ encode_utf8_all text
piece_more body put text piece at split made so =
    ap (λ (bs : List ℕ). bs ++ encode_utf8_all (drop (at + length piece) text)) made
    ∙ append_assoc body (encode_utf8_all piece) (encode_utf8_all (drop (at + length piece) text))
    ∙ ap (λ (bs : List ℕ). body ++ bs) (sym (encodes_then piece (drop (at + length piece) text)))
    ∙ ap (λ (cs : List ℕ). body ++ encode_utf8_all cs) (sym split)
    ∙ so

-- THE BUFFER of a name that stands at a place

some_is : {A : Type 0} (a b : A) → Some a ≡ Some b → a ≡ b
some_is a b e = cc

record Named (name : List ℕ) (ks : List MarkedBuffer) : Type 0 where
  buffer : MarkedBuffer
  found : find (marked_named name) ks ≡ Some buffer

named_here : (name : List ℕ) (k : MarkedBuffer) (ks : List MarkedBuffer) (b : Bool) → marked_named name k ≡ b → b ≡ true → Named name (k ∷ ks)
named_here name k ks true e is = record { buffer = k; found = ap (λ v. if v then Some k else find (marked_named name) ks) e }
named_here name k ks false e is = absurd cc

named_there : (name : List ℕ) (k : MarkedBuffer) (ks : List MarkedBuffer) (b : Bool) → marked_named name k ≡ b → Named name ks → Named name (k ∷ ks)
named_there name k ks true e rest = record { buffer = k; found = ap (λ v. if v then Some k else find (marked_named name) ks) e }
named_there name k ks false e rest = record { buffer = rest.buffer; found = ap (λ v. if v then Some k else find (marked_named name) ks) e ∙ rest.found }

named_at : (ks : List MarkedBuffer) (i : ℕ) (r : Rules) → Some r ≡ slice_get (rules_kept ks) i → Named r.name ks
named_at [] i r at = absurd cc
named_at (k ∷ ks) zero r at =
    named_here r.name k ks (marked_named r.name k) refl (ap (λ (s : Rules). marked_named s.name k) (some_is r (rules_of k.buffer) at) ∙ (bytes_eq-Decides k.buffer.name k.buffer.name).1 refl)
named_at (k ∷ ks) (suc i) r at = named_there r.name k ks (marked_named r.name k) refl (named_at ks i r at)

pub has_at : (ks : List MarkedBuffer) (i : ℕ) (r : Rules) → Some r ≡ slice_get (rules_kept ks) i → HasBuffer r.name ks
has_at ks i r at = subst (λ (o : Option MarkedBuffer). IsSome o) (sym (named_at ks i r at).found) refl

either : (b : Bool) (k : MarkedBuffer) (rest : Option Buffer) (more : Option MarkedBuffer) → rest ≡ option_map (λ (k : MarkedBuffer). k.buffer) more
    → (if b then Some k.buffer else rest) ≡ option_map (λ (k : MarkedBuffer). k.buffer) (if b then Some k else more)
either true k rest more e = refl
either false k rest more e = e

found_in : (name : List ℕ) (ks : List MarkedBuffer) → find (is_named name) (map (λ k. k.buffer) ks) ≡ option_map (λ (k : MarkedBuffer). k.buffer) (find (marked_named name) ks)
found_in name [] = refl
found_in name (k ∷ ks) = either (is_named name k.buffer) k (find (is_named name) (map (λ k. k.buffer) ks)) (find (marked_named name) ks) (found_in name ks)

is_of : (ks : List MarkedBuffer) (name : List ℕ) (before : Option KeptText) (t : KeptText) → Named name ks → t.body ≡ encode_utf8_all (marked_at name ks).buffer.text
    → t.modified ≡ (marked_at name ks).buffer.modified → t.file ≡ file_sum (marked_at name ks).buffer.modified (marked_at name ks).buffer.text before
    → IsOf (find (is_named name) (map (λ k. k.buffer) ks)) before t
is_of ks name before t named body modified file =
    let here : marked_at name ks ≡ named.buffer = ap marked_or_none named.found in
    let found : find (is_named name) (map (λ k. k.buffer) ks) ≡ Some named.buffer.buffer = found_in name ks ∙ ap (option_map (λ (k : MarkedBuffer). k.buffer)) named.found in
    subst (λ (o : Option Buffer). IsOf o before t) (sym found) (
      body ∙ ap (λ (k : MarkedBuffer). encode_utf8_all k.buffer.text) here,
      modified ∙ ap (λ (k : MarkedBuffer). k.buffer.modified) here,
      file ∙ ap (λ (k : MarkedBuffer). file_sum k.buffer.modified k.buffer.text before) here,
    )

-- what is kept is of the buffer as it stands
pub snapshot_is : (ks : List MarkedBuffer) (bs : List Buffer) (i : ℕ) (r : Rules) (before : Option KeptText) (t : KeptText) → map (λ k. k.buffer) ks ≡ bs → Some r ≡ slice_get (rules_kept ks) i
    → t.body ≡ encode_utf8_all (marked_at r.name ks).buffer.text → t.modified ≡ (marked_at r.name ks).buffer.modified
    → t.file ≡ file_sum (marked_at r.name ks).buffer.modified (marked_at r.name ks).buffer.text before → IsAt (slice_get (rules_in bs) i) bs before t
snapshot_is ks bs i r before t same at body modified file =
    subst (λ (cs : List Buffer). IsAt (slice_get (rules_in cs) i) cs before t) same
    (subst (λ (o : Option Rules). IsAt o (map (λ k. k.buffer) ks) before t) at (is_of ks r.name before t (named_at ks i r at) body modified file))

-- so of one that was looked up by its name
pub snapshot_by : (ks : List MarkedBuffer) (bs : List Buffer) (i : ℕ) (r s : Rules) (f : Found) (before : Option KeptText) (t : KeptText) → map (λ k. k.buffer) ks ≡ bs
    → Some r ≡ slice_get (rules_kept ks) i → s ≡ r → f ≡ record { name = s.name; all = ks } → t.body ≡ encode_utf8_all (marked_at f.name f.all).buffer.text
    → t.modified ≡ (marked_at f.name f.all).buffer.modified → t.file ≡ file_sum t.modified (marked_at f.name f.all).buffer.text before
    → IsAt (slice_get (rules_in bs) i) bs before t
snapshot_by ks bs i r s f before t same at is found body modified file =
    let here : marked_at f.name f.all ≡ marked_at r.name ks = ap (λ (g : Found). marked_at g.name g.all) found ∙ ap (λ (q : Rules). marked_at q.name ks) is in
    snapshot_is ks bs i r before t same at (body ∙ ap (λ (k : MarkedBuffer). encode_utf8_all k.buffer.text) here) (modified ∙ ap (λ (k : MarkedBuffer). k.buffer.modified) here)
    (file ∙ ap (λ (m : Bool). file_sum m (marked_at f.name f.all).buffer.text before) modified ∙ ap (λ (k : MarkedBuffer). file_sum k.buffer.modified k.buffer.text before) here)

pub within_rows : (s : Serving) (rows : List KeptRights) (i : ℕ) (r : Rules) → Some r ≡ slice_get (rules_in s.world.buffers) i → rows ≡ rows_in s → i < length rows
within_rows s rows i r at same =
    subst (λ rs. i < length rs) (sym same)
    (slice_get_within (rows_in s) i (row_of s.store.births r)
    (slice_get-map (row_of s.store.births) (rules_in s.world.buffers) i ∙ ap (option_map (row_of s.store.births)) (sym at)))
