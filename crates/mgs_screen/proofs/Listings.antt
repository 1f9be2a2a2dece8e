-- What the listing of all buffers and an access list show.
use Rattle.std.proofs.Common.{◌≡◌, ℕ, suc, ◌+◌, ◌<◌, ◌≤◌, Bool, true, false, List, [], ◌∷◌, ◌++◌, length, map, take, drop, get_or, Option, Some, None, refl, sym, ap, ◌∙◌, arith}
use Rattle.std.specs.Prelude.{slice_get, codes, decimal, if◌then◌else◌}
use Rattle.std.specs.List.{flat_map}
use Rattle.std.proofs.lemmas.Grind.{flat_map-append}
use Rattle.std.proofs.lemmas.List.{append-nil, map-append, length-map, length-take-le, take_more, take-append-drop}
use Rattle.std.proofs.lemmas.List.Folds.{list_any_at}
use Rattle.std.proofs.lemmas.Option.{slice_get-get_or}
use Rattle.mgs_model.specs.Rights.{all_rights}
use Rattle.mgs_model.specs.Access.{Directory, Decider, decider, decision_by, allows, any_right}
use Rattle.mgs_model.specs.World.{Buffer}
use Rattle.mgs_model.specs.View.{BufferSeen, buffer_seen, told_if}
use Rattle.mgs_model.specs.Seen.{Attributes, EntriesSeen, Listed, Unlisted, attributes_seen, attributes_of, entries_seen, if_granted, entries_pane}
use Rattle.mgs_model.specs.Rows.{Row, mode_row}
use Rattle.mgs_model.specs.Draw.{rows_from, listing_text, entry_text, entries_texts, entries_shown, name_or_mask, pane_rows}
use Rattle.mgs_model.specs.Picture.{Picture}
use Rattle.mgs_model.specs.declared.right.Right.{Right}
use Rattle.mgs_model.specs.declared.right.Right.TheVariants.{ReadAttributes, ReadAcl}
use Rattle.mgs_model.specs.declared.entry.Entry.{Entry}
use Rattle.mgs_model.specs.declared.entry.Decision.{Decision}
use Rattle.mgs_buffers.specs.MarkedBuffer.{MarkedBuffer, marked_at, HasBuffer}
use Rattle.mgs_buffers.specs.Told.{attributes_to, attributes_found}
use Rattle.mgs_grid.specs.Lists.{acl_mode}
use Rattle.mgs_world.specs.Worlds.{buffers_of}
use Rattle.mgs_world.proofs.Found.{found_seen, name_kept}
use Rattle.mgs_screen.specs.Listings.{entries_to, entries_told, name_to, past_sight, row_drawn, buffer_drawn, drawn, listed}
use Rattle.mgs_screen.specs.declared.list_rows.Sight.{Sight}
use Rattle.mgs_screen.proofs.Sights.{row_more, drawn_past}

-- WHAT IS TOLD OF A BUFFER

pub attributes_are : (d : Directory) (user : List ℕ) (b : Buffer) → attributes_of (buffer_seen d user b) ≡ attributes_to d user b
attributes_are d user b =
    let deciders : Right → Decider = decider d b.owners user b.entries in
    let mine : Attributes = record { name = b.name; modified = b.modified; size = length b.text; owners = b.owners } in
    let goal : Bool → Type 0 = λ r. attributes_seen r b.name (told_if (any_right deciders) b) ≡ (if r then Some mine else None) in
    let go : (r : Bool) → allows (deciders ReadAttributes) ≡ r → goal r = λ r. elim r as (λ r. allows (deciders ReadAttributes) ≡ r → goal r) [
      | true ↦ λ is. ap (λ (any : Bool). attributes_seen true b.name (told_if any b)) (list_any_at (λ (right : Right). allows (deciders right)) all_rights 3 ReadAttributes (omega arith) is)
      | false ↦ λ is. refl
    ] in
    go (allows (deciders ReadAttributes)) refl

entries_are : (d : Directory) (user : List ℕ) (b : Buffer) → entries_seen (allows (decider d b.owners user b.entries ReadAcl)) (decision_by (decider d b.owners user b.entries) (ReadAcl ∷ [])) (buffer_seen d user b).told ≡ entries_told d user b
entries_are d user b =
    let deciders : Right → Decider = decider d b.owners user b.entries in
    let why : Decision = decision_by deciders (ReadAcl ∷ []) in
    let goal : Bool → Type 0 = λ r. entries_seen r why (told_if (any_right deciders) b) ≡ (if r then Listed b.entries else Unlisted why) in
    let go : (r : Bool) → allows (deciders ReadAcl) ≡ r → goal r = λ r. elim r as (λ r. allows (deciders ReadAcl) ≡ r → goal r) [
      | true ↦ λ is. ap (λ (any : Bool). entries_seen true why (told_if any b)) (list_any_at (λ (right : Right). allows (deciders right)) all_rights 5 ReadAcl (omega arith) is)
      | false ↦ λ is. refl
    ] in
    go (allows (deciders ReadAcl)) refl

-- THE LISTING

listed_append : (d : Directory) (user : List ℕ) (xs ys : List MarkedBuffer) → listed d user (xs ++ ys) ≡ listed d user xs ++ listed d user ys
listed_append d user xs ys =
    let told : BufferSeen → List Attributes = λ (b : BufferSeen). if_granted (attributes_of b) in
    ap (λ (bs : List Buffer). flat_map told (map (buffer_seen d user) bs)) (map-append (λ (x : MarkedBuffer). x.buffer) xs ys)
    ∙ ap (flat_map told) (map-append (buffer_seen d user) (buffers_of xs) (buffers_of ys))
    ∙ flat_map-append told (map (buffer_seen d user) (buffers_of xs)) (map (buffer_seen d user) (buffers_of ys))

-- one buffer more
pub listed_more : (d : Directory) (user : List ℕ) (ks : List MarkedBuffer) (i : ℕ) → i < length ks
    → listed d user (take (i + 1) ks) ≡ listed d user (take i ks) ++ if_granted (attributes_found d user (slice_get ks i))
listed_more d user ks i within =
    let k : MarkedBuffer = get_or ks i (marked_at [] []) in
    let front : List MarkedBuffer = take i ks in
    ap (listed d user) (take_more ks i (marked_at [] []) within)
    ∙ listed_append d user front (k ∷ [])
    ∙ ap (λ (more : List Attributes). listed d user front ++ more) (append-nil (if_granted (attributes_of (buffer_seen d user k.buffer))))
    ∙ ap (λ (o : Option Attributes). listed d user front ++ if_granted o) (attributes_are d user k.buffer)
    ∙ ap (λ (o : Option MarkedBuffer). listed d user front ++ if_granted (attributes_found d user o)) (sym (slice_get-get_or ks i (marked_at [] []) within))

-- the others are past the sight
pub listing_past : (s : Sight) (n i : ℕ) (d : Directory) (user : List ℕ) (ks : List MarkedBuffer) (p : Picture) → n ≡ length (listed d user (take i ks)) → past_sight s n ≡ true
    → drawn s (map listing_text (listed d user (take i ks))) p ≡ drawn s (map listing_text (listed d user ks)) p
listing_past s n i d user ks p is past =
    let xs : List Attributes = listed d user (take i ks) in
    let ys : List Attributes = listed d user (drop i ks) in
    drawn_past s n (map listing_text xs) (map listing_text ys) p (is ∙ sym (length-map xs listing_text)) past
    ∙ ap (λ (texts : List (List ℕ)). drawn s texts p) (sym (map-append listing_text xs ys))
    ∙ ap (λ (told : List Attributes). drawn s (map listing_text told) p) (sym (listed_append d user (take i ks) (drop i ks)) ∙ ap (listed d user) (take-append-drop i ks))

pub buffer_more : (s : Sight) (n : ℕ) (xs : List Attributes) (o : Option Attributes) (p : Picture) → n ≡ length xs → s.first + s.height ≤ length p.lines
    → buffer_drawn s n o (drawn s (map listing_text xs) p) ≡ drawn s (map listing_text (xs ++ if_granted o)) p
buffer_more s n xs None p is fits = ap (λ (told : List Attributes). drawn s (map listing_text told) p) (sym (append-nil xs))
buffer_more s n xs (Some a) p is fits =
    ap (λ (k : ℕ). row_drawn s k (listing_text a) (drawn s (map listing_text xs) p)) (is ∙ sym (length-map xs listing_text))
    ∙ row_more s (map listing_text xs) (listing_text a) p fits
    ∙ ap (λ (texts : List (List ℕ)). drawn s texts p) (sym (map-append listing_text xs (a ∷ [])))

-- AN ACCESS LIST

length-entries_texts : (n : ℕ) (es : List Entry) → length (entries_texts n es) ≡ length es
length-entries_texts n [] = refl
length-entries_texts n (e ∷ es) = ap suc (length-entries_texts (n + 1) es)

entries_texts_append : (n m : ℕ) (xs ys : List Entry) → m ≡ n + length xs → entries_texts n (xs ++ ys) ≡ entries_texts n xs ++ entries_texts m ys
entries_texts_append n m [] ys is = ap (λ (k : ℕ). entries_texts k ys) (omega (arith, is))
entries_texts_append n m (x ∷ xs) ys is = ap (λ (texts : List (List ℕ)). (decimal n ++ 32 ∷ entry_text x) ∷ texts) (entries_texts_append (n + 1) m xs ys (omega (arith, is)))

pub entry_more : (s : Sight) (i : ℕ) (es : List Entry) (e : Entry) (p now new : Picture) → i < length es → e ≡ get_or es i e → s.first + s.height ≤ length p.lines
    → now ≡ drawn s (entries_texts 1 (take i es)) p
    → new ≡ row_drawn s i (decimal (i + 1) ++ 32 ∷ entry_text e) now
    → new ≡ drawn s (entries_texts 1 (take (i + 1) es)) p
entry_more s i es e p now new within at fits so_far put =
    let texts : List (List ℕ) = entries_texts 1 (take i es) in
    let text : List ℕ = decimal (i + 1) ++ 32 ∷ entry_text e in
    let n : length (take i es) ≡ i = length-take-le i es (omega (arith, within)) in
    let size : i ≡ length texts = sym (length-entries_texts 1 (take i es) ∙ n) in
    let more : take (i + 1) es ≡ take i es ++ e ∷ [] = take_more es i e within ∙ ap (λ (x : Entry). take i es ++ x ∷ []) (sym at) in
    put
    ∙ ap (row_drawn s i text) so_far
    ∙ ap (λ (k : ℕ). row_drawn s k text (drawn s texts p)) size
    ∙ row_more s texts text p fits
    ∙ ap (λ (ts : List (List ℕ)). drawn s ts p) (sym (ap (entries_texts 1) more ∙ entries_texts_append 1 (i + 1) (take i es) (e ∷ []) (omega (arith, n))))

-- the others are past the sight
pub entries_past : (s : Sight) (i : ℕ) (es : List Entry) (p : Picture) → i < length es → past_sight s i ≡ true
    → drawn s (entries_texts 1 (take i es)) p ≡ drawn s (entries_texts 1 es) p
entries_past s i es p within past =
    let front : List Entry = take i es in
    let n : length front ≡ i = length-take-le i es (omega (arith, within)) in
    drawn_past s i (entries_texts 1 front) (entries_texts (i + 1) (drop i es)) p (sym (length-entries_texts 1 front ∙ n)) past
    ∙ ap (λ (ts : List (List ℕ)). drawn s ts p) (sym (entries_texts_append 1 (i + 1) front (drop i es) (omega (arith, n))) ∙ ap (entries_texts 1) (take-append-drop i es))

-- the pane of a buffer's access list
pub entries_pane_is : (selected : Bool) (cols h row : ℕ) (d : Directory) (user name : List ℕ) (ks : List MarkedBuffer) → HasBuffer name ks
    → pane_rows selected cols h (entries_to d user ks name row) ≡ rows_from cols h row (entries_shown (entries_told d user (marked_at name ks).buffer)) ++ mode_row cols (acl_mode (name_to d user ks name)) ∷ []
entries_pane_is selected cols h row d user name ks kept =
    let b : Buffer = (marked_at name ks).buffer in
    let rows : EntriesSeen → List Row = λ (e : EntriesSeen). rows_from cols h row (entries_shown e) in
    let told : EntriesSeen = entries_told d user b in
    let mode : (r : Bool) → codes "-Acl-" ++ name_or_mask (if r then Some (record { name = b.name; modified = b.modified; size = length b.text; owners = b.owners }) else None) ≡ acl_mode (if r then Some name else None) = elim [
      | true ↦ ap (λ (n : List ℕ). codes "-Acl-" ++ n) (name_kept name ks kept)
      | false ↦ refl
    ] in
    ap (λ (o : Option BufferSeen). pane_rows selected cols h (entries_pane row o)) (found_seen d user name ks kept)
    ∙ ap (λ (e : EntriesSeen). rows e ++ mode_row cols (codes "-Acl-" ++ name_or_mask (attributes_of (buffer_seen d user b))) ∷ []) (entries_are d user b)
    ∙ ap (λ (o : Option Attributes). rows told ++ mode_row cols (codes "-Acl-" ++ name_or_mask o) ∷ []) (attributes_are d user b)
    ∙ ap (λ (text : List ℕ). rows told ++ mode_row cols text ∷ []) (mode (allows (decider d b.owners user b.entries ReadAttributes)))
