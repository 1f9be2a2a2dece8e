-- What is denied to an act is recorded by what was decided, at the buffer at which it was asked.
use Rattle.std.proofs.Common.{◌≡◌, ℕ, ◌+◌, ◌==◌, Bool, true, false, cond, List, [], ◌∷◌, length, Option, Some, None, is_some, refl, sym, ap, subst, ◌∙◌}
use Rattle.std.specs.Option.{option_and_then, option_map}
use Rattle.mgs_model.specs.Names.{same_name}
use Rattle.mgs_model.specs.Rights.{bit_of, rights_in}
use Rattle.mgs_model.specs.Access.{Decider, Nobody, Allows, Denies, decision_by}
use Rattle.mgs_model.specs.World.{Shows, Nothing, Buffer_of, Listing, List_of}
use Rattle.mgs_model.specs.View.{View, BufferSeen, WindowSeen, find_seen}
use Rattle.mgs_model.specs.Outcome.{Act, Unbound, Run}
use Rattle.mgs_model.specs.Acts.{Request, Target, about, copy_needs, deciders_found, here, insertion_right, is_at_text_end, judged, meaning_by_name, name_shown, needs, or_else, read_write, request_judged, selected_seen, target_in, there}
use Rattle.mgs_model.specs.declared.entry.Decision.{Decision}
use Rattle.mgs_model.specs.declared.entry.Decision.TheVariants.{Granted, DeniedBy, NotGranted}
use Rattle.mgs_model.specs.declared.right.Right.{Right}
use Rattle.mgs_model.specs.declared.right.Right.TheVariants.{ReadData, WriteData, AppendData, ReadAttributes, Delete, ReadAcl, WriteAcl, WriteOwner}
use Rattle.mgs_model.specs.declared.session.ByName.{ByName}
use Rattle.mgs_model.specs.declared.session.ByName.TheVariants.{SwitchToBuffer, KillBuffer, InsertBuffer}
use Rattle.mgs_model.specs.declared.session.Command.TheVariants.{Insert, InsertReading, Move, Alter, Seek, Replace, Scroll, Named, Entries, ListEntries, SetOwner, SetGroup, UndoEdit, NotModified, SaveBuffer}
use Rattle.mgs_model.proofs.Blind.{same_names}
use Rattle.mgs_births.specs.Reports.{refusals, refused_first}
use Rattle.mgs_births.specs.Tapes.{Tape, tape_after}
use Rattle.mgs_births.specs.Denials.{asked_by, asked_by_name, denied_at, if_there, source_or, subject_shown, tape_denied}

-- what the selected window shows
abbrev pub shown_in : Option WindowSeen → Option (List ℕ)
shown_in o = option_and_then (λ (x : WindowSeen). subject_shown x.shows) o

abbrev pub is_there : View → List ℕ → Bool
is_there v name = is_some (find_seen name v.buffers)

-- WHAT IS DENIED BY REQUESTS is on the tape where `asked` tells the buffer
pub record AreTaped (v : View) (asked : Right → Option (List ℕ)) (rs : List Request) : Type 0 where
  pub taped : (t : Tape) → tape_denied asked (judged v rs) t ≡ tape_after (refusals v rs) t

none_taped : (v : View) (asked : Right → Option (List ℕ)) → AreTaped v asked []
none_taped v asked = record { taped = λ t. refl }

-- of one request, whatever right it is
one_taped : (v : View) (asked : Right → Option (List ℕ)) (r : Request) → ((right : Right) → asked right ≡ Some r.buffer) → AreTaped v asked (r ∷ [])
one_taped v asked r is = record { taped = λ t. by t (request_judged v r) }
  where
    by : (t : Tape) (d : Decision) → tape_denied asked (or_else d Granted) t ≡ tape_after (refused_first r.buffer d []) t
    by t Granted = refl
    by t (DeniedBy n right) = ap (λ o. denied_at o (DeniedBy n right) t) (is right)
    by t (NotGranted right) = ap (λ o. denied_at o (NotGranted right) t) (is right)

-- THE BUFFER THAT IS FOUND has the name
found_named : (name : List ℕ) (bs : List BufferSeen) (b : BufferSeen) → find_seen name bs ≡ Some b → name ≡ b.name
found_named name [] b e = cc
found_named name (x ∷ xs) b e = by (same_name name x.name) refl (found_named name xs b) e
  where
    by : (c : Bool) → same_name name x.name ≡ c → (find_seen name xs ≡ Some b → name ≡ b.name) → cond c (Some x) (find_seen name xs) ≡ Some b → name ≡ b.name
    by true q rest e = (let is : x ≡ b = cc in same_names name x.name q ∙ ap (λ (y : BufferSeen). y.name) is)
    by false q rest e = rest e

module _ (v : View) (unnamed : find_seen [] v.buffers ≡ None) where
  -- the selected window's buffer
  here_at : (o : Option WindowSeen) (rights : Target → ℕ) → AreTaped v (λ right. shown_in o) (here (option_and_then (λ (x : WindowSeen). target_in v.buffers x x.shows) o) rights)
  here_at None rights = none_taped v _
  here_at (Some x) rights = by x.shows
    where
      found : (name : List ℕ) (o : Option BufferSeen) → find_seen name v.buffers ≡ o → AreTaped v (λ right. Some name) (here (option_map (λ b. let t : Target = record { window = x; buffer = b } in t) o) rights)
      found name None e = none_taped v _
      found name (Some b) e = one_taped v _ _ (λ right. ap (λ (n : List ℕ). Some n) (found_named name v.buffers b e))

      by : (s : Shows) → AreTaped v (λ right. subject_shown s) (here (target_in v.buffers x s) rights)
      by Nothing = none_taped v _
      by (Buffer_of name) = found name (find_seen name v.buffers) refl
      by Listing = none_taped v _
      by (List_of name) = none_taped v _

  -- the buffer that is shown, or whose list is
  about_at : (o : Option WindowSeen) (rights : ℕ) → AreTaped v (λ right. shown_in o) (about (option_and_then (λ (x : WindowSeen). find_seen (name_shown x.shows) v.buffers) o) rights)
  about_at None rights = none_taped v _
  about_at (Some x) rights = by x.shows
    where
      found : (name : List ℕ) (o : Option BufferSeen) → find_seen name v.buffers ≡ o → AreTaped v (λ right. Some name) (about o rights)
      found name None e = none_taped v _
      found name (Some b) e = one_taped v _ _ (λ right. ap (λ (n : List ℕ). Some n) (found_named name v.buffers b e))

      nobody : AreTaped v (λ right. None) (about (find_seen [] v.buffers) rights)
      nobody = subst (λ (o : Option BufferSeen). AreTaped v (λ right. None) (about o rights)) (sym unnamed) (none_taped v _)

      by : (s : Shows) → AreTaped v (λ right. subject_shown s) (about (find_seen (name_shown s) v.buffers) rights)
      by Nothing = nobody
      by (Buffer_of name) = found name (find_seen name v.buffers) refl
      by Listing = nobody
      by (List_of name) = found name (find_seen name v.buffers) refl

  -- the buffer that is shown
  shown_at : (o : Option WindowSeen) (rights : ℕ)
      → AreTaped v (λ right. shown_in o) (about (option_map (λ (t : Target). t.buffer) (option_and_then (λ (x : WindowSeen). target_in v.buffers x x.shows) o)) rights)
  shown_at None rights = none_taped v _
  shown_at (Some x) rights = by x.shows
    where
      found : (name : List ℕ) (o : Option BufferSeen) → find_seen name v.buffers ≡ o → AreTaped v (λ right. Some name) (about (option_map (λ (t : Target). t.buffer) (option_map (λ b. let t : Target = record { window = x; buffer = b } in t) o)) rights)
      found name None e = none_taped v _
      found name (Some b) e = one_taped v _ _ (λ right. ap (λ (n : List ℕ). Some n) (found_named name v.buffers b e))

      by : (s : Shows) → AreTaped v (λ right. subject_shown s) (about (option_map (λ (t : Target). t.buffer) (target_in v.buffers x s)) rights)
      by Nothing = none_taped v _
      by (Buffer_of name) = found name (find_seen name v.buffers) refl
      by Listing = none_taped v _
      by (List_of name) = none_taped v _

  -- BY NAME

  there_at : (name : List ℕ) (rights : ℕ) → AreTaped v (λ right. if_there (is_there v name) name) (there v name rights)
  there_at name rights = by (find_seen name v.buffers)
    where
      by : (o : Option BufferSeen) → AreTaped v (λ right. if_there (is_some o) name) (elim o as (λ _. List Request) [ None ↦ [] | Some b ↦ record { buffer = name; rights = rights } ∷ [] ])
      by None = none_taped v _
      by (Some b) = one_taped v _ _ (λ right. refl)

  -- of the buffer that is shown, or whose list is
  meant_at : (o : Option WindowSeen) (rights : ℕ) → AreTaped v (λ right. shown_in o) (there v (elim o as (λ _. List ℕ) [ None ↦ [] | Some x ↦ name_shown x.shows ]) rights)
  meant_at None rights = nobody
    where
      nobody : AreTaped v (λ right. None) (there v [] rights)
      nobody = subst (λ (o : Option BufferSeen). AreTaped v (λ right. None) (elim o as (λ _. List Request) [ None ↦ [] | Some b ↦ record { buffer = []; rights = rights } ∷ [] ])) (sym unnamed) (none_taped v _)
  meant_at (Some x) rights = by x.shows
    where
      nobody : AreTaped v (λ right. None) (there v [] rights)
      nobody = subst (λ (o : Option BufferSeen). AreTaped v (λ right. None) (elim o as (λ _. List Request) [ None ↦ [] | Some b ↦ record { buffer = []; rights = rights } ∷ [] ])) (sym unnamed) (none_taped v _)

      named : (name : List ℕ) → AreTaped v (λ right. Some name) (there v name rights)
      named name = go (find_seen name v.buffers)
        where
          go : (o : Option BufferSeen) → AreTaped v (λ right. Some name) (elim o as (λ _. List Request) [ None ↦ [] | Some b ↦ record { buffer = name; rights = rights } ∷ [] ])
          go None = none_taped v _
          go (Some b) = one_taped v _ _ (λ right. refl)

      by : (s : Shows) → AreTaped v (λ right. subject_shown s) (there v (name_shown s) rights)
      by Nothing = nobody
      by (Buffer_of name) = named name
      by Listing = nobody
      by (List_of name) = named name

  -- TWO REQUESTS: of a text that comes in, and of the one that it comes into

  -- what is decided of one right tells that right
  abbrev IsOf : (Right → Decider) → ℕ → Right → Type 0
  IsOf deciders mask only = (n : ℕ) (right : Right) → (decision_by deciders (rights_in mask) ≡ DeniedBy n right → right ≡ only) × (decision_by deciders (rights_in mask) ≡ NotGranted right → right ≡ only)

  of_read : (deciders : Right → Decider) → IsOf deciders 1 ReadData
  of_read deciders n right = by (deciders ReadData)
    where
      by : (d : Decider) → (decision_by (λ r. d) (rights_in 1) ≡ DeniedBy n right → right ≡ ReadData) × (decision_by (λ r. d) (rights_in 1) ≡ NotGranted right → right ≡ ReadData)
      by Nobody = (λ e. cc, λ e. cc)
      by (Allows m) = (λ e. cc, λ e. cc)
      by (Denies m) = (λ e. cc, λ e. cc)

  of_write : (deciders : Right → Decider) → IsOf deciders 2 WriteData
  of_write deciders n right = by (deciders WriteData)
    where
      by : (d : Decider) → (decision_by (λ r. d) (rights_in 2) ≡ DeniedBy n right → right ≡ WriteData) × (decision_by (λ r. d) (rights_in 2) ≡ NotGranted right → right ≡ WriteData)
      by Nobody = (λ e. cc, λ e. cc)
      by (Allows m) = (λ e. cc, λ e. cc)
      by (Denies m) = (λ e. cc, λ e. cc)

  of_append : (deciders : Right → Decider) → IsOf deciders 4 AppendData
  of_append deciders n right = by (deciders AppendData)
    where
      by : (d : Decider) → (decision_by (λ r. d) (rights_in 4) ≡ DeniedBy n right → right ≡ AppendData) × (decision_by (λ r. d) (rights_in 4) ≡ NotGranted right → right ≡ AppendData)
      by Nobody = (λ e. cc, λ e. cc)
      by (Allows m) = (λ e. cc, λ e. cc)
      by (Denies m) = (λ e. cc, λ e. cc)

  -- a request, and what else is asked
  first_taped : (asked : Right → Option (List ℕ)) (name : List ℕ) (mask : ℕ) (only : Right) (rs : List Request) → IsOf (deciders_found (find_seen name v.buffers)) mask only → asked only ≡ Some name → AreTaped v asked rs → AreTaped v asked (record { buffer = name; rights = mask } ∷ rs)
  first_taped asked name mask only rs of is rest = record { taped = λ t. by t (decision_by (deciders_found (find_seen name v.buffers)) (rights_in mask)) refl }
    where
      by : (t : Tape) (d : Decision) → decision_by (deciders_found (find_seen name v.buffers)) (rights_in mask) ≡ d → tape_denied asked (or_else d (judged v rs)) t ≡ tape_after (refused_first name d (refusals v rs)) t
      by t Granted e = rest.taped t
      by t (DeniedBy n right) e = ap (λ o. denied_at o (DeniedBy n right) t) (ap asked ((of n right).0 e) ∙ is)
      by t (NotGranted right) e = ap (λ o. denied_at o (NotGranted right) t) (ap asked ((of 0 right).1 e) ∙ is)

  -- an insertion asks for one of two rights
  second_taped : (asked : Right → Option (List ℕ)) (t : Target) → asked WriteData ≡ Some t.buffer.name → asked AppendData ≡ Some t.buffer.name → AreTaped v asked (here (Some t) insertion_right)
  second_taped asked t writes appends = by (is_at_text_end t)
    where
      by : (b : Bool) → AreTaped v asked (record { buffer = t.buffer.name; rights = cond b (bit_of AppendData) (bit_of WriteData) } ∷ [])
      by true = first_taped asked t.buffer.name 4 AppendData [] (of_append (deciders_found (find_seen t.buffer.name v.buffers))) appends (none_taped v asked)
      by false = first_taped asked t.buffer.name 2 WriteData [] (of_write (deciders_found (find_seen t.buffer.name v.buffers))) writes (none_taped v asked)

  copy_at : (typed : List ℕ) (o : Option WindowSeen)
      → AreTaped v (λ right. source_or right (if_there (is_there v typed) typed) (shown_in o)) (elim (option_and_then (λ (x : WindowSeen). target_in v.buffers x x.shows) o) as (λ _. List Request) [ None ↦ [] | Some t ↦ copy_needs (find_seen typed v.buffers) typed t ])
  copy_at typed None = none_taped v _
  copy_at typed (Some x) = by x.shows
    where
      of_source : (name : List ℕ) (t : Target) → name ≡ t.buffer.name → (o : Option BufferSeen) → AreTaped v (λ right. source_or right (if_there (is_some o) typed) (Some name)) (copy_needs o typed t)
      of_source name t is None = none_taped v _
      of_source name t is (Some b) =
          first_taped (λ right. source_or right (Some typed) (Some name)) typed 1 ReadData (here (Some t) insertion_right) (of_read (deciders_found (find_seen typed v.buffers))) refl
          (second_taped (λ right. source_or right (Some typed) (Some name)) t (ap (λ (n : List ℕ). Some n) is) (ap (λ (n : List ℕ). Some n) is))

      of_target : (name : List ℕ) (o : Option BufferSeen) → find_seen name v.buffers ≡ o
          → AreTaped v (λ right. source_or right (if_there (is_there v typed) typed) (Some name)) (elim (option_map (λ b. let t : Target = record { window = x; buffer = b } in t) o) as (λ _. List Request) [ None ↦ [] | Some t ↦ copy_needs (find_seen typed v.buffers) typed t ])
      of_target name None e = none_taped v _
      of_target name (Some b) e = of_source name (record { window = x; buffer = b }) (found_named name v.buffers b e) (find_seen typed v.buffers)

      by : (s : Shows) → AreTaped v (λ right. source_or right (if_there (is_there v typed) typed) (subject_shown s)) (elim (target_in v.buffers x s) as (λ _. List Request) [ None ↦ [] | Some t ↦ copy_needs (find_seen typed v.buffers) typed t ])
      by Nothing = none_taped v _
      by (Buffer_of name) = of_target name (find_seen name v.buffers) refl
      by Listing = none_taped v _
      by (List_of name) = none_taped v _

  by_name_at : (c : ByName) (n : Option ℕ) (typed : List ℕ) → AreTaped v (λ right. asked_by_name (is_there v) (shown_in (selected_seen v)) c typed right) (meaning_by_name v c n typed).needs
  by_name_at SwitchToBuffer n typed = there_at typed (bit_of ReadAttributes)
  by_name_at KillBuffer n typed = by (length typed == 0)
    where
      by : (b : Bool) → AreTaped v (λ right. cond b (shown_in (selected_seen v)) (if_there (is_there v typed) typed)) (there v (cond b (elim (selected_seen v) as (λ _. List ℕ) [ None ↦ [] | Some x ↦ name_shown x.shows ]) typed) (bit_of Delete))
      by true = meant_at (selected_seen v) (bit_of Delete)
      by false = there_at typed (bit_of Delete)
  by_name_at InsertBuffer n typed = copy_at typed (selected_seen v)

  -- EVERY ACT
  pub asked_taped : (c : Act) → AreTaped v (λ right. asked_by (is_there v) (shown_in (selected_seen v)) c right) (needs v c)
  asked_taped Unbound = none_taped v _
  asked_taped (Run (Insert c) n typed) = here_at (selected_seen v) insertion_right
  asked_taped (Run (InsertReading c) n typed) = here_at (selected_seen v) (λ t. bit_of ReadData + insertion_right t)
  asked_taped (Run (Move c) n typed) = here_at (selected_seen v) (λ t. bit_of ReadData)
  asked_taped (Run (Alter c) n typed) = here_at (selected_seen v) (λ t. read_write)
  asked_taped (Run (Seek c) n typed) = here_at (selected_seen v) (λ t. bit_of ReadData)
  asked_taped (Run (Replace c) n typed) = here_at (selected_seen v) (λ t. read_write)
  asked_taped (Run (Scroll c) n typed) = here_at (selected_seen v) (λ t. bit_of ReadData)
  asked_taped (Run (Named c) n typed) = by_name_at c n typed
  asked_taped (Run (Entries c) n typed) = about_at (selected_seen v) (bit_of WriteAcl)
  asked_taped (Run ListEntries n typed) = about_at (selected_seen v) (bit_of ReadAcl)
  asked_taped (Run SetOwner n typed) = about_at (selected_seen v) (bit_of WriteOwner)
  asked_taped (Run SetGroup n typed) = about_at (selected_seen v) (bit_of WriteOwner)
  asked_taped (Run UndoEdit n typed) = here_at (selected_seen v) (λ t. read_write)
  asked_taped (Run NotModified n typed) = shown_at (selected_seen v) read_write
  asked_taped (Run SaveBuffer n typed) = here_at (selected_seen v) (λ t. read_write)
  asked_taped (Run _ n typed) = none_taped v _
