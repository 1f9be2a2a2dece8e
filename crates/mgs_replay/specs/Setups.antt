-- What the lines before the first session do.
use Rattle.std.specs.Prelude.{◌≡◌, ℕ, ◌+◌, ◌<◌, ◌≤◌, Bool, true, false, not, ◌||◌, nat_le, is_some, List, [], ◌∷◌, ◌++◌, length, map, All, Result, Ok, Err}
use Rattle.std.specs.Option.{option_map}
use Rattle.mgs_model.specs.Names.{same_name}
use Rattle.mgs_buffers.specs.Adding.{are_names as add_names}
use Rattle.mgs_buffers.specs.declared.refusals.AddFault.{AddFault}
use Rattle.mgs_buffers.specs.declared.refusals.AddFault.TheVariants as adds
use Rattle.mgs_model.specs.Access.{Directory, owners_of}
use Rattle.mgs_model.specs.Apply.{change_first}
use Rattle.mgs_model.specs.World.{World, Buffer, is_named, find_buffer}
use Rattle.mgs_model.specs.declared.entry.Entry.{Entry}
use Rattle.mgs_buffers.specs.MarkedBuffer.{MarkedBuffer, marked_new}
use Rattle.mgs_script.specs.declared.line.LineFault.{LineFault}
use Rattle.mgs_script.specs.declared.line.LineFault.TheVariants.{Bad, Short}
use Rattle.mgs_replay.specs.declared.setup.Draft.{Draft}
use Rattle.mgs_script.specs.Lines.{Said}
use Rattle.mgs_replay.specs.Settings.{are_names, is_user, owngroup_refused, entry_refused, text_refused, with_entry, with_group_owned, with_text, setting_refused, world_set}

-- an entry is put last; what is none is refused, and so is a 65th
abbrev pub Listed : {F : Type 0} → Result (Unit {0}) LineFault → List Entry → List Entry → Result Entry F → Type 0
Listed (Ok done) old new (Ok e) = (length old < 64) × (new ≡ old ++ e ∷ [])
Listed (Ok done) old new (Err f) = ⊥
Listed (Err Bad) old new (Ok e) = (64 ≤ length old) × (new ≡ old)
Listed (Err Bad) old new (Err f) = new ≡ old
Listed (Err Short) old new entry = ⊥

-- characters are put last; more than 1,048,576 in all are refused; out of memory comes only where they are not
abbrev pub Lengthened : Result (Unit {0}) LineFault → List ℕ → List ℕ → List ℕ → Type 0
Lengthened (Ok done) old new cs = (new ≡ old ++ cs) × (length new ≤ 1048576)
Lengthened (Err Bad) old new cs = (1048576 < length old + length cs) × (new ≡ old)
Lengthened (Err Short) old new cs = (length old + length cs ≤ 1048576) × (new ≡ old)

-- what is kept of a buffer that was written down
abbrev pub drafted_buffer : Draft → MarkedBuffer
drafted_buffer d = marked_new d.name.now (owners_of d.owner.now (option_map (λ g. g.now) d.group)) d.list d.text.items false

abbrev pub buffer_of : Draft → Buffer
buffer_of d = (drafted_buffer d).buffer

abbrev pub buffers_in : List Draft → List Buffer
buffers_in ds = map buffer_of ds

abbrev pub is_drafted : List ℕ → Draft → Bool
is_drafted name d = is_named name (buffer_of d)

-- the world of a directory and buffers, without sessions
abbrev pub setup_world : Directory → List Buffer → World
setup_world directory buffers = record { directory = directory; buffers = buffers; sessions = []; next_id = 1 }

-- the buffer of that name is changed; where the line is refused, or memory is, all is as it was; out of memory comes only where the line is not refused
abbrev pub Changes : Result (Unit {0}) LineFault → Bool → List ℕ → (Buffer → Buffer) → List Buffer → List Buffer → Type 0
Changes (Ok done) refused name change old new = (refused ≡ false) × (new ≡ change_first (is_named name) change old)
Changes (Err Bad) refused name change old new = (refused ≡ true) × (new ≡ old)
Changes (Err Short) refused name change old new = (refused ≡ false) × (new ≡ old)

-- an entry is put last in the list of the buffer of that name
abbrev pub PutsEntry : {F : Type 0} → Result (Unit {0}) LineFault → List ℕ → Result Entry F → List Buffer → List Buffer → Type 0
PutsEntry result name entry old new = Changes result (entry_refused (find_buffer name old) entry) name (with_entry entry) old new

-- the buffer of that name gets its owning group
abbrev pub PutsGroup : Result (Unit {0}) LineFault → List ℕ → List ℕ → Directory → List Buffer → List Buffer → Type 0
PutsGroup result name group directory old new = Changes result (owngroup_refused (find_buffer name old) group directory) name (with_group_owned group) old new

-- characters are put last in the text of the buffer of that name
abbrev pub PutsText : Result (Unit {0}) LineFault → List ℕ → List ℕ → List Buffer → List Buffer → Type 0
PutsText result name text old new = Changes result (text_refused (find_buffer name old) text) name (with_text text) old new

-- a line before the first open: it does what it says; where it is refused, or memory is, all is as it was; out of memory comes only where it is not refused
abbrev pub Sets : Result (Unit {0}) LineFault → Said → World → World → Type 0
Sets (Ok done) said old new = (setting_refused old said ≡ false) × (new ≡ world_set old said)
Sets (Err Bad) said old new = (setting_refused old said ≡ true) × (new ≡ old)
Sets (Err Short) said old new = (setting_refused old said ≡ false) × (new ≡ old)

-- BUFFERS THAT CAN BE KEPT

-- the tests of a buffer's line: the names are none, the owner is no user, there is one of its name, or there are 256
abbrev pub cannot_add : World → List ℕ → List ℕ → Bool
cannot_add w name owner = not (are_names name owner) || (not (is_user owner w.directory) || (is_some (find_buffer name w.buffers) || nat_le 256 (length w.buffers)))

-- a buffer's name and its owners' are such names, and its text is within the limit
pub record IsFit (b : Buffer) : Type 0 where
  pub named : add_names b.name b.owners.owner b.owners.group ≡ true
  pub short : length b.text ≤ 1048576

abbrev pub buffer_name : Buffer → List ℕ
buffer_name b = b.name

-- no name stands twice
abbrev pub AreNew : List (List ℕ) → Type 0
AreNew [] = Unit {0}
AreNew (n ∷ ns) = All (λ (m : List ℕ). same_name m n ≡ false) ns × AreNew ns

-- 256 such buffers at most
pub record AreFit (bs : List Buffer) : Type 0 where
  pub each : All IsFit bs
  pub few : length bs ≤ 256
  pub new : AreNew (map buffer_name bs)

-- no fault but out of memory
abbrev pub OnlyShort : {A : Type 0} → Result A AddFault → Type 0
OnlyShort (Ok a) = Unit {0}
OnlyShort (Err adds.Name) = ⊥
OnlyShort (Err adds.Twice) = ⊥
OnlyShort (Err adds.Full) = ⊥
OnlyShort (Err adds.Long) = ⊥
OnlyShort (Err adds.Short) = Unit {0}
