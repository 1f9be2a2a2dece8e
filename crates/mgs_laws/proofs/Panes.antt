-- Worked panes: no name but by READ_ATTRIBUTES, no text but by READ_DATA, no entries but by READ_ACL.
use Rattle.std.proofs.Common.{◌≡◌, ℕ, false, List, [], ◌∷◌, Some, None, refl}
use Rattle.std.specs.Prelude.{codes}
use Rattle.mgs_model.specs.World.{Buffer, Session, Shows, Buffer_of, Listing, List_of, first_state}
use Rattle.mgs_model.specs.Seen.{WindowPane, Text_pane, Listing_pane, Entries_pane, Readable, Unreadable, Listed, Unlisted, Attributes, seen}
use Rattle.mgs_model.specs.declared.right.Right.TheVariants.{ReadData, ReadAcl}
use Rattle.mgs_model.specs.declared.entry.Decision.TheVariants.{NotGranted}
use Rattle.mgs_model.specs.declared.entry.Entry.{Entry}
use Rattle.mgs_model.specs.declared.entry.EntryType.TheVariants.{Allow}
use Rattle.mgs_model.specs.declared.entry.Who.TheVariants.{User}
use Rattle.mgs_model.proofs.Blind.{is_name}

abbrev bob_has : ℕ → List Entry
bob_has mask = record { entry_type = Allow; who = User (codes "bob"); mask = mask } ∷ []

abbrev buffer_named : List ℕ → ℕ → Buffer
buffer_named name mask = record { name = name; owners = record { owner = codes "ann"; group = None }; entries = bob_has mask; text = codes "abc"; items = []; serial = 0; modified = false; file = false }

abbrev bob_at : Shows → Session
bob_at shows =
    record {
      id = 1;
      user = codes "bob";
      rows = 6;
      cols = 20;
      windows = record { shows = shows; point = 2; mark = None; top = 0; row = 0; height = 4 } ∷ [];
      selected = 0;
      places = [];
      search = None;
      kill = [];
      state = first_state;
    }

-- the panes of bob's one window
abbrev panes_seen : List Buffer → Shows → List WindowPane
panes_seen buffers shows =
    (seen (record { directory = record { users = codes "ann" ∷ codes "bob" ∷ []; groups = [] }; buffers = buffers; sessions = bob_at shows ∷ []; next_id = 2 }) (bob_at shows)).windows

abbrev attributes_named : List ℕ → Attributes
attributes_named name = record { name = name; modified = false; size = 3; owners = record { owner = codes "ann"; group = None } }

-- READ_DATA alone: a pane without names, whatever the buffer's name is
text_without_name : (name : List ℕ) → panes_seen (buffer_named name 1 ∷ []) (Buffer_of name) ≡ record { height = 4; pane = Text_pane (Readable (codes "abc") 2 0) None } ∷ []
text_without_name name = rw (is_name name) refl

-- APPEND_DATA alone: neither name nor text
append_alone : (name : List ℕ) → panes_seen (buffer_named name 4 ∷ []) (Buffer_of name) ≡ record { height = 4; pane = Text_pane (Unreadable (NotGranted ReadData)) None } ∷ []
append_alone name = rw (is_name name) refl

-- READ_ACL alone: the entries
entries_without_name : (name : List ℕ) → panes_seen (buffer_named name 131072 ∷ []) (List_of name) ≡ record { height = 4; pane = Entries_pane 0 (Listed (bob_has 131072)) None } ∷ []
entries_without_name name = rw (is_name name) refl

-- READ_ATTRIBUTES alone: the name, and neither text nor entries
name_without_text : (name : List ℕ) → panes_seen (buffer_named name 128 ∷ []) (Buffer_of name) ≡ record { height = 4; pane = Text_pane (Unreadable (NotGranted ReadData)) (Some (attributes_named name)) } ∷ []
name_without_text name = rw (is_name name) refl

name_without_entries : (name : List ℕ) → panes_seen (buffer_named name 128 ∷ []) (List_of name) ≡ record { height = 4; pane = Entries_pane 0 (Unlisted (NotGranted ReadAcl)) (Some (attributes_named name)) } ∷ []
name_without_entries name = rw (is_name name) refl

-- a listing has the buffers whose attributes may be read, and no place for others
listing : (name other : List ℕ) → panes_seen (buffer_named name 1 ∷ buffer_named other 128 ∷ []) Listing ≡ record { height = 4; pane = Listing_pane 0 (attributes_named other ∷ []) } ∷ []
listing name other = refl
