-- WHAT A START MENDS FIRST of what the journal keeps.
use Rattle.std.specs.Prelude.{◌≡◌, ◌==◌, ◌&&◌, ◌||◌, ℕ, Bool, false, List, [], ◌∷◌, Option, None, Some, Result, Ok, Err, cond, get_or, length, map, not, slice_get, slice_set, string_bytes}
use Rattle.mgs_model.specs.Spelling.{entry_in}
use Rattle.mgs_model.specs.declared.entry.Entry.{Entry}
use Rattle.mgs_model.specs.declared.entry.EntryFault.{EntryFault}
use Rattle.mgs_model.specs.Names.{same_name}
use Rattle.mgs_buffers.specs.MarkedBuffer.{MarkedBuffer, has_buffer}
use Rattle.mgs_laws.specs.Apart.{Rules}
use Rattle.mgs_journal.specs.Kept.{place_of, without}
use Rattle.mgs_journal.specs.Rows.{KeptRights, rules_in_rows}
use Rattle.mgs_journal.specs.Texts.{KeptText}
use Rattle.mgs_keeper.specs.declared.keep_arguments.Mending.{Mending}
use Rattle.mgs_keeper.specs.declared.keep_arguments.Mending.TheVariants.{Forget, Owner, OwnerOf, List as ListEntry}

abbrev pub owned_by : List ℕ → Rules → Rules
owned_by owner r = record { name = r.name; owners = record { owner = owner; group = r.owners.group }; entries = r.entries }

-- the row at an index has another owner, and is otherwise as it was
abbrev pub given : List ℕ → ℕ → List KeptRights → List KeptRights
given owner i rows = elim (slice_get rows i) [ None ↦ rows | Some k ↦ slice_set rows i (record { rules = owned_by owner k.rules; birth = k.birth }) ]

-- the first row of a name has
abbrev pub given_named : List ℕ → List ℕ → List KeptRights → List KeptRights
given_named buffer owner rows = elim (place_of buffer (rules_in_rows rows)) [ None ↦ rows | Some i ↦ given owner i rows ]

-- a row has another owner, if its owner is the one
abbrev pub given_from : List ℕ → List ℕ → KeptRights → KeptRights
given_from old new k = cond (same_name k.rules.owners.owner old) (record { rules = owned_by new k.rules; birth = k.birth }) k

-- the row at an index does
abbrev pub given_at : List ℕ → List ℕ → ℕ → List KeptRights → List KeptRights
given_at old new i rows = elim (slice_get rows i) [ None ↦ rows | Some k ↦ slice_set rows i (given_from old new k) ]

abbrev pub begun_by : Entry → Rules → Rules
begun_by entry r = record { name = r.name; owners = r.owners; entries = entry ∷ r.entries }

-- the list of the row at an index begins with an entry, and is otherwise as it was
abbrev pub listed : Entry → ℕ → List KeptRights → List KeptRights
listed entry i rows = elim (slice_get rows i) [ None ↦ rows | Some k ↦ slice_set rows i (record { rules = begun_by entry k.rules; birth = k.birth }) ]

-- the list of the first row of a name does, if that reads as an entry
abbrev pub listed_named : List ℕ → Result Entry EntryFault → List KeptRights → List KeptRights
listed_named buffer (Err fault) rows = rows
listed_named buffer (Ok entry) rows = elim (place_of buffer (rules_in_rows rows)) [ None ↦ rows | Some i ↦ listed entry i rows ]

-- the text that is kept of the first buffer of a name
abbrev pub text_named : List ℕ → List KeptRights → List (Option KeptText) → Option KeptText
text_named name rows texts = elim (place_of name (rules_in_rows rows)) [ None ↦ None | Some i ↦ get_or texts i None ]

-- a text would be lost with what is kept of a buffer: it was not saved, or the configuration does not have it
abbrev pub loses_text : (List ℕ → Bool) → List MarkedBuffer → List ℕ → Option KeptText → Bool
loses_text taken config name None = false
loses_text taken config name (Some kept) = cond (taken name || not (has_buffer name config)) (kept.modified || not (length kept.body == 0)) kept.modified

-- the rows after it
abbrev pub rows_mended : Mending → List KeptRights → List KeptRights
rows_mended (Forget buffer) rows = without (place_of (string_bytes buffer) (rules_in_rows rows)) rows
rows_mended (Owner buffer owner) rows = given_named (string_bytes buffer) (string_bytes owner) rows
rows_mended (OwnerOf old new) rows = map (given_from (string_bytes old) (string_bytes new)) rows
rows_mended (ListEntry buffer entry) rows = listed_named (string_bytes buffer) (entry_in (string_bytes entry)) rows

-- what is kept of texts after it
abbrev pub texts_mended : Mending → List KeptRights → List (Option KeptText) → List (Option KeptText)
texts_mended (Forget buffer) rows texts = without (place_of (string_bytes buffer) (rules_in_rows rows)) texts
texts_mended (Owner buffer owner) rows texts = texts
texts_mended (OwnerOf old new) rows texts = texts
texts_mended (ListEntry buffer entry) rows texts = texts

-- whether a name is taken after it
abbrev pub taken_mended : Mending → List ℕ → Bool → Bool
taken_mended (Forget buffer) name was = was && not (same_name (string_bytes buffer) name)
taken_mended (Owner buffer owner) name was = was
taken_mended (OwnerOf old new) name was = was
taken_mended (ListEntry buffer entry) name was = was

-- whether it loses a text
abbrev pub loses : (List ℕ → Bool) → List MarkedBuffer → Mending → List KeptRights → List (Option KeptText) → Bool
loses taken config (Forget buffer) rows texts = loses_text taken config (string_bytes buffer) (text_named (string_bytes buffer) rows texts)
loses taken config (Owner buffer owner) rows texts = false
loses taken config (OwnerOf old new) rows texts = false
loses taken config (ListEntry buffer entry) rows texts = false

-- one is done, which leads from one state of the journal to another, and loses no text unless that may be
pub record IsMended {J : Type 0} (keeps : J → List KeptRights) (bodies : J → List (Option KeptText)) (taken : J → List ℕ → Bool) (config : List MarkedBuffer) (may_discard : Bool) (mending : Mending) (old new : J) : Type 0 where
  pub rows : keeps new ≡ rows_mended mending (keeps old)
  pub texts : bodies new ≡ texts_mended mending (keeps old) (bodies old)
  pub names : (name : List ℕ) → taken new name ≡ taken_mended mending name (taken old name)
  pub texts_stay : may_discard ≡ false → loses (taken old) config mending (keeps old) (bodies old) ≡ false

-- one after another is
abbrev pub AreMended : {J : Type 0} → (J → List KeptRights) → (J → List (Option KeptText)) → (J → List ℕ → Bool) → List MarkedBuffer → Bool → List Mending → J → J → Type 0
AreMended keeps bodies taken config may_discard [] old new = new ≡ old
AreMended {J = J} keeps bodies taken config may_discard (m ∷ ms) old new = (mid : J) × IsMended keeps bodies taken config may_discard m old mid × AreMended keeps bodies taken config may_discard ms mid new
