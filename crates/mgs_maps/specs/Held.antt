-- What a session has half read, and what a key comes to.
use Rattle.std.specs.Prelude.{◌≡◌, ◌≤◌, ℕ, ◌==◌, length, ◌||◌, Bool, true, false, not, ◌&&◌, List, [], ◌∷◌, ◌++◌, Option, None, ⊤, if◌then◌else◌}
use Rattle.std.specs.Option.{option_map}
use Rattle.mgs_keys.specs.declared.decoder.Key.{Key}
use Rattle.mgs_keys.specs.declared.decoder.Key.TheVariants.{Plain, Meta, Wide}
use Rattle.mgs_model.specs.Keys.{KeyRead, Half, Bound, Not_bound, quotes, value_of, ascii_read}
use Rattle.mgs_model.specs.Sequences.{sequence_read}
use Rattle.mgs_model.specs.declared.sequence.Sequence.{Sequence}
use Rattle.mgs_model.specs.declared.sequence.Sequence.TheVariants.{Begun, Broken, Whole}
use Rattle.mgs_model.specs.declared.session.Argument.{Argument}
use Rattle.mgs_model.specs.declared.session.Insertion.TheVariants.{SelfInsert}
use Rattle.mgs_model.specs.declared.session.Seeking.{Seeking}
use Rattle.mgs_model.specs.declared.session.Seeking.TheVariants.{StartSearch}
use Rattle.mgs_model.specs.declared.session.Command.{Command}
use Rattle.mgs_model.specs.declared.session.EntryChange.{EntryChange}
use Rattle.mgs_model.specs.declared.session.EntryChange.TheVariants.{DeleteEntry}
use Rattle.mgs_model.specs.declared.session.Command.TheVariants.{Insert, InsertReading, Move, Alter, Seek, Scroll, Set, Rearrange, Ask, Entries, ListEntries, UndoEdit, NotModified, SaveBuffer, Exit}
use Rattle.mgs_keys.specs.declared.decoder.Held.{Held as Decoding}
use Rattle.mgs_keys.specs.declared.decoder.Held.TheVariants.{Nothing, Escape, One, Two, Three}
use Rattle.mgs_maps.specs.declared.maps.Fed.{Fed}
use Rattle.mgs_maps.specs.declared.maps.Fed.TheVariants.{Pending, Run, Unbound}
use Rattle.mgs_maps.specs.declared.maps.Prefix.{Prefix}
use Rattle.mgs_maps.specs.declared.maps.Prefix.TheVariants.{Empty, ControlX, MetaBracket, Quote}
use Rattle.mgs_maps.specs.declared.maps.Maps.{Maps}

-- an argument, and the bytes of a word that is half read
pub record Held : Type 0 where
  pub argument : Option Argument
  pub keys : List ℕ

abbrev pub nothing_held : Held
nothing_held = record { argument = None; keys = [] }

-- an argument alone, which no digit goes on with
abbrev pub argument_held : Option ℕ → Held
argument_held n = record { argument = option_map (λ k. record { value = k; extends = false }) n; keys = [] }

-- a byte of a character: it is held while the character goes on, and else nothing is held
abbrev pub held_character : Held → ℕ → Sequence → Held
held_character h byte Begun = record h { keys = h.keys ++ byte ∷ [] }
held_character h byte (Whole c) = nothing_held
held_character h byte Broken = nothing_held

-- a word goes on and is held; else it is used up, and nothing is held
abbrev pub FedBy : Fed → KeyRead → Held → Type 0
FedBy Pending read new = read ≡ Half new.argument new.keys
FedBy (Run c n) read new = (read ≡ Bound c n) × (new ≡ nothing_held)
FedBy Unbound read new = (read ≡ Not_bound) × (new ≡ nothing_held)

-- the character that a command inserts
abbrev pub character_of : Command → Sequence
character_of (Insert (SelfInsert c)) = Whole c
character_of _ = Broken

-- what a byte of a character past ASCII has come to
abbrev pub character_fed : Fed → Sequence
character_fed Pending = Begun
character_fed (Run c n) = character_of c
character_fed Unbound = Broken

-- a key begins a search; how it goes on is typed
abbrev pub is_bound_seeking : Seeking → Bool
is_bound_seeking (StartSearch d) = true
is_bound_seeking _ = false

-- an entry is deleted at once; for one that comes a question is asked
abbrev pub is_bound_change : EntryChange → Bool
is_bound_change DeleteEntry = true
is_bound_change _ = false

-- the commands of the table, those that have a name alone, and insertions of a character
abbrev pub is_bound : Command → Bool
is_bound (Insert c) = true
is_bound (InsertReading c) = true
is_bound (Move c) = true
is_bound (Alter c) = true
is_bound (Seek c) = is_bound_seeking c
is_bound (Scroll c) = true
is_bound (Set c) = true
is_bound (Rearrange c) = true
is_bound (Ask c) = true
is_bound (Entries c) = is_bound_change c
is_bound ListEntries = true
is_bound UndoEdit = true
is_bound NotModified = true
is_bound SaveBuffer = true
is_bound Exit = true
is_bound _ = false

abbrev pub IsBoundRun : Fed → Type 0
IsBoundRun (Run c n) = is_bound c ≡ true
IsBoundRun _ = ⊤

-- BY KEYS

-- the bytes of a prefix
abbrev pub prefix_bytes : Prefix → List ℕ
prefix_bytes Empty = []
prefix_bytes ControlX = 24 ∷ []
prefix_bytes MetaBracket = 27 ∷ 91 ∷ []
prefix_bytes Quote = 17 ∷ []

-- what the maps hold, which have whole keys alone
abbrev pub held_by : Maps → Held
held_by m = record { argument = m.argument; keys = prefix_bytes m.prefix }

-- What a key comes to: what its last byte does. An ESC that is no Meta is no key but after C-q. A character past ASCII inserts
-- itself where a word begins, and behind C-q
abbrev pub key_reads : Option Argument → List ℕ → Key → KeyRead
key_reads argument keys (Plain byte) = if (byte == 27) && not (quotes keys) then Not_bound else ascii_read argument keys byte
key_reads argument keys (Meta byte) = ascii_read argument (keys ++ 27 ∷ []) byte
key_reads argument keys (Wide c) = if (length keys == 0) || quotes keys then Bound (Insert (SelfInsert c)) (value_of argument) else Not_bound

-- BY BYTES

-- the bytes of a key that is not complete
abbrev pub decoder_bytes : Decoding → List ℕ
decoder_bytes Nothing = []
decoder_bytes Escape = 27 ∷ []
decoder_bytes (One a) = a ∷ []
decoder_bytes (Two a b) = a ∷ b ∷ []
decoder_bytes (Three a b c) = a ∷ b ∷ c ∷ []

abbrev pub held_at : Decoding → Maps → Held
held_at d m = record { argument = m.argument; keys = prefix_bytes m.prefix ++ decoder_bytes d }

-- a sequence stands where a word begins, or behind C-q
abbrev pub takes_sequence : Prefix → Bool
takes_sequence Empty = true
takes_sequence ControlX = false
takes_sequence MetaBracket = false
takes_sequence Quote = true

-- behind C-q ESC is a key by itself
abbrev pub takes_escape : Prefix → Bool
takes_escape Empty = true
takes_escape ControlX = true
takes_escape MetaBracket = true
takes_escape Quote = false

-- the first bytes of a character, and not all
abbrev pub IsBegun : List ℕ → Type 0
IsBegun bytes = sequence_read bytes ≡ Begun

-- What the decoder may hold behind a prefix. None of the bytes that came of a character completed one.
abbrev pub Fits : Prefix → Decoding → Type 0
Fits prefix Nothing = ⊤
Fits prefix Escape = takes_escape prefix ≡ true
Fits prefix (One a) = (takes_sequence prefix ≡ true) × ((128 ≤ a) × IsBegun (a ∷ []))
Fits prefix (Two a b) = (takes_sequence prefix ≡ true) × ((128 ≤ a) × (IsBegun (a ∷ []) × IsBegun (a ∷ b ∷ [])))
Fits prefix (Three a b c) = (takes_sequence prefix ≡ true) × ((128 ≤ a) × (IsBegun (a ∷ []) × (IsBegun (a ∷ b ∷ []) × IsBegun (a ∷ b ∷ c ∷ []))))
