-- Worked runs of questions: what is typed at a prompt, and what it comes to.
use Rattle.std.proofs.Common.{◌≡◌, ℕ, List, [], ◌∷◌, ◌++◌, map, Option, Some, None, refl, take}
use Rattle.std.specs.Prelude.{codes, replicate}
use Rattle.mgs_model.specs.Access.{owners_of}
use Rattle.mgs_model.specs.World.{World, Buffer, List_of}
use Rattle.mgs_model.specs.Acts.{outcome}
use Rattle.mgs_model.specs.Keys.{key_read}
use Rattle.mgs_model.specs.Commands.{find_command, command_names}
use Rattle.mgs_model.specs.Completion.{completion}
use Rattle.mgs_model.specs.Turns.{next}
use Rattle.mgs_model.specs.Events.{turns, most_turns, path}
use Rattle.mgs_model.specs.declared.echo_text.Message.TheVariants.{Says, Denied, BadEntry}
use Rattle.mgs_model.specs.declared.echo_text.Notice.TheVariants.{Silent, NoBuffer, NoMatch, NoSuchCommand, NotANumber, NoSuchEntry, ListFull, NoSuchUser, NoSuchGroup}
use Rattle.mgs_model.specs.declared.session.Command.TheVariants.{Move, Alter, Rearrange, Ask, Entries, ListEntries}
use Rattle.mgs_model.specs.declared.session.Motion.TheVariants.{BufferEnd, GoToLine}
use Rattle.mgs_model.specs.declared.session.Alteration.TheVariants.{KillWord}
use Rattle.mgs_model.specs.declared.session.Arrangement.TheVariants.{ListBuffers}
use Rattle.mgs_model.specs.declared.session.EntryChange.TheVariants.{DeleteEntry}
use Rattle.mgs_model.specs.declared.session.Question.{Question}
use Rattle.mgs_model.specs.declared.session.Question.TheVariants.{RunWhich, EntryToInsert, EntryToReplace, WhichOwner, WhichGroup}
use Rattle.mgs_model.specs.declared.right.Right.TheVariants.{ReadAcl, WriteAcl, WriteOwner}
use Rattle.mgs_model.specs.declared.entry.Decision.TheVariants.{NotGranted}
use Rattle.mgs_model.specs.declared.entry.Entry.{Entry}
use Rattle.mgs_model.specs.declared.entry.EntryFault.TheVariants.{Kind, Letters}
use Rattle.mgs_model.specs.declared.entry.EntryType.TheVariants.{Allow}
use Rattle.mgs_model.specs.declared.entry.Who.TheVariants.{Owner, OwningGroup, User}
use Rattle.mgs_laws.proofs.Runs.{Doing, B, C, buffer_of, notes, doing, doing_bob, texts, echo, kill, points, heights, shown}

abbrev typed : List ℕ → List Doing
typed text = map B text

-- what is answered to a question
abbrev answer : List ℕ → List Doing
answer text = typed text ++ B 13 ∷ []

-- M-X: the argument goes on to the command
run_by_name : texts (doing (notes []) (C (Ask RunWhich) (Some 3) ∷ answer (codes "newline"))) ≡ replicate 3 10 ∷ []
unfolding turns path most_turns outcome next key_read find_command
run_by_name = refl

-- one without keys
run_without_keys : heights (doing (notes []) (B 24 ∷ B 50 ∷ C (Ask RunWhich) (Some 2) ∷ answer (codes "shrink-window"))) ≡ Some (9 ∷ 12 ∷ [])
unfolding turns path most_turns outcome next key_read find_command
run_without_keys = refl

-- one that asks in its turn
asked_by_name : texts (doing (notes []) (C (Ask RunWhich) None ∷ answer (codes "switch-to-buffer") ++ answer (codes "new") ++ B 120 ∷ [])) ≡ [] ∷ codes "x" ∷ []
unfolding turns path most_turns outcome next key_read find_command
asked_by_name = refl

-- the text of a buffer into itself, by name
inserted_by_name : texts (doing (notes (codes "ab")) (C (Ask RunWhich) None ∷ answer (codes "insert-buffer") ++ answer (codes "notes"))) ≡ codes "abab" ∷ []
unfolding turns path most_turns outcome next key_read find_command
inserted_by_name = refl

-- what a command of a name leaves is not joined to what was killed before M-x
killed_by_name : kill (doing (notes (codes "one two")) (C (Alter KillWord) None ∷ C (Ask RunWhich) None ∷ answer (codes "kill-word"))) ≡ Some (codes " two")
unfolding turns path most_turns outcome next key_read find_command
killed_by_name = refl

not_named : echo (doing (notes []) (C (Ask RunWhich) None ∷ answer (codes "newlines"))) ≡ Some (Says NoSuchCommand)
unfolding turns path most_turns outcome next key_read find_command
not_named = refl

-- a row without a name has none
nameless : echo (doing (notes []) (C (Ask RunWhich) None ∷ B 13 ∷ [])) ≡ Some (Says NoSuchCommand)
unfolding turns path most_turns outcome next key_read find_command
nameless = refl

-- plain mode again
plain_again : texts (doing (notes []) (C (Ask RunWhich) None ∷ answer (codes "x") ++ B 120 ∷ [])) ≡ codes "x" ∷ []
unfolding turns path most_turns outcome next key_read find_command
plain_again = refl

-- a TAB completes what was typed
completed : texts (doing (notes []) (C (Ask RunWhich) None ∷ typed (codes "newl") ++ B 9 ∷ B 13 ∷ [])) ≡ (10 ∷ []) ∷ []
unfolding turns path most_turns outcome next key_read find_command command_names
completed = refl

-- to what two names have in common
in_common : completion command_names (codes "newl") ≡ Some (codes "newline")
unfolding command_names
in_common = refl

no_name_so : echo (doing (notes []) (C (Ask RunWhich) None ∷ B 122 ∷ B 9 ∷ [])) ≡ Some (Says NoMatch)
unfolding turns path most_turns outcome next key_read find_command command_names
no_name_so = refl

-- A LINE BY ITS NUMBER, in a text of three lines

abbrev lines : World
lines = notes (codes "ab" ++ 10 ∷ codes "cd" ++ 10 ∷ codes "ef")

line_of_argument : points (doing lines (C (Move GoToLine) (Some 2) ∷ [])) ≡ Some (3 ∷ [])
unfolding turns path most_turns outcome next key_read
line_of_argument = refl

-- 0 is the first line, and what is past the last one is the last one
first_line : points (doing lines (C (Move BufferEnd) None ∷ C (Move GoToLine) (Some 0) ∷ [])) ≡ Some (0 ∷ [])
unfolding turns path most_turns outcome next key_read
first_line = refl

last_line : points (doing lines (C (Move GoToLine) (Some 9999) ∷ [])) ≡ Some (6 ∷ [])
unfolding turns path most_turns outcome next key_read
last_line = refl

-- by its keys too: it is asked for where there is no argument, also by name
line_by_keys : (points (doing lines (B 24 ∷ B 103 ∷ answer (codes "2"))) ≡ Some (3 ∷ [])) × (points (doing lines (B 21 ∷ B 50 ∷ B 24 ∷ B 103 ∷ [])) ≡ Some (3 ∷ [])) × (points (doing lines (C (Ask RunWhich) (Some 2) ∷ answer (codes "goto-line"))) ≡ Some (3 ∷ []))
unfolding turns path most_turns outcome next key_read find_command
line_by_keys = (refl, refl, refl)

line_typed : points (doing lines (C (Move GoToLine) None ∷ answer (codes "0000002"))) ≡ Some (3 ∷ [])
unfolding turns path most_turns outcome next key_read
line_typed = refl

no_number : (echo (doing lines (C (Move GoToLine) None ∷ answer (codes "x"))) ≡ Some (Says NotANumber)) × (echo (doing lines (C (Move GoToLine) None ∷ answer (codes "00000002"))) ≡ Some (Says NotANumber)) × (echo (doing lines (C (Move GoToLine) None ∷ B 13 ∷ [])) ≡ Some (Says NotANumber))
unfolding turns path most_turns outcome next key_read
no_number = (refl, refl, refl)

-- ENTRIES

abbrev entry_of : List ℕ → ℕ → Entry
entry_of user mask = record { entry_type = Allow; who = User user; mask = mask }

abbrev owned : Entry
owned = record { entry_type = Allow; who = Owner; mask = 983175 }

abbrev entries : World → List (List Entry)
entries w = map (λ (b : Buffer). b.entries) w.buffers

abbrev members_read : Entry
members_read = record { entry_type = Allow; who = OwningGroup; mask = 129 }

-- a list with so many entries for bob behind the owner's
abbrev listed : ℕ → World
listed n = record (notes []) { buffers = buffer_of (codes "notes") [] (owned ∷ replicate n (entry_of (codes "bob") 1)) ∷ [] }

-- one of which bob may see the attributes alone
abbrev seen_by_bob : World
seen_by_bob = record (notes []) { buffers = buffer_of (codes "notes") [] (entry_of (codes "bob") 128 ∷ []) ∷ [] }

abbrev asked_for : Question → Option ℕ → List ℕ → List Doing
asked_for c n text = C (Ask c) n ∷ answer text

-- last without an argument, and else before the entry of the argument
put_last : entries (doing (listed 1) (asked_for EntryToInsert None (codes "ALLOW ann r"))) ≡ (owned ∷ entry_of (codes "bob") 1 ∷ entry_of (codes "ann") 1 ∷ []) ∷ []
unfolding turns path most_turns outcome next key_read
put_last = refl

put_before : entries (doing (listed 1) (asked_for EntryToInsert (Some 2) (codes "ALLOW ann r"))) ≡ (owned ∷ entry_of (codes "ann") 1 ∷ entry_of (codes "bob") 1 ∷ []) ∷ []
unfolding turns path most_turns outcome next key_read
put_before = refl

-- behind the last one is a place too
put_behind : entries (doing (listed 0) (asked_for EntryToInsert (Some 2) (codes "ALLOW ann r"))) ≡ (owned ∷ entry_of (codes "ann") 1 ∷ []) ∷ []
unfolding turns path most_turns outcome next key_read
put_behind = refl

no_place : (echo (doing (listed 0) (asked_for EntryToInsert (Some 3) (codes "ALLOW ann r"))) ≡ Some (Says NoSuchEntry)) × (echo (doing (listed 0) (asked_for EntryToInsert (Some 0) (codes "ALLOW ann r"))) ≡ Some (Says NoSuchEntry))
unfolding turns path most_turns outcome next key_read
no_place = (refl, refl)

-- what the text is comes first, then the number, then the room
no_letters : echo (doing (listed 0) (asked_for EntryToInsert (Some 9) (codes "ALLOW ann x"))) ≡ Some (BadEntry Letters)
unfolding turns path most_turns outcome next key_read
no_letters = refl

no_room : (echo (doing (listed 63) (asked_for EntryToInsert (Some 65) (codes "ALLOW ann r"))) ≡ Some (Says ListFull)) × (echo (doing (listed 63) (asked_for EntryToInsert (Some 66) (codes "ALLOW ann r"))) ≡ Some (Says NoSuchEntry))
unfolding turns path most_turns outcome next key_read
no_room = (refl, refl)

-- and before each of them the right
not_granted : echo (doing_bob seen_by_bob (asked_for EntryToInsert None (codes "x"))) ≡ Some (Denied (NotGranted WriteAcl))
unfolding turns path most_turns outcome next key_read
not_granted = refl

-- without an argument the first entry goes
taken_out : entries (doing (listed 0) (C (Entries DeleteEntry) None ∷ [])) ≡ [] ∷ []
unfolding turns path most_turns outcome next key_read
taken_out = refl

none_to_take : echo (doing (listed 0) (C (Entries DeleteEntry) (Some 2) ∷ [])) ≡ Some (Says NoSuchEntry)
unfolding turns path most_turns outcome next key_read
none_to_take = refl

-- a full list takes another entry in the place of one
put_in_place : map (λ (es : List Entry). take 2 es) (entries (doing (listed 63) (asked_for EntryToReplace (Some 2) (codes "ALLOW ann r")))) ≡ (owned ∷ entry_of (codes "ann") 1 ∷ []) ∷ []
unfolding turns path most_turns outcome next key_read
put_in_place = refl

no_such_place : (echo (doing (listed 0) (asked_for EntryToReplace (Some 2) (codes "ALLOW ann r"))) ≡ Some (Says NoSuchEntry)) × (echo (doing (listed 0) (asked_for EntryToReplace (Some 2) [])) ≡ Some (BadEntry Kind))
unfolding turns path most_turns outcome next key_read
no_such_place = (refl, refl)

-- all of them by name, with the argument of M-x
put_by_name : entries (doing (listed 1) (C (Ask RunWhich) (Some 2) ∷ answer (codes "acl-insert") ++ answer (codes "ALLOW ann r"))) ≡ (owned ∷ entry_of (codes "ann") 1 ∷ entry_of (codes "bob") 1 ∷ []) ∷ []
unfolding turns path most_turns outcome next key_read find_command
put_by_name = refl

taken_by_name : entries (doing (listed 1) (C (Ask RunWhich) (Some 2) ∷ answer (codes "acl-delete"))) ≡ (owned ∷ []) ∷ []
unfolding turns path most_turns outcome next key_read find_command
taken_by_name = refl

-- THE LIST IN A WINDOW: from its buffer, and again from the list

shown_list : shown (doing (listed 0) (C ListEntries None ∷ C ListEntries None ∷ [])) ≡ Some (List_of (codes "notes") ∷ [])
unfolding turns path most_turns outcome next key_read
shown_list = refl

hidden_list : echo (doing_bob seen_by_bob (C ListEntries None ∷ [])) ≡ Some (Denied (NotGranted ReadAcl))
unfolding turns path most_turns outcome next key_read
hidden_list = refl

-- what is changed is the list that is shown
changed_where_shown : entries (doing (listed 0) (C ListEntries None ∷ C (Entries DeleteEntry) None ∷ [])) ≡ [] ∷ []
unfolding turns path most_turns outcome next key_read
changed_where_shown = refl

nothing_listed : echo (doing (listed 0) (C (Rearrange ListBuffers) None ∷ C ListEntries None ∷ [])) ≡ Some (Says NoBuffer)
unfolding turns path most_turns outcome next key_read
nothing_listed = refl

-- THE OWNER: one of the directory's users, and it may be the same one

abbrev owners : World → List (List ℕ)
owners w = map (λ (b : Buffer). b.owners.owner) w.buffers

new_owner : owners (doing (listed 0) (asked_for WhichOwner None (codes "bob"))) ≡ codes "bob" ∷ []
unfolding turns path most_turns outcome next key_read
new_owner = refl

no_owner : echo (doing (listed 0) (asked_for WhichOwner None (codes "eve"))) ≡ Some (Says NoSuchUser)
unfolding turns path most_turns outcome next key_read
no_owner = refl

same_owner : (echo (doing (listed 0) (asked_for WhichOwner None (codes "ann"))) ≡ Some (Says Silent)) × (owners (doing (listed 0) (asked_for WhichOwner None (codes "ann"))) ≡ codes "ann" ∷ [])
unfolding turns path most_turns outcome next key_read
same_owner = (refl, refl)

-- THE OWNING GROUP: one of the directory's groups, or none; the list of the buffer decides with it from then on
abbrev groups : World → List (Option (List ℕ))
groups w = map (λ (b : Buffer). b.owners.group) w.buffers

-- bob alone is the staff, who owns a buffer of ann's
abbrev staffed : Option (List ℕ) → List Entry → World
staffed group entries = record (notes []) {
  directory = record { users = codes "ann" ∷ codes "bob" ∷ []; groups = record { name = codes "staff"; members = codes "bob" ∷ [] } ∷ [] };
  buffers = record (buffer_of (codes "notes") [] entries) { owners = owners_of (codes "ann") group } ∷ [];
}

new_group : groups (doing (staffed None (owned ∷ [])) (asked_for WhichGroup None (codes "staff"))) ≡ Some (codes "staff") ∷ []
unfolding turns path most_turns outcome next key_read
new_group = refl

no_group : echo (doing (staffed None (owned ∷ [])) (asked_for WhichGroup None (codes "zzz"))) ≡ Some (Says NoSuchGroup)
unfolding turns path most_turns outcome next key_read
no_group = refl

-- a user's name is no group's
user_is_no_group : echo (doing (staffed None (owned ∷ [])) (asked_for WhichGroup None (codes "bob"))) ≡ Some (Says NoSuchGroup)
unfolding turns path most_turns outcome next key_read
user_is_no_group = refl

-- an empty answer means none
group_taken : (echo (doing (staffed (Some (codes "staff")) (owned ∷ [])) (asked_for WhichGroup None [])) ≡ Some (Says Silent)) × (groups (doing (staffed (Some (codes "staff")) (owned ∷ [])) (asked_for WhichGroup None [])) ≡ None ∷ [])
unfolding turns path most_turns outcome next key_read
group_taken = (refl, refl)

-- the right comes before the name
group_not_granted : echo (doing_bob (staffed (Some (codes "staff")) (members_read ∷ [])) (asked_for WhichGroup None (codes "zzz"))) ≡ Some (Denied (NotGranted WriteOwner))
unfolding turns path most_turns outcome next key_read
group_not_granted = refl

-- by its name
group_by_name : groups (doing (staffed None (owned ∷ [])) (C (Ask RunWhich) None ∷ answer (codes "set-group") ++ answer (codes "staff"))) ≡ Some (codes "staff") ∷ []
unfolding turns path most_turns outcome next key_read find_command
group_by_name = refl
