-- What the lines before the first open do to the model's world.
use Rattle.std.specs.Prelude.{ℕ, ◌+◌, ◌++◌, nat_le, nat_lt, Bool, true, false, ◌&&◌, ◌||◌, not, length, map, List, [], ◌∷◌, find, Option, Some, None, is_some, Result, Ok, Err}
use Rattle.mgs_model.specs.Names.{same_name, is_user_name}
use Rattle.mgs_model.specs.Access.{Directory, is_group_named, owners_of}
use Rattle.mgs_model.specs.Apply.{change_first, owners_after}
use Rattle.mgs_model.specs.declared.owners.NewOwner.TheVariants.{ToGroup}
use Rattle.mgs_model.specs.World.{World, find_buffer, is_named}
use Rattle.mgs_model.specs.World as model
use Rattle.mgs_model.specs.declared.entry.Entry.{Entry}
use Rattle.mgs_acl.specs.Spelling.{entry_in}
use Rattle.mgs_policy.specs.Directories.{user_fault, with_user, group_fault, with_group}
use Rattle.mgs_buffers.specs.Adding.{add_fault, are_names as add_names}
use Rattle.mgs_buffers.specs.MarkedBuffer.{MarkedBuffer, marked_new}
use Rattle.mgs_script.specs.Lines.{Said, Nothing, User, Group, Buffer, OwnGroup, Entry as Listing, Text, Open, Keys, Show, Close}

-- a world without users, buffers and sessions
abbrev pub first_world : World
first_world = record { directory = record { users = []; groups = [] }; buffers = []; sessions = []; next_id = 1 }

abbrev pub is_user : List ℕ → Directory → Bool
is_user name directory = is_some (find (same_name name) directory.users)

abbrev pub is_group : List ℕ → Directory → Bool
is_group name directory = is_user_name name && is_group_named name directory.groups

-- a buffer's name and a user's
abbrev pub are_names : List ℕ → List ℕ → Bool
are_names name owner = add_names name owner None

abbrev pub unmarked : model.Buffer → MarkedBuffer
unmarked b = record { buffer = b; marks = [] }

-- a buffer is refused where none of that name, owner and no text may be added, and to an owner who is no user
unfoldable pub buffer_refused : World → List ℕ → List ℕ → Bool
buffer_refused w name owner = is_some (add_fault name owner None 0 (map unmarked w.buffers)) || not (is_user owner w.directory)

-- an owning group is refused where there is no such buffer, and where it is no group
abbrev pub owngroup_refused : Option model.Buffer → List ℕ → Directory → Bool
owngroup_refused None group directory = true
owngroup_refused (Some b) group directory = not (is_group group directory)

-- an entry is refused where there is no such buffer, where it is none, and after 64 of them
abbrev pub entry_refused : {F : Type 0} → Option model.Buffer → Result Entry F → Bool
entry_refused None entry = true
entry_refused (Some b) (Ok e) = nat_le 64 (length b.entries)
entry_refused (Some b) (Err fault) = true

-- a text is refused where there is no such buffer, and where it would get more than 1,048,576 characters
abbrev pub text_refused : Option model.Buffer → List ℕ → Bool
text_refused None cs = true
text_refused (Some b) cs = nat_lt 1048576 (length b.text + length cs)

abbrev pub empty_buffer : List ℕ → List ℕ → model.Buffer
empty_buffer name owner = (marked_new name (owners_of owner None) [] [] false).buffer

abbrev pub with_group_owned : List ℕ → model.Buffer → model.Buffer
with_group_owned group b = record b { owners = owners_after (ToGroup (Some group)) b.owners }

abbrev pub with_entry : {F : Type 0} → Result Entry F → model.Buffer → model.Buffer
with_entry (Ok e) b = record b { entries = b.entries ++ e ∷ [] }
with_entry (Err fault) b = b

abbrev pub with_text : List ℕ → model.Buffer → model.Buffer
with_text cs b = record b { text = b.text ++ cs }

-- whether a line is refused before the first open
abbrev pub setting_refused : World → Said → Bool
setting_refused w Nothing = false
setting_refused w (User name) = is_some (user_fault w.directory name)
setting_refused w (Group name members) = is_some (group_fault w.directory name members)
setting_refused w (Buffer name owner) = buffer_refused w name owner
setting_refused w (OwnGroup buffer group) = owngroup_refused (find_buffer buffer w.buffers) group w.directory
setting_refused w (Listing buffer entry) = entry_refused (find_buffer buffer w.buffers) (entry_in entry)
setting_refused w (Text buffer cs) = text_refused (find_buffer buffer w.buffers) cs
setting_refused w (Open name user rows cols) = true
setting_refused w (Keys name keys) = true
setting_refused w (Show name) = true
setting_refused w (Close name) = true

-- what a line before the first open makes of the world
abbrev pub world_set : World → Said → World
world_set w Nothing = w
world_set w (User name) = record w { directory = with_user w.directory name }
world_set w (Group name members) = record w { directory = with_group w.directory name members }
world_set w (Buffer name owner) = record w { buffers = w.buffers ++ empty_buffer name owner ∷ [] }
world_set w (OwnGroup buffer group) = record w { buffers = change_first (is_named buffer) (with_group_owned group) w.buffers }
world_set w (Listing buffer entry) = record w { buffers = change_first (is_named buffer) (with_entry (entry_in entry)) w.buffers }
world_set w (Text buffer cs) = record w { buffers = change_first (is_named buffer) (with_text cs) w.buffers }
world_set w (Open name user rows cols) = w
world_set w (Keys name keys) = w
world_set w (Show name) = w
world_set w (Close name) = w
