-- The texts of the statements.
use Rattle.std.specs.Prelude.{ℕ, List, [], ◌∷◌, ◌++◌, codes}
use Rattle.sqlite.specs.declared.types.Value.TheVariants.{Text}
use Rattle.sqlite.specs.Order.{Row}

abbrev pub insert_buffer : List ℕ
insert_buffer = codes "INSERT INTO buffer (name, owner, owning_group, entries) VALUES (?1, ?2, ?3, ?4)"

abbrev pub update_buffer : List ℕ
update_buffer = codes "UPDATE buffer SET owner = ?2, owning_group = ?3, entries = ?4 WHERE name = ?1"

abbrev pub delete_buffer : List ℕ
delete_buffer = codes "DELETE FROM buffer WHERE name = ?1"

-- the text comes in the place of the one that the buffer of the name has, if it has any
abbrev pub replace_text : List ℕ
replace_text = codes "INSERT OR REPLACE INTO text (buffer, modified, file, body) SELECT id, ?2, ?3, ?4 FROM buffer WHERE name = ?1"

abbrev pub insert_event : List ℕ
insert_event = codes "INSERT INTO event (at, user, what, buffer, detail) VALUES (?1, ?2, ?3, ?4, ?5)"

-- an event that has its number from elsewhere
abbrev pub insert_numbered : List ℕ
insert_numbered = codes "INSERT INTO event (number, at, user, what, buffer, detail) VALUES (?1, ?2, ?3, ?4, ?5, ?6)"

abbrev pub select_newest : List ℕ
select_newest = codes "SELECT coalesce(max(number), 0) FROM event"

abbrev pub select_rights : List ℕ
select_rights = codes "SELECT name, owner, owning_group, entries FROM buffer ORDER BY id"

-- a row of each buffer, in the order in which rights are read
abbrev pub select_texts : List ℕ
select_texts = codes "SELECT modified, file, body FROM buffer LEFT JOIN text ON text.buffer = buffer.id ORDER BY buffer.id"

abbrev pub select_events : List ℕ
select_events = codes "SELECT number, at, user, what, buffer, detail FROM event WHERE number > ?1 ORDER BY number LIMIT ?2"

abbrev pub select_version : List ℕ
select_version = codes "SELECT version FROM format"

abbrev pub count_objects : List ℕ
count_objects = codes "SELECT count(*) FROM sqlite_schema"

abbrev pub count_tables : List ℕ
count_tables = codes "SELECT count(*) FROM sqlite_schema WHERE sql = ?1 OR sql = ?2 OR sql = ?3 OR sql = ?4"

abbrev pub create_format : List ℕ
create_format = codes "CREATE TABLE format (version INTEGER NOT NULL) STRICT"

abbrev pub create_buffer : List ℕ
create_buffer = codes "CREATE TABLE buffer (id INTEGER PRIMARY KEY, name TEXT NOT NULL UNIQUE, owner TEXT NOT NULL, owning_group TEXT NOT NULL, entries TEXT NOT NULL) STRICT"

abbrev pub create_event : List ℕ
create_event = codes "CREATE TABLE event (number INTEGER PRIMARY KEY, at INTEGER NOT NULL, user TEXT NOT NULL, what TEXT NOT NULL, buffer TEXT NOT NULL, detail TEXT NOT NULL) STRICT"

-- a text goes with its buffer, whatever takes that out
abbrev pub create_text : List ℕ
create_text = codes "CREATE TABLE text (buffer INTEGER PRIMARY KEY REFERENCES buffer (id) ON DELETE CASCADE, modified INTEGER NOT NULL, file INTEGER NOT NULL, body TEXT NOT NULL) STRICT"

-- the four texts as the values of a statement's parameters
abbrev pub table_texts : Row
table_texts = Text create_format ∷ Text create_buffer ∷ Text create_event ∷ Text create_text ∷ []

-- all statements that make the tables and say their version
abbrev pub make_tables : List ℕ
make_tables = create_format ++ codes "; " ++ create_buffer ++ codes "; " ++ create_event ++ codes "; " ++ create_text ++ codes "; INSERT INTO format (version) VALUES (3)"

-- all statements that give the tables of version 1, which had no texts, what version 2 has more
abbrev pub grow_to_2 : List ℕ
grow_to_2 = create_text ++ codes "; UPDATE format SET version = 2"

-- up to version 2 nobody was `-`, which can be a user's name
abbrev pub clear_nobody : List ℕ
clear_nobody = codes "UPDATE event SET user = '' WHERE user = '-'"

-- an event for each buffer tells what its rights are, at the time of the newest event
abbrev pub tell_rights : List ℕ
tell_rights = codes "INSERT INTO event (at, user, what, buffer, detail) SELECT coalesce((SELECT at FROM event ORDER BY number DESC LIMIT 1), 0), '', 'is', name, owner || ':' || owning_group || ' ' || CASE entries WHEN '' THEN '-' ELSE replace(replace(entries || '.', '\n.', ''), '\n', '; ') END FROM buffer ORDER BY id"

-- all statements that make the tables of version 2 ones of version 3
abbrev pub grow_to_3 : List ℕ
grow_to_3 = clear_nobody ++ codes "; " ++ tell_rights ++ codes "; UPDATE format SET version = 3"
