-- Worked runs of query-replace.
use Rattle.std.proofs.Common.{◌≡◌, ℕ, true, false, List, [], ◌∷◌, ◌++◌, map, Option, Some, None, refl}
use Rattle.std.specs.Prelude.{Bool, codes}
use Rattle.mgs_model.specs.World.{World}
use Rattle.mgs_model.specs.Acts.{outcome}
use Rattle.mgs_model.specs.Keys.{key_read}
use Rattle.mgs_model.specs.Commands.{find_command}
use Rattle.mgs_model.specs.Turns.{next}
use Rattle.mgs_model.specs.Events.{Byte, Open, step, turns, most_turns, path}
use Rattle.mgs_laws.specs.Refusals.{refused_in, refused_act, may_be_refused}
use Rattle.mgs_model.specs.declared.echo_text.Message.{Message}
use Rattle.mgs_model.specs.declared.echo_text.Message.TheVariants.{Says, Denied, Replaced}
use Rattle.mgs_model.specs.declared.echo_text.Notice.TheVariants.{Silent, NoBuffer, NoPattern, NoMemory, Quitting}
use Rattle.mgs_model.specs.declared.session.Mode.TheVariants.{Plain, Prompt, Replacing}
use Rattle.mgs_model.specs.declared.session.Command.TheVariants.{Rearrange, Ask}
use Rattle.mgs_model.specs.declared.session.Arrangement.TheVariants.{ListBuffers}
use Rattle.mgs_model.specs.declared.session.Question.TheVariants.{ReplaceWhat, ReplaceWith}
use Rattle.mgs_model.specs.declared.right.Right.TheVariants.{ReadData, WriteData}
use Rattle.mgs_model.specs.declared.entry.Decision.TheVariants.{NotGranted}
use Rattle.mgs_model.specs.declared.entry.Entry.{Entry}
use Rattle.mgs_model.specs.declared.entry.EntryType.TheVariants.{Allow}
use Rattle.mgs_model.specs.declared.entry.Who.TheVariants.{User}
use Rattle.mgs_laws.proofs.Runs.{Doing, B, S, C, other_types, buffer_of, notes, doing, doing_bob, all_done, texts, echo, points, modes, lines}

abbrev typed : List ℕ → List Doing
typed text = map B text

-- M-% with both answers
abbrev asked : List ℕ → List ℕ → List Doing
asked old new = C (Ask ReplaceWhat) None ∷ typed old ++ B 13 ∷ typed new ++ B 13 ∷ []

abbrev replacing : List ℕ → List ℕ → List ℕ → List ℕ → World
replacing text old new bytes = doing (notes text) (asked old new ++ typed bytes)

-- what is left of the text, the point, and what is told
abbrev told : World → List (List ℕ) × Option (List ℕ) × Option Message
told w = (texts w, points w, echo w)

-- the lines of both prompts and of the question, which stands behind the first match
first_line : lines (doing (notes []) (C (Ask ReplaceWhat) None ∷ B 97 ∷ [])) ≡ Some (Some (codes "Query replace: a"))
unfolding turns path most_turns outcome next key_read
first_line = refl

second_line : lines (doing (notes []) (C (Ask ReplaceWhat) None ∷ B 97 ∷ B 13 ∷ B 98 ∷ [])) ≡ Some (Some (codes "With: b"))
unfolding turns path most_turns outcome next key_read
second_line = refl

question : (lines (replacing (codes "xaya") (codes "A") (codes "b") []) ≡ Some (Some (codes "Replace? "))) × (points (replacing (codes "xaya") (codes "A") (codes "b") []) ≡ Some (2 ∷ [])) × (modes (replacing (codes "xaya") (codes "A") (codes "b") []) ≡ Some Replacing)
unfolding turns path most_turns outcome next key_read
question = (refl, refl, refl)

-- all at once, with nothing, whatever the case of the letters
all_replaced : told (replacing (codes "aXa") (codes "A") [] (codes "!")) ≡ (codes "X" ∷ [], Some (1 ∷ []), Some (Replaced 2))
unfolding turns path most_turns outcome next key_read
all_replaced = refl

-- `y` and space replace and go on, `n` and DEL go on; what is put in is not looked at again
one_by_one : told (replacing (codes "aaaa") (codes "a") (codes "aa") (codes "yn " ++ 127 ∷ [])) ≡ (codes "aaaaaa" ∷ [], Some (6 ∷ []), Some (Replaced 2))
unfolding turns path most_turns outcome next key_read
one_by_one = refl

-- `.` replaces and ends
last_one : told (replacing (codes "aaa") (codes "a") (codes "b") (codes "y.")) ≡ (codes "bba" ∷ [], Some (2 ∷ []), Some (Replaced 2))
unfolding turns path most_turns outcome next key_read
last_one = refl

-- `q` and RET end it where it stands
stopped : (told (replacing (codes "aaa") (codes "a") (codes "b") (codes "yq")) ≡ (codes "baa" ∷ [], Some (2 ∷ []), Some (Replaced 1))) × (told (replacing (codes "aaa") (codes "a") (codes "b") (13 ∷ [])) ≡ (codes "aaa" ∷ [], Some (1 ∷ []), Some (Replaced 0))) × (modes (replacing (codes "aaa") (codes "a") (codes "b") (codes "yq")) ≡ Some Plain)
unfolding turns path most_turns outcome next key_read
stopped = (refl, refl, refl)

quit : told (replacing (codes "aaa") (codes "a") (codes "b") (codes "y" ++ 7 ∷ [])) ≡ (codes "baa" ∷ [], Some (2 ∷ []), Some (Says Quitting))
unfolding turns path most_turns outcome next key_read
quit = refl

-- any other byte does nothing
passed_over : (lines (replacing (codes "aaa") (codes "a") (codes "b") (codes "x" ++ 27 ∷ 6 ∷ [])) ≡ Some (Some (codes "Replace? "))) × (texts (replacing (codes "aaa") (codes "a") (codes "b") (codes "x" ++ 27 ∷ 6 ∷ codes "q")) ≡ codes "aaa" ∷ [])
unfolding turns path most_turns outcome next key_read
passed_over = (refl, refl)

-- the search begins at the point
from_point : told (doing (notes (codes "aaa")) (B 6 ∷ asked (codes "a") (codes "b") ++ typed (codes "!"))) ≡ (codes "abb" ∷ [], Some (3 ∷ []), Some (Replaced 2))
unfolding turns path most_turns outcome next key_read
from_point = refl

-- with no match it is not entered
none : (told (replacing (codes "aaa") (codes "x") (codes "b") []) ≡ (codes "aaa" ∷ [], Some (0 ∷ []), Some (Replaced 0))) × (modes (replacing (codes "aaa") (codes "x") (codes "b") []) ≡ Some Plain)
unfolding turns path most_turns outcome next key_read
none = (refl, refl)

-- an empty old text is judged at the last RET, behind the rights
no_pattern : (modes (doing (notes (codes "a")) (C (Ask ReplaceWhat) None ∷ B 13 ∷ [])) ≡ Some (Prompt ReplaceWith)) × (echo (replacing (codes "a") [] (codes "b") []) ≡ Some (Says NoPattern))
unfolding turns path most_turns outcome next key_read
no_pattern = (refl, refl)

abbrev unread : World
unread = record (notes []) { buffers = buffer_of (codes "notes") (codes "aa") (record { entry_type = Allow; who = User (codes "bob"); mask = 132 } ∷ []) ∷ [] }

denied_first : (echo (doing_bob unread (asked [] [])) ≡ Some (Denied (NotGranted ReadData))) × (echo (doing (notes []) (C (Rearrange ListBuffers) None ∷ asked [] [])) ≡ Some (Says NoBuffer))
unfolding turns path most_turns outcome next key_read
denied_first = (refl, refl)

-- A READER who may not write is asked, and may go on; a replacement is denied, and ends the mode
abbrev readable : World
readable = record (notes []) { buffers = buffer_of (codes "notes") (codes "a a a") (record { entry_type = Allow; who = User (codes "bob"); mask = 129 } ∷ []) ∷ [] }

skips_alone : told (doing_bob readable (asked (codes "a") (codes "b") ++ typed (codes "n"))) ≡ (codes "a a a" ∷ [], Some (3 ∷ []), Some (Says Silent))
unfolding turns path most_turns outcome next key_read
skips_alone = refl

denied : (told (doing_bob readable (asked (codes "a") (codes "b") ++ typed (codes "!"))) ≡ (codes "a a a" ∷ [], Some (1 ∷ []), Some (Denied (NotGranted WriteData)))) × (modes (doing_bob readable (asked (codes "a") (codes "b") ++ typed (codes "!"))) ≡ Some Plain)
unfolding turns path most_turns outcome next key_read
denied = (refl, refl)

-- WHILE SHE IS ASKED bob takes her right to write away: C-u 2 M-x acl-delete RET
abbrev allows : List ℕ → ℕ → Entry
allows user mask = record { entry_type = Allow; who = User user; mask = mask }

abbrev ruled : World
ruled = record (notes []) { buffers = buffer_of (codes "notes") (codes "a a a") (allows (codes "ann") 129 ∷ allows (codes "ann") 2 ∷ allows (codes "bob") 262144 ∷ allows (codes "bob") 128 ∷ []) ∷ [] }

abbrev taken_away : World
taken_away =
    all_done (other_types (step (doing ruled (asked (codes "a") (codes "b"))) (Open 2 (codes "bob") 24 80)) (21 ∷ 50 ∷ 27 ∷ 120 ∷ codes "acl-delete" ++ 13 ∷ [])) (typed (codes "!"))

denied_then : (told taken_away ≡ (codes "a a a" ∷ [], Some (1 ∷ []), Some (Denied (NotGranted WriteData)))) × (modes taken_away ≡ Some Plain)
unfolding turns path most_turns outcome next key_read find_command
denied_then = (refl, refl)

-- ANOTHER'S EDITS: he puts in a character at the anchor, which stays before it, and the match is no longer there
abbrev disturbed : List ℕ → World
disturbed bytes =
    all_done (step (step (replacing (codes "abab") (codes "ab") (codes "c") []) (Open 2 (codes "ann") 24 80)) (Byte 2 120 true None)) (typed bytes)

not_replaced : told (disturbed (codes "y")) ≡ (codes "xabab" ∷ [], Some (3 ∷ []), Some (Says Silent))
unfolding turns path most_turns outcome next key_read
not_replaced = refl

-- that counts nothing; the next match is found from the anchor on, and `.` ends it all the same
next_replaced : (told (disturbed (codes "yy")) ≡ (codes "xcab" ∷ [], Some (4 ∷ []), Some (Says Silent))) × (told (disturbed (codes "y!")) ≡ (codes "xcc" ∷ [], Some (3 ∷ []), Some (Replaced 2))) × (told (disturbed (codes ".")) ≡ (codes "xabab" ∷ [], Some (3 ∷ []), Some (Replaced 0))) × (told (disturbed (codes "n")) ≡ (codes "xabab" ∷ [], Some (3 ∷ []), Some (Says Silent)))
unfolding turns path most_turns outcome next key_read
next_replaced = (refl, refl, refl, refl)

-- MEMORY is refused to the second replacement: the first one stands, and the mode goes on
abbrev refused : World
refused = all_done (replacing (codes "a a a") (codes "a") (codes "b") []) (S 33 1 ∷ [])

one_done : (told refused ≡ (codes "b a a" ∷ [], Some (3 ∷ []), Some (Says NoMemory))) × (modes refused ≡ Some Replacing) × (told (all_done refused (B 33 ∷ [])) ≡ (codes "b b b" ∷ [], Some (5 ∷ []), Some (Replaced 3)))
unfolding turns path most_turns outcome next key_read
one_done = (refl, refl, refl)

-- it may be refused where a match is found or replaced, and nowhere else
abbrev may : World → ℕ → Bool
may w byte = may_be_refused (refused_act w 1 byte true (Some 0))

abbrev with_asked : List ℕ → World
with_asked old = doing (notes (codes "aab")) (C (Ask ReplaceWhat) None ∷ typed old ++ B 13 ∷ [])

may_begin : (may (with_asked (codes "a")) 13 ≡ true) × (may (with_asked (codes "x")) 13 ≡ false) × (may (with_asked []) 13 ≡ false) × (modes (all_done (with_asked (codes "a")) (S 13 0 ∷ [])) ≡ Some (Prompt ReplaceWith))
unfolding turns path most_turns outcome next key_read refused_in
may_begin = (refl, refl, refl, refl)

may_replace : (may (replacing (codes "aab") (codes "a") (codes "b") []) 121 ≡ true) × (may (replacing (codes "aab") (codes "a") (codes "b") []) 46 ≡ true) × (may (replacing (codes "aab") (codes "a") (codes "b") []) 33 ≡ true) × (may (replacing (codes "aab") (codes "a") (codes "b") []) 110 ≡ false) × (may (replacing (codes "aab") (codes "a") (codes "b") []) 113 ≡ false)
unfolding turns path most_turns outcome next key_read refused_in
may_replace = (refl, refl, refl, refl, refl)

may_not_replace : (may (disturbed []) 121 ≡ false) × (may (disturbed []) 46 ≡ false)
unfolding turns path most_turns outcome next key_read refused_in
may_not_replace = (refl, refl)
