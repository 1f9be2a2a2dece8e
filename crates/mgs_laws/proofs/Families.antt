-- Worked runs of a command of each family, computed by the definitions.
use Rattle.std.proofs.Common.{◌≡◌, ℕ, true, false, List, [], ◌∷◌, ◌++◌, map, Option, Some, None, refl}
use Rattle.std.specs.Prelude.{codes, replicate}
use Rattle.std.specs.Option.{option_map}
use Rattle.mgs_model.specs.World.{World, Buffer, Session, Window, Buffer_of, Listing}
use Rattle.mgs_model.specs.Acts.{outcome}
use Rattle.mgs_model.specs.Cells.{glyph}
use Rattle.mgs_model.specs.Keys.{key_read}
use Rattle.mgs_model.specs.Turns.{next}
use Rattle.mgs_model.specs.Outcome.{Run}
use Rattle.mgs_laws.specs.Refusals.{takes_memory}
use Rattle.mgs_model.specs.Apply.{outcome_in}
use Rattle.mgs_model.specs.Events.{Open, run, turns, most_turns, path}
use Rattle.mgs_laws.specs.Refusals.{refused_in, refused_act, may_be_refused}
use Rattle.mgs_model.specs.declared.search.Direction.TheVariants.{Forward}
use Rattle.mgs_model.specs.declared.echo_text.Message.TheVariants.{Says, Denied, Replaced, CharacterAt}
use Rattle.mgs_model.specs.declared.echo_text.Notice.TheVariants.{NoMemory, InMacro, NoFurtherUndo, NoFile, NoBuffer, NoSuchBuffer, Silent, KeyNotBound, Quitting, ImpossibleChange, NothingToYank, BeginningOfBuffer}
use Rattle.mgs_model.specs.declared.session.Command.TheVariants.{Insert, InsertReading, Move, Alter, Seek, Scroll, Set, Rearrange, Ask, Entries, UndoEdit, NotModified, SaveBuffer}
use Rattle.mgs_model.specs.declared.session.Insertion.TheVariants.{Yank}
use Rattle.mgs_model.specs.declared.session.Scrolling.TheVariants.{ScrollUp, ScrollDown}
use Rattle.mgs_model.specs.declared.session.ReadingInsertion.TheVariants.{NewlineAndIndent}
use Rattle.mgs_model.specs.declared.session.Motion.TheVariants.{EndOfLine, NextLine, BufferEnd, WhatCursorPosition, SetMark, ExchangePointAndMark, MarkWholeBuffer, CopyRegion}
use Rattle.mgs_model.specs.declared.session.Seeking.TheVariants.{StartSearch}
use Rattle.mgs_model.specs.declared.session.Alteration.TheVariants.{DeleteChar, KillLine, KillWord, BackwardKillWord, KillRegion, TransposeChars, UpcaseWord}
use Rattle.mgs_model.specs.declared.session.Setting.TheVariants.{StartMacro, CallMacro}
use Rattle.mgs_model.specs.declared.session.Arrangement.TheVariants.{DeleteWindow, DeleteOtherWindows, SplitWindow, NextWindow, PreviousWindow, EnlargeWindow, ListBuffers}
use Rattle.mgs_model.specs.declared.session.EntryChange.TheVariants.{DeleteEntry}
use Rattle.mgs_model.specs.declared.session.Question.TheVariants.{SwitchTo, KillWhich, InsertWhich, WhichOwner, ReplaceWhat}
use Rattle.mgs_model.specs.declared.right.Right.TheVariants.{ReadData, AppendData}
use Rattle.mgs_model.specs.declared.entry.Decision.TheVariants.{NotGranted}
use Rattle.mgs_model.specs.declared.entry.EntryType.TheVariants.{Allow}
use Rattle.mgs_model.specs.declared.entry.Who.TheVariants.{User}
use Rattle.mgs_laws.proofs.Runs.{B, S, C, R, M, buffer_of, full, notes, doing, doing_bob, texts, of_one, echo, kill, points, heights, shown}

-- INSERT: C-u 1 2 x
twelve : texts (doing (notes []) (B 21 ∷ B 49 ∷ B 50 ∷ B 120 ∷ [])) ≡ replicate 12 120 ∷ []
unfolding turns path most_turns outcome next key_read
twelve = refl

-- C-u C-u digits: C-u is 4, a digit replaces it, C-u again multiplies
eight : texts (doing (notes []) (B 21 ∷ B 50 ∷ B 21 ∷ B 120 ∷ [])) ≡ replicate 8 120 ∷ []
unfolding turns path most_turns outcome next key_read
eight = refl

-- a meta digit begins an argument, and digits go on with it
meta_digits : texts (doing (notes []) (B 27 ∷ B 49 ∷ B 50 ∷ B 120 ∷ [])) ≡ replicate 12 120 ∷ []
unfolding turns path most_turns outcome next key_read
meta_digits = refl

-- a digit after a product begins anew: C-u 3 C-u 2
begun_anew : texts (doing (notes []) (B 21 ∷ B 51 ∷ B 21 ∷ B 50 ∷ B 120 ∷ [])) ≡ replicate 2 120 ∷ []
unfolding turns path most_turns outcome next key_read
begun_anew = refl

-- C-x ESC x is one word that is none, and C-g ends it
swallowed : (echo (doing (notes []) (B 24 ∷ B 27 ∷ B 120 ∷ [])) ≡ Some (Says KeyNotBound)) × (texts (doing (notes []) (B 24 ∷ B 27 ∷ B 120 ∷ [])) ≡ [] ∷ [])
unfolding turns path most_turns outcome next key_read
swallowed = (refl, refl)

quit_half_read : echo (doing (notes []) (B 24 ∷ B 27 ∷ B 7 ∷ [])) ≡ Some (Says Quitting)
unfolding turns path most_turns outcome next key_read
quit_half_read = refl

-- an argument of 0 inserts nothing, which is no edit
nothing : map (λ (b : Buffer). b.modified) (doing (notes []) (B 21 ∷ B 48 ∷ B 120 ∷ [])).buffers ≡ false ∷ []
unfolding turns path most_turns outcome next key_read
nothing = refl

-- nor is one made of it where the text may not be read: no item and no flag, and the point goes to the end
abbrev unread : World
unread = record (notes []) { buffers = buffer_of (codes "notes") (codes "ab") (record { entry_type = Allow; who = User (codes "bob"); mask = 132 } ∷ []) ∷ [] }

nothing_unread_world : World
nothing_unread_world = doing_bob unread (B 21 ∷ B 48 ∷ B 120 ∷ [])

nothing_unread : (nothing_unread_world.buffers ≡ unread.buffers) × (points nothing_unread_world ≡ Some (2 ∷ [])) × (echo nothing_unread_world ≡ Some (Says Silent))
unfolding nothing_unread_world turns path most_turns outcome next key_read
nothing_unread = (refl, refl, refl)

-- INSERT READING: C-j behind two spaces
indented : texts (doing (notes (codes "  a")) (B 6 ∷ B 6 ∷ B 6 ∷ C (InsertReading NewlineAndIndent) None ∷ B 98 ∷ [])) ≡ (codes "  a" ++ 10 ∷ codes "  b") ∷ []
unfolding turns path most_turns outcome next key_read
indented = refl

-- ALTER: two kills are one piece
killed_twice : kill (doing (notes (codes "ab" ++ 10 ∷ codes "cd")) (C (Alter KillLine) None ∷ C (Alter KillLine) None ∷ [])) ≡ Some (codes "ab" ++ 10 ∷ [])
unfolding turns path most_turns outcome next key_read
killed_twice = refl

-- a motion parts them
killed_apart : kill (doing (notes (codes "ab" ++ 10 ∷ codes "cd")) (C (Alter KillLine) None ∷ B 6 ∷ C (Alter KillLine) None ∷ [])) ≡ Some (codes "cd")
unfolding turns path most_turns outcome next key_read
killed_apart = refl

-- MOVE: a mark, a motion and a copy
copied : kill (doing (notes (codes "abc")) (C (Move SetMark) None ∷ B 6 ∷ B 6 ∷ C (Move CopyRegion) None ∷ [])) ≡ Some (codes "ab")
unfolding turns path most_turns outcome next key_read
copied = refl

-- REARRANGE: C-x 2, C-x o and C-x C-b
split : heights (doing (notes []) (C (Rearrange SplitWindow) None ∷ [])) ≡ Some (11 ∷ 10 ∷ [])
unfolding turns path most_turns outcome next key_read
split = refl

listed : shown (doing (notes []) (C (Rearrange SplitWindow) None ∷ C (Rearrange NextWindow) None ∷ C (Rearrange ListBuffers) None ∷ [])) ≡ Some (Buffer_of (codes "notes") ∷ Listing ∷ [])
unfolding turns path most_turns outcome next key_read
listed = refl

-- C-x 0 gives the rows to the window above, which is then selected; the first gives them to the one below
deleted : heights (doing (notes []) (C (Rearrange SplitWindow) None ∷ C (Rearrange NextWindow) None ∷ C (Rearrange SplitWindow) None ∷ C (Rearrange DeleteWindow) None ∷ [])) ≡ Some (17 ∷ 4 ∷ [])
unfolding turns path most_turns outcome next key_read
deleted = refl

first_deleted : heights (doing (notes []) (C (Rearrange SplitWindow) None ∷ C (Rearrange DeleteWindow) None ∷ [])) ≡ Some (22 ∷ [])
unfolding turns path most_turns outcome next key_read
first_deleted = refl

others_deleted : heights (doing (notes []) (C (Rearrange SplitWindow) None ∷ C (Rearrange SplitWindow) None ∷ C (Rearrange DeleteOtherWindows) None ∷ [])) ≡ Some (22 ∷ [])
unfolding turns path most_turns outcome next key_read
others_deleted = refl

enlarged : heights (doing (notes []) (C (Rearrange SplitWindow) None ∷ C (Rearrange EnlargeWindow) (Some 3) ∷ [])) ≡ Some (14 ∷ 7 ∷ [])
unfolding turns path most_turns outcome next key_read
enlarged = refl

last_enlarged : heights (doing (notes []) (C (Rearrange SplitWindow) None ∷ C (Rearrange PreviousWindow) None ∷ C (Rearrange EnlargeWindow) None ∷ [])) ≡ Some (10 ∷ 11 ∷ [])
unfolding turns path most_turns outcome next key_read
last_enlarged = refl

impossible : echo (doing (notes []) (C (Rearrange SplitWindow) None ∷ C (Rearrange EnlargeWindow) (Some 10) ∷ [])) ≡ Some (Says ImpossibleChange)
unfolding turns path most_turns outcome next key_read
impossible = refl

-- ASK AND NAMED: C-x b, a new name, and text in it; the first buffer is as it was
switched : texts (doing (notes (codes "abc")) (C (Ask SwitchTo) None ∷ B 110 ∷ B 101 ∷ B 119 ∷ B 13 ∷ B 120 ∷ [])) ≡ codes "abc" ∷ codes "x" ∷ []
unfolding turns path most_turns outcome next key_read
switched = refl

-- TAB completes a name
completed : texts (doing (notes (codes "abc")) (C (Ask KillWhich) None ∷ B 110 ∷ B 9 ∷ B 13 ∷ [])) ≡ []
unfolding turns path most_turns outcome next key_read
completed = refl

-- ESC and the key after it, and M-[ with any other key, leave the input: the b of M-b and the A of M-[ A do not come to it
passed_over : texts (doing (notes (codes "abc")) (C (Ask SwitchTo) None ∷ B 120 ∷ B 27 ∷ B 98 ∷ B 27 ∷ B 91 ∷ B 65 ∷ B 27 ∷ B 91 ∷ B 27 ∷ B 99 ∷ B 13 ∷ B 120 ∷ C (Ask SwitchTo) None ∷ B 120 ∷ B 13 ∷ B 121 ∷ [])) ≡ codes "abc" ∷ codes "xy" ∷ []
unfolding turns path most_turns outcome next key_read
passed_over = refl

-- C-g after M-[ quits, and the x is typed into the text
quit_after_arrow : texts (doing (notes []) (C (Ask SwitchTo) None ∷ B 120 ∷ B 27 ∷ B 91 ∷ B 7 ∷ B 120 ∷ [])) ≡ codes "x" ∷ []
unfolding turns path most_turns outcome next key_read
quit_after_arrow = refl

-- the text of a buffer into itself
inserted : texts (doing (notes (codes "abc")) (C (Ask InsertWhich) None ∷ B 110 ∷ B 111 ∷ B 116 ∷ B 101 ∷ B 115 ∷ B 13 ∷ [])) ≡ codes "abcabc" ∷ []
unfolding turns path most_turns outcome next key_read
inserted = refl

-- a right that is missing on the source is told before the target's
abbrev sources : World
sources =
    record {
      directory = record { users = codes "ann" ∷ codes "bob" ∷ []; groups = [] };
      buffers =
          buffer_of (codes "notes") [] (record { entry_type = Allow; who = User (codes "bob"); mask = 129 } ∷ [])
          ∷ buffer_of (codes "hers") (codes "abc") full ∷ [];
      sessions = [];
      next_id = 1;
    }

source_first : echo (doing_bob sources (C (Ask InsertWhich) None ∷ B 104 ∷ B 101 ∷ B 114 ∷ B 115 ∷ B 13 ∷ [])) ≡ Some (Denied (NotGranted ReadData))
unfolding turns path most_turns outcome next key_read
source_first = refl

target_second : echo (doing_bob sources (C (Ask InsertWhich) None ∷ B 110 ∷ B 111 ∷ B 116 ∷ B 101 ∷ B 115 ∷ B 13 ∷ [])) ≡ Some (Denied (NotGranted AppendData))
unfolding turns path most_turns outcome next key_read
target_second = refl

-- a source that is not there is told before the target's right, which is not judged then
missing_source : echo (doing_bob sources (C (Ask InsertWhich) None ∷ B 110 ∷ B 111 ∷ B 13 ∷ [])) ≡ Some (Says NoSuchBuffer)
unfolding turns path most_turns outcome next key_read
missing_source = refl

-- where nothing is shown there is nothing to judge
nothing_shown : echo (doing_bob sources (C (Rearrange ListBuffers) None ∷ C (Ask InsertWhich) None ∷ B 104 ∷ B 101 ∷ B 114 ∷ B 115 ∷ B 13 ∷ [])) ≡ Some (Says NoBuffer)
unfolding turns path most_turns outcome next key_read
nothing_shown = refl

-- SET: a macro `x`, played three times
played : texts (doing (notes []) (M (120 ∷ []) ∷ C (Set CallMacro) (Some 3) ∷ [])) ≡ codes "xxx" ∷ []
unfolding turns path most_turns outcome next key_read
played = refl

-- a failure stops the play: C-f and `x` over `ab`; the second time C-f fails
play_stops : texts (doing (notes (codes "ab")) (M (6 ∷ 120 ∷ []) ∷ C (Set CallMacro) (Some 9) ∷ [])) ≡ codes "axbx" ∷ []
unfolding turns path most_turns outcome next key_read
play_stops = refl

-- a macro that ends the session does not play to its end
play_fails : echo (doing (notes []) (C (Set StartMacro) None ∷ C (Set CallMacro) None ∷ [])) ≡ Some (Says InMacro)
unfolding turns path most_turns outcome next key_read
play_fails = refl

-- EXIT ends the session
ended : map (λ (x : Session). x.id) (doing (notes []) (B 24 ∷ B 3 ∷ [])).sessions ≡ []
unfolding turns path most_turns outcome next key_read
ended = refl

-- MEMORY: refused to the third act of a macro that is played, two of which stand
refused : texts (doing (notes []) (M (120 ∷ []) ∷ R (Set CallMacro) (Some 9) 2 ∷ [])) ≡ codes "xx" ∷ []
unfolding turns path most_turns outcome next key_read
refused = refl

refused_told : echo (doing (notes []) (M (120 ∷ []) ∷ R (Set CallMacro) (Some 9) 2 ∷ [])) ≡ Some (Says NoMemory)
unfolding turns path most_turns outcome next key_read
refused_told = refl

-- a prompt whose answer is refused is still open
refused_answer : texts (doing (notes []) (C (Ask SwitchTo) None ∷ B 110 ∷ S 13 0 ∷ B 13 ∷ B 120 ∷ [])) ≡ [] ∷ codes "x" ∷ []
unfolding turns path most_turns outcome next key_read
refused_answer = refl

-- WHERE MEMORY MAY BE REFUSED: to a copy, and not to a motion
copy_may : option_map takes_memory (outcome_in (doing (notes (codes "abc")) (C (Move SetMark) None ∷ [])) 1 (Run (Move CopyRegion) None []) true) ≡ Some true
unfolding turns path most_turns outcome next key_read refused_in
copy_may = refl

motion_may_not : may_be_refused (refused_act (doing (notes (codes "abc")) []) 1 6 true (Some 0)) ≡ false
unfolding turns path most_turns outcome next key_read refused_in
motion_may_not = refl

-- UNDO: twice in a row, and once more
undone_twice : texts (doing (notes (codes "ab")) (C (Alter DeleteChar) None ∷ C (Alter DeleteChar) None ∷ C UndoEdit None ∷ C UndoEdit None ∷ [])) ≡ codes "ab" ∷ []
unfolding turns path most_turns outcome next key_read
undone_twice = refl

-- a third one finds nothing more, and breaks no run: after C-f undo would begin anew
nothing_more : echo (doing (notes (codes "ab")) (C (Alter DeleteChar) None ∷ C (Alter DeleteChar) None ∷ C UndoEdit None ∷ C UndoEdit None ∷ C UndoEdit None ∷ [])) ≡ Some (Says NoFurtherUndo)
unfolding turns path most_turns outcome next key_read
nothing_more = refl

still_nothing : echo (doing (notes (codes "ab")) (C (Alter DeleteChar) None ∷ C (Alter DeleteChar) None ∷ C UndoEdit None ∷ C UndoEdit None ∷ C UndoEdit None ∷ C UndoEdit None ∷ [])) ≡ Some (Says NoFurtherUndo)
unfolding turns path most_turns outcome next key_read
still_nothing = refl

anew : texts (doing (notes (codes "ab")) (C (Alter DeleteChar) None ∷ C (Alter DeleteChar) None ∷ C UndoEdit None ∷ C UndoEdit None ∷ B 2 ∷ C UndoEdit None ∷ [])) ≡ codes "b" ∷ []
unfolding turns path most_turns outcome next key_read
anew = refl

-- A SEARCH: two bytes of it, and a key that ends it and then moves on
searched : points (doing (notes (codes "xabc")) (C (Seek (StartSearch Forward)) None ∷ B 97 ∷ B 98 ∷ B 6 ∷ [])) ≡ Some (4 ∷ [])
unfolding turns path most_turns outcome next key_read
searched = refl

left_search : points (doing (notes (codes "xabc")) (B 6 ∷ C (Seek (StartSearch Forward)) None ∷ B 98 ∷ B 7 ∷ [])) ≡ Some (1 ∷ [])
unfolding turns path most_turns outcome next key_read
left_search = refl

-- the act that ends a search is refused: the search goes on as it was
search_stays : points (doing (notes (codes "xabc")) (C (Seek (StartSearch Forward)) None ∷ B 97 ∷ S 6 0 ∷ B 98 ∷ [])) ≡ Some (3 ∷ [])
unfolding turns path most_turns outcome next key_read
search_stays = refl

-- QUERY-REPLACE: M-% a RET bb RET !
replaced : texts (doing (notes (codes "axaxa")) (C (Ask ReplaceWhat) None ∷ B 97 ∷ B 13 ∷ B 98 ∷ B 98 ∷ B 13 ∷ B 33 ∷ [])) ≡ codes "bbxbbxbb" ∷ []
unfolding turns path most_turns outcome next key_read
replaced = refl

replaced_told : echo (doing (notes (codes "axaxa")) (C (Ask ReplaceWhat) None ∷ B 97 ∷ B 13 ∷ B 98 ∷ B 98 ∷ B 13 ∷ B 33 ∷ [])) ≡ Some (Replaced 3)
unfolding turns path most_turns outcome next key_read
replaced_told = refl

skipped : texts (doing (notes (codes "axaxa")) (C (Ask ReplaceWhat) None ∷ B 97 ∷ B 13 ∷ B 98 ∷ B 98 ∷ B 13 ∷ B 121 ∷ B 110 ∷ B 121 ∷ [])) ≡ codes "bbxaxbb" ∷ []
unfolding turns path most_turns outcome next key_read
skipped = refl

-- each replacement of `!` is an act: memory for one
one_replaced : texts (doing (notes (codes "axaxa")) (C (Ask ReplaceWhat) None ∷ B 97 ∷ B 13 ∷ B 98 ∷ B 98 ∷ B 13 ∷ S 33 1 ∷ [])) ≡ codes "bbxaxa" ∷ []
unfolding turns path most_turns outcome next key_read
one_replaced = refl

-- ENTRIES: ann takes the one entry away, and may do nothing more
locked_out : echo (doing (notes (codes "ab")) (C (Entries DeleteEntry) (Some 1) ∷ B 6 ∷ [])) ≡ Some (Denied (NotGranted ReadData))
unfolding turns path most_turns outcome next key_read
locked_out = refl

-- THE OWNER: with the owner goes what the list grants him
given : echo (doing (notes (codes "ab")) (C (Ask WhichOwner) None ∷ B 98 ∷ B 111 ∷ B 98 ∷ B 13 ∷ C (Alter DeleteChar) None ∷ [])) ≡ Some (Denied (NotGranted ReadData))
unfolding turns path most_turns outcome next key_read
given = refl

no_file : echo (doing (notes (codes "ab")) (C SaveBuffer None ∷ [])) ≡ Some (Says NoFile)
unfolding turns path most_turns outcome next key_read
no_file = refl

-- C-e and M-u
at_line_end : points (doing (notes (codes "abc")) (C (Move EndOfLine) None ∷ [])) ≡ Some (3 ∷ [])
unfolding turns path most_turns outcome next key_read
at_line_end = refl

capitals : texts (doing (notes (codes " ab cd")) (C (Alter UpcaseWord) None ∷ [])) ≡ codes " AB cd" ∷ []
unfolding turns path most_turns outcome next key_read
capitals = refl

-- a list that grants bob nothing but the attributes
abbrev shown_alone : World
shown_alone = record (notes []) { buffers = buffer_of (codes "notes") [] (record { entry_type = Allow; who = User (codes "bob"); mask = 128 } ∷ []) ∷ [] }

-- A MASK has no order: who has neither right is told the lower bit
lower_bit : echo (doing_bob shown_alone (C (Alter DeleteChar) None ∷ [])) ≡ Some (Denied (NotGranted ReadData))
unfolding turns path most_turns outcome next key_read
lower_bit = refl

-- AN OPEN takes any id that is not open
opened_seven : (run (notes []) (Open 7 (codes "ann") 24 80 ∷ [])).next_id ≡ 8
opened_seven = refl

-- MOTION, KILLS AND YANKS

abbrev marks : World → Option (List (Option ℕ))
marks w = of_one (λ (x : Session). map (λ (y : Window). y.mark) x.windows) w

abbrev rows : World → Option (List ℕ)
rows w = of_one (λ (x : Session). map (λ (y : Window). y.row) x.windows) w

-- M-d M-d C-y: two kills are one piece, and the mark stands before what is put in
yanked_world : World
yanked_world = doing (notes (codes "one two")) (C (Alter KillWord) None ∷ C (Alter KillWord) None ∷ C (Insert Yank) None ∷ [])

yanked : (texts yanked_world ≡ codes "one two" ∷ []) × (marks yanked_world ≡ Some (Some 0 ∷ [])) × (points yanked_world ≡ Some (7 ∷ []))
unfolding yanked_world turns path most_turns outcome next key_read
yanked = (refl, refl, refl)

-- twice: one edit
yanked_twice : map (λ (b : Buffer). b.serial) (doing (notes (codes "ab")) (C (Alter KillWord) None ∷ C (Insert Yank) (Some 2) ∷ [])).buffers ≡ 2 ∷ []
unfolding turns path most_turns outcome next key_read
yanked_twice = refl

nothing_to_yank : echo (doing (notes []) (C (Insert Yank) (Some 0) ∷ [])) ≡ Some (Says NothingToYank)
unfolding turns path most_turns outcome next key_read
nothing_to_yank = refl

-- what is killed backwards goes in front
killed_back : kill (doing (notes (codes "one two")) (C (Move BufferEnd) None ∷ C (Alter BackwardKillWord) None ∷ C (Alter BackwardKillWord) None ∷ [])) ≡ Some (codes "one two")
unfolding turns path most_turns outcome next key_read
killed_back = refl

-- C-u 0 C-k after C-k: what is before the point in front of what was behind it
line_killed_back : kill (doing (notes (codes "ab")) (B 6 ∷ C (Alter KillLine) None ∷ C (Alter KillLine) (Some 0) ∷ [])) ≡ Some (codes "ab")
unfolding turns path most_turns outcome next key_read
line_killed_back = refl

-- but a region goes behind, wherever the mark is
region_killed : kill (doing (notes (codes "abc")) (B 6 ∷ C (Alter KillLine) None ∷ C (Move SetMark) None ∷ C (Alter KillLine) (Some 0) ∷ C (Alter KillRegion) None ∷ [])) ≡ Some (codes "a")
unfolding turns path most_turns outcome next key_read
region_killed = refl

-- C-u 2 C-k through two line feeds, and no further
lines_killed : texts (doing (notes (codes "a" ++ 10 ∷ 10 ∷ codes "b")) (C (Alter KillLine) (Some 2) ∷ [])) ≡ codes "b" ∷ []
unfolding turns path most_turns outcome next key_read
lines_killed = refl

-- at a text's end the last two characters change places, and at a line's start nothing does
transposed : (texts (doing (notes (codes "abc")) (C (Move BufferEnd) None ∷ C (Alter TransposeChars) None ∷ [])) ≡ codes "acb" ∷ []) × (echo (doing (notes (codes "a")) (B 6 ∷ C (Alter TransposeChars) None ∷ [])) ≡ Some (Says BeginningOfBuffer))
unfolding turns path most_turns outcome next key_read
transposed = (refl, refl)

-- the goal column goes on through a shorter line
goal_kept : points (doing (notes (codes "abc" ++ 10 ∷ 10 ∷ codes "abcd")) (C (Move EndOfLine) None ∷ C (Move NextLine) None ∷ C (Move NextLine) None ∷ [])) ≡ Some (8 ∷ [])
unfolding turns path most_turns outcome next key_read glyph
goal_kept = refl

whole_buffer : (points (doing (notes (codes "abc")) (B 6 ∷ C (Move MarkWholeBuffer) None ∷ [])) ≡ Some (0 ∷ [])) × (points (doing (notes (codes "abc")) (B 6 ∷ C (Move MarkWholeBuffer) None ∷ C (Move ExchangePointAndMark) None ∷ [])) ≡ Some (3 ∷ []))
unfolding turns path most_turns outcome next key_read
whole_buffer = (refl, refl)

what_is_here : echo (doing (notes (codes "hi")) (C (Move WhatCursorPosition) None ∷ [])) ≡ Some (CharacterAt 104 (record { point = 0; size = 2; line = 1; column = 0 }))
unfolding turns path most_turns outcome next key_read
what_is_here = refl

-- that nothing more can be undone breaks a run of copies
copied_anew : kill (doing (notes (codes "ab")) (C (Move SetMark) None ∷ B 6 ∷ C (Move CopyRegion) None ∷ C UndoEdit None ∷ C (Move CopyRegion) None ∷ [])) ≡ Some (codes "a")
unfolding turns path most_turns outcome next key_read
copied_anew = refl

-- a listing goes by rows, up to 512, and asks for no right
listing_scrolled : rows (doing (notes []) (C (Rearrange ListBuffers) None ∷ C (Scroll ScrollUp) None ∷ C (Scroll ScrollUp) (Some 1) ∷ C (Scroll ScrollDown) None ∷ [])) ≡ Some (22 ∷ [])
unfolding turns path most_turns outcome next key_read
listing_scrolled = refl

-- a text by lines: two lines less than the window has
text_scrolled : points (doing (notes (replicate 30 10)) (C (Scroll ScrollUp) None ∷ C (Scroll ScrollUp) (Some 3) ∷ C (Scroll ScrollDown) (Some 0) ∷ [])) ≡ Some (23 ∷ [])
unfolding turns path most_turns outcome next key_read
text_scrolled = refl

unmodified : map (λ (b : Buffer). b.modified) (doing (notes []) (B 120 ∷ C NotModified None ∷ [])).buffers ≡ false ∷ []
unfolding turns path most_turns outcome next key_read
unmodified = refl
