-- Worked runs of searches: what their bytes come to, which line is shown, and what ends them.
use Rattle.std.proofs.Common.{◌≡◌, ℕ, true, false, List, [], ◌∷◌, ◌++◌, map, Option, Some, None, refl}
use Rattle.std.specs.Prelude.{codes, replicate}
use Rattle.std.specs.Option.{option_map}
use Rattle.mgs_model.specs.World.{World, Session}
use Rattle.mgs_model.specs.Acts.{outcome}
use Rattle.mgs_model.specs.Keys.{key_read}
use Rattle.mgs_model.specs.Commands.{find_command}
use Rattle.mgs_model.specs.Turns.{next}
use Rattle.mgs_model.specs.Outcome.{Run}
use Rattle.mgs_laws.specs.Refusals.{takes_memory}
use Rattle.mgs_model.specs.Apply.{outcome_in}
use Rattle.mgs_model.specs.Events.{Open, step, turns, most_turns, path}
use Rattle.mgs_laws.specs.Refusals.{refused_in, refused_act, may_be_refused}
use Rattle.mgs_model.specs.declared.search.Direction.{Direction}
use Rattle.mgs_model.specs.declared.search.Direction.TheVariants.{Forward, Backward}
use Rattle.mgs_model.specs.declared.echo_text.Message.TheVariants.{Says, Denied}
use Rattle.mgs_model.specs.declared.echo_text.Notice.TheVariants.{Silent, NoBuffer, NoPattern, NotFound, Quitting, NoMemory}
use Rattle.mgs_model.specs.declared.session.Mode.TheVariants.{Plain}
use Rattle.mgs_model.specs.declared.session.Command.TheVariants.{Move, Seek, Rearrange, Ask}
use Rattle.mgs_model.specs.declared.session.Motion.TheVariants.{BufferEnd}
use Rattle.mgs_model.specs.declared.session.Seeking.TheVariants.{StartSearch}
use Rattle.mgs_model.specs.declared.session.Arrangement.TheVariants.{ListBuffers}
use Rattle.mgs_model.specs.declared.session.Question.TheVariants.{SearchWhat}
use Rattle.mgs_model.specs.declared.right.Right.TheVariants.{ReadData}
use Rattle.mgs_model.specs.declared.entry.Decision.TheVariants.{NotGranted}
use Rattle.mgs_model.specs.declared.entry.EntryType.TheVariants.{Allow}
use Rattle.mgs_model.specs.declared.entry.Who.TheVariants.{User}
use Rattle.mgs_laws.proofs.Runs.{Doing, B, C, R, other_types, buffer_of, full, notes, doing, doing_bob, all_done, texts, of_one, echo, points, modes, lines}

abbrev typed : List ℕ → List Doing
typed text = map B text

-- C-s and C-r, from the text's start and from its end
abbrev forward : List ℕ → List ℕ → World
forward text bytes = doing (notes text) (C (Seek (StartSearch Forward)) None ∷ typed bytes)

abbrev backward : List ℕ → List ℕ → World
backward text bytes = doing (notes text) (C (Move BufferEnd) None ∷ C (Seek (StartSearch Backward)) None ∷ typed bytes)

abbrev told : World → Option (List ℕ) × Option (Option (List ℕ))
told w = (points w, lines w)

-- the search string
abbrev last : World → Option (List ℕ)
last w = of_one (λ (x : Session). x.state.pattern) w

-- INCREMENTAL SEARCH: `c` twice in `abcabc`, and no third time; C-g goes back
found : told (forward (codes "abcabc") (codes "c")) ≡ (Some (3 ∷ []), Some (Some (codes "I-search: c")))
unfolding turns path most_turns outcome next key_read
found = refl

found_again : told (forward (codes "abcabc") (codes "c" ++ 19 ∷ [])) ≡ (Some (6 ∷ []), Some (Some (codes "I-search: c")))
unfolding turns path most_turns outcome next key_read
found_again = refl

not_found_again : told (forward (codes "abcabc") (codes "c" ++ 19 ∷ 19 ∷ [])) ≡ (Some (6 ∷ []), Some (Some (codes "Failing I-search: c")))
unfolding turns path most_turns outcome next key_read
not_found_again = refl

quit : (points (forward (codes "abcabc") (codes "c" ++ 19 ∷ 19 ∷ 7 ∷ [])) ≡ Some (0 ∷ [])) × (echo (forward (codes "abcabc") (codes "c" ++ 19 ∷ 19 ∷ 7 ∷ [])) ≡ Some (Says Quitting)) × (last (forward (codes "abcabc") (codes "c" ++ 7 ∷ [])) ≡ Some [])
unfolding turns path most_turns outcome next key_read
quit = (refl, refl, refl)

-- nothing is looked for at first
begun : (told (forward (codes "ab") []) ≡ (Some (0 ∷ []), Some (Some (codes "I-search: ")))) × (told (backward (codes "ab") []) ≡ (Some (2 ∷ []), Some (Some (codes "I-search backward: "))))
unfolding turns path most_turns outcome next key_read
begun = (refl, refl)

-- backward the point is at a match's start, and a match may end behind the origin
found_back : (told (backward (codes "abcabc") (codes "bC")) ≡ (Some (4 ∷ []), Some (Some (codes "I-search backward: bC")))) × (told (backward (codes "abcabc") (codes "b" ++ 18 ∷ [])) ≡ (Some (1 ∷ []), Some (Some (codes "I-search backward: b")))) × (told (backward (codes "abcabc") (codes "b" ++ 18 ∷ 18 ∷ [])) ≡ (Some (1 ∷ []), Some (Some (codes "Failing I-search backward: b"))))
unfolding turns path most_turns outcome next key_read
found_back = (refl, refl, refl)

-- the other way the match where the search stands does not count
turned : told (forward (codes "abcabc") (codes "b" ++ 19 ∷ 18 ∷ [])) ≡ (Some (1 ∷ []), Some (Some (codes "I-search backward: b")))
unfolding turns path most_turns outcome next key_read
turned = refl

-- DEL goes back to the origin, and with an empty pattern so does the point
taken_back : (told (forward (codes "xabxac") (codes "ac" ++ 127 ∷ [])) ≡ (Some (2 ∷ []), Some (Some (codes "I-search: a")))) × (told (forward (codes "xabxac") (codes "a" ++ 127 ∷ 127 ∷ [])) ≡ (Some (0 ∷ []), Some (Some (codes "I-search: "))))
unfolding turns path most_turns outcome next key_read
taken_back = (refl, refl)

-- RET ends it, and what was searched for is the search string, which C-s then takes
ended : (last (forward (codes "abcabc") (codes "c" ++ 13 ∷ [])) ≡ Some (codes "c")) × (modes (forward (codes "abcabc") (codes "c" ++ 13 ∷ [])) ≡ Some Plain)
unfolding turns path most_turns outcome next key_read
ended = (refl, refl)

last_taken : told (all_done (forward (codes "abcabc") (codes "c" ++ 13 ∷ [])) (C (Seek (StartSearch Forward)) None ∷ B 19 ∷ [])) ≡ (Some (6 ∷ []), Some (Some (codes "I-search: c")))
unfolding turns path most_turns outcome next key_read
last_taken = refl

-- with an empty pattern the search string stays, and C-s without one changes the direction alone
nothing_searched : (last (all_done (forward (codes "abcabc") (codes "c" ++ 13 ∷ [])) (C (Seek (StartSearch Forward)) None ∷ B 13 ∷ [])) ≡ Some (codes "c")) × (told (backward (codes "ab") (19 ∷ [])) ≡ (Some (2 ∷ []), Some (Some (codes "I-search: "))))
unfolding turns path most_turns outcome next key_read
nothing_searched = (refl, refl)

-- any other byte ends it in the same way, and is then a key
left : (points (forward (codes "xabc") (codes "ab" ++ 6 ∷ [])) ≡ Some (4 ∷ [])) × (last (forward (codes "xabc") (codes "ab" ++ 6 ∷ [])) ≡ Some (codes "ab"))
unfolding turns path most_turns outcome next key_read
left = (refl, refl)

-- also where its own act fails, and where a word of keys only begins: ESC and `<`
left_failing : last (backward (codes "xabc") (codes "c" ++ 6 ∷ 6 ∷ [])) ≡ Some (codes "c")
unfolding turns path most_turns outcome next key_read
left_failing = refl

left_by_escape : (points (forward (codes "xabc") (codes "ab" ++ 27 ∷ 60 ∷ [])) ≡ Some (0 ∷ [])) × (last (forward (codes "xabc") (codes "ab" ++ 27 ∷ [])) ≡ Some (codes "ab"))
unfolding turns path most_turns outcome next key_read
left_by_escape = (refl, refl)

-- a pattern has at most 120 characters; the search goes on with them
most_typed : (told (forward (replicate 121 97) (replicate 121 97)) ≡ (Some (120 ∷ []), Some (Some (codes "I-search: " ++ replicate 120 97))))
unfolding turns path most_turns outcome next key_read find_command
most_typed = refl

-- EACH BYTE OF ITS OWN NEEDS READ_DATA. Bob searches, and ann takes his right away
abbrev shared : World
shared = record (notes []) { buffers = buffer_of (codes "notes") (codes "banana") (full ++ record { entry_type = Allow; who = User (codes "bob"); mask = 129 } ∷ []) ∷ [] }

abbrev searching_bob : World
searching_bob = doing_bob shared (C (Seek (StartSearch Forward)) None ∷ B 97 ∷ [])

-- ann: C-u 2 M-x acl-delete RET
abbrev locked_out : World
locked_out = other_types (step searching_bob (Open 2 (codes "ann") 24 80)) (21 ∷ 50 ∷ 27 ∷ 120 ∷ codes "acl-delete" ++ 13 ∷ [])

-- his search goes on
still_searching : (told searching_bob ≡ (Some (2 ∷ []), Some (Some (codes "I-search: a")))) × (lines locked_out ≡ Some (Some (codes "I-search: a")))
unfolding turns path most_turns outcome next key_read find_command
still_searching = (refl, refl)

denied : (echo (all_done locked_out (B 19 ∷ [])) ≡ Some (Denied (NotGranted ReadData))) × (modes (all_done locked_out (B 19 ∷ [])) ≡ Some Plain) × (last (all_done locked_out (B 19 ∷ [])) ≡ Some [])
unfolding turns path most_turns outcome next key_read find_command
denied = (refl, refl, refl)

-- RET and C-g need none
not_denied : (last (all_done locked_out (B 13 ∷ [])) ≡ Some (codes "a")) × (echo (all_done locked_out (B 7 ∷ [])) ≡ Some (Says Quitting)) × (points (all_done locked_out (B 7 ∷ [])) ≡ Some (0 ∷ []))
unfolding turns path most_turns outcome next key_read find_command
not_denied = (refl, refl, refl)

-- the byte that ends it sets the search string also where its own act is denied
denied_leaving : (echo (all_done locked_out (B 6 ∷ [])) ≡ Some (Denied (NotGranted ReadData))) × (last (all_done locked_out (B 6 ∷ [])) ≡ Some (codes "a"))
unfolding turns path most_turns outcome next key_read find_command
denied_leaving = (refl, refl)

-- ORIGIN AND ANCHOR MOVE WITH THE TEXT: ann puts in two characters at the start
abbrev moved : List ℕ → World
moved bytes =
    all_done (other_types (step (doing (notes (codes "abcabc")) (B 6 ∷ C (Seek (StartSearch Forward)) None ∷ B 99 ∷ [])) (Open 2 (codes "ann") 24 80)) (codes "xx")) (typed bytes)

found_moved : (told (moved []) ≡ (Some (5 ∷ []), Some (Some (codes "I-search: c")))) × (told (moved (19 ∷ [])) ≡ (Some (8 ∷ []), Some (Some (codes "I-search: c")))) × (points (moved (7 ∷ [])) ≡ Some (3 ∷ []))
unfolding turns path most_turns outcome next key_read
found_moved = (refl, refl, refl)

-- THE BUFFER IS KILLED by another session: the search is over, nothing is told, and no search string is set
abbrev killed : World
killed = other_types (step (forward (codes "abc") (codes "b")) (Open 2 (codes "ann") 24 80)) (24 ∷ 107 ∷ 13 ∷ [])

over : (modes killed ≡ Some Plain) × (echo killed ≡ Some (Says Silent)) × (last killed ≡ Some []) × (texts killed ≡ [])
unfolding turns path most_turns outcome next key_read
over = (refl, refl, refl, refl)

-- MEMORY may be refused to the byte that begins it, and to no other of its bytes
may_begin : option_map takes_memory (outcome_in (doing (notes (codes "ab")) []) 1 (Run (Seek (StartSearch Forward)) None []) true) ≡ Some true
unfolding turns path most_turns outcome next key_read
may_begin = refl

-- where it is, nothing has begun
not_begun : (modes (doing (notes (codes "ab")) (R (Seek (StartSearch Forward)) None 0 ∷ [])) ≡ Some Plain) × (echo (doing (notes (codes "ab")) (R (Seek (StartSearch Forward)) None 0 ∷ [])) ≡ Some (Says NoMemory))
unfolding turns path most_turns outcome next key_read
not_begun = (refl, refl)

may_not_go_on : (may_be_refused (refused_act (forward (codes "ab") []) 1 97 true (Some 0)) ≡ false) × (may_be_refused (refused_act (forward (codes "ab") (codes "a")) 1 19 true (Some 0)) ≡ false) × (may_be_refused (refused_act (forward (codes "ab") (codes "a")) 1 127 true (Some 0)) ≡ false) × (may_be_refused (refused_act (forward (codes "ab") (codes "a")) 1 7 true (Some 0)) ≡ false)
unfolding turns path most_turns outcome next key_read refused_in
may_not_go_on = (refl, refl, refl, refl)

-- A SEARCH BY A PROMPT: M-s and M-r
abbrev asked : Direction → List ℕ → List Doing
asked d pattern = C (Ask (SearchWhat d)) None ∷ typed pattern ++ B 13 ∷ []

went : (points (doing (notes (codes "abcABC")) (asked Forward (codes "B"))) ≡ Some (2 ∷ [])) × (points (doing (notes (codes "abcABC")) (asked Forward (codes "b") ++ asked Forward (codes "b"))) ≡ Some (5 ∷ [])) × (points (doing (notes (codes "abcABC")) (C (Move BufferEnd) None ∷ asked Backward (codes "b"))) ≡ Some (4 ∷ [])) × (points (doing (notes (codes "abcABC")) (C (Move BufferEnd) None ∷ asked Backward (codes "b") ++ asked Backward (codes "b"))) ≡ Some (1 ∷ []))
unfolding turns path most_turns outcome next key_read
went = (refl, refl, refl, refl)

nowhere : (echo (doing (notes (codes "abc")) (asked Forward (codes "x"))) ≡ Some (Says NotFound)) × (echo (doing (notes (codes "abc")) (asked Backward (codes "a"))) ≡ Some (Says NotFound)) × (echo (doing (notes (codes "abc")) (asked Forward [])) ≡ Some (Says NoPattern))
unfolding turns path most_turns outcome next key_read
nowhere = (refl, refl, refl)

-- without an answer the search string is looked for, and it stays as it is
last_searched : (points (all_done (forward (codes "abcabc") (codes "c" ++ 13 ∷ [])) (asked Forward [])) ≡ Some (6 ∷ [])) × (last (all_done (forward (codes "abcabc") (codes "c" ++ 13 ∷ [])) (asked Backward (codes "a"))) ≡ Some (codes "c"))
unfolding turns path most_turns outcome next key_read
last_searched = (refl, refl)

asked_line : lines (doing (notes []) (C (Ask (SearchWhat Backward)) None ∷ B 97 ∷ [])) ≡ Some (Some (codes "Search: a"))
unfolding turns path most_turns outcome next key_read
asked_line = refl

no_buffer : (echo (doing (notes []) (C (Rearrange ListBuffers) None ∷ asked Forward [])) ≡ Some (Says NoBuffer)) × (echo (doing (notes []) (C (Rearrange ListBuffers) None ∷ C (Seek (StartSearch Forward)) None ∷ [])) ≡ Some (Says NoBuffer))
unfolding turns path most_turns outcome next key_read
no_buffer = (refl, refl)
