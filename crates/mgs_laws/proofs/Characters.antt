-- Worked runs of characters past ASCII that are typed in a prompt and in an incremental search: C3 A9 is `é`, E6 BC A2 is `漢`.
use Rattle.std.proofs.Common.{◌≡◌, ℕ, false, List, [], ◌∷◌, ◌++◌, map, Option, Some, None, refl}
use Rattle.std.specs.Prelude.{codes}
use Rattle.std.specs.Str.{is_utf8, chars}
use Rattle.std.specs.Char.{encode_utf8}
use Rattle.std.specs.Str.Lossy.{utf8_valid_len, utf8_error_len}
use Rattle.mgs_model.specs.World.{World, Session}
use Rattle.mgs_model.specs.Acts.{outcome}
use Rattle.mgs_model.specs.Keys.{key_read}
use Rattle.mgs_model.specs.Sequences.{sequence_read}
use Rattle.mgs_model.specs.Commands.{find_command}
use Rattle.mgs_model.specs.Turns.{next}
use Rattle.mgs_model.specs.Events.{Open, step, turns, most_turns, path}
use Rattle.mgs_model.specs.declared.search.Direction.TheVariants.{Forward}
use Rattle.mgs_model.specs.declared.echo_text.Message.TheVariants.{Says, Denied, BadEntry}
use Rattle.mgs_model.specs.declared.echo_text.Notice.TheVariants.{Silent, BadName, KeyNotBound, NoBuffer, NoMatch, NoMemory, NotANumber, Quitting}
use Rattle.mgs_model.specs.declared.entry.EntryFault.TheVariants.{Who}
use Rattle.mgs_model.specs.declared.session.Mode.TheVariants.{Plain, Prompt, Searching, Replacing}
use Rattle.mgs_model.specs.declared.session.Command.TheVariants.{Ask, Seek, Set}
use Rattle.mgs_model.specs.declared.session.Setting.TheVariants.{CallMacro}
use Rattle.mgs_model.specs.declared.session.Seeking.TheVariants.{StartSearch}
use Rattle.mgs_model.specs.declared.session.Question.TheVariants.{SwitchTo, GoToWhich, EntryToInsert, SearchWhat, ReplaceWhat}
use Rattle.mgs_model.specs.declared.right.Right.TheVariants.{ReadData}
use Rattle.mgs_model.specs.declared.entry.Decision.TheVariants.{NotGranted}
use Rattle.mgs_laws.proofs.Runs.{Doing, B, S, C, M, X, other_types, notes, doing, all_done, texts, of_one, echo, points, modes, lines}

abbrev typed : List ℕ → List Doing
typed bytes = map B bytes

-- the half-read bytes
abbrev held : World → Option (List ℕ)
held w = of_one (λ (x : Session). x.state.keys) w

abbrev input : World → Option (List ℕ)
input w = of_one (λ (x : Session). x.state.input) w

-- PROMPTS

abbrev asked : List ℕ → World
asked bytes = doing (notes (codes "aébé")) (C (Ask SwitchTo) None ∷ typed bytes)

-- a character comes with its last byte, and DEL drops it whole
put_behind : (lines (asked (97 ∷ 0xC3 ∷ [])) ≡ Some (Some (codes "Switch to buffer: a"))) × (held (asked (97 ∷ 0xC3 ∷ [])) ≡ Some (0xC3 ∷ [])) × (lines (asked (97 ∷ 0xC3 ∷ 0xA9 ∷ 0xE6 ∷ 0xBC ∷ 0xA2 ∷ [])) ≡ Some (Some (codes "Switch to buffer: aé漢"))) × (input (asked (97 ∷ 0xC3 ∷ 0xA9 ∷ 127 ∷ [])) ≡ Some (codes "a"))
unfolding turns path most_turns outcome next key_read sequence_read is_utf8 chars encode_utf8 utf8_valid_len utf8_error_len
put_behind = (refl, refl, refl, refl)

-- a byte that cannot go on with it, or begins none, is told, and what was typed before stays
broken : (echo (asked (97 ∷ 0xC3 ∷ 65 ∷ [])) ≡ Some (Says KeyNotBound)) × (input (asked (97 ∷ 0xC3 ∷ 65 ∷ 98 ∷ [])) ≡ Some (codes "ab")) × (echo (asked (97 ∷ 0xFF ∷ [])) ≡ Some (Says KeyNotBound)) × (modes (asked (97 ∷ 0xFF ∷ [])) ≡ Some (Prompt SwitchTo)) × (input (asked (97 ∷ 0xC3 ∷ 13 ∷ 98 ∷ [])) ≡ Some (codes "ab"))
unfolding turns path most_turns outcome next key_read sequence_read is_utf8 chars encode_utf8 utf8_valid_len utf8_error_len
broken = (refl, refl, refl, refl, refl)

-- behind ESC and M-[ no character begins
behind_escape : (echo (asked (27 ∷ 0xC3 ∷ [])) ≡ Some (Says KeyNotBound)) × (echo (asked (27 ∷ 91 ∷ 0xC3 ∷ [])) ≡ Some (Says KeyNotBound)) × (held (asked (27 ∷ 91 ∷ 27 ∷ 0xC3 ∷ [])) ≡ Some []) × (modes (asked (27 ∷ 0xC3 ∷ [])) ≡ Some (Prompt SwitchTo))
unfolding turns path most_turns outcome next key_read sequence_read is_utf8 chars encode_utf8 utf8_valid_len utf8_error_len
behind_escape = (refl, refl, refl, refl)

-- C-g quits the prompt also within a character
quit : (echo (asked (97 ∷ 0xC3 ∷ 7 ∷ [])) ≡ Some (Says Quitting)) × (modes (asked (97 ∷ 0xC3 ∷ 7 ∷ [])) ≡ Some Plain) × (held (asked (97 ∷ 0xC3 ∷ 7 ∷ [])) ≡ Some [])
unfolding turns path most_turns outcome next key_read sequence_read is_utf8 chars encode_utf8 utf8_valid_len utf8_error_len
quit = (refl, refl, refl)

-- what has such a character is no name, no beginning of one, no number and no entry
no_name : (echo (asked (0xC3 ∷ 0xA9 ∷ 13 ∷ [])) ≡ Some (Says BadName)) × (echo (asked (0xC3 ∷ 0xA9 ∷ 9 ∷ [])) ≡ Some (Says NoMatch)) × (echo (doing (notes []) (C (Ask GoToWhich) None ∷ typed (49 ∷ 0xC3 ∷ 0xA9 ∷ 13 ∷ []))) ≡ Some (Says NotANumber)) × (echo (doing (notes []) (C (Ask EntryToInsert) None ∷ typed (codes "ALLOW " ++ 0xC3 ∷ 0xA9 ∷ codes " r" ++ 13 ∷ []))) ≡ Some (BadEntry Who))
unfolding turns path most_turns outcome next key_read sequence_read is_utf8 chars encode_utf8 utf8_valid_len utf8_error_len
no_name = (refl, refl, refl, refl)

-- a search by a prompt finds it
found_once : points (doing (notes (codes "aébé")) (C (Ask (SearchWhat Forward)) None ∷ typed (0xC3 ∷ 0xA9 ∷ 13 ∷ []))) ≡ Some (2 ∷ [])
unfolding turns path most_turns outcome next key_read sequence_read is_utf8 chars encode_utf8 utf8_valid_len utf8_error_len
found_once = refl

-- a play stops there, and the prompt stays
stopped : (input (doing (notes []) (C (Ask SwitchTo) None ∷ [])) ≡ Some []) × (modes (doing (notes []) (M (24 ∷ 98 ∷ 97 ∷ 0xC3 ∷ 65 ∷ 98 ∷ []) ∷ X 101 (Set CallMacro) (Some 2) ∷ [])) ≡ Some (Prompt SwitchTo)) × (input (doing (notes []) (M (24 ∷ 98 ∷ 97 ∷ 0xC3 ∷ 65 ∷ 98 ∷ []) ∷ X 101 (Set CallMacro) (Some 2) ∷ [])) ≡ Some (codes "a")) × (echo (doing (notes []) (M (24 ∷ 98 ∷ 97 ∷ 0xC3 ∷ 65 ∷ 98 ∷ []) ∷ X 101 (Set CallMacro) (Some 2) ∷ [])) ≡ Some (Says KeyNotBound))
unfolding turns path most_turns outcome next key_read sequence_read is_utf8 chars encode_utf8 utf8_valid_len utf8_error_len
stopped = (refl, refl, refl, refl)

-- INCREMENTAL SEARCH

abbrev sought : List ℕ → World
sought bytes = doing (notes (codes "aébé")) (C (Seek (StartSearch Forward)) None ∷ typed bytes)

-- it is looked for with its last byte
found : (points (sought (0xC3 ∷ [])) ≡ Some (0 ∷ [])) × (lines (sought (0xC3 ∷ [])) ≡ Some (Some (codes "I-search: "))) × (points (sought (0xC3 ∷ 0xA9 ∷ [])) ≡ Some (2 ∷ [])) × (lines (sought (0xC3 ∷ 0xA9 ∷ 19 ∷ [])) ≡ Some (Some (codes "I-search: é"))) × (points (sought (0xC3 ∷ 0xA9 ∷ 19 ∷ [])) ≡ Some (4 ∷ []))
unfolding turns path most_turns outcome next key_read sequence_read is_utf8 chars encode_utf8 utf8_valid_len utf8_error_len
found = (refl, refl, refl, refl, refl)

-- what cannot go on ends nothing
search_stays : (echo (sought (97 ∷ 0xC3 ∷ 13 ∷ [])) ≡ Some (Says KeyNotBound)) × (modes (sought (97 ∷ 0xC3 ∷ 13 ∷ [])) ≡ Some (Searching Forward false)) × (lines (sought (97 ∷ 0xC3 ∷ 13 ∷ 0xC3 ∷ 0xA9 ∷ [])) ≡ Some (Some (codes "I-search: aé"))) × (echo (sought (97 ∷ 0x80 ∷ [])) ≡ Some (Says KeyNotBound))
unfolding turns path most_turns outcome next key_read sequence_read is_utf8 chars encode_utf8 utf8_valid_len utf8_error_len
search_stays = (refl, refl, refl, refl)

-- C-g goes to the origin also within a character
search_quit : (echo (sought (97 ∷ 0xC3 ∷ 7 ∷ [])) ≡ Some (Says Quitting)) × (points (sought (97 ∷ 0xC3 ∷ 7 ∷ [])) ≡ Some (0 ∷ [])) × (held (sought (97 ∷ 0xC3 ∷ 7 ∷ [])) ≡ Some [])
unfolding turns path most_turns outcome next key_read sequence_read is_utf8 chars encode_utf8 utf8_valid_len utf8_error_len
search_quit = (refl, refl, refl)

-- the first byte needs no right, and the last one needs READ_DATA: ann takes her own away
abbrev locked_out : World
locked_out = other_types (step (sought []) (Open 2 (codes "ann") 24 80)) (21 ∷ 49 ∷ 27 ∷ 120 ∷ codes "acl-delete" ++ 13 ∷ [])

denied : (echo (all_done locked_out (typed (0xC3 ∷ []))) ≡ Some (Says Silent)) × (echo (all_done locked_out (typed (0xC3 ∷ 65 ∷ []))) ≡ Some (Says KeyNotBound)) × (echo (all_done locked_out (typed (0xC3 ∷ 0xA9 ∷ []))) ≡ Some (Denied (NotGranted ReadData)))
unfolding turns path most_turns outcome next key_read find_command sequence_read is_utf8 chars encode_utf8 utf8_valid_len utf8_error_len
denied = (refl, refl, refl)

-- the buffer is killed by another session: what is half read stays so, and goes on in plain mode
abbrev killed : World
killed = other_types (step (sought (97 ∷ 0xC3 ∷ [])) (Open 2 (codes "ann") 24 80)) (24 ∷ 107 ∷ 13 ∷ [])

half_read : (modes killed ≡ Some Plain) × (held killed ≡ Some (0xC3 ∷ [])) × (echo (all_done killed (typed (0xA9 ∷ []))) ≡ Some (Says NoBuffer)) × (echo (all_done killed (typed (65 ∷ []))) ≡ Some (Says KeyNotBound))
unfolding turns path most_turns outcome next key_read find_command sequence_read is_utf8 chars encode_utf8 utf8_valid_len utf8_error_len
half_read = (refl, refl, refl, refl)

-- memory refused: what is half read is forgotten
refused : (echo (all_done (sought (97 ∷ 0xC3 ∷ [])) (S 0xA9 0 ∷ [])) ≡ Some (Says NoMemory)) × (held (all_done (sought (97 ∷ 0xC3 ∷ [])) (S 0xA9 0 ∷ [])) ≡ Some []) × (input (all_done (sought (97 ∷ 0xC3 ∷ [])) (S 0xA9 0 ∷ [])) ≡ Some (codes "a"))
unfolding turns path most_turns outcome next key_read sequence_read is_utf8 chars encode_utf8 utf8_valid_len utf8_error_len
refused = (refl, refl, refl)

-- QUERY-REPLACE takes characters in its two answers, and none at its question
abbrev replacing : List ℕ → World
replacing bytes = doing (notes (codes "aébé")) (C (Ask ReplaceWhat) None ∷ typed (0xC3 ∷ 0xA9 ∷ 13 ∷ 0xE6 ∷ 0xBC ∷ 0xA2 ∷ 13 ∷ bytes))

replaced : (texts (replacing (33 ∷ [])) ≡ codes "a漢b漢" ∷ []) × (modes (replacing (0xC3 ∷ 0xA9 ∷ [])) ≡ Some Replacing) × (echo (replacing (0xC3 ∷ [])) ≡ Some (Says Silent)) × (held (replacing (0xC3 ∷ [])) ≡ Some [])
unfolding turns path most_turns outcome next key_read sequence_read is_utf8 chars encode_utf8 utf8_valid_len utf8_error_len
replaced = (refl, refl, refl, refl)
