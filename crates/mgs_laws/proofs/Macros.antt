-- Worked runs of macros.
use Rattle.std.proofs.Common.{◌≡◌, ℕ, true, false, List, [], ◌∷◌, ◌++◌, map, Option, Some, None, refl}
use Rattle.std.specs.Prelude.{Bool, codes, replicate, length}
use Rattle.std.specs.Option.{option_map}
use Rattle.mgs_model.specs.World.{World, Buffer, Session}
use Rattle.mgs_model.specs.Acts.{outcome}
use Rattle.mgs_model.specs.Keys.{key_read}
use Rattle.mgs_model.specs.Commands.{find_command}
use Rattle.mgs_model.specs.Turns.{next}
use Rattle.mgs_model.specs.Events.{with_state, turns, most_turns, path}
use Rattle.mgs_model.specs.declared.echo_text.Message.TheVariants.{Says, Denied}
use Rattle.mgs_model.specs.declared.echo_text.Notice.TheVariants.{InMacro, NotInMacro, NoMacro, TooMany, MacroTooLong, NoMemory, EndOfBuffer}
use Rattle.mgs_model.specs.declared.session.Mode.TheVariants.{Prompt}
use Rattle.mgs_model.specs.declared.session.Kind.{Kind}
use Rattle.mgs_model.specs.declared.session.Kind.TheVariants.{Other, Kill}
use Rattle.mgs_model.specs.declared.session.Command.TheVariants.{Alter, Set}
use Rattle.mgs_model.specs.declared.session.Alteration.TheVariants.{KillWord}
use Rattle.mgs_model.specs.declared.session.Setting.TheVariants.{StartMacro, EndMacro, CallMacro}
use Rattle.mgs_model.specs.declared.session.Question.TheVariants.{SwitchTo}
use Rattle.mgs_model.specs.declared.right.Right.TheVariants.{AppendData}
use Rattle.mgs_model.specs.declared.entry.Entry.{Entry}
use Rattle.mgs_model.specs.declared.entry.EntryType.TheVariants.{Allow}
use Rattle.mgs_model.specs.declared.entry.Who.TheVariants.{User}
use Rattle.mgs_model.specs.declared.entry.Decision.TheVariants.{NotGranted}
use Rattle.mgs_laws.proofs.Runs.{buffer_of, Doing, B, C, R, X, M, notes, doing, all_done, texts, of_one, echo, kill, modes, recorded}

abbrev typed : List ℕ → List Doing
typed text = map B text

-- C-x ( and C-x ), with what is typed between them
abbrev start : Doing
start = X 40 (Set StartMacro) None

abbrev end : Doing
end = X 41 (Set EndMacro) None

abbrev recording : List Doing → List Doing
recording xs = start ∷ xs ++ end ∷ []

abbrev play : Option ℕ → Doing
play n = X 101 (Set CallMacro) n

abbrev is_recording : World → Option Bool
is_recording w = of_one (λ (x : Session). x.state.recording) w

-- what is typed is done, and then done again; the bytes of C-x ) are not kept
played : (texts (doing (notes []) (recording (typed (codes "z")) ++ play (Some 4) ∷ [])) ≡ codes "zzzzz" ∷ []) × (recorded (doing (notes []) (recording (typed (codes "z")))) ≡ Some (codes "z"))
unfolding turns path most_turns outcome next key_read
played = (refl, refl)

-- C-u 0 plays nothing, and more than 100 times is too often
times : (texts (doing (notes []) (M (codes "z") ∷ play (Some 0) ∷ [])) ≡ [] ∷ []) × (echo (doing (notes []) (M (codes "z") ∷ play (Some 101) ∷ [])) ≡ Some (Says TooMany)) × (texts (doing (notes []) (M (codes "z") ∷ play (Some 100) ∷ [])) ≡ replicate 100 122 ∷ [])
unfolding turns path most_turns outcome next key_read
times = (refl, refl, refl)

-- each of the three commands where it can't be done
refused : (echo (doing (notes []) (start ∷ start ∷ [])) ≡ Some (Says InMacro)) × (echo (doing (notes []) (start ∷ play None ∷ [])) ≡ Some (Says InMacro)) × (echo (doing (notes []) (end ∷ [])) ≡ Some (Says NotInMacro)) × (echo (doing (notes []) (play (Some 101) ∷ [])) ≡ Some (Says NoMacro))
unfolding turns path most_turns outcome next key_read
refused = (refl, refl, refl, refl)

-- a new recording hides the old macro for good; a failed command stays in the recording
hidden : (recorded (doing (notes []) (recording (typed (codes "z")) ++ start ∷ [])) ≡ Some []) × (recorded (doing (notes []) (start ∷ start ∷ B 122 ∷ end ∷ [])) ≡ Some (24 ∷ 40 ∷ 122 ∷ []))
unfolding turns path most_turns outcome next key_read
hidden = (refl, refl)

-- exactly the last two bytes go, also behind an argument
argument_kept : recorded (doing (notes []) (recording (B 122 ∷ B 21 ∷ B 51 ∷ []))) ≡ Some (122 ∷ 21 ∷ 51 ∷ [])
unfolding turns path most_turns outcome next key_read
argument_kept = refl

-- keyboard-quit ends a recording, and the macro is then empty; that of a prompt does not
quit : (is_recording (doing (notes []) (start ∷ B 122 ∷ B 7 ∷ [])) ≡ Some false) × (recorded (doing (notes []) (start ∷ B 122 ∷ B 7 ∷ [])) ≡ Some []) × (recorded (doing (notes []) (recording (B 122 ∷ []) ++ B 7 ∷ [])) ≡ Some (codes "z")) × (is_recording (doing (notes []) (start ∷ B 24 ∷ B 98 ∷ B 7 ∷ [])) ≡ Some true)
unfolding turns path most_turns outcome next key_read
quit = (refl, refl, refl, refl)

-- A BYTE PAST 512 is not handled: the recording ends with an empty macro, and what is half read stays
abbrev recorded_so_far : ℕ → List Doing → World
recorded_so_far n xs = all_done (with_state 1 (λ state. record state { recording = true; macro = replicate n 120 }) (doing (notes (codes "a b")) [])) xs

most : (option_map length (recorded (recorded_so_far 511 (B 120 ∷ []))) ≡ Some 512) × (is_recording (recorded_so_far 511 (B 120 ∷ [])) ≡ Some true) × (texts (recorded_so_far 511 (B 120 ∷ [])) ≡ codes "xa b" ∷ [])
unfolding turns path most_turns outcome next key_read
most = (refl, refl, refl)

too_long : (echo (recorded_so_far 512 (B 120 ∷ [])) ≡ Some (Says MacroTooLong)) × (recorded (recorded_so_far 512 (B 120 ∷ [])) ≡ Some []) × (is_recording (recorded_so_far 512 (B 120 ∷ [])) ≡ Some false) × (texts (recorded_so_far 512 (B 120 ∷ [])) ≡ codes "a b" ∷ [])
unfolding turns path most_turns outcome next key_read
too_long = (refl, refl, refl, refl)

-- C-u 3 and a byte that is too long: the x behind it is the first that is done, and with the argument
half_read : texts (recorded_so_far 510 (B 21 ∷ B 51 ∷ B 24 ∷ B 120 ∷ [])) ≡ codes "xxxa b" ∷ []
unfolding turns path most_turns outcome next key_read
half_read = refl

-- the closing two count
closed_last : (option_map length (recorded (recorded_so_far 510 (end ∷ []))) ≡ Some 510) × (echo (recorded_so_far 511 (B 24 ∷ B 41 ∷ [])) ≡ Some (Says MacroTooLong))
unfolding turns path most_turns outcome next key_read
closed_last = (refl, refl)

-- it breaks a run of kills
abbrev kind : World → Option Kind
kind w = of_one (λ (x : Session). x.state.kind) w

kind_broken : (kind (recorded_so_far 510 (B 27 ∷ B 100 ∷ [])) ≡ Some Kill) × (kind (recorded_so_far 510 (B 27 ∷ B 100 ∷ B 27 ∷ [])) ≡ Some Other)
unfolding turns path most_turns outcome next key_read
kind_broken = (refl, refl)

-- A PLAY STOPS at the first failure, word that is no key, or quit
stops : (texts (doing (notes (codes "ab")) (M (6 ∷ 120 ∷ []) ∷ play (Some 9) ∷ [])) ≡ codes "axbx" ∷ []) × (echo (doing (notes (codes "ab")) (M (6 ∷ 120 ∷ []) ∷ play (Some 9) ∷ [])) ≡ Some (Says EndOfBuffer)) × (texts (doing (notes []) (M (120 ∷ 28 ∷ 121 ∷ []) ∷ play None ∷ [])) ≡ codes "x" ∷ []) × (texts (doing (notes []) (M (120 ∷ 24 ∷ 98 ∷ 7 ∷ 121 ∷ []) ∷ play None ∷ [])) ≡ codes "x" ∷ []) × (texts (doing (notes []) (M (120 ∷ 7 ∷ 121 ∷ []) ∷ play None ∷ [])) ≡ codes "x" ∷ [])
unfolding turns path most_turns outcome next key_read
stops = (refl, refl, refl, refl, refl)

-- no name that a TAB finds is no failure
goes_on : texts (doing (notes []) (M (24 ∷ 98 ∷ 120 ∷ 9 ∷ 13 ∷ 121 ∷ []) ∷ play None ∷ [])) ≡ [] ∷ codes "y" ∷ []
unfolding turns path most_turns outcome next key_read
goes_on = refl

-- a macro that types and takes the first entry away, until the one is gone that lets it type
abbrev allows : List ℕ → ℕ → Entry
allows user mask = record { entry_type = Allow; who = User user; mask = mask }

abbrev ruled : World
ruled = record (notes []) { buffers = buffer_of (codes "notes") [] (allows (codes "bob") 1 ∷ allows (codes "bob") 1 ∷ allows (codes "ann") 4 ∷ allows (codes "ann") 393347 ∷ []) ∷ [] }

abbrev locked_out : World
locked_out = doing ruled (recording (typed (122 ∷ 27 ∷ 120 ∷ codes "acl-delete" ++ 13 ∷ [])) ++ play (Some 5) ∷ [])

denied : (texts locked_out ≡ codes "zzz" ∷ []) × (map (λ (b : Buffer). b.entries) locked_out.buffers ≡ (allows (codes "ann") 393347 ∷ []) ∷ []) × (echo locked_out ≡ Some (Denied (NotGranted AppendData)))
unfolding turns path most_turns outcome next key_read find_command
denied = (refl, refl, refl)

-- half-read keys and a prompt that are open at its end stay so
open_at_end : (texts (doing (notes []) (M (21 ∷ 51 ∷ []) ∷ play None ∷ B 120 ∷ [])) ≡ codes "xxx" ∷ []) × (modes (doing (notes []) (M (24 ∷ 98 ∷ 120 ∷ []) ∷ play None ∷ [])) ≡ Some (Prompt SwitchTo)) × (texts (doing (notes []) (M (24 ∷ 98 ∷ 120 ∷ []) ∷ play (Some 2) ∷ B 13 ∷ B 121 ∷ [])) ≡ [] ∷ codes "y" ∷ [])
unfolding turns path most_turns outcome next key_read
open_at_end = (refl, refl, refl)

-- SAVING AND LEAVING are no part of a play, by their keys and by their names
not_played : (echo (doing (notes []) (M (24 ∷ 19 ∷ []) ∷ play None ∷ [])) ≡ Some (Says InMacro)) × (echo (doing (notes []) (M (24 ∷ 3 ∷ []) ∷ play None ∷ [])) ≡ Some (Says InMacro)) × (echo (doing (notes []) (M (27 ∷ 120 ∷ codes "save-buffer" ++ 13 ∷ []) ∷ play None ∷ [])) ≡ Some (Says InMacro))
unfolding turns path most_turns outcome next key_read find_command
not_played = (refl, refl, refl)

-- THE LAST COMMAND: C-x e breaks a run before its first byte, and what is played leaves its own
joined : (kill (doing (notes (codes "a b c")) (C (Alter KillWord) None ∷ M (27 ∷ 100 ∷ []) ∷ play None ∷ [])) ≡ Some (codes " b")) × (kill (doing (notes (codes "a b c")) (C (Alter KillWord) None ∷ M (27 ∷ 100 ∷ []) ∷ play None ∷ C (Alter KillWord) None ∷ [])) ≡ Some (codes " b c")) × (kill (doing (notes (codes "a b c")) (C (Alter KillWord) None ∷ M (27 ∷ 100 ∷ []) ∷ play (Some 0) ∷ C (Alter KillWord) None ∷ [])) ≡ Some (codes " b"))
unfolding turns path most_turns outcome next key_read
joined = (refl, refl, refl)

-- MEMORY is refused to the third act: two stand. Where it is refused to the first, all is as before
third_refused : (texts (doing (notes []) (recording (typed (codes "z")) ++ R (Set CallMacro) (Some 4) 2 ∷ [])) ≡ codes "zzz" ∷ []) × (echo (doing (notes []) (recording (typed (codes "z")) ++ R (Set CallMacro) (Some 4) 2 ∷ [])) ≡ Some (Says NoMemory))
unfolding turns path most_turns outcome next key_read
third_refused = (refl, refl)

first_refused : kill (doing (notes (codes "a b")) (C (Alter KillWord) None ∷ M (27 ∷ 100 ∷ []) ∷ R (Set CallMacro) None 0 ∷ C (Alter KillWord) None ∷ [])) ≡ Some (codes "a b")
unfolding turns path most_turns outcome next key_read
first_refused = refl
