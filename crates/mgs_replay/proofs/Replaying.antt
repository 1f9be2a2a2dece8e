-- What an event does is what it does for some choice; and where nothing is refused, that is one fixed output.
use Rattle.std.proofs.Common.{◌≡◌, ℕ, ◌+◌, Bool, true, false, cond, List, [], ◌∷◌, Option, Some, None, Result, Ok, Err, refl, sym, ap, ◌∙◌}
use Rattle.std.specs.Prelude.{All, IsSome, is_some, ◌↔◌}
use Rattle.std.proofs.lemmas.List.Elements.{All-nil, All-head, All-tail}
use Rattle.mgs_model.specs.World.{World, Session, find_session}
use Rattle.mgs_model.specs.Events.{step}
use Rattle.mgs_laws.specs.Refusals.{may_be_refused, refused_act}
use Rattle.mgs_model.specs.Events as events
use Rattle.mgs_model.specs.declared.errors.Keyed.{Keyed}
use Rattle.mgs_model.specs.declared.errors.Keyed.TheVariants as keyed
use Rattle.mgs_model.specs.declared.errors.OpenFault.{OpenFault}
use Rattle.mgs_model.specs.declared.errors.OpenFault.TheVariants as opening
use Rattle.mgs_births.specs.Telling.{StoreTold}
use Rattle.mgs_core.specs.Calls.{KeyedBy, OpenedBy}
use Rattle.mgs_model.specs.Events.{open_fault}
use Rattle.mgs_script.specs.Lines.{Said, said_in}
use Rattle.mgs_script.specs.Lines as said
use Rattle.mgs_script.specs.Scripts.{lines_of}
use Rattle.mgs_replay.specs.Settings.{first_world}
use Rattle.mgs_replay.specs.declared.script.ReplayFault.TheVariants as ends
use Rattle.mgs_replay.specs.Players.{Player, Label, labels_keyed, standing_of, session_now, setting, is_refused}
use Rattle.mgs_replay.specs.Replayed.{Choice, granted, next_choice, LineChoice, NoMemory, Events, next_line, AllGranted, IsGranted, later, Did, did, stop_of, world_keyed, answer_of, key_answer, typed_one, typed, open_answer, did_open, did_by, Replayed, ended, after_print, line_then, played, replayed, IsDetermined}
use Rattle.mgs_replay.specs.Turns.{TypesOne}

-- A BYTE

cond_stop : (b : Bool) (o : Option ℕ) → (IsSome o → b ≡ true) → cond b o None ≡ o
cond_stop true o h = refl
cond_stop false None h = refl
cond_stop false (Some n) h = let e : false ≡ true = h refl in absurd cc

answer_is : (o p : Option Session) (stop : Option ℕ) (answer : Keyed) → (answer ≡ keyed.Short) ↔ IsSome stop → (answer ≡ keyed.NoSession) ↔ (o ≡ None) → (answer ≡ keyed.Quit) ↔ (IsSome o × (p ≡ None)) → answer_of o p stop ≡ answer
answer_is None p stop answer short none quit = sym (none.1 refl)
answer_is (Some x) p (Some n) answer short none quit = sym (short.1 refl)
answer_is (Some x) None None answer short none quit = sym (quit.1 (refl, refl))
answer_is (Some x) (Some y) None keyed.Done short none quit = refl
answer_is (Some x) (Some y) None keyed.NoSession short none quit = let e : Some x ≡ None = none.0 refl in absurd cc
answer_is (Some x) (Some y) None keyed.Quit short none quit = let e : Some y ≡ None = (quit.0 refl).1 in absurd cc
answer_is (Some x) (Some y) None keyed.Short short none quit = let e : is_some {T = ℕ} None ≡ true = short.0 refl in absurd cc

abbrev player : World → List Label → Bool → Player
player w ls b = record { world = w; labels = ls; begun = b }

player_same : (p : Player) (w : World) (ls : List Label) (b : Bool) → w ≡ p.world → ls ≡ p.labels → b ≡ p.begun → player w ls b ≡ p
player_same p w ls b e f g = ap (λ (x : World). player x ls b) e ∙ ap (λ (x : List Label). player p.world x b) f ∙ ap (λ (x : Bool). player p.world p.labels x) g

choice_of : {before after : StoreTold} (old new : World) (id byte : ℕ) (answer : Keyed) → KeyedBy old new before after id byte answer → Choice
choice_of old new id byte answer k = record { stored = k.stored; stop = k.stop }

stop_is : {before after : StoreTold} (old new : World) (id byte : ℕ) (answer : Keyed) (k : KeyedBy old new before after id byte answer) → stop_of (choice_of old new id byte answer k) old id byte ≡ k.stop
unfolding stop_of choice_of
stop_is old new id byte answer k = cond_stop (may_be_refused (refused_act old id byte k.stored k.stop)) k.stop k.may

world_is : {before after : StoreTold} (old new : World) (id byte : ℕ) (answer : Keyed) (k : KeyedBy old new before after id byte answer) → world_keyed (choice_of old new id byte answer k) old id byte ≡ new
unfolding world_keyed choice_of
world_is old new id byte answer k =
    ap (λ (stop : Option ℕ). step old (events.Byte id byte k.stored stop)) (stop_is old new id byte answer k) ∙ sym k.step

key_is : {before after : StoreTold} (old new : World) (id byte : ℕ) (answer : Keyed) (k : KeyedBy old new before after id byte answer) → key_answer (choice_of old new id byte answer k) old id byte ≡ answer
unfolding key_answer
key_is old new id byte answer k =
    ap (λ (stop : Option ℕ). answer_of (find_session id old.sessions) (find_session id (world_keyed (choice_of old new id byte answer k) old id byte).sessions) stop) (stop_is old new id byte answer k)
    ∙ ap (λ (w : World). answer_of (find_session id old.sessions) (find_session id w.sessions) k.stop) (world_is old new id byte answer k)
    ∙ answer_is (find_session id old.sessions) (find_session id new.sessions) k.stop answer k.short k.no_session k.quit

-- a byte of a session
pub one_typed : {before after : StoreTold} (s t : Player) (name : List ℕ) (id byte : ℕ) (answer : Keyed) → KeyedBy s.world t.world before after id byte answer → t.labels ≡ labels_keyed answer name s.labels → t.begun ≡ s.begun
    → TypesOne (Some id) s name byte t
one_typed s t name id byte answer h labels begun =
    let c = choice_of s.world t.world id byte answer h in (
      c,
      sym (player_same t (world_keyed c s.world id byte) (labels_keyed (key_answer c s.world id byte) name s.labels) s.begun
          (world_is s.world t.world id byte answer h)
          (ap (λ (k : Keyed). labels_keyed k name s.labels) (key_is s.world t.world id byte answer h) ∙ sym labels)
          (sym begun)),
    )

-- AN OPEN

refused : Choice
refused = record { stored = true; stop = Some 0 }

pub open_choice : (w v : World) (user : List ℕ) (rows cols : ℕ) (answer : Result ℕ OpenFault) → OpenedBy w v user rows cols answer → (c : Choice) × (open_answer c (open_fault w user rows cols) w.next_id ≡ answer)
unfolding refused
open_choice w v user rows cols (Ok id) h = (granted, ap (λ (o : Option OpenFault). open_answer granted o w.next_id) h.answer ∙ ap Ok (sym h.ok.0))
open_choice w v user rows cols (Err opening.Short) h = (refused, ap (λ (o : Option OpenFault). open_answer refused o w.next_id) h.answer)
open_choice w v user rows cols (Err opening.NoUser) h = (granted, ap (λ (o : Option OpenFault). open_answer granted o w.next_id) h.answer)
open_choice w v user rows cols (Err opening.Size) h = (granted, ap (λ (o : Option OpenFault). open_answer granted o w.next_id) h.answer)
open_choice w v user rows cols (Err opening.Full) h = (granted, ap (λ (o : Option OpenFault). open_answer granted o w.next_id) h.answer)

-- NOTHING REFUSED

next_granted : (cs : List Choice) → AllGranted cs → next_choice cs ≡ granted
next_granted [] h = refl
next_granted (c ∷ cs) h = All-head (λ (c : Choice). c ≡ granted) c cs h

later_granted : (cs : List Choice) → AllGranted cs → AllGranted (later cs)
later_granted [] h = h
later_granted (c ∷ cs) h = All-tail (λ (c : Choice). c ≡ granted) c cs h

typed_granted : (cs : List Choice) (s : Player) (name keys : List ℕ) → AllGranted cs → typed cs s name keys ≡ typed [] s name keys
typed_granted cs s name [] h = refl
typed_granted cs s name (b ∷ bs) h =
    ap (λ (c : Choice). typed (later cs) (typed_one c (session_now (standing_of name s.labels)) s name b) name bs) (next_granted cs h)
    ∙ typed_granted (later cs) (typed_one granted (session_now (standing_of name s.labels)) s name b) name bs (later_granted cs h)

did_granted : (cs : List Choice) (s : Player) (l : Said) → AllGranted cs → did_by cs s l ≡ did_by [] s l
did_granted cs s said.Nothing h = refl
did_granted cs s (said.User name) h = refl
did_granted cs s (said.Group name members) h = refl
did_granted cs s (said.Buffer name owner) h = refl
did_granted cs s (said.OwnGroup buffer group) h = refl
did_granted cs s (said.Entry buffer entry) h = refl
did_granted cs s (said.Text buffer chars) h = refl
did_granted cs s (said.Open name user rows cols) h =
    ap (λ (c : Choice). did_open s name user rows cols (open_answer c (open_fault s.world user rows cols) s.world.next_id)) (next_granted cs h)
did_granted cs s (said.Keys name keys) h = ap (λ (t : Player). did t []) (typed_granted cs s name keys h)
did_granted cs s (said.Show name) h = refl
did_granted cs s (said.Close name) h = refl

line_granted : (n : ℕ) (s : Player) (o : Option Said) (c : LineChoice) (f g : Player → Replayed) → IsGranted c → ((t : Player) → f t ≡ g t) → line_then n s o c f ≡ line_then n s o (Events []) g
line_granted n s None c f g h same = refl
line_granted n s (Some l) NoMemory f g h same = absurd h
line_granted n s (Some l) (Events cs) f g h same =
    ap (λ (x : Did). cond (is_refused s l) (ended (Err (ends.Line n))) (after_print x.print (f x.player))) (did_granted cs s l h)
    ∙ ap (λ (r : Replayed). cond (is_refused s l) (ended (Err (ends.Line n))) (after_print (did_by [] s l).print r)) (same (did_by [] s l).player)

lines_granted : (cs : List LineChoice) → All IsGranted cs → IsGranted (next_line cs) × All IsGranted (later cs)
lines_granted [] h = (All-nil (λ (c : Choice). c ≡ granted), h)
lines_granted (c ∷ cs) h = (All-head IsGranted c cs h, All-tail IsGranted c cs h)

all_granted : (cs : List LineChoice) (n : ℕ) (s : Player) (ls : List (List ℕ)) → All IsGranted cs → played cs n s ls ≡ played [] n s ls
all_granted cs n s [] h = refl
all_granted cs n s (l ∷ ls) h =
    let g = lines_granted cs h in
    line_granted n s (said_in l) (next_line cs) (λ t. played (later cs) (n + 1) t ls) (λ t. played [] (n + 1) t ls) g.0 (λ t. all_granted (later cs) (n + 1) t ls g.1)

pub is_determined : IsDetermined
unfolding replayed
is_determined cs script h = all_granted cs 1 (setting first_world) (lines_of script) h
