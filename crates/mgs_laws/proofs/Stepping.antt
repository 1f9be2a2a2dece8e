-- Whole events and runs, where the texts of some buffers are hidden from the users.
use Rattle.std.proofs.Common.{◌≡◌, ℕ, ◌+◌, ◌-◌, List, [], ◌∷◌, ◌++◌, map, refl, sym, ap, ◌∙◌, subst, Bool, true, false, cond, ◌&&◌, Option, Some, None, is_some, zero, suc}
use Rattle.std.specs.Option.{option_map}
use Rattle.mgs_model.specs.Names.{same_name}
use Rattle.mgs_model.specs.Access.{Directory}
use Rattle.mgs_model.specs.Lines.{settled_top}
use Rattle.mgs_model.specs.World.{World, Buffer, Session, Window, Shows, Buffer_of, may, find_session, find_buffer}
use Rattle.mgs_model.specs.View.{view, view_of}
use Rattle.mgs_model.specs.Apply.{act}
use Rattle.mgs_model.specs.Events.{Event, Open, Byte, Close, top_settled, window_top, window_settled, session_settled, settled, is_open, can_open, opened, Doing, turn_seen, turn_in, rests, turn, turns, most_turns, begun_state, begun, byte_done, step, run, saved_by, turn_effects, turns_effects, event_effects, run_effects, path}
use Rattle.mgs_model.proofs.Paths.{effects_step, turns_step}
use Rattle.mgs_model.specs.Outcome.{Effect}
use Rattle.std.specs.List.{flat_map}
use Rattle.mgs_model.specs.Seen.{seen_in}
use Rattle.mgs_model.specs.Draw.{draw, screen}
use Rattle.mgs_laws.specs.Secrecy.{screen_of, hide, hide_if, blank_if, session_redacted, session_redacted_if, window_redacted, redacted, Alike, HiddenAmong, Hidden, IsOf, has_name, still, HiddenAct, IsBy, AllBy, turn_worlds, event_worlds, run_worlds, still_through, HiddenThrough, Same, HiddenText}
use Rattle.mgs_model.specs.declared.right.Right.TheVariants.{ReadData}
use Rattle.mgs_model.proofs.Blind.{map_fixed, is_some_map, same_names, is_name}
use Rattle.mgs_laws.proofs.Erasing.{Blindness, same_by, closed, blindness}
use Rattle.mgs_laws.proofs.Hide.{hide_same, hide_erasing}
use Rattle.mgs_laws.proofs.Redacted.{redacted_forgetting}
use Rattle.mgs_laws.proofs.Acting.{view_of_redacted, find_hide}
use Rattle.mgs_laws.proofs.Paths.{worlds_step}
use Rattle.mgs_laws.proofs.Turning.{state_same, act_same, turn_same, effects_seen, effects_same, of_with_state, of_turn}

-- WHICH BUFFERS ARE STILL THERE

Within : List Buffer → List Buffer → Type 0
Within [] all = Unit {0}
Within (b ∷ bs) all = (has_name b.name all ≡ true) × Within bs all

has_more : (name : List ℕ) (x : Buffer) (all : List Buffer) → has_name name all ≡ true → has_name name (x ∷ all) ≡ true
has_more name x all h = more (same_name name x.name) h
  where
    more : (c : Bool) → is_some (find_buffer name all) ≡ true → is_some (cond c (Some x) (find_buffer name all)) ≡ true
    more true h = refl
    more false h = h

within_more : (x : Buffer) (bs all : List Buffer) → Within bs all → Within bs (x ∷ all)
unfolding Within
within_more x [] all h = tt
within_more x (b ∷ bs) all h = (has_more b.name x all h.0, within_more x bs all h.1)

has_first : (x : Buffer) (all : List Buffer) → has_name x.name (x ∷ all) ≡ true
has_first x all = ap (λ c. is_some (cond c (Some x) (find_buffer x.name all))) (is_name x.name)

within_all : (bs : List Buffer) → Within bs bs
unfolding Within
within_all [] = tt
within_all (b ∷ bs) = (has_first b bs, within_more b bs bs (within_all bs))

and_true : (a b : Bool) → b ≡ true → (a && b) ≡ a
and_true true b e = e
and_true false b e = refl

hide_still : (shut : List ℕ → Bool) (w : World) (bs : List Buffer) → Within bs w.buffers → map (hide (still shut w)) bs ≡ map (hide shut) bs
unfolding Within
hide_still shut w [] h = refl
hide_still shut w (b ∷ bs) h = λ i. hide_if (and_true (shut b.name) (has_name b.name w.buffers) h.0 i) b ∷ hide_still shut w bs h.1 i

redacted_still : (users shut : List ℕ → Bool) (w : World) → redacted users (still shut w) w ≡ redacted users shut w
redacted_still users shut w = λ i. record w { buffers = hide_still shut w w.buffers (within_all w.buffers) i; sessions = map (session_redacted users) w.sessions }

has_hide : (shut : List ℕ → Bool) (name : List ℕ) (bs : List Buffer) → has_name name (map (hide shut) bs) ≡ has_name name bs
has_hide shut name bs = ap is_some (find_hide shut name bs) ∙ is_some_map (hide shut) (find_buffer name bs)

still_redacted : (users shut : List ℕ → Bool) (w : World) → still shut (redacted users shut w) ≡ still shut w
still_redacted users shut w = λ i name. shut name && has_hide shut name w.buffers i

shrink : (users shut : List ℕ → Bool) (w v : World) → Alike users shut w v → Alike users (still shut w) w v
shrink users shut w v e =
    redacted_still users shut w
    ∙ e
    ∙ sym (redacted_still users shut v)
    ∙ ap (λ f. redacted users f v) (sym (still_redacted users shut v) ∙ ap (still shut) (sym e) ∙ still_redacted users shut w)

and_first : (a b : Bool) → (a && b) ≡ true → a ≡ true
and_first true b e = refl
and_first false b e = e

hidden_still_among : (users shut : List ℕ → Bool) (w : World) (d : Directory) (bs : List Buffer) → HiddenAmong users shut d bs → HiddenAmong users (still shut w) d bs
hidden_still_among users shut w d [] h = tt
hidden_still_among users shut w d (b ∷ bs) h = ((λ e. h.0 (and_first (shut b.name) (has_name b.name w.buffers) e)), hidden_still_among users shut w d bs h.1)

hidden_still : (users shut : List ℕ → Bool) (w : World) → Hidden users shut w → Hidden users (still shut w) w
hidden_still users shut w h = hidden_still_among users shut w w.directory w.buffers h

-- WHAT ALIKE WORLDS SHARE

hidden_there : (users shut : List ℕ → Bool) (d : Directory) (bs : List Buffer) → HiddenAmong users shut d bs → HiddenAmong users shut d (map (hide shut) bs)
hidden_there users shut d [] h = tt
hidden_there users shut d (b ∷ bs) h = (h.0, hidden_there users shut d bs h.1)

hidden_back : (users shut : List ℕ → Bool) (d : Directory) (bs : List Buffer) → HiddenAmong users shut d (map (hide shut) bs) → HiddenAmong users shut d bs
hidden_back users shut d [] h = tt
hidden_back users shut d (b ∷ bs) h = (h.0, hidden_back users shut d bs h.1)

hidden_alike : (users shut : List ℕ → Bool) (w v : World) → Alike users shut w v → Hidden users shut w → Hidden users shut v
hidden_alike users shut w v e h = hidden_back users shut v.directory v.buffers (subst (Hidden users shut) e (hidden_there users shut w.directory w.buffers h))

redacts : (users shut : List ℕ → Bool) → Blindness users (redacted users shut)
redacts users shut = blindness users (hide shut) session_redacted_if (hide_erasing shut) redacted_forgetting

view_of_alike : (users shut : List ℕ → Bool) (w v : World) (id : ℕ) → Alike users shut w v → Hidden users shut w → IsOf users (find_session id w.sessions) → view_of w id ≡ view_of v id
view_of_alike users shut w v id e h g =
    sym (view_of_redacted users shut w id g h)
    ∙ ap (λ x. view_of x id) e
    ∙ view_of_redacted users shut v id ((redacts users shut).whose w v id e g) (hidden_alike users shut w v e h)

-- ONE ACT

pub hidden_act : HiddenAct
hidden_act users shut w v id c stored e h g =
    let q : view_of w id ≡ view_of v id = view_of_alike users shut w v id e h g in
    (shrink users shut (act w id c stored) (act v id c stored) (act_same (redacted users shut) (redacts users shut).erasure w v id c stored e q), effects_seen id stored c w v q)

-- TURNS

abbrev AlikeDoings : (List ℕ → Bool) → (List ℕ → Bool) → Doing → Doing → Type 0
AlikeDoings users shut d e = Alike users shut d.world e.world × (d.memory ≡ e.memory)

-- whether anything is still to be done
abbrev pub at_rest : ℕ → Doing → Bool
at_rest id d = rests (turn_in d.world id)

turn_alike : (users shut : List ℕ → Bool) (id : ℕ) (stored : Bool) (d e : Doing) → AlikeDoings users shut d e → Hidden users shut d.world → IsOf users (find_session id d.world.sessions) → AlikeDoings users shut (turn id stored d) (turn id stored e)
turn_alike users shut id stored d e p h g = turn_same (redacted users shut) (redacts users shut).erasure id stored d e p (view_of_alike users shut d.world e.world id p.0 h g)

pub of_next : (users : List ℕ → Bool) (id : ℕ) (stored : Bool) (d : Doing) → IsOf users (find_session id d.world.sessions) → IsOf users (find_session id (turn id stored d).world.sessions)
of_next users id stored d h = of_turn users id stored (turn_in d.world id) d.world d.memory h

abbrev pub the_world : Doing → World
the_world d = d.world

rest_alike : (users shut : List ℕ → Bool) (id : ℕ) (d e : Doing) → AlikeDoings users shut d e → Hidden users shut d.world → IsOf users (find_session id d.world.sessions) → at_rest id d ≡ at_rest id e
rest_alike users shut id d e p h g = ap (λ v. rests (turn_seen v)) (view_of_alike users shut d.world e.world id p.0 h g)

-- at the world of a turn: what is still there is alike and hidden
now_alike : (users shut : List ℕ → Bool) (d e : Doing) → AlikeDoings users shut d e → AlikeDoings users (still shut d.world) d e
now_alike users shut d e p = (shrink users shut d.world e.world p.0, p.1)

-- through these worlds: they end alike, what is still there is hidden at the end, and the same was done
abbrev Leads : (List ℕ → Bool) → (List ℕ → Bool) → List World → World → World → List Effect → List Effect → Type 0
Leads users shut ws w v s t = Alike users (still_through shut ws) w v × Hidden users (still_through shut ws) w × (s ≡ t)

-- the same told of what is equal
leads_by : (users shut : List ℕ → Bool) {ws us : List World} {d f e g : Doing} {s t p q : List Effect} → ws ≡ us → d ≡ f → e ≡ g → s ≡ t → p ≡ q → Leads users shut us f.world g.world t q → Leads users shut ws d.world e.world s p
leads_by users shut {ws} {us} {d} {f} {e} {g} {s} {t} {p} {q} a b c h k l =
    subst (λ (vs : List World). Leads users shut vs d.world e.world s p) (sym a)
    (subst (λ (x : Doing). Leads users shut us x.world e.world s p) (sym b)
    (subst (λ (x : Doing). Leads users shut us f.world x.world s p) (sym c) (l.0, l.1, h ∙ l.2 ∙ sym k)))

turns_alike : (n : ℕ) (users shut : List ℕ → Bool) (id : ℕ) (stored : Bool) (d e : Doing) → AlikeDoings users shut d e → IsOf users (find_session id d.world.sessions) → HiddenThrough users shut (turn_worlds n id stored d) → Leads users shut (turn_worlds n id stored d) (turns n id stored d).world (turns n id stored e).world (turns_effects n id stored d) (turns_effects n id stored e)
unfolding turns path turn_worlds turns_effects
turns_alike zero users shut id stored d e p g h = (shrink users shut d.world e.world p.0, hidden_still users shut d.world h.0, refl)
turns_alike (suc n) users shut id stored d e p g h =
    leads_by users shut (worlds_step n id stored d) (turns_step n id stored d) (turns_step n id stored e) (effects_step n id stored d) (effects_step n id stored e)
    (go (at_rest id d) (at_rest id e) (λ k. rest_alike users shut id d e p k g) (subst (HiddenThrough users shut) (worlds_step n id stored d) h) (turns_alike n users (still shut d.world) id stored (turn id stored d) (turn id stored e)))
  where
    go : (c k : Bool) → (Hidden users shut d.world → c ≡ k)
        → HiddenThrough users shut (d.world ∷ cond c [] (turn_worlds n id stored (turn id stored d)))
        → (AlikeDoings users (still shut d.world) (turn id stored d) (turn id stored e) → IsOf users (find_session id (turn id stored d).world.sessions) → HiddenThrough users (still shut d.world) (turn_worlds n id stored (turn id stored d))
        → Leads users (still shut d.world) (turn_worlds n id stored (turn id stored d)) (turns n id stored (turn id stored d)).world (turns n id stored (turn id stored e)).world (turns_effects n id stored (turn id stored d)) (turns_effects n id stored (turn id stored e)))
        → Leads users shut (d.world ∷ cond c [] (turn_worlds n id stored (turn id stored d)))
        (the_world (cond c d (turns n id stored (turn id stored d)))) (the_world (cond k e (turns n id stored (turn id stored e))))
        (cond c [] (turn_effects id stored (turn_in d.world id) d.world d.memory ++ turns_effects n id stored (turn id stored d)))
        (cond k [] (turn_effects id stored (turn_in e.world id) e.world e.memory ++ turns_effects n id stored (turn id stored e)))
    go true true q b ih = (shrink users shut d.world e.world p.0, hidden_still users shut d.world b.0, refl)
    go false false q b ih = (rest.0, rest.1, λ i. effects_same id stored d e p.1 (view_of_alike users shut d.world e.world id p.0 b.0 g) i ++ rest.2 i)
      where
        rest : Leads users (still shut d.world) (turn_worlds n id stored (turn id stored d)) (turns n id stored (turn id stored d)).world (turns n id stored (turn id stored e)).world (turns_effects n id stored (turn id stored d)) (turns_effects n id stored (turn id stored e))
        rest = ih (turn_alike users (still shut d.world) id stored d e (now_alike users shut d e p) (hidden_still users shut d.world b.0) g) (of_next users id stored d g) b.1
    go true false q b ih = let z : true ≡ false = q b.0 in cc
    go false true q b ih = let z : false ≡ true = q b.0 in cc

-- A BYTE COMES

begun_alike : (users shut : List ℕ → Bool) (id byte : ℕ) (stop : Option ℕ) (w v : World) → Alike users shut w v → AlikeDoings users shut (begun w id byte stop) (begun v id byte stop)
begun_alike users shut id byte stop w v e = (state_same (redacted users shut) (redacts users shut).erasure w v id (begun_state byte) e, refl)

pub of_begun : (users : List ℕ → Bool) (id byte : ℕ) (stop : Option ℕ) (w : World) → IsOf users (find_session id w.sessions) → IsOf users (find_session id (begun w id byte stop).world.sessions)
of_begun users id byte stop w h = of_with_state users id (begun_state byte) w h

-- SETTLING

top_one : (o m : Bool) → (o ≡ true → m ≡ false) → (height top point : ℕ) (text : List ℕ) → cond m (settled_top height top point (blank_if o text)) top ≡ cond m (settled_top height top point text) top
top_one false m p height top point text = refl
top_one true false p height top point text = refl
top_one true true p height top point text = let e : true ≡ false = p refl in cc

top_found : (users shut : List ℕ → Bool) (d : Directory) (u : List ℕ) → users u ≡ true → (bs : List Buffer) → HiddenAmong users shut d bs → (name : List ℕ) (height top point : ℕ) → top_settled d u (find_buffer name (map (hide shut) bs)) height top point ≡ top_settled d u (find_buffer name bs) height top point
top_found users shut d u g [] h name height top point = refl
top_found users shut d u g (b ∷ bs) h name height top point =
    look (same_name name b.name) (top_one (shut b.name) (may d u ReadData b) (λ e. h.0 e u g) height top point b.text) (top_found users shut d u g bs h.1 name height top point)
  where
    look : (c : Bool) → top_settled d u (Some (hide shut b)) height top point ≡ top_settled d u (Some b) height top point → top_settled d u (find_buffer name (map (hide shut) bs)) height top point ≡ top_settled d u (find_buffer name bs) height top point → top_settled d u (cond c (Some (hide shut b)) (find_buffer name (map (hide shut) bs))) height top point ≡ top_settled d u (cond c (Some b) (find_buffer name bs)) height top point
    look true p ih = p
    look false p ih = ih

top_hide : (users shut : List ℕ → Bool) (d : Directory) (u : List ℕ) → users u ≡ true → (bs : List Buffer) → HiddenAmong users shut d bs → (shows : Shows) (height top point : ℕ) → window_top d bs u shows height top point ≡ window_top d (map (hide shut) bs) u shows height top point
top_hide users shut d u g bs h (Buffer_of name) height top point = sym (top_found users shut d u g bs h name height top point)
top_hide users shut d u g bs h _ height top point = refl

window_redacted_settled : (users shut : List ℕ → Bool) (d : Directory) (bs : List Buffer) → HiddenAmong users shut d bs → (u : List ℕ) (o : Bool) → (o ≡ true → users u ≡ true) → (x : Window) → window_redacted o (window_settled d bs u x) ≡ window_redacted o (window_settled d (map (hide shut) bs) u (window_redacted o x))
window_redacted_settled users shut d bs h u true g x = λ i. record x { top = top_hide users shut d u (g refl) bs h x.shows x.height x.top x.point i }
window_redacted_settled users shut d bs h u false g x = refl

session_redacted_settled : (users shut : List ℕ → Bool) (d : Directory) (bs : List Buffer) → HiddenAmong users shut d bs → (x : Session) → session_redacted users (session_settled d bs x) ≡ session_redacted users (session_settled d (map (hide shut) bs) (session_redacted users x))
session_redacted_settled users shut d bs h x = λ i. record x { windows = all x.windows i }
  where
    all : (xs : List Window) → map (window_redacted (users x.user)) (map (window_settled d bs x.user) xs) ≡ map (window_redacted (users x.user)) (map (window_settled d (map (hide shut) bs) x.user) (map (window_redacted (users x.user)) xs))
    all [] = refl
    all (y ∷ ys) = λ i. window_redacted_settled users shut d bs h x.user (users x.user) (λ e. e) y i ∷ all ys i

sessions_redacted_settled : (users shut : List ℕ → Bool) (d : Directory) (bs : List Buffer) → HiddenAmong users shut d bs → (xs : List Session) → map (session_redacted users) (map (session_settled d bs) xs) ≡ map (session_redacted users) (map (session_settled d (map (hide shut) bs)) (map (session_redacted users) xs))
sessions_redacted_settled users shut d bs h [] = refl
sessions_redacted_settled users shut d bs h (x ∷ xs) = λ i. session_redacted_settled users shut d bs h x i ∷ sessions_redacted_settled users shut d bs h xs i

redacted_settled : (users shut : List ℕ → Bool) (w : World) → Hidden users shut w → redacted users shut (settled w) ≡ redacted users shut (settled (redacted users shut w))
redacted_settled users shut w h =
    λ i. record w { buffers = map_fixed (hide shut) (hide_same shut) w.buffers i; sessions = sessions_redacted_settled users shut w.directory w.buffers h w.sessions i }

settled_alike : (users shut : List ℕ → Bool) (w v : World) → Alike users shut w v → Hidden users shut w → Alike users shut (settled w) (settled v)
settled_alike users shut w v e h = same_by (redacted users shut) settled w v e (redacted_settled users shut w h) (redacted_settled users shut v (hidden_alike users shut w v e h))

-- A STEP

hidden_cond : (users shut : List ℕ → Bool) (c : Bool) (w v : World) → Hidden users shut w → Hidden users shut v → Hidden users shut (cond c (settled v) w)
hidden_cond users shut true w v h k = k
hidden_cond users shut false w v h k = h

step_alike : (users shut : List ℕ → Bool) (w v : World) (e : Event) → Alike users shut w v → IsBy users w e → Hidden users shut w → HiddenThrough users shut (event_worlds w e) → Leads users shut (event_worlds w e) (step w e) (step v e) (event_effects w e) (event_effects v e)
step_alike users shut w v (Byte id byte stored stop) p g k h = choose (is_open id w) (is_open id v) ((redacts users shut).is_open_same w v id p) h
  where
    choose : (c l : Bool) → c ≡ l → HiddenThrough users shut (cond c (turn_worlds most_turns id stored (begun w id byte stop)) [])
        → Leads users shut (cond c (turn_worlds most_turns id stored (begun w id byte stop)) []) (cond c (settled (byte_done w id byte stored stop)) w) (cond l (settled (byte_done v id byte stored stop)) v) (cond c (turns_effects most_turns id stored (begun w id byte stop)) []) (cond l (turns_effects most_turns id stored (begun v id byte stop)) [])
    choose true true q b = (settled_alike users (still_through shut (turn_worlds most_turns id stored (begun w id byte stop))) (byte_done w id byte stored stop) (byte_done v id byte stored stop) all.0 all.1, all.1, all.2)
      where
        all : Leads users shut (turn_worlds most_turns id stored (begun w id byte stop)) (byte_done w id byte stored stop) (byte_done v id byte stored stop) (turns_effects most_turns id stored (begun w id byte stop)) (turns_effects most_turns id stored (begun v id byte stop))
        all = turns_alike most_turns users shut id stored (begun w id byte stop) (begun v id byte stop) (begun_alike users shut id byte stop w v p) (of_begun users id byte stop w g) b
    choose false false q b = (p, k, refl)
    choose true false q b = cc
    choose false true q b = cc
step_alike users shut w v (Open id user rows cols) p g k h =
    ((redacts users shut).open_same w v id user rows cols (λ e. settled_alike users shut (opened w id user rows cols) (opened v id user rows cols) e k) p, hidden_cond users shut (can_open w id user rows cols) w (opened w id user rows cols) k k, refl)
step_alike users shut w v (Close id) p g k h =
    ((redacts users shut).close_same w v id (λ e. settled_alike users shut (closed id w) (closed id v) e k) p, hidden_cond users shut (is_open id w) w (closed id w) k k, refl)

hidden_append : (users shut : List ℕ → Bool) (ws vs : List World) → HiddenThrough users shut (ws ++ vs) → HiddenThrough users shut ws × HiddenThrough users (still_through shut ws) vs
hidden_append users shut [] vs h = (tt, h)
hidden_append users shut (w ∷ ws) vs h =
    let rest : HiddenThrough users (still shut w) ws × HiddenThrough users (still_through (still shut w) ws) vs = hidden_append users (still shut w) ws vs h.1 in
    ((h.0, rest.0), rest.1)

still_append : (shut : List ℕ → Bool) (ws vs : List World) → still_through shut (ws ++ vs) ≡ still_through (still_through shut ws) vs
still_append shut [] vs = refl
still_append shut (w ∷ ws) vs = still_append (still shut w) ws vs

run_alike : (users shut : List ℕ → Bool) (w v : World) (es : List Event) → Alike users shut w v → AllBy users w es → HiddenThrough users shut (run_worlds w es) → Leads users shut (run_worlds w es) (run w es) (run v es) (run_effects w es) (run_effects v es)
run_alike users shut w v [] p g h = (shrink users shut w v p, hidden_still users shut w h.0, refl)
run_alike users shut w v (e ∷ es) p g h =
    let parts : HiddenThrough users (still shut w) (event_worlds w e) × HiddenThrough users (still_through (still shut w) (event_worlds w e)) (run_worlds (step w e) es) = hidden_append users (still shut w) (event_worlds w e) (run_worlds (step w e) es) h.1 in
    let first : Leads users (still shut w) (event_worlds w e) (step w e) (step v e) (event_effects w e) (event_effects v e) = step_alike users (still shut w) w v e (shrink users shut w v p) g.0 (hidden_still users shut w h.0) parts.0 in
    let rest : Leads users (still_through (still shut w) (event_worlds w e)) (run_worlds (step w e) es) (run (step w e) es) (run (step v e) es) (run_effects (step w e) es) (run_effects (step v e) es) = run_alike users (still_through (still shut w) (event_worlds w e)) (step w e) (step v e) es first.0 g.1 parts.1 in
    let same : still_through (still shut w) (event_worlds w e ++ run_worlds (step w e) es) ≡ still_through (still_through (still shut w) (event_worlds w e)) (run_worlds (step w e) es) = still_append (still shut w) (event_worlds w e) (run_worlds (step w e) es) in
    (subst (λ f. Alike users f (run (step w e) es) (run (step v e) es)) (sym same) rest.0, subst (λ f. Hidden users f (run (step w e) es)) (sym same) rest.1, λ i. first.2 i ++ rest.2 i)

-- WHAT THE USERS SEE

find_not_hidden : (shut : List ℕ → Bool) (name : List ℕ) → shut name ≡ false → (bs : List Buffer) → find_buffer name (map (hide shut) bs) ≡ find_buffer name bs
find_not_hidden shut name q [] = refl
find_not_hidden shut name q (b ∷ bs) = look (same_name name b.name) refl (find_not_hidden shut name q bs)
  where
    look : (c : Bool) → same_name name b.name ≡ c → find_buffer name (map (hide shut) bs) ≡ find_buffer name bs → cond c (Some (hide shut b)) (find_buffer name (map (hide shut) bs)) ≡ cond c (Some b) (find_buffer name bs)
    look true e ih = λ i. Some (hide_if ((sym (ap shut (same_names name b.name e)) ∙ q) i) b)
    look false e ih = ih

pub screen_seen : (w : World) (id : ℕ) → screen_of w id ≡ option_map (λ v. draw (seen_in v)) (view_of w id)
screen_seen w id = by (find_session id w.sessions)
  where
    by : (o : Option Session) → option_map (screen w) o ≡ option_map (λ v. draw (seen_in v)) (option_map (view w) o)
    by None = refl
    by (Some x) = refl

pub screens_seen : (w v : World) (id : ℕ) → view_of w id ≡ view_of v id → screen_of w id ≡ screen_of v id
screens_seen w v id q = screen_seen w id ∙ ap (option_map (λ z. draw (seen_in z))) q ∙ sym (screen_seen v id)

alike_same : (users shut : List ℕ → Bool) (w v : World) → Alike users shut w v → Hidden users shut w → Same users shut w v
alike_same users shut w v e h = record {
  alike = e;
  screens = λ id g. screens_seen w v id (view_of_alike users shut w v id e h g);
  others = λ name q. sym (find_not_hidden shut name q w.buffers) ∙ ap (λ x. find_buffer name x.buffers) e ∙ find_not_hidden shut name q v.buffers;
}

pub hidden_text : HiddenText
hidden_text users shut w v es p g h =
    let all : Leads users shut (run_worlds w es) (run w es) (run v es) (run_effects w es) (run_effects v es) = run_alike users shut w v es p g h in
    (alike_same users (still_through shut (run_worlds w es)) (run w es) (run v es) all.0 all.1, ap (flat_map saved_by) all.2)
