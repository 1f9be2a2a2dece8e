-- An arrangement of windows, as the model's act of a session: that it comes to what is said of the session alone.
use Rattle.std.proofs.Common.{◌≡◌, ℕ, ◌+◌, ◌-◌, ◌/◌, ◌<◌, ◌≢◌, ◌==◌, nat_lt, nat_le, Bool, true, false, cond, List, [], ◌∷◌, map, length, remove, Option, None, Some, Result, Ok, Err, refl, sym, ap, ap₂, ◌∙◌, ◌||◌, map-id, arith, eq-eqb, eqb-true, ne_eqb, le-ltb, ltb-false}
use Rattle.std.specs.List.{list_any}
use Rattle.std.specs.Option.{option_map}
use Rattle.std.proofs.lemmas.List.{length-map}
use Rattle.mgs_model.specs.World.{Buffer_of, List_of, Listing, State, Place, Session, Shows, Window, World, find_session, has_id}
use Rattle.mgs_model.specs.View.{reads, view, window_seen}
use Rattle.mgs_model.specs.Outcome.{Arrange, Effect, No_effect, Keep_search, Outcome, Run, Slot, Slots, is_old}
use Rattle.mgs_laws.specs.Refusals.{effect_takes_memory, may_be_refused, slots_take_memory, takes_memory}
use Rattle.mgs_model.specs.Plans.{acted_state, arrangement, comes, count_of, failed_state, given, heir, height_at, kind_failed, neighbor, old_slot, resized, rows_of, selects, slots_but}
use Rattle.mgs_model.specs.Acts.{arranges, outcome}
use Rattle.mgs_model.specs.Apply.{act, applied, apply, change_at, change_first, comer, outcome_in, places_left, is_search_mode, session_arranged, window_at}
use Rattle.mgs_model.specs.declared.limits.TheConstants.{WINDOW_LIMIT}
use Rattle.mgs_model.specs.declared.echo_text.Message.{Message}
use Rattle.mgs_model.specs.declared.echo_text.Message.TheVariants.{Says}
use Rattle.mgs_model.specs.declared.echo_text.Notice.TheVariants.{OnlyOneWindow, WindowTooSmall, TooManyWindows, ImpossibleChange}
use Rattle.mgs_model.specs.declared.session.Arrangement.{Arrangement}
use Rattle.mgs_model.specs.declared.session.Arrangement.TheVariants.{DeleteWindow, DeleteOtherWindows, SplitWindow, NextWindow, PreviousWindow, EnlargeWindow, ShrinkWindow, ListBuffers}
use Rattle.mgs_model.specs.declared.session.Command.TheVariants.{Rearrange}
use Rattle.mgs_model.specs.declared.session.Kind.{Kind}
use Rattle.mgs_model.specs.declared.session.Kind.TheVariants.{Other}
use Rattle.mgs_model.proofs.Basics.{or_true}
use Rattle.mgs_model.proofs.Firsts.{change_first_found}
use Rattle.mgs_windows.specs.Panes.{closer}
use Rattle.mgs_world.specs.Worlds.{idle}
use Rattle.mgs_arrange.specs.Arranged.{arranged_or_told, run_ended, grown, left_by, listing_for, lower_half, next_index, others_gone, previous_index, rearranged, rows_given, rows_given_if, shrunk, upper_half, window_gone, window_lists, window_selected, window_split}
use Rattle.mgs_arrange.specs.Showing.{coming, window_shows}
use Rattle.mgs_arrange.proofs.Slots.{takes_memory_at, all_stay, from_start, halves, come, height_seen, map_remove, named_all, named_but, named_halves, named_come, named_one, one_leaves, others_leave, put, put_resized, put_slots_but, reheighted, reheighted_not, reheighted_one, reheighted_same, reheighted_twice, replaced_by_one, replaced_by_two, rows_seen, seen}

-- A SESSION IN NO MODE

-- what slots make of it
slots_done : (x : Session) (slots : List Slot) (selected at : ℕ) (windows : List Window) (places : List Place) → x.state ≡ idle x.state → x.search ≡ None → map (put x.search x.windows (places_left 0 slots x.windows x.places)) slots ≡ windows → places_left 0 slots x.windows x.places ≡ places → selected ≡ at → session_arranged (arranges x.state No_effect (Ok (Slots slots selected Keep_search))) x ≡ run_ended (record x { windows = windows; selected = at; places = places })
slots_done x slots selected at windows places fresh quiet are left is =
    let state : acted_state x.state ≡ record x.state { kind = Other } = ap acted_state fresh ∙ sym (ap (λ (o : State). record o { kind = Other }) fresh) in
    let search : cond (is_search_mode x.state.mode) x.search None ≡ x.search = ap (λ (o : State). cond (is_search_mode o.mode) x.search None) fresh ∙ sym quiet in
    λ t. record x { windows = are t; selected = is t; places = left t; search = search t; state = state t }

-- a failure that is tested first
failure_first : (x : Session) (test : Bool) (message : Message) (plan : Result Arrange Message) (known : Result Session Message) → x.state ≡ idle x.state → x.search ≡ None → ((kind : Kind) → kind_failed message kind ≡ Other) → (test ≡ false → session_arranged (arranges x.state No_effect plan) x ≡ run_ended (arranged_or_told known x)) → session_arranged (arranges x.state No_effect (cond test (Err message) plan)) x ≡ run_ended (arranged_or_told (cond test (Err message) known) x)
failure_first x test message plan known fresh quiet breaks same = go test refl
  where
    go : (b : Bool) → test ≡ b → session_arranged (arranges x.state No_effect (cond b (Err message) plan)) x ≡ run_ended (arranged_or_told (cond b (Err message) known) x)
    go true e =
        let told : failed_state message x.state ≡ record x.state { echo = message; kind = Other; todo = [] } =
        ap (failed_state message) fresh ∙ ap (λ k. record (idle x.state) { echo = message; kind = k; todo = [] }) (breaks x.state.kind) ∙ sym (ap (λ (o : State). record o { echo = message; kind = Other; todo = [] }) fresh) in
        λ t. record x { search = sym quiet t; state = told t }
    go false e = same e

-- the same test, of windows and of what is seen of them
failure_seen : (x : Session) (can : List ℕ → Bool) (test : ℕ → Bool) (message : Message) (plan : Result Arrange Message) (known : Result Session Message) → x.state ≡ idle x.state → x.search ≡ None → ((kind : Kind) → kind_failed message kind ≡ Other) → (test (length x.windows) ≡ false → session_arranged (arranges x.state No_effect plan) x ≡ run_ended (arranged_or_told known x)) → session_arranged (arranges x.state No_effect (cond (test (length (seen can x.windows))) (Err message) plan)) x ≡ run_ended (arranged_or_told (cond (test (length x.windows)) (Err message) known) x)
failure_seen x can test message plan known fresh quiet breaks same =
    ap (λ n. session_arranged (arranges x.state No_effect (cond (test n) (Err message) plan)) x) (length-map x.windows (window_seen can))
    ∙ failure_first x (test (length x.windows)) message plan known fresh quiet breaks same

-- EACH ARRANGEMENT

seen_within : (can : List ℕ → Bool) (xs : List Window) (j : ℕ) → j < length xs → j < length (seen can xs)
seen_within can xs j l = omega (arith, l, length-map xs (window_seen can))

-- the windows as they are, but for their heights
all_named : (x : Session) (can : List ℕ → Bool) (f : ℕ → ℕ → ℕ) → places_left 0 (resized f 0 (seen can x.windows)) x.windows x.places ≡ x.places
all_named x can f = all_stay (resized f 0 (seen can x.windows)) 0 x.windows x.places (λ j l. named_all f 0 j (seen can x.windows) (seen_within can x.windows j l))

delete_done : (can : List ℕ → Bool) (n : Option ℕ) (x : Session) → x.state ≡ idle x.state → x.search ≡ None → x.selected < length x.windows → session_arranged (arranges x.state No_effect (arrangement DeleteWindow (seen can x.windows) x.selected n)) x ≡ run_ended (arranged_or_told (rearranged DeleteWindow n x) x)
delete_done can n x fresh quiet within =
    let k = x.selected in
    let xs = x.windows in
    let f = λ (d i h : ℕ). cond (i == heir k) (h + (d + 1)) h in
    let slots = remove (resized (f (height_at k (seen can xs))) 0 (seen can xs)) k in
    failure_seen x can (λ m. nat_lt m 2) (Says OnlyOneWindow) (Ok (Slots slots (k - 1) Keep_search)) (Ok (window_gone k (heir k) x)) fresh quiet (λ kind. refl)
    (λ e. slots_done x slots (k - 1) (closer k k) (window_gone k (heir k) x).windows (window_gone k (heir k) x).places fresh quiet
    (map_remove (put x.search xs (places_left 0 slots xs x.places)) (resized (f (height_at k (seen can xs))) 0 (seen can xs)) k
    ∙ ap (λ ys. remove ys k) (put_resized x.search xs (places_left 0 slots xs x.places) can (f (height_at k (seen can xs))) 0 xs (from_start xs))
    ∙ ap (λ d. remove (reheighted (f d) 0 xs) k) (height_seen can k xs)
    ∙ ap (λ ys. remove ys k) (reheighted_one (λ h. h + ((window_at k xs).height + 1)) (heir k) xs))
    (one_leaves slots 0 k xs x.places within (λ j l. named_but (f (height_at k (seen can xs))) 0 j k (seen can xs) (seen_within can xs j l)))
    (ap (λ b. cond b k (k - 1)) (sym (le-ltb k k (omega arith)))))

others_done : (can : List ℕ → Bool) (n : Option ℕ) (x : Session) → x.state ≡ idle x.state → x.search ≡ None → session_arranged (arranges x.state No_effect (arrangement DeleteOtherWindows (seen can x.windows) x.selected n)) x ≡ run_ended (arranged_or_told (rearranged DeleteOtherWindows n x) x)
others_done can n x fresh quiet =
    let h = rows_of (seen can x.windows) - 1 in
    let slots = old_slot x.selected h ∷ [] in
    slots_done x slots 0 0 (others_gone x).windows (others_gone x).places fresh quiet
    (ap (λ m. (record (window_at x.selected x.windows) { height = m - 1 }) ∷ []) (rows_seen can x.windows))
    (others_leave slots 0 x.selected x.windows x.places (λ j. named_one x.selected j h))
    refl

split_done : (can : List ℕ → Bool) (n : Option ℕ) (x : Session) → x.state ≡ idle x.state → x.search ≡ None → x.selected < length x.windows → session_arranged (arranges x.state No_effect (arrangement SplitWindow (seen can x.windows) x.selected n)) x ≡ run_ended (arranged_or_told (rearranged SplitWindow n x) x)
split_done can n x fresh quiet within =
    let k = x.selected in
    let xs = x.windows in
    let slots = slots_but k (halves k) 0 (seen can xs) in
    let plan : Result Arrange Message = cond (nat_le WINDOW_LIMIT (length (seen can xs))) (Err (Says TooManyWindows)) (Ok (Slots slots k Keep_search)) in
    let known : Result Session Message = cond (nat_le WINDOW_LIMIT (length xs)) (Err (Says TooManyWindows)) (Ok (window_split x)) in
    ap (λ h. session_arranged (arranges x.state No_effect (cond (nat_lt h 3) (Err (Says WindowTooSmall)) plan)) x) (height_seen can k xs)
    ∙ failure_first x (nat_lt (window_at k xs).height 3) (Says WindowTooSmall) plan known fresh quiet (λ kind. refl)
    (λ tall. failure_seen x can (λ m. nat_le WINDOW_LIMIT m) (Says TooManyWindows) (Ok (Slots slots k Keep_search)) (Ok (window_split x)) fresh quiet (λ kind. refl)
    (λ few. slots_done x slots k k (window_split x).windows x.places fresh quiet
    (put_slots_but x.search xs (places_left 0 slots xs x.places) can k (halves k) (λ y. upper_half y ∷ lower_half y ∷ []) 0 k xs
    (λ y is t. (record (is t) { height = (upper_half y).height }) ∷ (record (is t) { height = (lower_half y).height }) ∷ []) (omega arith) (from_start xs)
    ∙ replaced_by_two upper_half lower_half k xs within)
    (all_stay slots 0 xs x.places (λ j l. named_halves k 0 j (seen can xs) (seen_within can xs j l)))
    refl))

select_done : (can : List ℕ → Bool) (x : Session) (selected at : ℕ) → x.state ≡ idle x.state → x.search ≡ None → selected ≡ at → session_arranged (arranges x.state No_effect (Ok (selects (seen can x.windows) selected))) x ≡ run_ended (window_selected at x)
select_done can x selected at fresh quiet is =
    slots_done x (resized (λ i h. h) 0 (seen can x.windows)) selected at x.windows x.places fresh quiet
    (put_resized x.search x.windows (places_left 0 (resized (λ i h. h) 0 (seen can x.windows)) x.windows x.places) can (λ i h. h) 0 x.windows (from_start x.windows)
    ∙ reheighted_not (λ i h. h) 0 x.windows (λ j h l. refl))
    (all_named x can (λ i h. h)) is

-- rows go from one window to another
given_heights : (from to n : ℕ) (xs : List Window) → from ≢ to → reheighted (λ i h. cond (i == to) (h + n) (cond (i == from) (h - n) h)) 0 xs ≡ change_at from (shrunk n) (change_at to (grown n) xs)
given_heights from to n xs apart =
    reheighted_same (λ i h. cond (i == to) (h + n) (cond (i == from) (h - n) h)) (λ j h. cond (j == from) (cond (j == to) (h + n) h - n) (cond (j == to) (h + n) h)) 0 xs (λ j h. go j h (j == to) refl)
    ∙ sym (reheighted_twice (λ j h. cond (j == from) (h - n) h) (λ j h. cond (j == to) (h + n) h) 0 xs)
    ∙ reheighted_one (λ h. h - n) from (reheighted (λ j h. cond (j == to) (h + n) h) 0 xs)
    ∙ ap (change_at from (shrunk n)) (reheighted_one (λ h. h + n) to xs)
  where
    go : (j h : ℕ) (b : Bool) → (j == to) ≡ b → cond b (h + n) (cond (j == from) (h - n) h) ≡ cond (j == from) (cond b (h + n) h - n) (cond b (h + n) h)
    go j h true e = ap (λ b. cond b (h + n - n) (h + n)) (sym (ne_eqb j from (λ p. apart (sym p ∙ eqb-true j to e))))
    go j h false e = refl

given_done : (can : List ℕ → Bool) (x : Session) (from to n : ℕ) → x.state ≡ idle x.state → x.search ≡ None → from ≢ to → session_arranged (arranges x.state No_effect (given (seen can x.windows) x.selected from to n)) x ≡ run_ended (arranged_or_told (rows_given_if from to n x) x)
given_done can x from to n fresh quiet apart =
    let xs = x.windows in
    let f = λ (i h : ℕ). cond (i == to) (h + n) (cond (i == from) (h - n) h) in
    let slots = resized f 0 (seen can xs) in
    let plan : Result Arrange Message = Ok (Slots slots x.selected Keep_search) in
    ap (λ h. session_arranged (arranges x.state No_effect (cond (nat_le h n) (Err (Says ImpossibleChange)) plan)) x) (height_seen can from xs)
    ∙ failure_first x (nat_le (window_at from xs).height n) (Says ImpossibleChange) plan (Ok (rows_given from to n x)) fresh quiet (λ kind. refl)
    (λ e. slots_done x slots x.selected x.selected (rows_given from to n x).windows x.places fresh quiet
    (put_resized x.search xs (places_left 0 slots xs x.places) can f 0 xs (from_start xs) ∙ given_heights from to n xs apart)
    (all_named x can f) refl)

neighbor_apart : (k count : ℕ) → nat_lt count 2 ≡ false → k < count → neighbor k count ≢ k
neighbor_apart k count many within = go (nat_lt (k + 1) count) refl
  where
    go : (b : Bool) → nat_lt (k + 1) count ≡ b → cond b (k + 1) (k - 1) ≢ k
    go true e = λ p. omega (arith, p)
    go false e = λ p. omega (arith, p, ltb-false (k + 1) count e, ltb-false count 2 many)

enlarge_done : (can : List ℕ → Bool) (n : Option ℕ) (x : Session) → x.state ≡ idle x.state → x.search ≡ None → x.selected < length x.windows → session_arranged (arranges x.state No_effect (arrangement EnlargeWindow (seen can x.windows) x.selected n)) x ≡ run_ended (arranged_or_told (rearranged EnlargeWindow n x) x)
enlarge_done can n x fresh quiet within =
    let k = x.selected in
    let xs = x.windows in
    failure_seen x can (λ m. nat_lt m 2) (Says OnlyOneWindow) (given (seen can xs) k (neighbor k (length (seen can xs))) k (count_of n)) (rows_given_if (neighbor k (length xs)) k (count_of n) x) fresh quiet (λ kind. refl)
    (λ many. ap (λ m. session_arranged (arranges x.state No_effect (given (seen can xs) k (neighbor k m) k (count_of n))) x) (length-map xs (window_seen can))
    ∙ given_done can x (neighbor k (length xs)) k (count_of n) fresh quiet (neighbor_apart k (length xs) many within))

shrink_done : (can : List ℕ → Bool) (n : Option ℕ) (x : Session) → x.state ≡ idle x.state → x.search ≡ None → x.selected < length x.windows → session_arranged (arranges x.state No_effect (arrangement ShrinkWindow (seen can x.windows) x.selected n)) x ≡ run_ended (arranged_or_told (rearranged ShrinkWindow n x) x)
shrink_done can n x fresh quiet within =
    let k = x.selected in
    let xs = x.windows in
    failure_seen x can (λ m. nat_lt m 2) (Says OnlyOneWindow) (given (seen can xs) k k (neighbor k (length (seen can xs))) (count_of n)) (rows_given_if k (neighbor k (length xs)) (count_of n) x) fresh quiet (λ kind. refl)
    (λ many. ap (λ m. session_arranged (arranges x.state No_effect (given (seen can xs) k k (neighbor k m) (count_of n))) x) (length-map xs (window_seen can))
    ∙ given_done can x k (neighbor k (length xs)) (count_of n) fresh quiet (λ p. neighbor_apart k (length xs) many within (sym p)))

-- it comes to something else
come_done : (can : List ℕ → Bool) (shows : Shows) (made : Window → Window) (x : Session) → x.state ≡ idle x.state → x.search ≡ None → x.selected < length x.windows
    → (let places = left_by (window_at x.selected x.windows) x.places in ((y : Window) → record (comer shows places) { height = y.height } ≡ made y) → session_arranged (arranges x.state No_effect (Ok (comes (seen can x.windows) x.selected shows))) x ≡ run_ended (record x { windows = change_at x.selected made x.windows; places = places }))
come_done can shows made x fresh quiet within makes =
    let k = x.selected in
    let xs = x.windows in
    let slots = slots_but k (come shows k) 0 (seen can xs) in
    let places = left_by (window_at k xs) x.places in
    let left : places_left 0 slots xs x.places ≡ places = one_leaves slots 0 k xs x.places within (λ j l. named_come shows k 0 j k (seen can xs) (omega arith) (seen_within can xs j l)) in
    slots_done x slots k k (change_at k made xs) places fresh quiet
    (ap (λ (ps : List Place). map (put x.search xs ps) slots) left
    ∙ put_slots_but x.search xs places can k (come shows k) (λ y. made y ∷ []) 0 k xs (λ y is. ap (λ w. w ∷ []) (makes y)) (omega arith) (from_start xs)
    ∙ replaced_by_one made k xs)
    left refl

-- what any arrangement makes of a session
arrangement_done : (can : List ℕ → Bool) (c : Arrangement) (n : Option ℕ) (x : Session) → x.state ≡ idle x.state → x.search ≡ None → x.selected < length x.windows → session_arranged (arranges x.state No_effect (arrangement c (seen can x.windows) x.selected n)) x ≡ run_ended (arranged_or_told (rearranged c n x) x)
arrangement_done can DeleteWindow n x fresh quiet within = delete_done can n x fresh quiet within
arrangement_done can DeleteOtherWindows n x fresh quiet within = others_done can n x fresh quiet
arrangement_done can SplitWindow n x fresh quiet within = split_done can n x fresh quiet within
arrangement_done can NextWindow n x fresh quiet within =
    let k = x.selected in
    select_done can x (next_index k (length (seen can x.windows))) (next_index k (length x.windows)) fresh quiet (ap (next_index k) (length-map x.windows (window_seen can)))
arrangement_done can PreviousWindow n x fresh quiet within =
    let k = x.selected in
    select_done can x (previous_index k (length (seen can x.windows))) (previous_index k (length x.windows)) fresh quiet (ap (previous_index k) (length-map x.windows (window_seen can)))
arrangement_done can EnlargeWindow n x fresh quiet within = enlarge_done can n x fresh quiet within
arrangement_done can ShrinkWindow n x fresh quiet within = shrink_done can n x fresh quiet within
arrangement_done can ListBuffers n x fresh quiet within = come_done can Listing (listing_for Listing) x fresh quiet within (λ y. refl)

-- A BUFFER IS SHOWN, whatever else is done to the buffers

pub show_done : (can : List ℕ → Bool) (name : List ℕ) (e : Effect) (x : Session) → x.state ≡ idle x.state → x.search ≡ None → x.selected < length x.windows → session_arranged (arranges x.state e (Ok (comes (seen can x.windows) x.selected (Buffer_of name)))) x ≡ run_ended (window_shows name x)
show_done can name e x fresh quiet within =
    come_done can (Buffer_of name) (coming name (left_by (window_at x.selected x.windows) x.places)) x fresh quiet within (λ y. refl)

pub show_takes_memory : (can : List ℕ → Bool) (name : List ℕ) (e : Effect) (x : Session) → x.selected < length x.windows → takes_memory (arranges x.state e (Ok (comes (seen can x.windows) x.selected (Buffer_of name)))) ≡ true
show_takes_memory can name e x within =
    or_true (effect_takes_memory e) _
    (ap (λ b. (b || false) || false) (takes_memory_at x.selected (come (Buffer_of name) x.selected) 0 x.selected (seen can x.windows) (λ y rest. refl) (omega arith) (seen_within can x.windows x.selected within)))

-- AN ACCESS LIST IS SHOWN

pub entries_done : (can : List ℕ → Bool) (name : List ℕ) (x : Session) → x.state ≡ idle x.state → x.search ≡ None → x.selected < length x.windows → session_arranged (arranges x.state No_effect (Ok (comes (seen can x.windows) x.selected (List_of name)))) x ≡ run_ended (window_lists (List_of name) x)
entries_done can name x fresh quiet within = come_done can (List_of name) (listing_for (List_of name)) x fresh quiet within (λ y. refl)

-- THE ACT

abbrev planned : World → Session → Arrangement → Option ℕ → Outcome
planned w x c n = arranges x.state No_effect (arrangement c (seen (reads w.directory w.buffers x.user) x.windows) x.selected n)

outcome_is : (w : World) (id : ℕ) (c : Arrangement) (n : Option ℕ) (x : Session) → find_session id w.sessions ≡ Some x → outcome_in w id (Run (Rearrange c) n []) true ≡ Some (planned w x c n)
unfolding outcome
outcome_is w id c n x found = ap (λ o. option_map (λ v. outcome v (Run (Rearrange c) n []) true) (option_map (view w) o)) found

-- an arrangement changes the acting session alone
session_alone : (w : World) (id : ℕ) (state : State) (plan : Result Arrange Message) → apply w id (arranges state No_effect plan) ≡ record w { sessions = change_first (has_id id) (session_arranged (arranges state No_effect plan)) w.sessions }
session_alone w id state (Ok plan) =
    ap (λ xs. record w { sessions = change_first (has_id id) (session_arranged (arranges state No_effect (Ok plan))) xs }) (map-id w.sessions)
session_alone w id state (Err message) =
    ap (λ xs. record w { sessions = change_first (has_id id) (session_arranged (arranges state No_effect (Err message))) xs }) (map-id w.sessions)

-- it comes to what is said of the session alone
pub arranged_act : (w : World) (id : ℕ) (c : Arrangement) (n : Option ℕ) (x : Session) → find_session id w.sessions ≡ Some x → x.state ≡ idle x.state → x.search ≡ None → x.selected < length x.windows → act w id (Run (Rearrange c) n []) true ≡ record w { sessions = change_first (has_id id) (λ old. run_ended (arranged_or_told (rearranged c n x) x)) w.sessions }
arranged_act w id c n x found fresh quiet within =
    let can = reads w.directory w.buffers x.user in
    ap (applied w id) (outcome_is w id c n x found)
    ∙ session_alone w id x.state (arrangement c (seen can x.windows) x.selected n)
    ∙ ap (λ xs. record w { sessions = xs })
    (change_first_found (has_id id) (session_arranged (planned w x c n)) (λ old. run_ended (arranged_or_told (rearranged c n x) x)) x w.sessions found (arrangement_done can c n x fresh quiet within))

-- A REFUSED SPLIT

pub split_may_be_refused : (w : World) (id : ℕ) (n : Option ℕ) (x y : Session) → find_session id w.sessions ≡ Some x → x.selected < length x.windows → rearranged SplitWindow n x ≡ Ok y → may_be_refused (outcome_in w id (Run (Rearrange SplitWindow) n []) true) ≡ true
split_may_be_refused w id n x y found within is =
    let can = reads w.directory w.buffers x.user in
    ap may_be_refused (outcome_is w id SplitWindow n x found)
    ∙ ap₂ (λ h m. takes_memory (arranges x.state No_effect (cond (nat_lt h 3) (Err (Says WindowTooSmall)) (cond (nat_le WINDOW_LIMIT m) (Err (Says TooManyWindows)) (Ok (Slots (slots_but x.selected (halves x.selected) 0 (seen can x.windows)) x.selected Keep_search))))))
    (height_seen can x.selected x.windows) (length-map x.windows (window_seen can))
    ∙ go (nat_lt (window_at x.selected x.windows).height 3) (nat_le WINDOW_LIMIT (length x.windows)) is
  where
    go : (small many : Bool) → cond small (Err (Says WindowTooSmall)) (cond many (Err (Says TooManyWindows)) (Ok (window_split x))) ≡ Ok y → takes_memory (arranges x.state No_effect (cond small (Err (Says WindowTooSmall)) (cond many (Err (Says TooManyWindows)) (Ok (Slots (slots_but x.selected (halves x.selected) 0 (seen (reads w.directory w.buffers x.user) x.windows)) x.selected Keep_search))))) ≡ true
    go true many e = cc
    go false true e = cc
    go false false e =
        let can = reads w.directory w.buffers x.user in
        ap (λ b. (b || false) || false) (takes_memory_at x.selected (halves x.selected) 0 x.selected (seen can x.windows)
        (λ y rest. ap (λ b. (b || list_any (is_old x.selected) rest) || slots_take_memory (old_slot x.selected (y.height - 1 - y.height / 2) ∷ rest)) (eq-eqb x.selected x.selected refl)) (omega arith) (omega (arith, within, length-map x.windows (window_seen can))))
