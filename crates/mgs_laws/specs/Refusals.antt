-- REFUSALS: where memory may be refused to an act, and which act of an event it was refused to.
use Rattle.std.specs.Prelude.{ℕ, Bool, true, false, ◌&&◌, ◌||◌, find, List, [], ◌∷◌, Option, Some, None}
use Rattle.std.specs.List.{list_any}
use Rattle.std.specs.Option.{option_and_then}
use Rattle.mgs_model.specs.World.{World, Buffer_of}
use Rattle.mgs_model.specs.Outcome.{Outcome, MarkPlan, Keep_mark, Mark_at, SearchPlan, Begin, KillPlan, Keep_kill, Kill_is, Source, Old, Come, Slot, is_old, Arrange, Stay, Adjust, Slots, Effect, Edit, Create}
use Rattle.mgs_model.specs.Apply.{outcome_in}
use Rattle.mgs_model.specs.Turns.{Turn, Do}
use Rattle.mgs_model.specs.Events.{Doing, turn_in, path, is_used_up, with_state, most_turns, begun}

-- REFUSABLE ACTS: memory may be refused to an act only where it edits, creates, kills, copies, sets a mark, begins a
-- search, shows a buffer in a window, or splits a window. A save is none: the text is handed on as it lies.

abbrev pub sets_mark : MarkPlan → Bool
sets_mark Keep_mark = false
sets_mark (Mark_at p) = true

abbrev pub begins_search : SearchPlan → Bool
begins_search (Begin name origin anchor) = true
begins_search _ = false

abbrev pub comes_to_buffer : Source → Bool
comes_to_buffer (Come (Buffer_of name)) = true
comes_to_buffer _ = false

abbrev pub is_split_by : Source → List Slot → Bool
is_split_by (Old i) slots = list_any (is_old i) slots
is_split_by (Come shows) slots = false

abbrev pub slots_take_memory : List Slot → Bool
slots_take_memory [] = false
slots_take_memory (slot ∷ slots) =
    comes_to_buffer slot.source || (sets_mark slot.mark || (is_split_by slot.source slots || slots_take_memory slots))

abbrev pub arrange_takes_memory : Arrange → Bool
arrange_takes_memory Stay = false
arrange_takes_memory (Adjust point mark top row sought) = sets_mark mark || begins_search sought
arrange_takes_memory (Slots slots selected sought) = slots_take_memory slots || begins_search sought

abbrev pub effect_takes_memory : Effect → Bool
effect_takes_memory (Edit name a b put) = true
effect_takes_memory (Create name owner) = true
effect_takes_memory _ = false

abbrev pub kill_takes_memory : KillPlan → Bool
kill_takes_memory Keep_kill = false
kill_takes_memory (Kill_is text) = true

abbrev pub takes_memory : Outcome → Bool
takes_memory o = effect_takes_memory o.effect || (arrange_takes_memory o.arrange || kill_takes_memory o.kill)

-- WHERE MEMORY IS REFUSED

abbrev pub is_act : Turn → Bool
is_act (Do state c) = true
is_act _ = false

-- whether memory is refused to what comes next
abbrev pub refuses : ℕ → Doing → Bool
refuses id d = is_used_up d.memory && is_act (turn_in d.world id)

-- the outcome that the act would have that comes next
abbrev pub next_outcome : ℕ → Bool → Turn → World → Option Outcome
next_outcome id stored (Do state c) w = outcome_in (with_state id (λ old. state) w) id c stored
next_outcome id stored _ w = None

-- of the first act that memory is refused to
unfoldable pub refused_in : ℕ → ℕ → Bool → Doing → Option Outcome
refused_in n id stored d = option_and_then (λ e. next_outcome id stored (turn_in e.world id) e.world) (find (refuses id) (path n id stored d))

abbrev pub refused_act : World → ℕ → ℕ → Bool → Option ℕ → Option Outcome
refused_act w id byte stored stop = refused_in most_turns id stored (begun w id byte stop)

abbrev pub may_be_refused : Option Outcome → Bool
may_be_refused None = false
may_be_refused (Some o) = takes_memory o
