use Rattle.std.proofs.Common.{◌≡◌, refl, sym, ◌∙◌, [], ◌∷◌, ◌++◌}
use Rattle.mgs_term.specs.Screen.{IsScreen}
use Rattle.mgs_term.specs.Sequences.{Accepts, spelling}
use Rattle.mgs_term.specs.Automaton.{Automaton, IsPlace, begun_at, next_step}
use Rattle.mgs_term.specs.declared.place.Next.TheVariants.{Perform}
use Rattle.std.proofs.lemmas.Bool.{false≢true}
use Rattle.mgs_term.proofs.Grammar.{never, no_room, waits, performs, performed, last_waits, last_performs}
use Rattle.mgs_term.proofs.machine.Machine.feed.Goals as goal

pub returns-in-Stuck-clause-taken : goal.returns-in-Stuck-clause-taken
returns-in-Stuck-clause-taken c = rw (← c.self.view_is) (λ e. absurd (false≢true e), λ w. absurd (never _ c.args.byte w.0 w.1 c.self.invariant.0 c.self.invariant.1 c.in-Stuck.ensures.next w.2))

pub returns-in-Stuck-clause-last : goal.returns-in-Stuck-clause-last
returns-in-Stuck-clause-last c = rw (← c.self.view_is) (λ o goes. absurd (never _ c.args.byte o [] c.self.invariant.0 c.self.invariant.1 c.in-Stuck.ensures.next goes))

pub returns-in-Wait-clause-taken : goal.returns-in-Wait-clause-taken
returns-in-Wait-clause-taken c = rw (← c.self.view_is) (λ e. waits _ c.args.byte c.in-Wait.place c.self.invariant.0 c.in-Wait.ensures.fits c.in-Wait.ensures.next c.in-Wait.ensures.spelled, λ w. refl)

pub returns-in-Wait-clause-last : goal.returns-in-Wait-clause-last
returns-in-Wait-clause-last c = rw (← c.self.view_is) (λ o goes. absurd (last_waits _ c.args.byte c.in-Wait.place o c.self.invariant.0 c.self.invariant.1 c.in-Wait.ensures.next goes))

pub returns-then-not-has_room-clause-taken : goal.returns-then-not-has_room-clause-taken
returns-then-not-has_room-clause-taken c =
    let t : Automaton = c.args.self.now in
    let ok : IsScreen t.screen = rw (← c.self.view_is) c.self.invariant.0 in
    let fits : IsPlace t.screen.rows t.screen.cols t.screen.wrapping t.place = rw (← c.self.view_is) c.self.invariant.1 in
    let next : Perform c.in-Perform.operation ≡ next_step t.screen.rows t.screen.cols t.screen.wrapping t.place c.args.byte = rw (← c.self.view_is) c.in-Perform.ensures.next in
    (λ e. absurd (false≢true e), λ w. absurd (no_room t c.args.byte c.in-Perform.operation w.0 w.1 ok fits next (sym c.has_room.ensures ∙ c.if-not-has_room.true) w.2))

pub returns-then-not-has_room-clause-last : goal.returns-then-not-has_room-clause-last
returns-then-not-has_room-clause-last c =
    let t : Automaton = c.args.self.now in
    let ok : IsScreen t.screen = rw (← c.self.view_is) c.self.invariant.0 in
    let fits : IsPlace t.screen.rows t.screen.cols t.screen.wrapping t.place = rw (← c.self.view_is) c.self.invariant.1 in
    let next : Perform c.in-Perform.operation ≡ next_step t.screen.rows t.screen.cols t.screen.wrapping t.place c.args.byte = rw (← c.self.view_is) c.in-Perform.ensures.next in
    λ o goes. absurd (no_room t c.args.byte c.in-Perform.operation o [] ok fits next (sym c.has_room.ensures ∙ c.if-not-has_room.true) goes)

pub returns-else-not-has_room-clause-taken : goal.returns-else-not-has_room-clause-taken
returns-else-not-has_room-clause-taken c =
    let t : Automaton = c.args.self.now in
    let next : Perform c.in-Perform.operation ≡ next_step t.screen.rows t.screen.cols t.screen.wrapping t.place c.args.byte = rw (← c.self.view_is) c.in-Perform.ensures.next in
    let fits : Accepts t.screen.rows t.screen.cols t.screen.wrapping c.in-Perform.operation = rw (← c.self.view_is) c.in-Perform.ensures.fits in
    let word : spelling c.in-Perform.operation ≡ begun_at t.place ++ c.args.byte ∷ [] = rw (← c.self.view_is) c.in-Perform.ensures.spelled in
    (λ e. (c.in-Perform.operation, [], performs t c.args.byte c.in-Perform.operation fits (sym c.has_room.ensures ∙ c.if-not-has_room.false) next word), λ w. refl)

pub returns-else-not-has_room-clause-last : goal.returns-else-not-has_room-clause-last
returns-else-not-has_room-clause-last c =
    let t : Automaton = c.args.self.now in
    let ok : IsScreen t.screen = rw (← c.self.view_is) c.self.invariant.0 in
    let fits : IsPlace t.screen.rows t.screen.cols t.screen.wrapping t.place = rw (← c.self.view_is) c.self.invariant.1 in
    let next : Perform c.in-Perform.operation ≡ next_step t.screen.rows t.screen.cols t.screen.wrapping t.place c.args.byte = rw (← c.self.view_is) c.in-Perform.ensures.next in
    λ o goes. performed c.perform.new.self t.screen c.in-Perform.operation o c.perform.ensures.screen c.perform.ensures.place (last_performs t c.args.byte c.in-Perform.operation o ok fits next goes)
