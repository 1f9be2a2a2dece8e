use Rattle.std.proofs.Common.{◌≡◌, get_or, ◌∙◌, ap, sym, refl, arith}
use Rattle.std.proofs.lemmas.Bool.{false≢true}
use Rattle.std.proofs.lemmas.List.{take_all}
use Rattle.mgs_term.specs.Screen.{IsScreen}
use Rattle.mgs_term.specs.Drawing.{Anything}
use Rattle.mgs_term.specs.Automaton.{Automaton, IsPlace, stepped, fed, terminal_of}
use Rattle.mgs_term.specs.Terminal.{Takes, Refuses}
use Rattle.mgs_term.proofs.Feeding.{fed_more, fed_stop, drawn_ends, drawn_never_stops}
use Rattle.mgs_term.proofs.Taking.{takes_more, refuses_at, on_err}
use Rattle.mgs_term.proofs.Resting.{rests_ground, rests_draws}
use Rattle.mgs_term.proofs.machine.Machine.feed_all.Goals as goal

pub loop-byte-preserved : goal.loop-byte-preserved
loop-byte-preserved c =
    let one : Takes (terminal_of c.loop-byte.self) (get_or c.args.bytes.now c.loop-byte.byte-index 0) (terminal_of c.feed.new.self)
    = record { some = c.in_ok-feed.ensures.taken.0 refl; last = λ o goes. ap terminal_of (c.in_ok-feed.ensures.last o goes); inner = c.in_ok-feed.ensures.inner refl } in
    record {
      fed = c.feed.ensures.stepped ∙ ap (λ t. stepped t (get_or c.args.bytes.now c.loop-byte.byte-index 0)) c.loop-byte.invariant.fed ∙ sym (fed_more c.args.self.now c.args.bytes.now c.loop-byte.byte-index (omega arith));
      takes = takes_more _ _ _ c.args.bytes.now c.loop-byte.byte-index (omega arith) c.loop-byte.invariant.takes one;
    }

pub returns-in_err-feed-clause-err : goal.returns-in_err-feed-clause-err
returns-in_err-feed-clause-err c =
    let one : Refuses (terminal_of c.loop-byte.self) (get_or c.args.bytes.now c.loop-byte.byte-index 0) (terminal_of c.feed.new.self)
    = record { none = λ o rest goes. false≢true (c.in_err-feed.ensures.taken.1 (o, rest, goes)); stays = ap terminal_of c.in_err-feed.ensures.refused } in
    on_err c.from_residual.result (refuses_at _ _ _ c.args.bytes.now c.loop-byte.byte-index (omega arith) c.loop-byte.invariant.takes one)

pub returns-in_err-feed-clause-drawn : goal.returns-in_err-feed-clause-drawn
returns-in_err-feed-clause-drawn c =
    let is : c.feed.new.self ≡ fed c.args.self.now c.args.bytes.now = fed_stop c.args.self.now c.feed.new.self c.args.bytes.now c.loop-byte.byte-index _ (omega arith) (c.feed.ensures.stepped ∙ ap (λ t. stepped t (get_or c.args.bytes.now c.loop-byte.byte-index 0)) c.loop-byte.invariant.fed) c.in_err-feed.ensures.refused in
    let v : Automaton = c.args.self.now in
    let ok : IsScreen v.screen = rw (← c.self.view_is) c.self.invariant.0 in
    let fits : IsPlace v.screen.rows v.screen.cols v.screen.wrapping v.place = rw (← c.self.view_is) c.self.invariant.1 in
    λ s t rests draws. absurd (drawn_never_stops Anything v c.feed.new.self c.args.bytes.now _ t ok (rests_ground v s fits rests) (rests_draws Anything v s t c.args.bytes.now rests draws) is c.in_err-feed.ensures.refused)

pub returns-clause-drawn : goal.returns-clause-drawn
returns-clause-drawn c =
    let v : Automaton = c.args.self.now in
    let ok : IsScreen v.screen = rw (← c.self.view_is) c.self.invariant.0 in
    let fits : IsPlace v.screen.rows v.screen.cols v.screen.wrapping v.place = rw (← c.self.view_is) c.self.invariant.1 in
    let is : c.loop-byte.self ≡ fed v c.args.bytes.now = c.loop-byte.invariant.fed ∙ ap (fed v) (take_all c.loop-byte.byte-index c.args.bytes.now c.loop-byte-test.false) in
    λ s t rests draws. (refl, ap terminal_of (is ∙ drawn_ends Anything v c.args.bytes.now t ok (rests_ground v s fits rests) (rests_draws Anything v s t c.args.bytes.now rests draws)))
