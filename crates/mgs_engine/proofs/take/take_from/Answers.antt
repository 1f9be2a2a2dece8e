use Rattle.std.proofs.Common.{◌≡◌, ◌≤◌, length, sym, ap, subst, ◌∙◌, arith}
use Rattle.std.proofs.lemmas.List.{length-map}
use Rattle.std.specs.List.{position_or_len}
use Rattle.mgs_model.proofs.Firsts.{find_none, position_or_len-map, written_first}
use Rattle.mgs_engine.specs.Queues.{after_taking, is_queue_of}
use Rattle.mgs_engine.specs.Screens.{queue_of, queues_of, screen_id, drawn_of}
use Rattle.mgs_core.proofs.Ids.{change_none}
use Rattle.mgs_engine.proofs.ScreenLemmas.{queue_at, same_set}
use Rattle.mgs_engine.proofs.take.take_from.Goals as goal

pub take_front-requires-clause-within : goal.take_front-requires-clause-within
take_front-requires-clause-within c =
    subst (λ bs. c.args.n ≤ length bs)
    (queue_at c.args.id c.args.screens.now.items c.find_place-at.result c.index_mut.result.now
    (c.find_place-at.ensures.value ∙ ap (position_or_len (screen_id c.args.id)) c.deref.ensures.value)
    (omega (arith, c.if-at-len.true, c.len.ensures, c.args.screens.now.ok.0)) c.index_mut.ensures.value)
    c.requires.within

pub returns-then-at-len-clause-drawn : goal.returns-then-at-len-clause-drawn
returns-then-at-len-clause-drawn c =
    same_set drawn_of c.args.screens.now.items c.find_place-at.result c.index_mut.result.now c.take_front.new.screen
    (omega (arith, c.if-at-len.true, c.len.ensures, c.args.screens.now.ok.0))
    (c.take_front.ensures.drawn ∙ ap drawn_of c.index_mut.ensures.value)

pub returns-then-at-len-clause-queues : goal.returns-then-at-len-clause-queues
returns-then-at-len-clause-queues c =
    written_first queue_of (is_queue_of c.args.id) (after_taking c.args.n) c.args.screens.now.items c.find_place-at.result c.index_mut.result.now c.take_front.new.screen
    (c.find_place-at.ensures.value ∙ ap (position_or_len (screen_id c.args.id)) c.deref.ensures.value ∙ sym (position_or_len-map queue_of (is_queue_of c.args.id) c.args.screens.now.items))
    (omega (arith, c.if-at-len.true, c.len.ensures, c.args.screens.now.ok.0))
    c.index_mut.ensures.value c.take_front.ensures.queue

pub returns-else-at-len-clause-queues : goal.returns-else-at-len-clause-queues
returns-else-at-len-clause-queues c =
    let p : position_or_len (is_queue_of c.args.id) (queues_of c.args.screens.now.items) ≡ c.find_place-at.result =
    position_or_len-map queue_of (is_queue_of c.args.id) c.args.screens.now.items ∙ sym (c.find_place-at.ensures.value ∙ ap (position_or_len (screen_id c.args.id)) c.deref.ensures.value) in
    let n : length (queues_of c.args.screens.now.items) ≡ length c.args.screens.now.items = length-map c.args.screens.now.items queue_of in
    sym (change_none (is_queue_of c.args.id) (after_taking c.args.n) (queues_of c.args.screens.now.items)
    (find_none (is_queue_of c.args.id) (queues_of c.args.screens.now.items) (omega (arith, p, n, c.if-at-len.false, c.find_place-at.ensures.within, c.deref.ensures.len, c.len.ensures, c.args.screens.now.ok.0))))
