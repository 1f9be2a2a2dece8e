use Rattle.std.proofs.Common.{◌≡◌, ◌∙◌, ℕ, ◌≤◌, false, refl, ap, sym, subst}
use Rattle.std.specs.List.{position_or_len}
use Rattle.std.proofs.lemmas.Bool.{and_parts}
use Rattle.mgs_model.specs.World.{State}
use Rattle.mgs_model.specs.declared.touched.Touched.TheVariants.{Nowhere}
use Rattle.mgs_model.specs.declared.touched.Touched.{Touched}
use Rattle.mgs_laws.specs.Apart.{is_anywhere}
use Rattle.mgs_laws.proofs.Apart.{apart_same}
use Rattle.mgs_core.proofs.Births.{both_apart}
use Rattle.mgs_births.specs.StoreBirths.{store_and_births}
use Rattle.mgs_world.specs.Worlds.{session_id, state_at, world_of}
use Rattle.mgs_core.proofs.Joined.{apart_both}
use Rattle.mgs_core.proofs.Sizes.{place_same, within_still}
use Rattle.mgs_core.proofs.Still.{alone_none, alone_then}
use Rattle.mgs_core.proofs.Taken.{open_state}
use Rattle.mgs_core.proofs.Turned.{event_next, event_over, none_on, none_weight, starts}
use Rattle.mgs_core.proofs.Stepped.{fit_none}
use Rattle.mgs_seek.specs.Replacing.{remaining_at}
use Rattle.mgs_core.proofs.turn.take_turns.Goals as goal

pub loop-keyed-init : goal.loop-keyed-init
loop-keyed-init g c =
    let w = c.args.world.now in
    let xs = w.sessions.items in
    record {
      directory = refl;
      judged = c.requires.judged;
      sound = c.requires.sound;
      sizes = refl;
      event = λ id place next. starts id _ _ (remaining_at c.args.at w.buffers xs) _ (subst (λ (n : ℕ). n ≤ 53689341958) (none_weight 0 (remaining_at c.args.at w.buffers xs) (state_at c.args.at xs).todo c.requires.none) c.requires.weight);
      fit = λ e. fit_none (state_at c.args.at xs) c.requires.none;
      stands = λ still rests. rests;
      alone = λ still. alone_none c.args.at w.buffers xs c.requires.within;
      touched = λ id place next. apart_same Nowhere id _;
      births = λ apart. refl;
    }

pub take_turn-next-requires-clause-place : goal.take_turn-next-requires-clause-place
take_turn-next-requires-clause-place g c =
    let place = c.requires.place in
    (place.0, place_same place.0 c.args.at c.args.world.now.sessions.items c.loop-keyed.world.sessions.items place.1 c.loop-keyed.invariant.sizes)

pub loop-keyed-preserved : goal.loop-keyed-preserved
loop-keyed-preserved g c =
    let w = c.args.world.now in
    let d = w.directory in
    let xs = w.sessions.items in
    let l = c.loop-keyed in
    let ks = l.world.buffers in
    let ys = l.world.sessions.items in
    let t = c.take_turn-next in
    let ls = t.new.world.buffers in
    let zs = t.new.world.sessions.items in
    let same = l.invariant.directory in
    let on = sym (rw c.deref.ensures.value at c.goes_on.ensures) ∙ c.loop-keyed-test.true in
    let here = λ (id : ℕ) (place : c.args.at ≡ position_or_len (session_id id) xs). place_same id c.args.at xs ys place l.invariant.sizes in
    let told = store_and_births g.S.Store.failed g.S.Store.accepted in
    record {
      directory = t.ensures.directory ∙ same;
      judged = rw same at t.ensures.judged;
      sound = t.ensures.sound;
      sizes = t.ensures.sizes ∙ l.invariant.sizes;
      event = λ id place next.
          let x = open_state d ks ys next id c.args.at (here id place) (within_still c.args.at xs ys c.requires.within l.invariant.sizes) in
          event_next id _ _ _ _ _ _ (remaining_at c.args.at ks ys) (remaining_at c.args.at ls zs) _ _ x.0 x.1 l.keyed t.result.0 on (l.invariant.event id place next) (rw same at (t.ensures.turned id (here id place) next)) t.ensures.less;
      fit = t.ensures.fit;
      stands = λ still.
          let both = and_parts l.stands t.result.2 still in
          λ rests. (rw same at (t.ensures.stands both.1)) (l.invariant.stands both.0 rests);
      alone = λ still.
          let both = and_parts l.stands t.result.2 still in
          alone_then c.args.at w.buffers ks ls xs ys zs (l.invariant.alone both.0) (t.ensures.alone both.1);
      touched = λ id place next.
          rw c.touched_both-touched.ensures
          (apart_both l.touched t.result.1 id (world_of d w.buffers xs next) (world_of d ks ys next) (world_of d ls zs next) (l.invariant.touched id place next) (rw same at (t.ensures.touched id (here id place) next)));
      births = λ apart.
          let both = both_apart l.touched t.result.1 (subst (λ (x : Touched). is_anywhere x ≡ false) c.touched_both-touched.ensures apart) in
          t.ensures.births both.1 ∙ l.invariant.births both.0;
    }

pub returns-clause-event : goal.returns-clause-event
returns-clause-event g c id first next =
    let xs = c.args.world.now.sessions.items in
    let l = c.loop-keyed in
    let ks = l.world.buffers in
    let ys = l.world.sessions.items in
    let off = sym (rw c.deref.ensures.value at c.goes_on.ensures) ∙ c.loop-keyed-test.false in
    let x = open_state c.args.world.now.directory ks ys next id c.args.at (place_same id c.args.at xs ys first l.invariant.sizes) (within_still c.args.at xs ys c.requires.within l.invariant.sizes) in
    event_over id _ _ _ _ (remaining_at c.args.at ks ys) (state_at c.args.at ys).todo x.0 x.1 (ap (λ (o : State). o.todo) x.2) l.keyed (none_on l.keyed (state_at c.args.at ys).todo off) (l.invariant.event id first next)
