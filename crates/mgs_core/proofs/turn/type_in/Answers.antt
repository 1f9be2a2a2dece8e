use Rattle.std.proofs.Common.{◌∙◌, ℕ, Option, None, ap, sym, subst, arith}
use Rattle.std.specs.Prelude.{◌&&◌, is_some}
use Rattle.std.specs.Vec.{with_items}
use Rattle.std.proofs.lemmas.Bool.{and_parts}
use Rattle.mgs_laws.specs.Apart.{rules_in}
use Rattle.mgs_model.specs.Events.{begun_state}
use Rattle.mgs_model.specs.World.{World}
use Rattle.mgs_laws.proofs.Apart.{apart_then}
use Rattle.mgs_world.specs.Worlds.{IsUnique, session_of, world_of}
use Rattle.mgs_world.proofs.Sizes.{sizes_of_world}
use Rattle.mgs_core.specs.AtPlace.{SettlesApart}
use Rattle.mgs_core.specs.Calls.{closed}
use Rattle.mgs_core.proofs.Apart.{apart_rests}
use Rattle.mgs_core.proofs.Begun.{begun_there, closed_state}
use Rattle.mgs_core.proofs.Quits.{event_ends, event_keyed}
use Rattle.mgs_core.proofs.Sizes.{within_still}
use Rattle.mgs_core.proofs.Stays.{state_rests, settled_as}
use Rattle.mgs_core.proofs.Steps.{open_still}
use Rattle.mgs_core.proofs.Still.{alone_begun, alone_then, still_again}
use Rattle.mgs_core.proofs.turn.type_in.Goals as goal

pub take_turns-keyed-requires : goal.take_turns-keyed-requires
take_turns-keyed-requires g c =
    let b = begun_there c.args.world.now c.deref_mut.result.now c.begin_at.new.sessions c.args.id c.args.at c.args.byte c.index.result.now c.requires.place c.requires.within c.index.ensures c.deref_mut.ensures.value (omega (arith, c.begin_at.auto.sessions, c.deref_mut.ensures.len)) c.begin_at.ensures in
    record {
      sound = b.sound c.requires.sound;
      place = (c.args.id, b.place);
      within = b.within;
      judged = c.requires.judged;
      weight = b.few;
      none = b.none;
    }

pub settle_unless-requires : goal.settle_unless-requires
settle_unless-requires g c =
    let b = begun_there c.args.world.now c.deref_mut.result.now c.begin_at.new.sessions c.args.id c.args.at c.args.byte c.index.result.now c.requires.place c.requires.within c.index.ensures c.deref_mut.ensures.value (omega (arith, c.begin_at.auto.sessions, c.deref_mut.ensures.len)) c.begin_at.ensures in
    let t = c.take_turns-keyed in
    record {
      sound = rw c.deref.ensures.value t.ensures.sound;
      stands = λ still.
          rw (c.deref.ensures.value, t.ensures.directory) (t.ensures.stands still (λ next. settled_as _ _ (b.world next) (state_rests _ c.args.id (begun_state c.args.byte) (c.requires.settles next))));
    }

pub returns-in-Quit : goal.returns-in-Quit
returns-in-Quit g c =
    let w = c.args.world.now in
    let d = w.directory in
    let ks = w.buffers in
    let xs = w.sessions.items in
    let ys = (with_items w.sessions c.begin_at.new.sessions).items in
    let id = c.args.id in
    let b = begun_there c.args.world.now c.deref_mut.result.now c.begin_at.new.sessions c.args.id c.args.at c.args.byte c.index.result.now c.requires.place c.requires.within c.index.ensures c.deref_mut.ensures.value (omega (arith, c.begin_at.auto.sessions, c.deref_mut.ensures.len)) c.begin_at.ensures in
    let t = c.take_turns-keyed in
    let ends = λ (next : Option ℕ). rw c.in-Quit.is at (t.ensures.event id b.place next) in
    record {
      judged = t.ensures.judged;
      sound = t.ensures.sound;
      directory = t.ensures.directory;
      sizes = t.ensures.sizes ∙ b.sizes;
      gone = λ quits next. (ends next).gone ∙ ap (λ (v : World). closed v id) (b.world next) ∙ closed_state (world_of d ks xs next) id (begun_state c.args.byte);
      still = λ stays. cc;
      left = λ quits. (ends None).left;
      keyed = λ next.
          rw c.in-Quit.is
          (event_ends (world_of d ks xs next) (world_of d ks ys next) _ _ _ id c.args.byte (b.world next) (session_of ks c.index.result.now) (b.found next)
          (subst IsUnique (sym (sizes_of_world d ks ys next ∙ b.sizes)) c.requires.unique) (c.requires.settles next) (ends next));
      touched = λ next. apart_then t.result.1 id _ _ _ (b.apart t.result.1 next) (t.ensures.touched id b.place next);
      births = t.ensures.births;
    }

pub index-requires-in_default : goal.index-requires-in_default
index-requires-in_default g c =
    let v = c.take_turns-keyed.new.world in
    let b = begun_there c.args.world.now c.deref_mut.result.now c.begin_at.new.sessions c.args.id c.args.at c.args.byte c.index.result.now c.requires.place c.requires.within c.index.ensures c.deref_mut.ensures.value (omega (arith, c.begin_at.auto.sessions, c.deref_mut.ensures.len)) c.begin_at.ensures in
    let within = within_still c.args.at c.args.world.now.sessions.items v.sessions.items c.requires.within (c.take_turns-keyed.ensures.sizes ∙ b.sizes) in
    omega (arith, within, v.sessions.ok.0)

pub returns-in_default : goal.returns-in_default
returns-in_default g c =
    let w = c.args.world.now in
    let d = w.directory in
    let ks = w.buffers in
    let xs = w.sessions.items in
    let ys = (with_items w.sessions c.begin_at.new.sessions).items in
    let id = c.args.id in
    let at = c.args.at in
    let h = c.index.result.now in
    let b = begun_there c.args.world.now c.deref_mut.result.now c.begin_at.new.sessions c.args.id c.args.at c.args.byte c.index.result.now c.requires.place c.requires.within c.index.ensures c.deref_mut.ensures.value (omega (arith, c.begin_at.auto.sessions, c.deref_mut.ensures.len)) c.begin_at.ensures in
    let t = c.take_turns-keyed in
    let v = t.new.world in
    let ls = c.settle_unless.new.buffers in
    let zs = v.sessions.items in
    let settles : SettlesApart t.result.1 id d v.buffers ls zs = rw (c.deref.ensures.value, t.ensures.directory) at c.settle_unless.ensures.world in
    let apart = λ (next : Option ℕ).
    apart_rests t.result.1 id (world_of d ks xs next) (world_of d v.buffers zs next) (world_of d ls zs next) (c.requires.settles next)
    (apart_then t.result.1 id _ _ _ (b.apart t.result.1 next) (t.ensures.touched id b.place next)) (settles next) in
    record {
      judged = rw (ap (λ (u : World). rules_in u.buffers) (settles None)) t.ensures.judged;
      sound = rw c.deref.ensures.value at c.settle_unless.ensures.sound;
      directory = t.ensures.directory;
      sizes = t.ensures.sizes ∙ b.sizes;
      gone = λ quits next. absurd (c.in_default.not-Quit quits);
      left = λ quits. absurd (c.in_default.not-Quit quits);
      keyed = λ next.
          let here = ap is_some (b.found next) in
          event_keyed id c.args.byte (world_of d ks xs next) (world_of d ks ys next) (world_of d v.buffers zs next) (world_of d ls zs next) _ _ t.result.0 c.in_default.not-Quit (t.ensures.event id b.place next) here
          (open_still d ks ls xs zs next id (t.ensures.sizes ∙ b.sizes) here) (b.world next) (apart next).0;
      touched = λ next. (apart next).1;
      births = t.ensures.births;
      still = λ stays next.
          let both = and_parts t.result.2 (c.is_bare-was.result && c.is_bare-now.result) stays in
          let bare = and_parts c.is_bare-was.result c.is_bare-now.result both.1 in
          let a = alone_then at ks ks v.buffers xs ys zs (alone_begun at ks xs ys c.args.byte h b.begins) (t.ensures.alone both.0) in
          still_again d ks ls xs zs next id at h c.index-in_default.result.now c.requires.place c.requires.within c.index.ensures (record { buffers = c.settle_unless.ensures.still both.0 ∙ a.buffers; state = a.state; is = a.is })
          c.index-in_default.ensures (c.is_bare-was.ensures bare.0) (c.is_bare-now.ensures bare.1);
    }
