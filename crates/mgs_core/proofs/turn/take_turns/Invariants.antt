use Rattle.std.proofs.Common.{◌≡◌, ℕ, true, false, Option}
use Rattle.std.specs.List.{position_or_len}
use Rattle.mgs_laws.specs.Apart.{Apart, is_anywhere}
use Rattle.mgs_buffers.specs.Judging.{AreJudged, rules_kept}
use Rattle.mgs_births.specs.StoreBirths.{store_and_births}
use Rattle.mgs_world.specs.Sound.{IsSound}
use Rattle.mgs_world.specs.Worlds.{session_id, state_at, sizes_in, world_of}
use Rattle.mgs_core.specs.AtPlace.{StateAlone, StaySettled}
use Rattle.mgs_core.specs.Turns.{IsFit, left_to_do}
use Rattle.mgs_seek.specs.Replacing.{remaining_at}
use Rattle.mgs_model.specs.declared.errors.Keyed.TheVariants.{Done}
use Rattle.mgs_core.proofs.Turned.{EventSoFar}
use Rattle.mgs_core.proofs.turn.take_turns.Given as goal

-- what the turns so far lead to
abbrev pub invariant-loop-keyed : goal.invariant-loop-keyed
invariant-loop-keyed g l =
    let w = l.initial.world in
    let d = w.directory in
    let v = l.world in
    record {
      directory : v.directory ≡ d;
      judged : AreJudged d (rules_kept v.buffers) l.judge;
      sound : IsSound v.buffers v.sessions.items;
      sizes : sizes_in v.sessions.items ≡ sizes_in w.sessions.items;
      event : (id : ℕ) → l.at ≡ position_or_len (session_id id) w.sessions.items → (next : Option ℕ) → EventSoFar id (world_of d w.buffers w.sessions.items next) (world_of d v.buffers v.sessions.items next) (store_and_births g.S.Store.failed g.S.Store.accepted l.initial.store) (store_and_births g.S.Store.failed g.S.Store.accepted l.store) (remaining_at l.at v.buffers v.sessions.items) (state_at l.at v.sessions.items).todo l.keyed;
      fit : l.keyed ≡ Done → IsFit (state_at l.at v.sessions.items);
      stands : l.stands ≡ true → StaySettled w v;
      alone : l.stands ≡ true → StateAlone l.at w.buffers v.buffers w.sessions.items v.sessions.items;
      touched : (id : ℕ) → l.at ≡ position_or_len (session_id id) w.sessions.items → (next : Option ℕ) → Apart l.touched id (world_of d w.buffers w.sessions.items next) (world_of d v.buffers v.sessions.items next);
      births : is_anywhere l.touched ≡ false → l.store.births ≡ l.initial.store.births;
    }

abbrev pub decreases-loop-keyed : goal.decreases-loop-keyed
decreases-loop-keyed g l = left_to_do l.keyed (remaining_at l.at l.world.buffers l.world.sessions.items) (state_at l.at l.world.sessions.items).todo
