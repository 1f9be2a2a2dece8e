-- What an act that is done leaves as it was: all that it did not touch, and the sizes of the sessions.
use Rattle.std.proofs.Common.{◌≡◌, ℕ, ◌<◌, List, length, Option, Some, None, refl, sym, ap, subst, ◌∙◌, arith}
use Rattle.std.specs.List.{position_or_len}
use Rattle.std.proofs.lemmas.List.{length-map}
use Rattle.mgs_model.specs.Access.{Directory}
use Rattle.mgs_model.specs.World.{World, has_id}
use Rattle.mgs_laws.specs.Apart.{Apart}
use Rattle.mgs_model.specs.Apply.{act}
use Rattle.mgs_model.specs.Events.{state_set}
use Rattle.mgs_model.specs.Outcome.{Act}
use Rattle.mgs_model.specs.declared.search.Direction.{Direction}
use Rattle.mgs_model.specs.declared.touched.Touched.{Touched}
use Rattle.mgs_laws.proofs.Apart.{apart_state, apart_same, apart_then}
use Rattle.mgs_births.specs.Telling.{StoreTold}
use Rattle.mgs_buffers.specs.MarkedBuffer.{MarkedBuffer}
use Rattle.mgs_session.specs.declared.Session.{Session}
use Rattle.mgs_plan.proofs.Tells.{apart_act}
use Rattle.mgs_seek.specs.Beginning.{searching_state}
use Rattle.mgs_seek.specs.Replacing.{replacing_state}
use Rattle.mgs_world.specs.Worlds.{is_size_of, session_id, session_size, size_in, sizes, sizes_in, world_of}
use Rattle.mgs_world.proofs.Sizes.{sizes_act, sizes_of_world}
use Rattle.mgs_world.proofs.Worlds.{map-change_first_same}
use Rattle.mgs_core.specs.declared.byte_acts.ModeBefore.{ModeBefore}
use Rattle.mgs_core.specs.declared.byte_acts.ByteAct.{ByteAct}
use Rattle.mgs_core.specs.declared.byte_acts.ByteAct.TheVariants as byte_acts
use Rattle.mgs_act.specs.Doing.{DoneBy}
use Rattle.mgs_core.specs.KeyActs.{started_by, started_world}
use Rattle.mgs_core.specs.ByteActs.{asked_of, deciding_world}
use Rattle.mgs_core.proofs.Sizes.{place_sized}

-- THE WORLD IN WHICH IT IS DECIDED is the world before, but for the record of its session

started_stays : (t : Touched) (o : Option Direction) (id : ℕ) (w : World) → (sizes (started_world o id w) ≡ sizes w) × Apart t id w (started_world o id w)
started_stays t None id w = (refl, apart_same t id w)
started_stays t (Some d) id w = (map-change_first_same session_size (has_id id) (state_set (searching_state d)) (λ x. refl) w.sessions, apart_state t id (searching_state d) w)

begun_stays : (t : Touched) (b : ModeBefore) (byte_act : ByteAct) (id : ℕ) (w : World) → (sizes (deciding_world b byte_act id w) ≡ sizes w) × Apart t id w (deciding_world b byte_act id w)
begun_stays t b (byte_acts.Act a) id w = started_stays t (started_by a) id w
begun_stays t b byte_acts.StartReplacing id w =
    let f = replacing_state (asked_of b).first (asked_of b).input in
    (map-change_first_same session_size (has_id id) (state_set f) (λ x. refl) w.sessions, apart_state t id f w)
begun_stays t b _ id w = (refl, apart_same t id w)

-- ALL THAT IT DID NOT TOUCH

pub byte_act_apart : (t : Touched) (b : ModeBefore) (byte_act : ByteAct) (w new : World) (before after : StoreTold) (id : ℕ) (c : Act) → DoneBy t (deciding_world b byte_act id w) new before after id c → Apart t id w new
byte_act_apart t b byte_act w new before after id c did =
    let begun : World = deciding_world b byte_act id w in
    apart_then t id w begun new (begun_stays t b byte_act id w).1
    (subst (Apart t id begun) (sym did.acted.world) (subst (λ (s : Touched). Apart s id begun (act begun id c did.acted.stored)) (sym did.tells) (apart_act begun id c did.acted.stored)))

-- SIZES: no session went, so that none has quit
pub byte_act_sizes : (t : Touched) (b : ModeBefore) (byte_act : ByteAct) (d : Directory) (ks ls : List MarkedBuffer) (xs ys : List Session) (id at : ℕ) (before after : StoreTold) (c : Act)
    → at ≡ position_or_len (session_id id) xs → at < length xs → length ys ≡ length xs → DoneBy t (deciding_world b byte_act id (world_of d ks xs None)) (world_of d ls ys None) before after id c → sizes_in ys ≡ sizes_in xs
byte_act_sizes t b byte_act d ks ls xs ys id at before after c place within many did =
    let w : World = world_of d ks xs None in
    let begun : World = deciding_world b byte_act id w in
    let same : sizes begun ≡ sizes_in xs = (begun_stays t b byte_act id w).0 ∙ sizes_of_world d ks xs None in
    let new : sizes (act begun id c did.acted.stored) ≡ sizes_in ys = sym (ap sizes did.acted.world) ∙ sizes_of_world d ls ys None in
    let there : position_or_len (is_size_of id) (sizes begun) < length (sizes begun) =
    omega (arith, place, within, place_sized id xs, ap (position_or_len (is_size_of id)) same, ap length same, length_sizes xs) in
    sym new ∙ sizes_act begun id c did.acted.stored there (omega (arith, many, ap length new, ap length same, length_sizes xs, length_sizes ys)) ∙ same
  where
    length_sizes : (zs : List Session) → length (sizes_in zs) ≡ length zs
    length_sizes zs = length-map zs size_in
