-- A byte of a session that replaces.
use Rattle.std.proofs.Common.{◌≡◌, ℕ, ◌+◌, ◌<◌, length, Bool, true, false, cond, List, [], ◌∷◌, None, refl, sym, ap, subst, ◌∙◌, arith}
use Rattle.std.specs.Prelude.{◌==◌, ◌||◌}
use Rattle.mgs_model.specs.Access.{Directory}
use Rattle.mgs_model.specs.Outcome.{Run}
use Rattle.mgs_model.specs.Plans.{failed_state}
use Rattle.mgs_model.specs.World as model
use Rattle.mgs_model.specs.World.{Todo, Replace_all}
use Rattle.mgs_model.specs.View.{View}
use Rattle.mgs_model.specs.Turns.{Turn, Keep, Do, replace_turn, replacing}
use Rattle.mgs_model.specs.declared.echo_text.Message.TheVariants.{Says, Replaced}
use Rattle.mgs_model.specs.declared.echo_text.Notice.TheVariants.{Quitting, Silent}
use Rattle.mgs_model.specs.declared.session.Command.TheVariants.{Seek}
use Rattle.mgs_model.specs.declared.session.Mode.TheVariants.{Plain}
use Rattle.mgs_model.specs.declared.session.Seeking.TheVariants.{SkipMatch}
use Rattle.mgs_buffers.specs.MarkedBuffer.{MarkedBuffer}
use Rattle.mgs_session.specs.declared.search.Aim.TheVariants.{Replace}
use Rattle.mgs_seek.specs.Replacing.{replacement}
use Rattle.mgs_session.specs.Replacing.{Replacing}
use Rattle.mgs_session.specs.declared.search.Search.{Search}
use Rattle.mgs_session.specs.declared.Session.{Session}
use Rattle.mgs_session.specs.Playing.{Playing, are_behind, replacing_all}
use Rattle.mgs_session.specs.Seeking.{searching, unsearched}
use Rattle.mgs_session.specs.Sessions.{failed, playing_as, told, unprompted}
use Rattle.mgs_world.specs.Worlds.{state_of}
use Rattle.mgs_core.specs.declared.byte_acts.ByteAct.TheVariants as byte_acts
use Rattle.mgs_core.specs.declared.byte_acts.ModeBefore.{ModeBefore}
use Rattle.mgs_core.specs.declared.byte_acts.ModeBefore.TheVariants as befores
use Rattle.mgs_core.specs.declared.typed_byte.SearchPlace.{SearchPlace}
use Rattle.mgs_core.specs.declared.key_byte.ByteStep.TheVariants.{Kept, Acts}
use Rattle.mgs_core.specs.declared.typed_byte.ReplaceKey.{ReplaceKey}
use Rattle.mgs_core.specs.declared.typed_byte.ReplaceKey.TheVariants as keys
use Rattle.mgs_core.specs.Prompted.{state_turn}
use Rattle.mgs_core.specs.ByteSteps.{IsAlone, IsByteStep, IsLeft, SeesNames, replace_key, search_for}
use Rattle.mgs_core.specs.Turns.{IsWithin}
use Rattle.mgs_core.proofs.Stepped.{acts_same, kept_none, kept_same, none_stays}

-- what each byte comes to, by what it asks
abbrev pub keyed_turn : model.State → ReplaceKey → Turn
keyed_turn state (keys.Replaces last) = replacing state (replacement last)
keyed_turn state keys.Skips = Do state (Run (Seek SkipMatch) None state.input)
keyed_turn state keys.ReplacesAll = Keep (record state { todo = Replace_all ∷ state.todo })
keyed_turn state keys.Ends = Keep (record state { echo = Replaced state.count; mode = Plain; input = []; old = []; count = 0 })
keyed_turn state keys.Quits = Keep (failed_state (Says Quitting) state)
keyed_turn state keys.Other = Keep state

turn_keyed : (state : model.State) (byte : ℕ) → replace_turn state byte ≡ keyed_turn state (replace_key byte)
turn_keyed state byte = by ((byte == 121) || (byte == 32)) (byte == 46) ((byte == 110) || (byte == 127)) (byte == 33) ((byte == 113) || (byte == 13)) (byte == 7)
  where
    by : (a b c e f g : Bool) → cond a (keyed_turn state (keys.Replaces false)) (cond b (keyed_turn state (keys.Replaces true)) (cond c (keyed_turn state keys.Skips) (cond e (keyed_turn state keys.ReplacesAll) (cond f (keyed_turn state keys.Ends) (cond g (keyed_turn state keys.Quits) (keyed_turn state keys.Other)))))) ≡ keyed_turn state (cond a (keys.Replaces false) (cond b (keys.Replaces true) (cond c keys.Skips (cond e keys.ReplacesAll (cond f keys.Ends (cond g keys.Quits keys.Other))))))
    by true b c e f g = refl
    by false true c e f g = refl
    by false false true e f g = refl
    by false false false true f g = refl
    by false false false false true g = refl
    by false false false false false true = refl
    by false false false false false false = refl

-- further replacements go before what was to be done
left_all : (old : Playing) (todo : List Todo) → IsAlone old → todo ≡ Replace_all ∷ old.todo → IsLeft old todo
left_all old todo alone is = record {
  played = λ e n h. subst (IsWithin (1048577 + n)) (sym is) (omega (arith, h.0), h.1);
  typed = λ e. subst (IsWithin 53689341957) (sym (is ∙ ap (λ (more : List Todo). Replace_all ∷ more) (alone.typed e))) (omega arith, refl);
  behind = λ e. ap are_behind is ∙ alone.played;
}

module _ (d : Directory) (ks : List MarkedBuffer) (y new : Session) (place : SearchPlace) (r : Replacing) (byte : ℕ) (alone : IsAlone y.state.player) where
  abbrev pub s : Search
  s = search_for place (Replace r)

  abbrev z : Session
  z = unsearched y

  abbrev x : Session
  x = searching s z

  abbrev state : model.State
  state = record (state_of x.state) { echo = Says Silent }

  comes : (v : View) (k e : ReplaceKey) → k ≡ replace_key byte → k ≡ e → state_turn v x.state byte ≡ keyed_turn state e
  comes v k e of_byte is = turn_keyed state byte ∙ ap (keyed_turn state) (sym of_byte ∙ is)

  -- it goes on
  pub replace_other : (k : ReplaceKey) → k ≡ replace_key byte → k ≡ keys.Other → new ≡ searching s (told (Says Silent) (unsearched y)) → IsByteStep d ks (searching s (unsearched y)) new byte befores.Plain Kept
  replace_other k of_byte e is = kept_same (SeesNames d ks x.user) (λ v. state_turn v x.state byte) x new (searching s (told (Says Silent) z)) is refl (λ bs. refl) alone (λ v sees. comes v k keys.Other of_byte e) refl

  pub replace_every : (held : Session) (k : ReplaceKey) → k ≡ replace_key byte → k ≡ keys.ReplacesAll → 0 < length r.pattern → held ≡ searching s (told (Says Silent) (unsearched y)) → new ≡ playing_as (replacing_all held.state.player) held → IsByteStep d ks (searching s (unsearched y)) new byte befores.Plain Kept
  replace_every held k of_byte e some is all =
      let it : Session = playing_as (replacing_all y.state.player) (searching s (told (Says Silent) z)) in
      rw (all, is) (record { state = refl; stays = λ bs. refl; turn = λ v sees. comes v k keys.ReplacesAll of_byte e; left = left_all x.state.player it.state.player.todo alone refl; fit = λ h. (refl, some) })

  pub replace_ends : (k : ReplaceKey) → k ≡ replace_key byte → k ≡ keys.Ends → y ≡ unsearched y → new ≡ told (Replaced r.count) (unprompted y) → IsByteStep d ks (searching s (unsearched y)) new byte befores.Plain Kept
  replace_ends k of_byte e still is =
      let it : Session = told (Replaced r.count) (unprompted z) in
      kept_same (SeesNames d ks x.user) (λ v. state_turn v x.state byte) x new it (is ∙ ap (λ (w : Session). told (Replaced r.count) (unprompted w)) still) refl (none_stays x.state it.state refl) alone (λ v sees. comes v k keys.Ends of_byte e) refl

  pub replace_quits : (k : ReplaceKey) → k ≡ replace_key byte → k ≡ keys.Quits → y ≡ unsearched y → new ≡ failed (Says Quitting) y → IsByteStep d ks (searching s (unsearched y)) new byte befores.Plain Kept
  replace_quits k of_byte e still is =
      kept_none (SeesNames d ks x.user) (λ v. state_turn v x.state byte) x new (failed (Says Quitting) z) (is ∙ ap (failed (Says Quitting)) still) refl (none_stays x.state (failed (Says Quitting) z).state refl) (λ v sees. comes v k keys.Quits of_byte e) refl

  pub replace_skips : (b : ModeBefore) (k : ReplaceKey) → k ≡ replace_key byte → k ≡ keys.Skips → new ≡ searching s (told (Says Silent) (unsearched y)) → IsByteStep d ks (searching s (unsearched y)) new byte b (Acts byte_acts.Skip)
  replace_skips b k of_byte e is =
      acts_same (SeesNames d ks x.user) (λ v. state_turn v x.state byte) x new (searching s (told (Says Silent) z)) is refl (λ bs. refl) b byte_acts.Skip alone refl tt (λ v sees. comes v k keys.Skips of_byte e) refl (λ wants. cc) (λ wants. cc) (λ h. cc)

  -- a match is replaced
  pub replace_one : (last : Bool) (k : ReplaceKey) → k ≡ replace_key byte → k ≡ keys.Replaces last → new ≡ searching s (told (Says Silent) (unsearched y)) → IsByteStep d ks (searching s (unsearched y)) new byte befores.Held (Acts (byte_acts.Replace last))
  replace_one last k of_byte e is =
      acts_same (SeesNames d ks x.user) (λ v. state_turn v x.state byte) x new (searching s (told (Says Silent) z)) is refl (λ bs. refl) befores.Held (byte_acts.Replace last) alone refl tt (λ v sees. comes v k (keys.Replaces last) of_byte e) refl (λ wants. refl) (λ wants. refl) (λ h. cc)
