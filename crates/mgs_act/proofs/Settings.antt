-- A setting keeps a session's marks and its size.
use Rattle.std.proofs.Common.{◌≡◌, ℕ, List, Bool, true, false, cond, Option, None, Some, refl}
use Rattle.std.specs.Prelude.{◌==◌, ◌||◌}
use Rattle.mgs_model.specs.declared.echo_text.Message.TheVariants.{Says}
use Rattle.mgs_model.specs.declared.echo_text.Notice.TheVariants.{BadColumn, InMacro, NotInMacro}
use Rattle.mgs_model.specs.declared.session.Kind.TheVariants.{Other}
use Rattle.mgs_model.specs.declared.session.Setting.{Setting}
use Rattle.mgs_model.specs.declared.session.Setting.TheVariants.{SetFillColumn, KeyboardQuit, StartMacro, EndMacro, CallMacro}
use Rattle.mgs_session.specs.declared.Session.{Session}
use Rattle.mgs_session.specs.Sessions.{acted, failed, filling, macro_ended, macro_started}
use Rattle.mgs_world.specs.Sound.{session_uses}
use Rattle.mgs_plan.specs.Setting.{session_set}

-- one of two sessions that are the same in this
either_same : {A : Type 0} (f : Session → A) (x y z : Session) → f y ≡ f x → f z ≡ f x → (c : Bool) → f (cond c y z) ≡ f x
either_same f x y z one other true = one
either_same f x y z one other false = other

pub set_uses : (s : Setting) (n : Option ℕ) (x : Session) (m : List ℕ) (i : ℕ) → session_uses m i (session_set s n x) ≡ session_uses m i x
set_uses SetFillColumn None x m i = refl
set_uses SetFillColumn (Some n) x m i = either_same (session_uses m i) x (failed (Says BadColumn) x) (filling n (acted Other x)) refl refl (n == 0)
set_uses KeyboardQuit n x m i = refl
set_uses StartMacro n x m i = either_same (session_uses m i) x (failed (Says InMacro) x) (macro_started x) refl refl (x.state.recorder.recording || x.state.player.playing)
set_uses EndMacro n x m i = either_same (session_uses m i) x (failed (Says InMacro) x) (cond x.state.recorder.recording (macro_ended x) (failed (Says NotInMacro) x)) refl (either_same (session_uses m i) x (macro_ended x) (failed (Says NotInMacro) x) refl refl x.state.recorder.recording) x.state.player.playing
set_uses CallMacro n x m i = refl
