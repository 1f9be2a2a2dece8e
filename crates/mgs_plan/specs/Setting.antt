-- What a setting leaves of a session that has nothing half read.
use Rattle.std.specs.Prelude.{ℕ, ◌==◌, ◌||◌, Option, None, Some, cond, if◌then◌else◌}
use Rattle.mgs_model.specs.declared.echo_text.Message.TheVariants.{Says}
use Rattle.mgs_model.specs.declared.echo_text.Notice.TheVariants.{Quitting, NoArgument, BadColumn, InMacro, NotInMacro}
use Rattle.mgs_model.specs.declared.session.Kind.TheVariants.{Other}
use Rattle.mgs_model.specs.declared.session.Setting.{Setting}
use Rattle.mgs_model.specs.declared.session.Setting.TheVariants.{SetFillColumn, KeyboardQuit, StartMacro, EndMacro, CallMacro}
use Rattle.mgs_session.specs.declared.Session.{Session}
use Rattle.mgs_session.specs.Sessions.{acted, failed, filling, macro_ended, macro_given_up, macro_started}

-- the fill column is the argument, which is to be there and not 0
abbrev pub column_set : Option ℕ → Session → Session
column_set None x = failed (Says NoArgument) x
column_set (Some n) x = if n == 0 then failed (Says BadColumn) x else filling n (acted Other x)

-- one macro is recorded at a time, and none while one plays
abbrev pub recording_started : Session → Session
recording_started x = cond (x.state.recorder.recording || x.state.player.playing) (failed (Says InMacro) x) (macro_started x)

abbrev pub recording_ended : Session → Session
recording_ended x = cond x.state.player.playing (failed (Says InMacro) x) (cond x.state.recorder.recording (macro_ended x) (failed (Says NotInMacro) x))

-- the playing of a macro is no act
abbrev pub session_set : Setting → Option ℕ → Session → Session
session_set SetFillColumn n x = column_set n x
session_set KeyboardQuit n x = macro_given_up (failed (Says Quitting) x)
session_set StartMacro n x = recording_started x
session_set EndMacro n x = recording_ended x
session_set CallMacro n x = x
