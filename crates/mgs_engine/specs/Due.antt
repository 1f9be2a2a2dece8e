-- Sessions whose connections are to be written to.
use Rattle.std.specs.Prelude.{ℕ, ◌==◌, ◌&&◌, nat_lt, not, Bool, length}
use Rattle.mgs_engine.specs.declared.session_screen.Screen.{Screen}

-- bytes wait for the terminal of a session above this one
abbrev pub is_due : ℕ → Screen → Bool
is_due after x = nat_lt after x.id && not (length x.queue == 0)
