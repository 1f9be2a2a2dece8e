-- What a session records: the bytes of its macro, and whether more are recorded.
use Rattle.std.specs.Prelude.{ℕ, ◌-◌, nat_le, Bool, true, false, ◌&&◌, List, [], ◌∷◌, ◌++◌, length, take, cond}
use Rattle.mgs_model.specs.declared.limits.TheConstants.{MACRO_LIMIT}

pub record Recorded : Type 0 where
  pub macro : List ℕ
  pub recording : Bool

abbrev pub nothing_recorded : Recorded
nothing_recorded = record { macro = []; recording = false }

abbrev pub started : Recorded
started = record { macro = []; recording = true }

-- the two bytes that end a macro are none of it
abbrev pub ended : Recorded → Recorded
ended r = record { macro = take (length r.macro - 2) r.macro; recording = false }

-- a macro that is recorded is lost; one that was recorded stays
abbrev pub given_up : Recorded → Recorded
given_up r = record { macro = cond r.recording [] r.macro; recording = false }

-- a macro is recorded that has its most bytes
abbrev pub is_full : Recorded → Bool
is_full r = r.recording && nat_le MACRO_LIMIT (length r.macro)

abbrev pub appended : ℕ → Recorded → Recorded
appended byte r = record r { macro = cond r.recording (r.macro ++ byte ∷ []) r.macro }

-- a byte is kept, where there is a macro for it. One too many ends the recording
abbrev pub kept : ℕ → Recorded → Recorded
kept byte r = cond (is_full r) nothing_recorded (appended byte r)
