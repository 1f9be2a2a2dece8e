-- What reading a login line comes to.
use Rattle.std.specs.Prelude.{◌≡◌, ℕ, ◌<◌, ◌≤◌, List, length, None, Some}
use Rattle.mgs_wire.specs.declared.login.TheConstants.{LOGIN_LIMIT}
use Rattle.mgs_wire.specs.declared.line.LineRead.{LineRead}
use Rattle.mgs_wire.specs.declared.line.LineRead.TheVariants.{Part, Whole, TooLong}
use Rattle.mgs_wire.specs.Login.{line_in, after_line}

-- a login line that goes on
pub record IsLoginLine (bytes : List ℕ) : Type 0 where
  pub short : length bytes ≤ LOGIN_LIMIT
  pub unfinished : after_line bytes ≡ None

-- of all bytes so far, and the line that is kept
abbrev pub GivesLine : LineRead → List ℕ → List ℕ → Type 0
GivesLine Part bytes line = (line_in bytes ≡ line) × (length line ≤ LOGIN_LIMIT) × (after_line bytes ≡ None) × (after_line line ≡ None)
GivesLine (Whole rest) bytes line = (line_in bytes ≡ line) × (length line ≤ LOGIN_LIMIT) × (after_line bytes ≡ Some rest.now)
GivesLine TooLong bytes line = LOGIN_LIMIT < length (line_in bytes)
