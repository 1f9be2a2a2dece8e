-- What a refusal leaves in the tables.
use Rattle.std.specs.Prelude.{◌≡◌, IsTrue}
use Rattle.sqlite.specs.Store.{Ghosts}
use Rattle.sqlite.specs.State.{HasCleanDisk}
use Rattle.sqlite.specs.Held.{Held, state}

-- nothing is committed. Of a connection that is shut, and of a disk that returns other bytes, nothing is said.
abbrev pub KeepsTables : {S : Type 0} → Ghosts S → Held S → Held S → Type 0
KeepsTables g old new = HasCleanDisk (state g new) → IsTrue (state g new).is_open → (state g new).committed ≡ (state g old).committed
