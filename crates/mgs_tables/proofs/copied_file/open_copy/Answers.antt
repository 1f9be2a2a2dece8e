use Rattle.std.proofs.Common.{◌≡◌, refl, subst₂}
use Rattle.sqlite_disk.specs.Memory.{memory_bytes}
use Rattle.mgs_tables.specs.LogCheck.{IsLog, HasFile}
use Rattle.mgs_tables.proofs.copied_file.open_copy.Goals as goal

pub returns : goal.returns
returns c =
    let log : memory_bytes c.in-Ok.log ≡ c.args.log.now = c.in-Ok.ensures.bytes in
    let db : memory_bytes c.in-Ok-filled.db ≡ c.args.db.now = c.in-Ok-filled.ensures.bytes in
    let both = c.in_ok-test_log.ensures.whole refl in
    record { whole = (subst₂ IsLog log db both.0, subst₂ HasFile log db both.1) }
