use Rattle.sqlite.specs.State.{HasCleanDisk}
use Rattle.sqlite.specs.Files.{file_state}
use Rattle.mgs_tables.proofs.open_file.open_over.Goals as goal

pub returns : goal.returns
returns g c clean =
    let was = c.in-Ok.conn in
    let early : HasCleanDisk (file_state was) = c.prepare.ensures.clean clean in
    record { was = was; opened = c.in-Ok.ensures.opened early; found = c.in-Ok.ensures.found early; ready = c.in_ok-prepare.ensures.ready clean }
