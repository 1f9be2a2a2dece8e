use Rattle.std.proofs.Common.{◌∙◌}
use Rattle.mgs_maps.proofs.Named.{in_rows}
use Rattle.mgs_maps.proofs.names.named_in.Goals as goal

pub returns : goal.returns
returns c = c.command_in.ensures ∙ in_rows c.args.name.now c.args.bindings.now
