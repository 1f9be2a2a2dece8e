use Rattle.std.proofs.Common.{◌∙◌}
use Rattle.mgs_maps.specs.Words.{word_of}
use Rattle.mgs_maps.proofs.Rows.{table_finds}
use Rattle.mgs_maps.proofs.table.find_command.Goals as goal

pub returns : goal.returns
returns c = c.command_in.ensures ∙ table_finds (word_of c.args.prefix c.args.stroke) c.bindings.result.now c.bindings.ensures
