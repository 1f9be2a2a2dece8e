-- Why a line before the first open is refused.
use Rattle.mgs_policy.specs.declared.directory.DirectoryFault.{DirectoryFault}
use Rattle.mgs_policy.specs.declared.directory.DirectoryFault.TheVariants as directory
use Rattle.mgs_script.specs.declared.line.LineFault.{LineFault}
use Rattle.mgs_script.specs.declared.line.LineFault.TheVariants as lines

-- a user or a group that the directory refuses, or out of memory
abbrev pub fault_in : DirectoryFault → LineFault
fault_in directory.Name = lines.Bad
fault_in directory.Twice = lines.Bad
fault_in directory.Unknown = lines.Bad
fault_in directory.Full = lines.Bad
fault_in directory.Short = lines.Short
