-- What a configuration is to those who take it.
use Rattle.std.specs.Prelude.{ℕ, List}
use Rattle.std.specs.Global.{Vec}
use Rattle.mgs_model.specs.Access.{Directory}
use Rattle.mgs_buffers.specs.MarkedBuffer.{MarkedBuffer}
use Rattle.mgs_config.specs.declared.config.BufferFile.{BufferFile}

-- its users and groups, each user with his ticket, its buffers, and which of them have files
pub record Config : Type 0 where
  pub directory : Directory
  pub tickets : List (List ℕ × List ℕ)
  pub buffers : List MarkedBuffer
  pub files : Vec BufferFile
