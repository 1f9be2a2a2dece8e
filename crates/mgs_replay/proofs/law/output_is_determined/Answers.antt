use Rattle.mgs_replay.proofs.Replaying.{is_determined}
use Rattle.mgs_replay.proofs.law.output_is_determined.Goals as goal

pub returns : goal.returns
returns c = is_determined
