use Rattle.std.proofs.Common.{ap, ◌∙◌}
use Rattle.std.specs.Prelude.{is_some}
use Rattle.mgs_replay.proofs.Drafts.{some_draft}
use Rattle.mgs_replay.proofs.setup.has_draft.Goals as goal

pub returns : goal.returns
returns c = c.is_some.ensures ∙ ap is_some c.place_of.ensures.at ∙ some_draft c.args.name.now c.args.drafts.now
