use Rattle.std.proofs.Common.{◌≡◌, ◌∙◌, ap}
use Rattle.std.specs.Prelude.{find}
use Rattle.std.specs.Int.Bits.{bit_and}
use Rattle.mgs_model.specs.Rights.{has_right, all_rights}
use Rattle.mgs_policy.proofs.Walks.{first-both}
use Rattle.mgs_policy.proofs.decision.first_common.Goals as goal

pub returns : goal.returns
returns c =
    let bits : c.from_bits.result ≡ bit_and c.args.mask c.args.other = cc in
    c.first_right.ensures ∙ ap (λ mask. find (has_right mask) all_rights) bits ∙ first-both c.args.mask c.args.other
