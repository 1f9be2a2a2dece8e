use Rattle.std.proofs.Common.{◌≡◌, ◌∙◌, ap, arith}
use Rattle.std.specs.Prelude.{◌-◌, ◌^◌}
use Rattle.std.specs.Int.Bits.{bit_and}
use Rattle.mgs_policy.specs.Walk.{wanted}
use Rattle.mgs_policy.proofs.Walks.{rights_in-without}
use Rattle.mgs_policy.proofs.decision.without.Goals as goal

pub returns : goal.returns
unfolding wanted
returns c =
    let bits : c.from_bits.result ≡ bit_and c.args.mask (2 ^ 32 - 1 - c.args.other) = cc in
    ap wanted bits ∙ rights_in-without c.args.mask c.args.other (omega arith)
