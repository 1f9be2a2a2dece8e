use Rattle.std.proofs.Common.{◌≤◌, ℕ, List, length, arith, subst}
use Rattle.mgs_fill.specs.Rewriting.{IsWithin}
use Rattle.mgs_fill.proofs.Regions.{region_within}
use Rattle.mgs_fill.proofs.cases.case_region.Goals as goal

pub returns-in-Some-clause-within : goal.returns-in-Some-clause-within
returns-in-Some-clause-within g c =
    let xs : List ℕ = g.T.Text.text c.args.text.now in
    let mark : c.in-Some.mark ≤ length xs = subst (IsWithin (length xs)) c.in-Some.is c.requires.mark in
    let order : c.min-from.result ≤ c.max-to.result = omega arith in
    let within : c.max-to.result ≤ length xs = omega arith in
    region_within xs c.min-from.result c.max-to.result c.args.given.now.place c.args.case order within c.requires.place
