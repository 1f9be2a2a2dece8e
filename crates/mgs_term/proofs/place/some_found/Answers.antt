use Rattle.std.proofs.Common.{◌+◌, ◌-◌, sym, ◌∙◌, arith}
use Rattle.mgs_term.proofs.Wide.{shown_here, shown_next, shown_none}
use Rattle.mgs_term.proofs.place.some_found.Goals as goal

pub returns-then-is_of_size : goal.returns-then-is_of_size
returns-then-is_of_size c =
    sym (shown_here c.args.size c.loop-code.code (c.args.from + c.args.count - c.loop-code.code) (omega arith) (sym c.is_of_size.ensures ∙ c.if-is_of_size.true)) ∙ c.loop-code.invariant.rest

pub loop-code-preserved : goal.loop-code-preserved
loop-code-preserved c = record {
  within = omega arith;
  rest = sym (shown_next c.args.size c.loop-code.code (c.args.from + c.args.count - c.loop-code.code) (c.args.from + c.args.count - (c.loop-code.code + 1)) (omega arith) (sym c.is_of_size.ensures ∙ c.if-is_of_size.false)) ∙ c.loop-code.invariant.rest;
}

pub returns : goal.returns
returns c = sym (shown_none c.args.size c.loop-code.code (c.args.from + c.args.count - c.loop-code.code) (omega arith)) ∙ c.loop-code.invariant.rest
