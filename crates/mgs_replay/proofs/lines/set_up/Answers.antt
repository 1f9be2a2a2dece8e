use Rattle.std.proofs.Common.{arith, ap, ◌∙◌}
use Rattle.mgs_script.specs.Scripts.{lines_of}
use Rattle.mgs_replay.specs.Faults.{end_at}
use Rattle.mgs_replay.proofs.Standing.{lines_left, leads_next, leads_fault, leads_open, leads_end, left_cut, left_none, left_shorter}
use Rattle.mgs_replay.proofs.lines.set_up.Goals as goal

pub returns-in-Ok-false-clause-sets : goal.returns-in-Ok-false-clause-sets
returns-in-Ok-false-clause-sets c =
    leads_open c.in-Ok-false.field-0 c.args.setup.now c.loop-rest.setup c.set_line.new.setup (lines_of c.args.script.now) c.loop-rest.number c.loop-rest.rest c.in-Some.text c.cut_line.result.0.now
    c.in-Ok-false.field-0-test c.in-Some.is c.cut_line.ensures.line c.loop-rest.invariant.leads c.in-Ok-false.ensures

pub returns-in-Err-clause-sets : goal.returns-in-Err-clause-sets
returns-in-Err-clause-sets c =
    let here = rw (left_cut c.loop-rest.rest c.in-Some.text c.cut_line.result.0.now c.cut_line.result.1 c.in-Some.is c.cut_line.ensures.lines) at c.loop-rest.invariant.leads in
    leads_fault c.ended_at.result c.in-Err.fault c.args.setup.now c.loop-rest.setup (lines_of c.args.script.now) c.loop-rest.number c.cut_line.result.0.now (lines_left c.cut_line.result.1)
    (c.ended_at.ensures ∙ ap (end_at c.loop-rest.number) c.turn_fault.ensures) here c.in-Err.ensures

pub loop-rest-preserved : goal.loop-rest-preserved
loop-rest-preserved c =
    let here = rw (left_cut c.loop-rest.rest c.in-Some.text c.cut_line.result.0.now c.cut_line.result.1 c.in-Some.is c.cut_line.ensures.lines) at c.loop-rest.invariant.leads in
    record {
      leads = leads_next c.in-Ok-true.field-0 c.args.setup.now c.loop-rest.setup c.set_line.new.setup (lines_of c.args.script.now) c.loop-rest.number c.cut_line.result.0.now (lines_left c.cut_line.result.1)
          c.in-Ok-true.field-0-test here c.in-Ok-true.ensures;
      first = omega (arith, c.loop-rest.invariant.first);
      counted = left_shorter c.loop-rest.rest c.in-Some.text c.cut_line.result.1 c.loop-rest.number 16777218 c.in-Some.is c.cut_line.ensures.shorter c.loop-rest.invariant.counted;
    }

pub returns-clause-sets : goal.returns-clause-sets
returns-clause-sets c =
    leads_end c.args.setup.now c.loop-rest.setup (lines_of c.args.script.now) c.loop-rest.number (rw (left_none c.loop-rest.rest c.in_default.is) at c.loop-rest.invariant.leads)
