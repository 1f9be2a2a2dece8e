use Rattle.std.proofs.Common.{None, map, sym, ◌∙◌, arith}
use Rattle.std.specs.Option.{option_map}
use Rattle.std.proofs.lemmas.List.{ext_get_or, length-map}
use Rattle.std.proofs.Math.ListN.{get_or-map}
use Rattle.mgs_model.specs.Text.{shift}
use Rattle.mgs_marks.proofs.plain.shift_slots.Goals as goal

pub returns : goal.returns
returns c =
    let old = c.args.slots.now.slots in
    let move = option_map (shift c.args.a c.args.b c.args.n) in
    ext_get_or None c.loop-id.slots.slots (map move old) (c.loop-id.invariant.same ∙ sym (length-map old move))
    (λ k h. c.loop-id.invariant.moved k (omega (arith, c.loop-id.invariant.same)) ∙ sym (get_or-map move old k None))
