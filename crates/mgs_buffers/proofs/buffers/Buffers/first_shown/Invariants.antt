use Rattle.std.proofs.Common.{◌≡◌, map}
use Rattle.std.specs.Prelude.{find}
use Rattle.mgs_model.specs.World.{may}
use Rattle.mgs_model.specs.declared.right.Right.TheVariants.{ReadAttributes}
use Rattle.mgs_buffers.specs.MarkedBuffer.{MarkedBuffer}
use Rattle.mgs_buffers.specs.Contents.{marked_all}
use Rattle.mgs_buffers.proofs.buffers.Buffers.first_shown.Given as goal

abbrev pub invariant-loop-name : goal.invariant-loop-name
invariant-loop-name g l =
    let shown = find (may l.directory l.user ReadAttributes) in
    shown (map (λ (k : MarkedBuffer). k.buffer) (marked_all g.T.Text.text g.T.Text.marks l.name-iterator)) ≡ shown (map (λ (k : MarkedBuffer). k.buffer) l.self)
