use Rattle.std.proofs.Common.{subst, sym}
use Rattle.std.specs.Prelude.{[]}
use Rattle.mgs_buffers.specs.Contents.{marked_of}
use Rattle.mgs_buffers.specs.MarkedBuffer.{MarkedBuffer}
use Rattle.mgs_buffers.specs.Placing.{CanStand}
use Rattle.mgs_buffers.proofs.Placing.{can_stand}
use Rattle.mgs_buffers.proofs.buffer.Buffer.place_both.Goals as goal

pub place_if-requires-2 : goal.place_if-requires-2
place_if-requires-2 g c =
    subst (λ (k : MarkedBuffer). CanStand k.marks k.buffer.text c.args.second) (sym (c.place_if.ensures []))
    (can_stand c.args.first c.args.second (marked_of g.T.Text.text g.T.Text.marks [] c.args.self.now) c.requires.second)
