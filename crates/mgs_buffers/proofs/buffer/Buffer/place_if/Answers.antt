use Rattle.std.proofs.Common.{ℕ, Option, ap, sym, ◌∙◌}
use Rattle.mgs_buffers.specs.Contents.{marked_of}
use Rattle.mgs_buffers.specs.Placing.{marked_placed_if}
use Rattle.mgs_buffers.proofs.buffer.Buffer.place_if.Goals as goal

pub returns-in-Some : goal.returns-in-Some
returns-in-Some g c = λ name. c.place.ensures name ∙ ap (λ (t : Option (ℕ × ℕ)). marked_placed_if t (marked_of g.T.Text.text g.T.Text.marks name c.args.self.now)) (sym c.in-Some.is)
