use Rattle.std.proofs.Common.{subst, sym}
use Rattle.mgs_laws.specs.Apart.{Rules}
use Rattle.mgs_buffers.specs.MarkedBuffer.{HasBuffer}
use Rattle.mgs_keep.proofs.Bodies.{has_at}
use Rattle.mgs_keep.proofs.kept_texts.standing_at.Goals as goal

pub find-found-requires : goal.find-found-requires
find-found-requires g c =
    subst (λ (r : Rules). HasBuffer r.name c.buffers-buffers.result.now) (sym c.rights-2.view_is) (has_at c.buffers-buffers.result.now c.args.i c.in_ok-rights.rights c.in_ok-rights.ensures)
