-- What is seen of a server is its world and its store.
use Rattle.std.proofs.Common.{◌≡◌, ◌∙◌, ℕ, Option, sym, ap}
use Rattle.mgs_world.specs.Worlds.{sizes, sizes_in}
use Rattle.mgs_world.proofs.Sizes.{sizes_of_world}
use Rattle.mgs_core.specs.declared.world.World as code
use Rattle.mgs_core.specs.AtPlace.{seen}
use Rattle.mgs_core.specs.Kept.{Kept}

pub world_is : (k l : Kept) → k ≡ l → k.world ≡ l.world
world_is k l e = ap (λ (m : Kept). m.world) e

-- its sessions have the sizes that are seen
pub sizes_kept : {T : Type 0} (w : code.World T) (next : Option ℕ) (k l : Kept) → k ≡ l → k.world ≡ seen w next → sizes_in w.sessions.items ≡ sizes l.world
sizes_kept w next k l e is = sym (sizes_of_world w.directory w.buffers w.sessions.items next) ∙ ap sizes (sym is ∙ world_is k l e)
