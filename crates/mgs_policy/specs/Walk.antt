-- The rights that are wanted.
use Rattle.std.specs.Prelude.{ℕ, List}
use Rattle.mgs_model.specs.Rights.{rights_in}
use Rattle.mgs_model.specs.declared.right.Right.{Right}

-- the rights of a mask; opaque, so that a walk's goals do not spread all eight
unfoldable pub wanted : ℕ → List Right
wanted mask = rights_in mask
