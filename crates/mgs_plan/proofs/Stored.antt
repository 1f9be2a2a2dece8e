-- An act that is no save is the same whatever the store answers.
use Rattle.std.proofs.Common.{◌≡◌, Bool, true, false, refl}
use Rattle.mgs_model.specs.View.{View}
use Rattle.mgs_model.specs.Outcome.{Act, Unbound, Run}
use Rattle.mgs_model.specs.Acts.{outcome}
use Rattle.mgs_model.specs.declared.session.Command.TheVariants.{SaveBuffer}

abbrev pub is_save : Act → Bool
is_save (Run SaveBuffer n typed) = true
is_save _ = false

pub unstored : (v : View) (c : Act) (stored : Bool) → is_save c ≡ false → outcome v c stored ≡ outcome v c true
unfolding outcome
unstored v Unbound stored e = refl
unstored v (Run SaveBuffer n typed) stored e = cc
unstored v (Run _ n typed) stored e = refl
