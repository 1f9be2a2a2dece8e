-- What an update leaves of a buffer.
use Rattle.std.proofs.Common.{◌≡◌, refl}
use Rattle.mgs_buffers.specs.Changing.{marked_updated}
use Rattle.mgs_buffers.specs.MarkedBuffer.{MarkedBuffer}
use Rattle.mgs_buffers.specs.declared.user_changes.Update.{Update}
use Rattle.mgs_buffers.specs.declared.user_changes.Update.TheVariants.{Unmodify, SetOwners, Regroup, SetList}

-- the text stays
pub updated_text : (update : Update) (k : MarkedBuffer) → (marked_updated update k).buffer.text ≡ k.buffer.text
updated_text Unmodify k = refl
updated_text (SetOwners owner) k = refl
updated_text (Regroup group) k = refl
updated_text (SetList entries) k = refl
