-- What changes of a buffer without its text, and by which rights.
use Rattle.std.specs.Prelude.{ℕ, Bool, ◌||◌}
use Rattle.mgs_model.specs.Rights.{has_right}
use Rattle.mgs_model.specs.declared.owners.NewOwner.TheVariants.{ToUser, ToGroup}
use Rattle.mgs_model.specs.declared.right.Right.TheVariants.{WriteData, AppendData}
use Rattle.mgs_buffers.specs.MarkedBuffer.{MarkedBuffer, marked_list_set, marked_owners_set, marked_unmodified}
use Rattle.mgs_buffers.specs.declared.user_changes.Update.{Update}
use Rattle.mgs_buffers.specs.declared.user_changes.Update.TheVariants.{Unmodify, SetOwners, Regroup, SetList}

-- the rights of a mask let a text be written to: WRITE_DATA or APPEND_DATA is among them
abbrev pub writes : ℕ → Bool
writes mask = has_right mask WriteData || has_right mask AppendData

-- the rights that an update needs: READ_DATA and WRITE_DATA, WRITE_OWNER, WRITE_ACL
abbrev pub update_mask : Update → ℕ
update_mask Unmodify = 3
update_mask (SetOwners owner) = 524288
update_mask (Regroup group) = 524288
update_mask (SetList entries) = 262144

-- what it makes of a buffer
abbrev pub marked_updated : Update → MarkedBuffer → MarkedBuffer
marked_updated Unmodify k = marked_unmodified k
marked_updated (SetOwners owner) k = marked_owners_set (ToUser owner) k
marked_updated (Regroup group) k = marked_owners_set (ToGroup group) k
marked_updated (SetList entries) k = marked_list_set entries k
