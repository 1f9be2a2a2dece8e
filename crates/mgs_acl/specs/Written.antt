-- What entries can be written.
use Rattle.std.specs.Prelude.{◌≡◌, ◌<◌, Bool, true}
use Rattle.mgs_model.specs.Names.{is_user_name, IsName}
use Rattle.mgs_model.specs.Rights.{mask_of, rights_in}
use Rattle.mgs_model.specs.declared.entry.Who.{Who}
use Rattle.mgs_model.specs.declared.entry.Who.TheVariants.{Owner, OwningGroup, Everyone, User, Group}
use Rattle.mgs_model.specs.declared.entry.Entry.{Entry}

-- a name that an entry has is one of a user or a group
abbrev pub is_writable_who : Who → Bool
is_writable_who Owner = true
is_writable_who OwningGroup = true
is_writable_who Everyone = true
is_writable_who (User name) = is_user_name name
is_writable_who (Group name) = is_user_name name

-- a name that an entry has is a name
abbrev pub HasName : Who → Type 0
HasName Owner = Unit {0}
HasName OwningGroup = Unit {0}
HasName Everyone = Unit {0}
HasName (User name) = IsName name
HasName (Group name) = IsName name

-- an entry that can be written: its mask has a right, and no bit but those of rights
pub record IsWritable (e : Entry) : Type 0 where
  pub who : is_writable_who e.who ≡ true
  pub some : 0 < e.mask
  pub rights : mask_of (rights_in e.mask) ≡ e.mask
