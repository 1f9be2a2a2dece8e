-- The words of the two listings.
use Rattle.std.specs.Prelude.{ℕ, Bool, List, ◌++◌, Option, Some, None, codes}
use Rattle.mgs_model.specs.declared.owners.Owners.{Owners}
use Rattle.mgs_model.specs.Draw.{listing_text}
use Rattle.mgs_model.specs.Rows.{cause_text}
use Rattle.mgs_model.specs.declared.entry.Decision.{Decision}

-- a buffer's row: its name, whether it is modified, its size, and its owners
abbrev pub listed_text : List ℕ → Bool → ℕ → Owners → List ℕ
listed_text name modified size owners = listing_text (record { name = name; modified = modified; size = size; owners = owners })

-- why a list may not be read
abbrev pub unlisted_text : Decision → List ℕ
unlisted_text decision = codes "[no acl: " ++ cause_text decision ++ codes "]"

-- THE MODE LINE of an access list

-- the buffer's name, where it may be told
abbrev pub acl_mode : Option (List ℕ) → List ℕ
acl_mode None = codes "-Acl-" ++ codes "?"
acl_mode (Some name) = codes "-Acl-" ++ name
