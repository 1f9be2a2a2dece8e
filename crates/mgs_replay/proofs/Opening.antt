-- What an open that answered Ok tells.
use Rattle.std.proofs.Common.{◌≡◌, ℕ, ◌&&◌, Bool, true, false, List, length, Option, Some, None, refl, ◌∙◌}
use Rattle.std.specs.Prelude.{is_some, nat_le, not, if◌then◌else◌}
use Rattle.std.specs.Option.{option_map}
use Rattle.std.proofs.lemmas.Bool.{and_parts, leb-true, not-true}
use Rattle.mgs_model.specs.Access.{is_among}
use Rattle.mgs_model.specs.Events.{can_open, is_open, is_size, session_fault}
use Rattle.mgs_model.specs.Picture.{IsSize}
use Rattle.mgs_model.specs.World.{World, Session, find_session}
use Rattle.mgs_model.specs.declared.errors.OpenFault.TheVariants.{NoUser, Size, Full}
use Rattle.mgs_model.specs.declared.limits.TheConstants.{SESSION_LIMIT}
use Rattle.mgs_world.specs.Worlds.{find_size, session_size, sizes}
use Rattle.mgs_core.proofs.Ids.{found_sizes}

fits : (known fit many : Bool) → is_some (if not known then Some NoUser else if not fit then Some Size else if many then Some Full else None) ≡ false → fit ≡ true
fits true true many e = refl
fits true false many e = cc
fits false fit many e = cc

-- its size is one of a screen
pub sized : (w : World) (id : ℕ) (user : List ℕ) (rows cols : ℕ) → can_open w id user rows cols ≡ true → IsSize rows cols
sized w id user rows cols can =
    let no_fault = not-true (is_some (session_fault w user rows cols)) (and_parts (not (is_some (session_fault w user rows cols))) (not (is_open id w)) can).0 in
    let size : is_size rows cols ≡ true = fits (is_among user w.directory.users) (is_size rows cols) (nat_le SESSION_LIMIT (length w.sessions)) no_fault in
    let low = and_parts (nat_le 6 rows) (nat_le rows 64 && (nat_le 20 cols && nat_le cols 160)) size in
    let high = and_parts (nat_le rows 64) (nat_le 20 cols && nat_le cols 160) low.1 in
    let wide = and_parts (nat_le 20 cols) (nat_le cols 160) high.1 in
    record { some_rows = leb-true 6 rows low.0; few_rows = leb-true rows 64 high.0; some_cols = leb-true 20 cols wide.0; few_cols = leb-true cols 160 wide.1 }

none_of : (o : Option Session) → is_some o ≡ false → option_map session_size o ≡ None
none_of None e = refl
none_of (Some x) e = cc

-- and its id is new
pub fresh : (w : World) (id : ℕ) (user : List ℕ) (rows cols : ℕ) → can_open w id user rows cols ≡ true → find_size id (sizes w) ≡ None
fresh w id user rows cols can =
    let closed = not-true (is_open id w) (and_parts (not (is_some (session_fault w user rows cols))) (not (is_open id w)) can).1 in
    found_sizes id w ∙ none_of (find_session id w.sessions) closed
