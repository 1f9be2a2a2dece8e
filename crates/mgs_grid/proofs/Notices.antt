-- Notices are short, and of visible ASCII and spaces.
use Rattle.std.proofs.Common.{◌≡◌, ℕ, ◌≤◌, Bool, true, ◌&&◌, List, length, refl}
use Rattle.std.specs.Prelude.{nat_le, IsTrue}
use Rattle.std.specs.List.{list_all}
use Rattle.std.proofs.lemmas.Bool.{and_parts, leb-true}
use Rattle.mgs_model.specs.Messages.{notice_text}
use Rattle.mgs_model.specs.declared.echo_text.Notice.{Notice}
use Rattle.mgs_model.specs.declared.echo_text.Notice.TheVariants.{Silent}
use Rattle.mgs_grid.specs.Cells.{is_plain}

-- visible ASCII and spaces, and not many
abbrev fits : List ℕ → Bool
fits text = list_all is_plain text && nat_le (length text) 64

-- each of them by itself
notice_fits : (notice : Notice) → fits (notice_text notice) ≡ true
notice_fits Silent = refl
notice_fits _ = refl

pub notice_plain : (notice : Notice) → IsTrue (list_all is_plain (notice_text notice))
notice_plain notice = (and_parts _ _ (notice_fits notice)).0

pub notice_short : (notice : Notice) → length (notice_text notice) ≤ 64
notice_short notice = leb-true (length (notice_text notice)) 64 (and_parts _ _ (notice_fits notice)).1
