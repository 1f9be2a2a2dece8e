-- A START THAT IS TRIED over a copy of the journal.
use Rattle.std.specs.Prelude.{◌≡◌, ℕ, Bool, List, Option}
use Rattle.mgs_model.specs.Access.{Directory}
use Rattle.mgs_buffers.specs.MarkedBuffer.{MarkedBuffer}
use Rattle.mgs_journal.specs.Rows.{KeptRights, rules_in_rows}
use Rattle.mgs_journal.specs.Texts.{KeptText}
use Rattle.mgs_resume.specs.Refusing.{AreUsers}
use Rattle.mgs_keeper.specs.declared.keep_arguments.Mendings.{Mendings}
use Rattle.mgs_keeper.specs.Mending.{AreMended}

-- each mending fits, and then each owner is a user
pub record IsTried {J : Type 0} (rows : J → List KeptRights) (bodies : J → List (Option KeptText)) (taken : J → List ℕ → Bool) (directory : Directory) (config : List MarkedBuffer) (mendings : Mendings) (journal : J) : Type 0 where
  pub after : J
  pub mended : AreMended rows bodies taken config mendings.may_discard mendings.all.items journal after
  pub users : AreUsers directory (rules_in_rows (rows after))
