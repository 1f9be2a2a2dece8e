-- A START: what is served with a journal, before anybody logs in.
use Rattle.std.specs.Prelude.{◌≡◌, ℕ, Bool, false, List, Option, None}
use Rattle.mgs_model.specs.Access.{Directory}
use Rattle.mgs_model.specs.Events.{Saved}
use Rattle.mgs_births.specs.Telling.{first_told}
use Rattle.mgs_buffers.specs.Judging.{rules_kept}
use Rattle.mgs_buffers.specs.MarkedBuffer.{MarkedBuffer}
use Rattle.mgs_journal.specs.Acts.{Act}
use Rattle.mgs_journal.specs.Rows.{KeptRights, rules_in_rows}
use Rattle.mgs_journal.specs.Texts.{KeptText}
use Rattle.mgs_resume.specs.Contents.{StartsWith}
use Rattle.mgs_resume.specs.Joined.{with_others}
use Rattle.mgs_server.specs.Listening.{at_first, first_world}
use Rattle.mgs_keep.specs.Ends.{AreNoted}
use Rattle.mgs_keep.specs.Keeping.{AreKept, HasChanged, Held, recording}

-- The buffers are those that the journal keeps, decided by what it keeps and with the texts that it keeps, and behind them those of a
-- configuration whose names it does not have; nobody is there yet, nor noted, and the journal keeps by what access each is decided: it made
-- the changes that this takes, and no others.
pub record Starts {J S : Type 0} (rows : J → List KeptRights) (does : J → Act → J → Type 0) (bodies : J → List (Option KeptText)) (taken : J → List ℕ → Bool) (failed : S → ℕ)
    (accepted : S → Option (List Saved)) (directory : Directory) (configured : List MarkedBuffer) (store : S) (journal : J) (k : Held J) : Type 0 where
  pub buffers : List MarkedBuffer
  pub rules : rules_kept buffers ≡ with_others (taken journal) (rules_in_rows (rows journal)) (rules_kept configured)
  pub texts : StartsWith (taken journal) configured (rules_in_rows (rows journal)) (bodies journal) buffers
  pub serving : k.serving ≡ recording (at_first (first_world directory buffers) (first_told failed accepted store))
  pub noted : AreNoted k.serving k.users
  pub kept : AreKept rows k.serving k.journal
  pub changed : HasChanged rows does None k.serving journal k.journal
  pub sound : k.failed ≡ false
