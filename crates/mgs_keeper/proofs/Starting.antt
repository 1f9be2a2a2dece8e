-- A start.
use Rattle.std.proofs.Common.{◌≡◌, ℕ, Bool, false, List, [], Option, None, ap, ◌∙◌}
use Rattle.mgs_model.specs.Access.{Directory}
use Rattle.mgs_model.specs.Events.{Saved}
use Rattle.mgs_births.specs.Telling.{first_told}
use Rattle.mgs_buffers.specs.Judging.{rules_kept}
use Rattle.mgs_buffers.specs.MarkedBuffer.{MarkedBuffer}
use Rattle.mgs_engine.specs.Serving.{Serving}
use Rattle.mgs_journal.specs.Acts.{Act}
use Rattle.mgs_journal.specs.Rows.{KeptRights, rules_in_rows}
use Rattle.mgs_journal.specs.Texts.{KeptText}
use Rattle.mgs_resume.specs.Contents.{StartsWith}
use Rattle.mgs_resume.specs.Joined.{with_others}
use Rattle.mgs_server.specs.Listening.{at_first, first_world}
use Rattle.mgs_keep.specs.Ends.{AreNoted, ids_due}
use Rattle.mgs_keep.specs.Keeping.{AreKept, HasChanged, Held, recording}
use Rattle.mgs_keeper.specs.Start.{Starts}

-- with these buffers
pub starts : {J S : Type 0} (rows : J → List KeptRights) (does : J → Act → J → Type 0) (bodies : J → List (Option KeptText)) (taken : J → List ℕ → Bool) (failed : S → ℕ)
    (accepted : S → Option (List Saved)) (directory : Directory) (configured : List MarkedBuffer) (store : S) (journal : J)
    (buffers : List MarkedBuffer) (e : Serving) (k : Held J)
    → rules_kept buffers ≡ with_others (taken journal) (rules_in_rows (rows journal)) (rules_kept configured)
    → StartsWith (taken journal) configured (rules_in_rows (rows journal)) (bodies journal) buffers
    → e ≡ at_first (first_world directory buffers) (first_told failed accepted store) → k.serving ≡ recording e → (ids_due e ≡ [] → AreNoted k.serving k.users) → AreKept rows k.serving k.journal → HasChanged rows does None k.serving journal k.journal → k.failed ≡ false
    → Starts rows does bodies taken failed accepted directory configured store journal k
starts rows does bodies taken failed accepted directory configured store journal buffers e k rules texts first serves noted kept changed sound =
    record { buffers = buffers; rules = rules; texts = texts; serving = serves ∙ ap recording first; noted = noted (ap ids_due first); kept = kept; changed = changed; sound = sound }
