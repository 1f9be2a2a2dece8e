use Rattle.std.proofs.Common.{ℕ, List, ◌≡◌}
use Rattle.mgs_model.specs.Access.{Directory}
use Rattle.mgs_model.specs.declared.owners.Owners.{Owners}
use Rattle.mgs_model.specs.declared.entry.Entry.{Entry}
use Rattle.mgs_cache.specs.Kept.{AreRight}
use Rattle.mgs_text_tests.proofs.judge.ask.Given as goal

abbrev pub invariant-loop-user : goal.invariant-loop-user
invariant-loop-user g l =
    record {
      right : AreRight l.place l.directory l.owners l.list l.judge;
      others : (other : ℕ) (users : Directory) (whose : Owners) (entries : List Entry) → (l.place ≡ other → ⊥) → AreRight other users whose entries l.initial.judge → AreRight other users whose entries l.judge;
    }
