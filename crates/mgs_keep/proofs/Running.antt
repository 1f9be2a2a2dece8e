-- What is done of a kept server is done of the one within, over a tape that no byte clears.
use Rattle.std.proofs.Common.{◌≡◌, List, [], ◌∷◌, Option, ap}
use Rattle.mgs_births.specs.Tapes.{Tape}
use Rattle.mgs_wire.specs.Calls.{AreMade, Call}
use Rattle.mgs_engine.specs.Does.{Does}
use Rattle.mgs_engine.specs.Serving.{Serving}
use Rattle.mgs_journal.specs.Acts.{Act}
use Rattle.mgs_journal.specs.Rows.{KeptRights}
use Rattle.mgs_journal.specs.Texts.{KeptText}
use Rattle.mgs_engine.proofs.Running as server
use Rattle.mgs_engine.specs.Running.{Ran}
use Rattle.mgs_keep.specs.Keeping.{Held, Keeps, with_tape}
use Rattle.mgs_keep.proofs.Retaped.{retaped}

module _ {J : Type 0} (rows : J → List KeptRights) (texts : J → List (Option KeptText)) (does : J → Act → J → Type 0) (fails : J → J → Type 0) where
  made_within : (first mid : Held J) (calls : List Call) → AreMade (Keeps rows texts does fails) first calls mid → (x : Tape)
      → (y : Tape) × AreMade Does (with_tape x first.serving) calls (with_tape y mid.serving)
  made_within first mid [] made x = (x, ap (λ (s : Held J). with_tape x s.serving) made)
  made_within first mid (c ∷ cs) made x =
      let one = retaped first.serving made.0.serving c made.1.done x in
      let rest = made_within made.0 mid cs made.2 one.0 in (rest.0, (with_tape one.0 made.0.serving, one.1, rest.1))

  pub has_run : (mid : Held J) (new : Serving) → new ≡ record mid.serving { ended = [] } → (first : Held J) (calls : List Call) → AreMade (Keeps rows texts does fails) first calls mid
      → (x : Tape) → (y : Tape) × Ran (with_tape x first.serving) calls (with_tape y mid.serving) (with_tape y new)
  has_run mid new told first calls made x =
      let within = made_within first mid calls made x in
      (within.0, server.has_run (with_tape within.0 mid.serving) (with_tape within.0 new) (ap (with_tape within.0) told) (with_tape x first.serving) calls within.1)
