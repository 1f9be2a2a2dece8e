-- What a cache holds, as decisions that are kept.
use Rattle.std.specs.Prelude.{List, map}
use Rattle.mgs_model.specs.declared.entry.Decision.{Decision}
use Rattle.mgs_cache.specs.declared.request.Request.{Request}
use Rattle.mgs_cache.specs.Kept.{Kept, kept}

abbrev pub kept_as : Request × Decision → Kept
kept_as e = kept e.0.buffer e.0.user e.0.mask e.1

abbrev pub kept_all : List (Request × Decision) → List Kept
kept_all entries = map kept_as entries
