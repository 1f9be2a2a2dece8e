-- What a judge keeps once an act is done: nothing, where any owner, owning group or list may have changed, and else all.
use Rattle.std.specs.Prelude.{List, []}
use Rattle.mgs_model.specs.declared.touched.Touched.{Touched}
use Rattle.mgs_model.specs.declared.touched.Touched.TheVariants.{Nowhere, In, Anywhere}
use Rattle.mgs_cache.specs.Kept.{Kept}

abbrev pub judged_touched : Touched → List Kept → List Kept
judged_touched Anywhere keeps = []
judged_touched Nowhere keeps = keeps
judged_touched (In name) keeps = keeps
