-- What a judge keeps is right for the buffers as a byte leaves them.
use Rattle.std.proofs.Common.{ℕ, List, refl, sym, subst}
use Rattle.mgs_model.specs.Access.{Directory}
use Rattle.mgs_laws.specs.Apart.{Apart, Rules, rules_in}
use Rattle.mgs_model.specs.World.{World}
use Rattle.mgs_model.specs.declared.touched.Touched.{Touched}
use Rattle.mgs_model.specs.declared.touched.Touched.TheVariants.{Anywhere}
use Rattle.mgs_cache.specs.Kept.{Kept}
use Rattle.mgs_buffers.specs.Judging.{AreJudged}
use Rattle.mgs_buffers.proofs.Judged.{judged_none}
use Rattle.mgs_core.specs.Judged.{judged_touched}

pub touched_judged : (d : Directory) (t : Touched) (id : ℕ) (w v : World) (keeps : List Kept) → Apart t id w v → AreJudged d (rules_in w.buffers) keeps → AreJudged d (rules_in v.buffers) (judged_touched t keeps)
touched_judged d Anywhere id w v keeps a h = judged_none d (rules_in v.buffers)
touched_judged d _ id w v keeps a h = subst (λ (rs : List Rules). AreJudged d rs keeps) (sym (a.rules refl)) h
