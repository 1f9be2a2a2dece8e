-- The births of buffers stay if an event does not touch all.
use Rattle.std.proofs.Common.{◌≡◌, true, false, Option, Some, None, refl, ap, ◌∙◌, sym}
use Rattle.mgs_model.specs.Events.{effect_in}
use Rattle.mgs_model.specs.Outcome.{Effect, Outcome, Create, Kill}
use Rattle.mgs_model.specs.declared.touched.Touched.{Touched}
use Rattle.mgs_model.specs.declared.touched.Touched.TheVariants.{Nowhere, In, Anywhere}
use Rattle.mgs_laws.specs.Apart.{is_anywhere, touched_by}
use Rattle.mgs_plan.specs.Tells.{touched_in}
use Rattle.mgs_births.specs.Births.{Births, birth_after, births_after}
use Rattle.mgs_core.specs.Turns.{touched_both}

not_apart : (t : Touched) → t ≡ Anywhere → is_anywhere t ≡ false → ⊥
not_apart t e f = let no : true ≡ false = sym (ap is_anywhere e) ∙ f in cc

birth_still : (e : Effect) (t : Touched) (b : Births) → t ≡ touched_by e → is_anywhere t ≡ false → birth_after e b ≡ b
birth_still (Create name owner) t b is apart = absurd (not_apart t is apart)
birth_still (Kill name) t b is apart = absurd (not_apart t is apart)
birth_still _ t b is apart = refl

pub births_still : (o : Option Outcome) (t : Touched) (b : Births) → t ≡ touched_in o → is_anywhere t ≡ false → births_after (effect_in o) b ≡ b
births_still None t b is apart = refl
births_still (Some o) t b is apart = birth_still o.effect t b is apart

pub both_apart : (s t : Touched) → is_anywhere (touched_both s t) ≡ false → (is_anywhere s ≡ false) × (is_anywhere t ≡ false)
both_apart Nowhere t e = (refl, e)
both_apart (In name) Nowhere e = (refl, refl)
both_apart (In name) (In other) e = (refl, refl)
both_apart (In name) Anywhere e = cc
both_apart Anywhere t e = cc
