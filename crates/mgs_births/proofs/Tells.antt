-- What is told of no reports, of one, and of some after others.
use Rattle.std.proofs.Common.{◌≡◌, ◌++◌, List, [], ◌∷◌, refl, sym, ap, ◌∙◌, append-nil}
use Rattle.std.proofs.lemmas.Grind.{flat_map-append}
use Rattle.std.specs.List.{flat_map}
use Rattle.mgs_model.specs.Events.{Saved, saved_by}
use Rattle.mgs_model.specs.Outcome.{Effect}
use Rattle.mgs_store.specs.Stores.{told_more}
use Rattle.mgs_store.proofs.Told.{told_none, told_twice}
use Rattle.mgs_births.specs.Births.{Births, birth_after, births_after}
use Rattle.mgs_births.specs.Reports.{Report, Did, Refused, effects_in}
use Rattle.mgs_births.specs.Tapes.{Tape, tape_after, tape_done}
use Rattle.mgs_births.specs.Telling.{IsSilent, StoreTold, Tells}

pub births_twice : (es fs : List Effect) (b : Births) → births_after (es ++ fs) b ≡ births_after fs (births_after es b)
births_twice [] fs b = refl
births_twice (e ∷ es) fs b = births_twice es fs (birth_after e b)

pub tape_twice : (rs ss : List Report) (t : Tape) → tape_after (rs ++ ss) t ≡ tape_after ss (tape_after rs t)
tape_twice [] ss t = refl
tape_twice (r ∷ rs) ss t = tape_twice rs ss (tape_after (r ∷ []) t)

pub effects_twice : (rs ss : List Report) → effects_in (rs ++ ss) ≡ effects_in rs ++ effects_in ss
effects_twice [] ss = refl
effects_twice (Did e ∷ rs) ss = ap (λ (es : List Effect). e ∷ es) (effects_twice rs ss)
effects_twice (Refused buffer d ∷ rs) ss = effects_twice rs ss

pub tells_none : (t : StoreTold) → Tells [] t t
tells_none t = record { saves = told_none t.accepted [] refl; births = refl; tape = refl }

-- an effect of which nothing is told
pub tells_quiet : (t : StoreTold) (e : Effect) → IsSilent e → Tells (Did e ∷ []) t t
tells_quiet t e s = record {
  saves = told_none t.accepted (flat_map saved_by (e ∷ [])) (append-nil (saved_by e) ∙ s.saves);
  births = sym (s.births t.births);
  tape = sym (s.tape t.tape);
}

-- one that saves nothing
pub tells_ruled : (s t : StoreTold) (e : Effect) → saved_by e ≡ [] → t.accepted ≡ s.accepted → t.births ≡ birth_after e s.births → t.tape ≡ tape_done e s.tape → Tells (Did e ∷ []) s t
tells_ruled s t e saves same born taped = record {
  saves = same ∙ told_none s.accepted (flat_map saved_by (e ∷ [])) (append-nil (saved_by e) ∙ saves);
  births = born;
  tape = taped;
}

-- a save
pub tells_saved : (s t : StoreTold) (e : Effect) → ((b : Births) → birth_after e b ≡ b) → t.accepted ≡ told_more (saved_by e) s.accepted → t.births ≡ s.births → t.tape ≡ tape_done e s.tape → Tells (Did e ∷ []) s t
tells_saved s t e stay saves same taped = record {
  saves = saves ∙ ap (λ (xs : List Saved). told_more xs s.accepted) (sym (append-nil (saved_by e)));
  births = same ∙ sym (stay s.births);
  tape = taped;
}

-- reports without an effect
pub tells_taped : (s t : StoreTold) (rs : List Report) → effects_in rs ≡ [] → t.accepted ≡ s.accepted → t.births ≡ s.births → t.tape ≡ tape_after rs s.tape → Tells rs s t
tells_taped s t rs none same born taped = record {
  saves = same ∙ told_none s.accepted (flat_map saved_by (effects_in rs)) (ap (λ (es : List Effect). flat_map saved_by es) none);
  births = born ∙ ap (λ (es : List Effect). births_after es s.births) (sym none);
  tape = taped;
}

-- one after another
pub tells_twice : (rs ss : List Report) (s t u : StoreTold) → Tells rs s t → Tells ss t u → Tells (rs ++ ss) s u
tells_twice rs ss s t u a b = record {
  saves =
      b.saves
      ∙ ap (told_more (flat_map saved_by (effects_in ss))) a.saves
      ∙ told_twice s.accepted (flat_map saved_by (effects_in rs)) (flat_map saved_by (effects_in ss))
      ∙ ap (λ (xs : List Saved). told_more xs s.accepted) (sym (ap (λ (es : List Effect). flat_map saved_by es) (effects_twice rs ss) ∙ flat_map-append saved_by (effects_in rs) (effects_in ss)));
  births = b.births ∙ ap (births_after (effects_in ss)) a.births ∙ sym (ap (λ (es : List Effect). births_after es s.births) (effects_twice rs ss) ∙ births_twice (effects_in rs) (effects_in ss) s.births);
  tape = b.tape ∙ ap (tape_after ss) a.tape ∙ sym (tape_twice rs ss s.tape);
}
