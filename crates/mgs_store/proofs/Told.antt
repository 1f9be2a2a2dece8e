-- What a store tells, with more behind it.
use Rattle.std.proofs.Common.{◌≡◌, ◌++◌, List, [], Option, Some, None, refl, sym, ap, ◌∙◌, append-nil, append_assoc}
use Rattle.mgs_model.specs.Events.{Saved}
use Rattle.mgs_store.specs.Stores.{told_more}

-- where nothing is saved it stays
pub told_none : (o : Option (List Saved)) (more : List Saved) → more ≡ [] → o ≡ told_more more o
told_none None more e = refl
told_none (Some xs) more e = ap (λ (zs : List Saved). Some zs) (sym (append-nil xs) ∙ ap (λ (zs : List Saved). xs ++ zs) (sym e))

-- one after another
pub told_twice : (o : Option (List Saved)) (more rest : List Saved) → told_more rest (told_more more o) ≡ told_more (more ++ rest) o
told_twice None more rest = refl
told_twice (Some xs) more rest = ap (λ (zs : List Saved). Some zs) (append_assoc xs more rest)
