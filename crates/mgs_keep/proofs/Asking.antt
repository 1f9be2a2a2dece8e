-- What a journal is asked for, one part after another.
use Rattle.std.proofs.Common.{◌≡◌, ℕ, Bool, true, false, List, [], ◌∷◌, ◌++◌, map, Option, refl, sym, ap, ◌∙◌, subst}
use Rattle.mgs_journal.specs.Acts.{Act, Alter, Tell, AreDone}
use Rattle.mgs_journal.specs.Changes.{rows_changed}
use Rattle.mgs_journal.specs.Rows.{KeptRights}
use Rattle.mgs_journal.specs.Texts.{KeptText}
use Rattle.mgs_journal.specs.declared.Told.{Told}
use Rattle.mgs_journal.specs.declared.change.Change.{Change}
use Rattle.mgs_engine.specs.Serving.{Serving}
use Rattle.mgs_keep.specs.Differences.{AreDifferences}
use Rattle.mgs_keep.specs.Keeping.{AreKept, Asked, HasChanged, HasPut, IsSnapshot, OrFails, WereTold, altered, rows_in}
use Rattle.mgs_keep.proofs.Differences.{lead_behind, none_differ}

map_then : {A B : Type 0} (f : A → B) (xs ys : List A) → map f (xs ++ ys) ≡ map f xs ++ map f ys
map_then f [] ys = refl
map_then f (x ∷ xs) ys = ap (λ zs. f x ∷ zs) (map_then f xs ys)

module _ {J : Type 0} (does : J → Act → J → Type 0) where
  pub done_then : (xs ys : List Act) (old mid new : J) → AreDone does xs old mid → AreDone does ys mid new → AreDone does (xs ++ ys) old new
  done_then [] ys old mid new p q = subst (λ s. AreDone does ys s new) p q
  done_then (x ∷ xs) ys old mid new p q = (p.0, p.1, done_then xs ys p.0 mid new p.2 q)

  -- CHANGES

  pub none_changed : (rows : J → List KeptRights) (user : Option (List ℕ)) (s : Serving) (old : J) → AreKept rows s old → HasChanged rows does user s old old
  none_changed rows user s old kept = record {
    changes = [];
    each = subst (λ rs. AreDifferences 0 (rows_in s) rs []) (sym kept) (none_differ 0 (rows_in s));
    done = refl;
  }

  -- none are to be made
  pub over_changed : (rows : J → List KeptRights) (user : Option (List ℕ)) (s : Serving) (old : J) (cs : List Change) → AreDifferences 0 (rows_in s) (rows old) cs → cs ≡ [] → HasChanged rows does user s old old
  over_changed rows user s old cs each none = record { changes = []; each = subst (λ xs. AreDifferences 0 (rows_in s) (rows old) xs) none each; done = refl }

  pub over_kept : (rows : J → List KeptRights) (s : Serving) (old : J) (cs : List Change) → AreDifferences 0 (rows_in s) (rows old) cs → cs ≡ [] → AreKept rows s old
  over_kept rows s old cs each none =
      sym (ap (λ xs. rows_changed xs (rows old)) none) ∙ lead_behind 0 (rows_in s) (rows old) cs [] refl each

  -- they were made
  pub one_changed : (rows : J → List KeptRights) (user : Option (List ℕ)) (s : Serving) (old new : J) (cs : List Change) → AreDifferences 0 (rows_in s) (rows old) cs → does old (Alter user cs) new
      → (cs ≡ [] → ⊥) → HasChanged rows does user s old new
  one_changed rows user s old new [] each is some = absurd (some refl)
  one_changed rows user s old new (c ∷ cs) each is some = record { changes = c ∷ cs; each = each; done = (new, is, refl) }

  pub changed_kept : (rows : J → List KeptRights) (s : Serving) (old new : J) (cs : List Change) → AreDifferences 0 (rows_in s) (rows old) cs → rows new ≡ rows_changed cs (rows old) → AreKept rows s new
  changed_kept rows s old new cs each is = is ∙ lead_behind 0 (rows_in s) (rows old) cs [] refl each

  -- TEXTS

  pub none_put : (texts : J → List (Option KeptText)) (s : Serving) (old : J) → HasPut texts does s old old
  none_put texts s old = record { acts = []; done = refl }

  pub one_put : (texts : J → List (Option KeptText)) (s : Serving) (a : Act) (old new : J) → IsSnapshot texts s old a → does old a new → HasPut texts does s old new
  one_put texts s a old new is d = record { acts = a ∷ []; done = (new, is, d, refl) }

  -- changes, what is told of them, and texts
  pub asked_then : (rows : J → List KeptRights) (texts : J → List (Option KeptText)) (user : Option (List ℕ)) (told : List Told) (s : Serving) (old mid then new : J) → HasChanged rows does user s old mid
      → WereTold does told mid then → HasPut texts does s then new → Asked rows texts does user told s old new
  asked_then rows texts user told s old mid then new p q r = record {
    changes = p.changes;
    each = p.each;
    mid = then;
    done = done_then (altered user p.changes) (map Tell told) old mid then p.done q;
    put = r;
  }

  pub told_alone : (rows : J → List KeptRights) (texts : J → List (Option KeptText)) (user : Option (List ℕ)) (told : List Told) (s : Serving) (old new : J) → AreKept rows s old → WereTold does told old new
      → Asked rows texts does user told s old new
  told_alone rows texts user told s old new kept q = asked_then rows texts user told s old old new new (none_changed rows user s old kept) q (none_put texts s new)

  -- what is told, and then more
  pub told_then : (xs ys : List Told) (old mid new : J) → WereTold does xs old mid → WereTold does ys mid new → WereTold does (xs ++ ys) old new
  told_then xs ys old mid new p q = subst (λ acts. AreDone does acts old new) (sym (map_then Tell xs ys)) (done_then (map Tell xs) (map Tell ys) old mid new p q)

-- A PART AFTER ANOTHER, unless the journal fails
module _ {J : Type 0} (fails : J → J → Type 0) where
  none_failed : (b : Bool) → b ≡ false → b ≡ true → ⊥
  none_failed true p q = cc
  none_failed false p q = cc

  -- nothing was asked for
  pub asks_nothing : (asked : J → J → Type 0) (b : Bool) (old : J) → asked old old → OrFails fails asked b old b old
  asks_nothing asked b old is = record { done = λ e. is; failed = λ p q. absurd (none_failed b p q); stays = λ e. (e, refl) }

  pub stayed : (b c : Bool) → (b ≡ true → c ≡ true) → c ≡ false → b ≡ false
  stayed true c more e = absurd (none_failed c e (more refl))
  stayed false c more e = refl

  failed_either : (first then : J → J → Type 0) (b c d : Bool) (old mid new : J) → b ≡ false → d ≡ true → OrFails fails first b old c mid → OrFails fails then c mid d new → (before : J) × fails before new
  failed_either first then b true d old mid new p q one two = subst (λ j. (before : J) × fails before j) (sym (two.stays refl).1) (one.failed p refl)
  failed_either first then b false d old mid new p q one two = two.failed refl q

  pub asks_then : (first then both : J → J → Type 0) (b c d : Bool) (old mid new : J) → (first old mid → then mid new → both old new)
      → OrFails fails first b old c mid → OrFails fails then c mid d new → OrFails fails both b old d new
  asks_then first then both b c d old mid new join one two = record {
    done = λ e. join (one.done (stayed c d (λ f. (two.stays f).0) e)) (two.done e);
    failed = λ p q. failed_either first then b c d old mid new p q one two;
    stays = λ e. ((two.stays (one.stays e).0).0, (two.stays (one.stays e).0).1 ∙ (one.stays e).1);
  }

  pub asks_so : (first both : J → J → Type 0) (b c : Bool) (old new : J) → (b ≡ false → first old new → both old new) → OrFails fails first b old c new → OrFails fails both b old c new
  asks_so first both b c old new so one = record { done = λ e. so (stayed b c (λ f. (one.stays f).0) e) (one.done e); failed = one.failed; stays = one.stays }

  -- it took that, it did not, or it is not asked any more
  pub took : (asked : J → J → Type 0) (b : Bool) (old new : J) → b ≡ false → asked old new → OrFails fails asked b old b new
  took asked b old new e is = record { done = λ f. is; failed = λ p q. absurd (none_failed b p q); stays = λ f. absurd (none_failed b e f) }

  pub fell : (asked : J → J → Type 0) (b : Bool) (old new : J) → b ≡ false → (mid : J) × fails mid new → OrFails fails asked b old true new
  fell asked b old new e is = record { done = λ f. absurd (none_failed true f refl); failed = λ p q. is; stays = λ f. absurd (none_failed b e f) }

  pub gave_up : (asked : J → J → Type 0) (b : Bool) (old : J) → b ≡ true → OrFails fails asked b old b old
  gave_up asked b old e = record { done = λ f. absurd (none_failed b f e); failed = λ p q. absurd (none_failed b p q); stays = λ f. (f, refl) }

-- what fails for one cause fails for one of several
pub fails_so : {J : Type 0} (fails more : J → J → Type 0) (asked : J → J → Type 0) (b c : Bool) (old new : J) → ((i j : J) → fails i j → more i j) → OrFails fails asked b old c new → OrFails more asked b old c new
fails_so fails more asked b c old new so one = record {
  done = one.done;
  failed = λ p q. let is = one.failed p q in (is.0, so is.0 new is.1);
  stays = one.stays;
}
