-- Where the rights of a plan are granted, its doing is.
use Rattle.std.proofs.Common.{◌≡◌, ◌==◌, ◌+◌, ℕ, Bool, true, false, cond, List, [], ◌∷◌, refl, sym, ap, subst, ◌∙◌}
use Rattle.std.specs.Prelude.{filter_map, find}
use Rattle.mgs_model.proofs.Deciding.{granted_each}
use Rattle.mgs_model.specs.Access.{Decider, Nobody, Allows, Denies, Directory, allows, decided, decision_by, denial_of, is_nobody}
use Rattle.mgs_model.specs.Rights.{rights_in}
use Rattle.mgs_model.specs.declared.entry.Decision.TheVariants.{Granted}
use Rattle.mgs_model.specs.declared.right.Right.{Right}
use Rattle.mgs_model.specs.declared.right.Right.TheVariants.{ReadData, WriteData, AppendData}
use Rattle.mgs_model.specs.declared.session.Command.{Command}
use Rattle.mgs_model.specs.declared.session.Command.TheVariants.{Insert, InsertReading, Alter, UndoEdit, NotModified}
use Rattle.mgs_buffers.specs.Changing.{writes}
use Rattle.mgs_buffers.specs.MarkedBuffer.{MarkedBuffer}
use Rattle.mgs_plan.specs.Actions.{IsDoneBy, insertion_mask, mask_at, reading_mask_at}
use Rattle.mgs_plan.specs.Deciding.{IsActionGranted, IsGranted}
use Rattle.mgs_plan.specs.declared.action.Action.{Action}
use Rattle.mgs_plan.specs.declared.action.Action.TheVariants.{Fails, Edits, Undoes, Moves, Clears}

pub action_granted : (directory : Directory) (ks : List MarkedBuffer) (user name : List ℕ) (mask : ℕ) (action : Action) → IsDoneBy mask action → IsGranted directory ks user name mask → IsActionGranted directory ks user name action
action_granted directory ks user name mask (Fails message) by granted = tt
action_granted directory ks user name mask (Edits m c) by granted = (subst (IsGranted directory ks user name) (sym by.0) granted, by.1)
action_granted directory ks user name mask (Undoes u) by granted = subst (IsGranted directory ks user name) by granted
action_granted directory ks user name mask (Moves f) by granted = tt
action_granted directory ks user name mask Clears by granted = subst (IsGranted directory ks user name) by granted

-- an insertion is by a right to write
insertion_writes : (place size : ℕ) → writes (insertion_mask place size) ≡ true
insertion_writes place size = go (place == size)
  where
    go : (b : Bool) → writes (cond b 4 2) ≡ true
    go true = refl
    go false = refl

reading_writes : (place size : ℕ) → writes (1 + insertion_mask place size) ≡ true
reading_writes place size = go (place == size)
  where
    go : (b : Bool) → writes (1 + cond b 4 2) ≡ true
    go true = refl
    go false = refl

-- one walk that grants what a command needs and to read grants both
granted_one : (d : Decider) (right : Right) → allows d ≡ true → decided (filter_map (λ r. denial_of d r) (right ∷ [])) (find (λ r. is_nobody d) (right ∷ [])) ≡ Granted
granted_one Nobody right e = cc
granted_one (Allows n) right e = refl
granted_one (Denies n) right e = cc

pub reading_granted : (d : Right → Decider) (c : Command) (place size : ℕ) → decision_by d (rights_in (reading_mask_at c place size)) ≡ Granted → (allows (d ReadData) ≡ true) × (decision_by d (rights_in (mask_at c place size)) ≡ Granted)
reading_granted d (Insert c) place size e = go (place == size) e
  where
    go : (b : Bool) → decision_by d (rights_in (1 + cond b 4 2)) ≡ Granted → (allows (d ReadData) ≡ true) × (decision_by d (rights_in (cond b 4 2)) ≡ Granted)
    go true e = let each = granted_each d (ReadData ∷ AppendData ∷ []) e in (each.0, granted_one (d AppendData) AppendData each.1.0)
    go false e = let each = granted_each d (ReadData ∷ WriteData ∷ []) e in (each.0, granted_one (d WriteData) WriteData each.1.0)
reading_granted d (InsertReading c) place size e = go (place == size) e
  where
    go : (b : Bool) → decision_by d (rights_in (1 + cond b 4 2)) ≡ Granted → (allows (d ReadData) ≡ true) × (decision_by d (rights_in (1 + cond b 4 2)) ≡ Granted)
    go true e = ((granted_each d (ReadData ∷ AppendData ∷ []) e).0, e)
    go false e = ((granted_each d (ReadData ∷ WriteData ∷ []) e).0, e)
reading_granted d (Alter c) place size e = ((granted_each d (ReadData ∷ WriteData ∷ []) e).0, e)
reading_granted d UndoEdit place size e = ((granted_each d (ReadData ∷ WriteData ∷ []) e).0, e)
reading_granted d NotModified place size e = ((granted_each d (ReadData ∷ WriteData ∷ []) e).0, e)
reading_granted d _ place size e = ((granted_each d (ReadData ∷ []) e).0, e)

-- of a command, by what it needs
module _ (mask place size : ℕ) (c k : Command) (needed : mask ≡ mask_at c place size) (is : c ≡ k) where
  mask_is : mask ≡ mask_at k place size
  mask_is = needed ∙ ap (λ (x : Command). mask_at x place size) is

  pub writes_so : writes (mask_at k place size) ≡ true → writes mask ≡ true
  writes_so so = ap writes mask_is ∙ so

  pub three_so : mask_at k place size ≡ 3 → mask ≡ 3
  three_so so = mask_is ∙ so

pub insertion_writes_so : (mask place size : ℕ) (c k : Command) → mask ≡ mask_at c place size → c ≡ k → mask_at k place size ≡ insertion_mask place size → writes mask ≡ true
insertion_writes_so mask place size c k needed is so = writes_so mask place size c k needed is (ap writes so ∙ insertion_writes place size)

pub reading_writes_so : (mask place size : ℕ) (c k : Command) → mask ≡ mask_at c place size → c ≡ k → mask_at k place size ≡ 1 + insertion_mask place size → writes mask ≡ true
reading_writes_so mask place size c k needed is so = writes_so mask place size c k needed is (ap writes so ∙ reading_writes place size)
