-- Steps that follow each other.
use Rattle.std.proofs.Common.{◌≡◌, ◌<◌, ℕ, zero, suc, List, [], ◌∷◌, ◌++◌, Option, None, Some, length, take, refl, sym, arith, ap, ◌∙◌, append_assoc, append-nil}
use Rattle.std.specs.Option.{option_map}
use Rattle.std.specs.Path.{path_parent}
use Rattle.mgs_written.specs.Steps.{Step, Created, FolderSynced, Discarded, Renamed, told, filled, placed, put, folder_synced, saved, IsPart, IsUnsaved}

told_nothing : (k : Option (List Step)) → told [] k ≡ k
told_nothing None = refl
told_nothing (Some zs) = ap (λ (s : List Step). Some s) (append-nil zs)

told_twice : (k : Option (List Step)) (xs ys : List Step) → told ys (told xs k) ≡ told (xs ++ ys) k
told_twice None xs ys = refl
told_twice (Some zs) xs ys = ap (λ (s : List Step). Some s) (append_assoc zs xs ys)

pub told_more : (k0 k1 k2 : Option (List Step)) (xs ys : List Step) → k1 ≡ told xs k0 → k2 ≡ told ys k1 → k2 ≡ told (xs ++ ys) k0
told_more k0 k1 k2 xs ys p q = q ∙ ap (told ys) p ∙ told_twice k0 xs ys

told_four : (k0 k1 k2 k3 k4 : Option (List Step)) (a b c d : Step) → k1 ≡ told (a ∷ []) k0 → k2 ≡ told (b ∷ []) k1 → k3 ≡ told (c ∷ []) k2
    → k4 ≡ told (d ∷ []) k3 → k4 ≡ told (a ∷ b ∷ c ∷ d ∷ []) k0
told_four k0 k1 k2 k3 k4 a b c d p q r s =
    let two = told_more k0 k1 k2 (a ∷ []) (b ∷ []) p q in
    let three = told_more k0 k2 k3 (a ∷ b ∷ []) (c ∷ []) two r in
    told_more k0 k3 k4 (a ∷ b ∷ c ∷ []) (d ∷ []) three s

pub told_five : (k0 k1 k2 k3 k4 k5 : Option (List Step)) (a b c d e : Step) → k1 ≡ told (a ∷ []) k0 → k2 ≡ told (b ∷ []) k1 → k3 ≡ told (c ∷ []) k2
    → k4 ≡ told (d ∷ []) k3 → k5 ≡ told (e ∷ []) k4 → k5 ≡ told (a ∷ b ∷ c ∷ d ∷ e ∷ []) k0
told_five k0 k1 k2 k3 k4 k5 a b c d e p q r s t =
    told_more k0 k4 k5 (a ∷ b ∷ c ∷ d ∷ []) (e ∷ []) (told_four k0 k1 k2 k3 k4 a b c d p q r s) t

-- PARTS

-- nothing was done
pub part_none : (a : Step) (steps : List Step) (k0 k1 : Option (List Step)) → k1 ≡ k0 → IsPart (a ∷ steps) k0 k1
part_none a steps k0 k1 same = record { count = 0; few = omega arith; done = same ∙ sym (told_nothing k0) }

-- two were done, and the third was not
pub part_two : (a b c : Step) (steps : List Step) (k0 k1 k2 k3 : Option (List Step)) → k1 ≡ told (a ∷ []) k0 → k2 ≡ told (b ∷ []) k1 → k3 ≡ k2
    → IsPart (a ∷ b ∷ c ∷ steps) k0 k3
part_two a b c steps k0 k1 k2 k3 p q same = record { count = 2; few = omega arith; done = same ∙ told_more k0 k1 k2 (a ∷ []) (b ∷ []) p q }

-- four were done, and the fifth was not
pub part_four : (a b c d e : Step) (steps : List Step) (k0 k1 k2 k3 k4 k5 : Option (List Step)) → k1 ≡ told (a ∷ []) k0 → k2 ≡ told (b ∷ []) k1
    → k3 ≡ told (c ∷ []) k2 → k4 ≡ told (d ∷ []) k3 → k5 ≡ k4 → IsPart (a ∷ b ∷ c ∷ d ∷ e ∷ steps) k0 k5
part_four a b c d e steps k0 k1 k2 k3 k4 k5 p q r s same =
    record { count = 4; few = omega arith; done = same ∙ told_four k0 k1 k2 k3 k4 a b c d p q r s }

take_ahead : (n : ℕ) (xs ys : List Step) → n < length xs → take n xs ≡ take n (xs ++ ys)
take_ahead zero xs ys l = refl
take_ahead (suc n) [] ys l = absurd (omega (arith, l))
take_ahead (suc n) (x ∷ xs) ys l = ap (λ (s : List Step). x ∷ s) (take_ahead n xs ys (omega (arith, l)))

-- a part of what fills a file is one of what places it
pub part_placed : (path bytes : List ℕ) (k0 k1 : Option (List Step)) → IsPart (filled bytes) k0 k1 → IsPart (placed path bytes) k0 k1
part_placed path bytes k0 k1 part = record {
  count = part.count;
  few = let n = part.few in omega (arith, n);
  done = part.done ∙ ap (λ s. told s k0) (take_ahead part.count (filled bytes) (Renamed path ∷ []) part.few);
}

-- all but the last were done
pub part_filled : (path bytes : List ℕ) (k0 k1 k2 : Option (List Step)) → k1 ≡ told (filled bytes) k0 → k2 ≡ k1 → IsPart (placed path bytes) k0 k2
part_filled path bytes k0 k1 k2 p same = record { count = 5; few = omega arith; done = same ∙ p }

-- SAVES

pub folder_told : {A : Type 0} (to : A → List ℕ) (found : Option A) (folder : A) (parent : Option (List ℕ)) (k0 k1 : Option (List Step)) → option_map to found ≡ parent → found ≡ Some folder
    → k1 ≡ told (FolderSynced (to folder) ∷ []) k0 → k1 ≡ told (folder_synced parent) k0
folder_told to found folder parent k0 k1 is some p = p ∙ ap (λ f. told (folder_synced f) k0) (sym (ap (option_map to) some) ∙ is)

pub folder_none : {A : Type 0} (to : A → List ℕ) (found : Option A) (parent : Option (List ℕ)) (k0 k1 : Option (List Step)) → option_map to found ≡ parent → found ≡ None
    → k1 ≡ k0 → k1 ≡ told (folder_synced parent) k0
folder_none to found parent k0 k1 is none p = p ∙ sym (told_nothing k0) ∙ ap (λ f. told (folder_synced f) k0) (sym (ap (option_map to) none) ∙ is)

-- the new file was begun for all bytes
begun_for : (path bytes : List ℕ) (size : ℕ) (k0 k1 : Option (List Step)) → size ≡ length bytes → k1 ≡ told (Created path size ∷ []) k0 → k1 ≡ told (Created path (length bytes) ∷ []) k0
begun_for path bytes size k0 k1 all p = p ∙ ap (λ n. told (Created path n ∷ []) k0) all

pub saved_so : (path bytes : List ℕ) (size : ℕ) (k0 k1 k2 k3 : Option (List Step)) → size ≡ length bytes → k1 ≡ told (Created path size ∷ []) k0
    → k2 ≡ told (placed path bytes) k1 → k3 ≡ told (folder_synced (path_parent path)) k2 → k3 ≡ told (saved path bytes) k0
saved_so path bytes size k0 k1 k2 k3 all p q r =
    let begun = begun_for path bytes size k0 k1 all p in
    told_more k0 k2 k3 (put path bytes) (folder_synced (path_parent path)) (told_more k0 k1 k2 (Created path (length bytes) ∷ []) (placed path bytes) begun q) r

pub unsaved_none : (path bytes : List ℕ) (k0 k1 : Option (List Step)) → k1 ≡ k0 → IsUnsaved path bytes k0 k1
unsaved_none path bytes k0 k1 same = record { count = 0; few = omega arith; done = same ∙ sym (told_nothing k0) }

pub unsaved_part : (path bytes : List ℕ) (size : ℕ) (k0 k1 k2 k3 : Option (List Step)) → size ≡ length bytes → k1 ≡ told (Created path size ∷ []) k0
    → IsPart (placed path bytes) k1 k2 → k3 ≡ told (Discarded ∷ []) k2 → IsUnsaved path bytes k0 k3
unsaved_part path bytes size k0 k1 k2 k3 all p part r =
    let first = Created path (length bytes) in
    let done = take part.count (placed path bytes) in
    let begun = begun_for path bytes size k0 k1 all p in record {
      count = suc part.count;
      few = let n = part.few in omega (arith, n);
      done = told_more k0 k2 k3 (first ∷ done) (Discarded ∷ []) (told_more k0 k1 k2 (first ∷ []) done begun part.done) r;
    }
