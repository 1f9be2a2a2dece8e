-- The places of files.
use Rattle.std.proofs.Common.{◌≡◌, ℕ, List, [], ◌∷◌, ◌++◌, map, ap, ◌∙◌, sym, append_assoc, append-nil, refl}
use Rattle.mgs_disk.specs.Places.{row_of, row_in}
use Rattle.mgs_config.specs.declared.config.BufferFile.{BufferFile}
use Rattle.mgs_disk.specs.declared.save_places.Place.{Place}

map_behind : (xs : List Place) (x : Place) → map row_in (xs ++ x ∷ []) ≡ map row_in xs ++ row_in x ∷ []
map_behind [] x = refl
map_behind (y ∷ xs) x = ap (λ l. row_in y ∷ l) (map_behind xs x)

-- a file has its place
pub placed : (places : List Place) (place : Place) (file : BufferFile) (old new : List BufferFile) (all : List (List ℕ × List ℕ)) → old ≡ file ∷ new → row_in place ≡ row_of file
    → map row_in places ++ map row_of old ≡ all → map row_in (places ++ place ∷ []) ++ map row_of new ≡ all
placed places place file old new all is same so =
    ap (λ l. l ++ map row_of new) (map_behind places place) ∙ append_assoc (map row_in places) (row_in place ∷ []) (map row_of new)
    ∙ ap (λ r. map row_in places ++ r ∷ map row_of new) same ∙ ap (λ l. map row_in places ++ map row_of l) (sym is) ∙ so

-- all have
pub placed_all : (places : List Place) (rest : List BufferFile) (all : List (List ℕ × List ℕ)) → rest ≡ [] → map row_in places ++ map row_of rest ≡ all → map row_in places ≡ all
placed_all places rest all none so = sym (append-nil (map row_in places)) ∙ ap (λ l. map row_in places ++ map row_of l) (sym none) ∙ so
