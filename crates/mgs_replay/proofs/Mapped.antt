-- A list whose elements are changed one after another.
use Rattle.std.proofs.Common.{◌≡◌, ℕ, ◌+◌, ◌<◌, List, ◌++◌, [], ◌∷◌, length, map, take, drop, get_or, set, arith, sym, ap, ◌∙◌, add-zero}
use Rattle.std.proofs.lemmas.List.{take_more_set, take_more, drop-set-lt, drop-drop, get_or-drop, map-append}

-- what stands at a place from which two lists are the same
pub same_at : {A : Type 0} (xs ys : List A) (i : ℕ) (d : A) → drop i xs ≡ drop i ys → get_or xs i d ≡ get_or ys i d
same_at xs ys i d e =
    ap (λ n. get_or xs n d) (sym (add-zero i)) ∙ sym (get_or-drop i xs 0 d)
    ∙ ap (λ zs. get_or zs 0 d) e
    ∙ get_or-drop i ys 0 d ∙ ap (λ n. get_or ys n d) (add-zero i)

-- one element more is changed
pub mapped_more : {A : Type 0} (f : A → A) (xs ys : List A) (i : ℕ) (d y : A)
    → i < length xs → i < length ys → y ≡ f (get_or xs i d)
    → take i xs ≡ map f (take i ys) → drop i xs ≡ drop i ys → take (i + 1) (set xs i y) ≡ map f (take (i + 1) ys)
mapped_more f xs ys i d y l m is done rest =
    take_more_set xs i y l
    ∙ ap (λ zs. zs ++ y ∷ []) done
    ∙ ap (λ z. map f (take i ys) ++ z ∷ []) (is ∙ ap f (same_at xs ys i d rest))
    ∙ sym (map-append f (take i ys) (get_or ys i d ∷ []))
    ∙ ap (map f) (sym (take_more ys i d m))

pub rest_more : {A : Type 0} (xs ys : List A) (i : ℕ) (y : A) → drop i xs ≡ drop i ys → drop (i + 1) (set xs i y) ≡ drop (i + 1) ys
rest_more xs ys i y e = drop-set-lt (i + 1) xs i y (omega arith) ∙ sym (drop-drop 1 i xs) ∙ ap (drop 1) e ∙ drop-drop 1 i ys
