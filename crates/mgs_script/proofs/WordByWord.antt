-- The words of a text, taken one after the other.
use Rattle.std.proofs.Common.{◌≡◌, ℕ, List, [], ◌∷◌, ◌++◌, map, Option, Bor, sym, ap, ◌∙◌, append_assoc}
use Rattle.std.proofs.lemmas.List.{map_push}
use Rattle.mgs_keys.specs.Words.{words_of}
use Rattle.mgs_keys.proofs.Taken.{words_left}

-- what the words are
abbrev pub all_now : List (Bor (List ℕ)) → List (List ℕ)
all_now ws = map (λ w. w.now) ws

-- one word more
pub words_more : (old new : List (Bor (List ℕ))) (word : Bor (List ℕ)) (t : List ℕ) (rest : Option (Bor (List ℕ))) (all : List (List ℕ))
    → new ≡ old ++ word ∷ [] → words_of t ≡ word.now ∷ words_left rest → all_now old ++ words_of t ≡ all → all_now new ++ words_left rest ≡ all
words_more old new word t rest all push cut so_far =
    ap (λ (ws : List (Bor (List ℕ))). all_now ws ++ words_left rest) push
    ∙ ap (λ (ws : List (List ℕ)). ws ++ words_left rest) (map_push (λ (w : Bor (List ℕ)). w.now) old word)
    ∙ append_assoc (all_now old) (word.now ∷ []) (words_left rest)
    ∙ ap (λ (ws : List (List ℕ)). all_now old ++ ws) (sym cut)
    ∙ so_far
