-- Words taken one after the other.
use Rattle.std.proofs.Common.{◌≡◌, ℕ, List, ◌∷◌, ◌++◌, Option, Some, None, is_some, Bor, refl, sym, ap, ◌∙◌, append_assoc}
use Rattle.std.specs.Option.{option_map}
use Rattle.mgs_model.specs.Names.{is_space}
use Rattle.mgs_keys.specs.Words.{words_of, word_of, words_after, parts_after}
use Rattle.mgs_keys.specs.Tokens.{spelled_by, then_bytes}
use Rattle.mgs_keys.proofs.Cuts.{parts_cut}

-- the words of what is left of a text
abbrev pub words_left : Option (Bor (List ℕ)) → List (List ℕ)
words_left rest = parts_after is_space (option_map (λ x. x.now) rest)

-- the words of a text that is cut at its first space
pub words_cut : (t word : List ℕ) (rest : Option (Bor (List ℕ))) → word ≡ word_of t → option_map (λ x. x.now) rest ≡ words_after t → words_of t ≡ word ∷ words_left rest
words_cut t word rest first after = parts_cut is_space t word (option_map (λ x. x.now) rest) first after

all_some : (bs : List ℕ) (later : Option (List ℕ)) → is_some (then_bytes (Some bs) later) ≡ is_some later
all_some bs None = refl
all_some bs (Some cs) = refl

regrouped : (front bs : List ℕ) (later : Option (List ℕ)) → then_bytes (Some front) (then_bytes (Some bs) later) ≡ then_bytes (Some (front ++ bs)) later
regrouped front bs None = refl
regrouped front bs (Some cs) = ap (λ (x : List ℕ). Some x) (sym (append_assoc front bs cs))

-- the bytes of one token more
pub bytes_more : (f : List ℕ → Option (List ℕ)) (t word bs old new : List ℕ) (rest : Option (Bor (List ℕ))) (all : Option (List ℕ))
    → words_of t ≡ word ∷ words_left rest → Some bs ≡ f word → new ≡ old ++ bs
    → then_bytes (Some old) (spelled_by f (words_of t)) ≡ all → then_bytes (Some new) (spelled_by f (words_left rest)) ≡ all
bytes_more f t word bs old new rest all cut told push so_far =
    ap (λ (x : List ℕ). then_bytes (Some x) (spelled_by f (words_left rest))) push
    ∙ sym (regrouped old bs (spelled_by f (words_left rest)))
    ∙ ap (λ (x : Option (List ℕ)). then_bytes (Some old) (then_bytes x (spelled_by f (words_left rest)))) told
    ∙ ap (λ (ws : List (List ℕ)). then_bytes (Some old) (spelled_by f ws)) (sym cut)
    ∙ so_far
