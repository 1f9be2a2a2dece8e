-- What the operations of a row and of several rows do.
use Rattle.std.proofs.Common.{◌≡◌, ℕ, ◌+◌, ◌<◌, ◌≤◌, List, [], ◌∷◌, ◌++◌, length, get_or, drop, refl, sym, ap, ◌∙◌, inl, inr, append_assoc}
use Rattle.std.specs.Prelude.{nat_eq}
use Rattle.std.specs.Char.{encode_utf8}
use Rattle.std.proofs.lemmas.Bool.{cases_Bool, ne_eqb, lt-ltb}
use Rattle.std.proofs.lemmas.Grind.{flat_map-append}
use Rattle.std.proofs.lemmas.List.{append-nil, drop_more, drop_all}
use Rattle.mgs_model.specs.Cells.{right_half}
use Rattle.mgs_term.specs.Sequences.{spelling}
use Rattle.mgs_paint.specs.Operations.{bytes_of, prints}

pub joined : (old x y z t a b c : List ℕ) → a ≡ old ++ x → b ≡ a ++ y → c ≡ b ++ t → z ≡ t → c ≡ old ++ (x ++ (y ++ z))
joined old x y z t a b c p q r e = rw (r, q, p, e) (simp append_assoc)

-- one cell more
prints_one : (c : ℕ) (cs : List ℕ) → prints (c ∷ cs) ≡ prints (c ∷ []) ++ prints cs
prints_one c cs = elim (cases_Bool (nat_eq c right_half)) [ inl e ↦ rw e refl | inr e ↦ rw e refl ]

pub text_more : (out more all : List ℕ) (text : List ℕ) (i d : ℕ) → i < length text → more ≡ out ++ bytes_of (prints (get_or text i d ∷ [])) → out ++ bytes_of (prints (drop i text)) ≡ all → more ++ bytes_of (prints (drop (i + 1) text)) ≡ all
text_more out more all text i d within p h =
    let c : ℕ = get_or text i d in
    let rest : List ℕ = drop (i + 1) text in
    let one : bytes_of (prints (drop i text)) ≡ bytes_of (prints (c ∷ [])) ++ bytes_of (prints rest) =
    ap (λ cs. bytes_of (prints cs)) (drop_more text i d within) ∙ ap bytes_of (prints_one c rest) ∙ flat_map-append spelling (prints (c ∷ [])) (prints rest) in
    ap (λ xs. xs ++ bytes_of (prints rest)) p ∙ append_assoc out (bytes_of (prints (c ∷ []))) (bytes_of (prints rest)) ∙ ap (λ xs. out ++ xs) (sym one) ∙ h

pub text_done : (out all : List ℕ) (text : List ℕ) (i : ℕ) → length text ≤ i → out ++ bytes_of (prints (drop i text)) ≡ all → out ≡ all
text_done out all text i past h = sym (append-nil out) ∙ ap (λ cs. out ++ bytes_of (prints cs)) (sym (drop_all i text past)) ∙ h

-- the bytes of a cell
pub half_bytes : (c : ℕ) → c ≡ right_half → bytes_of (prints (c ∷ [])) ≡ []
half_bytes c e = rw e refl

-- an ASCII character is its own byte
pub ascii_bytes : (c : ℕ) → c < 128 → c ∷ [] ≡ encode_utf8 c
unfolding encode_utf8
ascii_bytes c low = rw (lt-ltb c 128 low) refl

pub shown_bytes : (c : ℕ) → (c ≡ right_half → ⊥) → bytes_of (prints (c ∷ [])) ≡ encode_utf8 c
shown_bytes c other = rw (ne_eqb c right_half other) (append-nil (encode_utf8 c))
