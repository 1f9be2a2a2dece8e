-- Bytes that are taken, and those up to the first that is refused.
use Rattle.std.proofs.Common.{◌≡◌, ℕ, ◌+◌, ◌<◌, List, [], ◌∷◌, ◌++◌, length, take, drop, get_or, refl, sym, ap, ◌∙◌, subst, append_assoc}
use Rattle.std.proofs.lemmas.List.{take_more, take-append-drop}
use Rattle.std.specs.Prelude.{Result, Ok, Err, OnErr}
use Rattle.mgs_term.specs.Terminal.{Terminal, Takes, Refuses, TakesAll, RefusesSome}

TakesAll-push : (a b c : Terminal) (bytes : List ℕ) (byte : ℕ) → TakesAll a bytes b → Takes b byte c → TakesAll a (bytes ++ byte ∷ []) c
TakesAll-push a b c [] byte all one = (c, subst (λ t. Takes t byte c) (sym all) one, refl)
TakesAll-push a b c (x ∷ xs) byte all one = (all.0, all.1, TakesAll-push all.0 b c xs byte all.2 one)

pub takes_more : (a b c : Terminal) (bytes : List ℕ) (i : ℕ) → i < length bytes → TakesAll a (take i bytes) b → Takes b (get_or bytes i 0) c → TakesAll a (take (i + 1) bytes) c
takes_more a b c bytes i within all one = subst (λ xs. TakesAll a xs c) (sym (take_more bytes i 0 within)) (TakesAll-push a b c (take i bytes) (get_or bytes i 0) all one)

pub refuses_at : (a b c : Terminal) (bytes : List ℕ) (i : ℕ) → i < length bytes → TakesAll a (take i bytes) b → Refuses b (get_or bytes i 0) c → RefusesSome a bytes c
refuses_at a b c bytes i within all one =
    let front : List ℕ = take i bytes in
    let rest : List ℕ = drop (i + 1) bytes in
    let byte : ℕ = get_or bytes i 0 in
    let parts : bytes ≡ front ++ byte ∷ rest = sym (take-append-drop (i + 1) bytes) ∙ ap (λ xs. xs ++ rest) (take_more bytes i 0 within) ∙ append_assoc front (byte ∷ []) rest in
    record { front = front; byte = byte; rest = rest; middle = b; parts = parts; takes = all; refuses = one }

pub on_err : {T E P : Type 0} (r : Result T E) → P → OnErr r P
on_err (Ok v) holds = tt
on_err (Err e) holds = holds
