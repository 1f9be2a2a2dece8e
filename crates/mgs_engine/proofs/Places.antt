-- The place of a screen whose id no other has.
use Rattle.std.proofs.Common.{◌≡◌, ℕ, zero, suc, ◌+◌, ◌<◌, not, true, false, cond, List, [], ◌∷◌, length, get_or, map, sym, ap, subst, ◌∙◌, arith}
use Rattle.std.specs.Prelude.{nat_eq}
use Rattle.std.specs.List.{position_or_len}
use Rattle.std.proofs.lemmas.Bool.{eq-eqb}
use Rattle.std.proofs.lemmas.List.{length-map}
use Rattle.mgs_model.proofs.Firsts.{get_or-map}
use Rattle.mgs_world.specs.Worlds.{IsOther, IsUnique}
use Rattle.mgs_engine.specs.declared.session_screen.Screen.{Screen}
use Rattle.mgs_engine.specs.Screens.{screen_id, shown_size}

-- what stands where an id is found is the first of that id
pub only_place : (id : ℕ) (xs : List Screen) (at : ℕ) (x : Screen) → IsUnique (map shown_size xs) → at < length xs → x ≡ get_or xs at x → x.id ≡ id → at ≡ position_or_len (screen_id id) xs
only_place id [] at x u l p e = absurd (omega arith)
only_place id (y ∷ ys) zero x u l p e =
    let first : nat_eq y.id id ≡ true = eq-eqb y.id id (ap (λ (z : Screen). z.id) (sym p) ∙ e) in
    sym (ap (λ b. cond (not b) (1 + position_or_len (screen_id id) ys) 0) first)
only_place id (y ∷ ys) (suc at) x u l p e =
    let within : at < length ys = omega arith in
    let there : get_or (map shown_size ys) at (shown_size x) ≡ shown_size x = get_or-map shown_size ys at x ∙ ap shown_size (sym p) in
    let apart : IsOther (shown_size y) (get_or (map shown_size ys) at (shown_size x)) = u.0 at (shown_size x) (omega (arith, within, length-map ys shown_size)) in
    let other : nat_eq y.id x.id ≡ false = subst (IsOther (shown_size y)) there apart in
    let not_first : nat_eq y.id id ≡ false = subst (λ (n : ℕ). nat_eq y.id n ≡ false) e other in
    let rest : at ≡ position_or_len (screen_id id) ys = only_place id ys at x u.1 within p e in
    let next : suc at ≡ 1 + position_or_len (screen_id id) ys = omega (arith, rest) in
    next ∙ sym (ap (λ b. cond (not b) (1 + position_or_len (screen_id id) ys) 0) not_first)
