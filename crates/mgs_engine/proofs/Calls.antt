-- Calls one after another.
use Rattle.std.proofs.Common.{◌≡◌, ℕ, ◌+◌, ◌<◌, List, [], ◌∷◌, ◌++◌, length, get_or, take, refl, ap, subst, ◌∙◌}
use Rattle.std.proofs.lemmas.List.{take_more, get_or-map, length-map}
use Rattle.mgs_engine.specs.declared.tape.Call.{Call}
use Rattle.mgs_engine.specs.Drives.{Asked, Makes, Taped, Runs, asked, all_asked}

runs_push : (r m t : Taped) (cs : List Asked) (c : Asked) → Runs r cs m → Makes m c t → Runs r (cs ++ c ∷ []) t
runs_push r m t [] c h made = (t, subst (λ (x : Taped). Makes x c t) h made, refl)
runs_push r m t (d ∷ cs) c h made = (h.0, h.1, runs_push h.0 m t cs c h.2 made)

-- one call more
pub runs_more : (r m t : Taped) (cs : List Call) (i : ℕ) (d : Call) → i < length cs → Runs r (take i (all_asked cs)) m → Makes m (asked (get_or cs i d)) t → Runs r (take (i + 1) (all_asked cs)) t
runs_more r m t cs i d h ran made =
    let e : take (i + 1) (all_asked cs) ≡ take i (all_asked cs) ++ asked (get_or cs i d) ∷ [] =
    take_more (all_asked cs) i (asked d) (simp length-map h) ∙ ap (λ (c : Asked). take i (all_asked cs) ++ c ∷ []) (get_or-map asked cs i d (asked d) h) in
    rw e (runs_push r m t (take i (all_asked cs)) (asked (get_or cs i d)) ran made)
