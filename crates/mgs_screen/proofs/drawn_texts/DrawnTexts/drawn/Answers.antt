use Rattle.std.proofs.Common.{◌≡◌, ℕ, List, Some, refl, sym, ap, ◌∙◌}
use Rattle.std.specs.Prelude.{Option, slice_get}
use Rattle.std.proofs.lemmas.Option.{slice_get_read}
use Rattle.std.proofs.lemmas.Slice.Eq.{bytes_eq-Decides}
use Rattle.mgs_screen.specs.declared.drawn_texts.DrawnText.{DrawnText}
use Rattle.mgs_screen.proofs.drawn_texts.DrawnTexts.drawn.Goals as goal

-- a text of this name in these rows
same_place : (d : DrawnText) (n : List ℕ) (f h : ℕ) → d.name ≡ n → d.first ≡ f → d.height ≡ h → d ≡ record d { name = n; first = f; height = h }
same_place d n f h name first height =
    ap (λ (x : List ℕ). record d { name = x }) name
    ∙ ap (λ (x : ℕ). record d { name = n; first = x }) first
    ∙ ap (λ (x : ℕ). record d { name = n; first = f; height = x }) height

pub returns-then-eq : goal.returns-then-eq
returns-then-eq c =
    let d : DrawnText = c.in-Some-place.drawn in
    let l = c.in-Some.ensures.lookup in
    let name : d.name ≡ c.args.name.now = (bytes_eq-Decides d.name c.args.name.now).0 (sym c.eq.ensures ∙ c.if-eq.true) in
    ap (λ (ds : List (Option DrawnText)). slice_get ds c.args.index) (sym (c.deref.ensures.0 ∙ c.self.view_is))
    ∙ slice_get_read c.deref.result.now _ c.args.index c.in-Some.place.now refl l.3.0 l.1
    ∙ ap Some (c.in-Some-place.is ∙ ap Some (same_place d c.args.name.now c.args.first c.args.height name c.if-drawn-first.true c.if-drawn-height.true))
