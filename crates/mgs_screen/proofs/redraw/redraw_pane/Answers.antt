use Rattle.std.proofs.Common.{◌≡◌, ℕ, List, sym, subst, ◌∙◌}
use Rattle.std.specs.Prelude.{Option, IfSome}
use Rattle.std.proofs.lemmas.Option.{same_Some}
use Rattle.mgs_laws.specs.Apart.{Follows}
use Rattle.mgs_model.specs.Picture.{Picture}
use Rattle.mgs_model.specs.World.{Buffer}
use Rattle.mgs_buffers.specs.MarkedBuffer.{MarkedBuffer, marked_at}
use Rattle.mgs_world.specs.Worlds.{buffers_of}
use Rattle.mgs_world.proofs.Found.{found_buffer}
use Rattle.mgs_screen.specs.Changes.{IsChange}
use Rattle.mgs_screen.specs.TextsDrawn.{Stands, text_then}
use Rattle.mgs_screen.specs.declared.drawn_texts.DrawnText.{DrawnText}
use Rattle.mgs_screen.specs.declared.drawn_texts.Shown.{Shown}
use Rattle.mgs_screen.proofs.redraw.redraw_pane.Goals as goal

pub returns-clause-grid : goal.returns-clause-grid
returns-clause-grid g c =
    let p : Picture = c.args.grid.now in
    let ks : List MarkedBuffer = c.args.found.now.all in
    let name : List ℕ = c.args.found.now.name in
    let d : DrawnText = c.args.drawn.now in
    let e = c.in-Some.earlier in
    let then : DrawnText = text_then name d.first d.height e in
    let b : Buffer = (marked_at name ks).buffer in
    let text : List ℕ = g.T.Text.text c.args.text.now in
    let s : Stands (buffers_of ks) p then = subst (λ (o : Option Shown). IfSome o (λ x. Stands (buffers_of ks) p (text_then name d.first d.height x))) c.in-Some.is c.requires.stands in
    let now : s.now ≡ b = same_Some s.now b (sym s.found ∙ found_buffer name ks c.requires.kept) in
    let follows : Follows s.drawn b = subst (λ (x : Buffer). Follows s.drawn x) now s.follows in
    let change : IsChange c.change_since-change.result e.start d.shown.start s.drawn.text text = c.change_since-change.ensures s.drawn s.serial s.size follows in
    c.redraw_rows.ensures.grid s.drawn.text s.rows change
