use Rattle.std.proofs.Common.{◌≡◌, ℕ, List, sym, ◌∙◌, subst}
use Rattle.std.specs.Prelude.{Option, IfSome}
use Rattle.std.proofs.lemmas.Option.{same_Some}
use Rattle.mgs_laws.specs.Apart.{Follows}
use Rattle.mgs_model.specs.World.{Buffer}
use Rattle.mgs_buffers.specs.MarkedBuffer.{MarkedBuffer, marked_at}
use Rattle.mgs_world.specs.Worlds.{buffers_of}
use Rattle.mgs_world.proofs.Found.{found_buffer}
use Rattle.mgs_screen.specs.TextsDrawn.{Stands, text_then}
use Rattle.mgs_screen.specs.declared.drawn_texts.Shown.{Shown}
use Rattle.mgs_screen.proofs.screen.known_stop.Goals as goal

pub returns-in-Some : goal.returns-in-Some
returns-in-Some g c = λ p first height known.
    let ks : List MarkedBuffer = c.args.found.now.all in
    let name : List ℕ = c.args.found.now.name in
    let b : Buffer = (marked_at name ks).buffer in
    let s : Stands (buffers_of ks) p (text_then name first height c.in-Some.earlier) =
    subst (λ (o : Option Shown). IfSome o (λ x. Stands (buffers_of ks) p (text_then name first height x))) c.in-Some.is known in
    let now : s.now ≡ b = same_Some s.now b (sym s.found ∙ found_buffer name ks c.requires) in
    c.stop_since.ensures s.drawn s.serial s.stop (subst (λ (x : Buffer). Follows s.drawn x) now s.follows)
