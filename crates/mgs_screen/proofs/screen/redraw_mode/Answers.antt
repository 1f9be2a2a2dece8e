use Rattle.std.proofs.Common.{◌≡◌, ℕ, List, [], ◌∷◌, refl, subst, arith}
use Rattle.std.specs.Prelude.{Option, Some, IfSome}
use Rattle.mgs_model.specs.Picture.{Picture}
use Rattle.mgs_model.specs.Rows.{Row, buffer_mode, mode_row}
use Rattle.mgs_screen.specs.TextsDrawn.{DoesShowMode}
use Rattle.mgs_screen.specs.declared.drawn_texts.Shown.{Shown}
use Rattle.mgs_screen.specs.declared.drawn_texts.ModeLine.{ModeLine}
use Rattle.mgs_screen.proofs.Canvas.{is_put, row_drawn}
use Rattle.mgs_screen.proofs.TextsDrawn.{mode_there}
use Rattle.mgs_screen.proofs.screen.redraw_mode.Goals as goal

pub returns-then-is_same_mode-clause-grid : goal.returns-then-is_same_mode-clause-grid
returns-then-is_same_mode-clause-grid c =
    let p : Picture = c.args.grid.now in
    let row : ℕ = c.args.row in
    let name : List ℕ = c.args.name.now in
    let stand : DoesShowMode row name c.in-Some.earlier.mode p = subst (λ (o : Option Shown). IfSome o (λ x. DoesShowMode row name x.mode p)) c.in-Some.is c.requires.stands in
    let same : c.in-Some.earlier.mode ≡ c.args.mode.now = c.is_same_mode.ensures c.if-is_same_mode.true in
    mode_there row name c.args.mode.now p (omega (arith, c.requires.room, c.rows.ensures.picture.count)) (subst (λ (m : ModeLine). DoesShowMode row name m p) same stand)

pub returns-clause-drawn : goal.returns-clause-drawn
returns-clause-drawn c =
    let p : Picture = c.args.grid.now in
    let q : Picture = c.draw_mode.new.self in
    let row : ℕ = c.args.row in
    let mode : List Row = mode_row p.cols (buffer_mode c.named.result (Some (c.args.mode.now.line, c.args.mode.now.column))) ∷ [] in
    row_drawn c.args.rows.now c.insert.new.self row mode p q (is_put row mode p q c.draw_mode.ensures (omega (arith, c.requires.room, c.rows.ensures.picture.count))) refl c.insert.ensures.kept c.insert.ensures.put
