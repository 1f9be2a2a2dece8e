use Rattle.std.proofs.Common.{◌∙◌, ap, sym}
use Rattle.std.specs.Prelude.{find}
use Rattle.mgs_windows.specs.Panes.{is_place_in}
use Rattle.mgs_arrange.proofs.WindowShown.{standing_left, standing_shown}
use Rattle.mgs_arrange.proofs.shown_buffer.standing.Goals as goal

pub returns-then-is_shown : goal.returns-then-is_shown
returns-then-is_shown c =
    sym (standing_shown c.args.name.now c.args.windows.now c.selected_window-shows.result c.selected_window-shows.ensures (sym c.is_shown.ensures ∙ c.if-is_shown.true))

pub returns : goal.returns
returns c =
    c.place_in.ensures
    ∙ ap (find (is_place_in c.args.name.now)) c.places.ensures.value
    ∙ sym (standing_left c.args.name.now c.args.windows.now c.selected_window-shows.result c.selected_window-shows.ensures (sym c.is_shown.ensures ∙ c.if-is_shown.false))
