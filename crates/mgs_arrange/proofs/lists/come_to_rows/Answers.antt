use Rattle.std.proofs.Common.{◌≡◌, ◌<◌, length, Option, sym, subst, arith}
use Rattle.mgs_windows.specs.declared.WindowMarks.{WindowMarks}
use Rattle.mgs_windows.specs.Panes.{WindowList}
use Rattle.mgs_session.specs.declared.Session.{Session}
use Rattle.mgs_world.specs.Sound.{IsShownSound}
use Rattle.mgs_world.specs.WindowMarks.{WindowMarksDropped}
use Rattle.mgs_world.specs.Worlds.{rows_shown, session_of}
use Rattle.mgs_arrange.specs.Arranging.{Rearranged}
use Rattle.mgs_arrange.specs.Arranged.{window_lists}
use Rattle.mgs_arrange.proofs.WindowShown.{given_up}
use Rattle.mgs_arrange.proofs.WindowRows.{left_sound, rows_rearranged, rows_seen}
use Rattle.mgs_arrange.proofs.lists.come_to_rows.Goals as goal

pub drop_window_marks-requires : goal.drop_window_marks-requires
drop_window_marks-requires g c =
    let ks = c.args.buffers.now in
    let x : Session = c.args.session.now in
    let within : x.windows.selected < length x.windows.windows = omega (arith, c.selected.ensures.value, c.selected.ensures.within) in
    subst (IsShownSound ks) (sym c.show_rows-before.ensures.left) (left_sound ks ks c.args.rows x within c.requires.sound)

pub returns : goal.returns
returns g c =
    let ks = c.args.buffers.now in
    let ls = c.drop_window_marks.new.buffers in
    let x : Session = c.args.session.now in
    let within : x.windows.selected < length x.windows.windows = omega (arith, c.selected.ensures.value, c.selected.ensures.within) in
    let dropped : WindowMarksDropped (given_up x) ks ls = subst (λ (o : Option WindowMarks). WindowMarksDropped o ks ls) c.show_rows-before.ensures.left c.drop_window_marks.ensures in
    let list = sym c.show_rows-before.ensures.list in
    record {
      selected = within;
      rearranged = subst (λ (w : WindowList). Rearranged ks ls x (record x { windows = w })) list (rows_rearranged ks ls c.args.rows x within c.requires.sound dropped);
      seen =
          subst (λ (w : WindowList). session_of ls (record x { windows = w }) ≡ window_lists (rows_shown c.args.rows) (session_of ks x)) list
          (rows_seen ks ls c.args.rows x within c.requires.sound dropped c.requires.start);
    }
