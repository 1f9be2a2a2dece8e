use Rattle.std.proofs.Common.{◌∙◌, Option, ap, slice_index_or, slice_set}
use Rattle.mgs_windows.specs.declared.WindowMarks.{WindowMarks}
use Rattle.mgs_windows.specs.declared.Window.{Window}
use Rattle.mgs_windows.proofs.Heights.{set_marked}
use Rattle.mgs_windows.proofs.mark.Goals as goal

pub returns : goal.returns
returns c =
    let ws = c.args.windows.now in
    let i = c.args.index in
    ap (λ (o : Option WindowMarks). let w : Window = record { height = (slice_index_or ws i c.index-windows-index-2.result).height; shows = o; rows = (slice_index_or ws i c.index-windows-index-2.result).rows } in slice_set ws i w) c.with_mark.ensures
    ∙ set_marked ws i c.index-windows-index-2.result c.index-windows-index.result c.index-windows-index-2.result c.args.mark
