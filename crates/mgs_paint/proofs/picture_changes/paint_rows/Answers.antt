use Rattle.std.proofs.Common.{refl, sym, arith}
use Rattle.mgs_paint.specs.Operations.{bytes_of}
use Rattle.mgs_paint.specs.Changes.{changes}
use Rattle.mgs_paint.proofs.Rows.{grown}
use Rattle.mgs_paint.proofs.Changing.{changes_lead, changes_same}
use Rattle.mgs_paint.proofs.picture_changes.paint_rows.Goals as goal

pub returns-clause-repaints : goal.returns-clause-repaints
returns-clause-repaints c =
    let old = c.args.old.now in
    let new = c.args.new.now in (
      bytes_of (changes old new),
      c.put_changes.ensures.items,
      record {
        bounded = grown c.args.out.now.items c.put_changes.new.out.items (bytes_of (changes old new)) _ c.put_changes.ensures.items (omega arith);
        draws = (changes old new, refl, changes_lead old new c.rows.ensures.picture c.rows-2.ensures.picture (sym c.requires.rows) (sym c.requires.cols));
        quiet = changes_same old new;
      },
    )
