use Rattle.std.proofs.Common.{refl, arith}
use Rattle.mgs_paint.specs.Operations.{bytes_of, whole_operations}
use Rattle.mgs_paint.proofs.Rows.{whole_leads, grown}
use Rattle.mgs_paint.proofs.whole.first.Goals as goal

pub returns-clause-paints : goal.returns-clause-paints
returns-clause-paints c =
    let p = c.args.new.now in (
      bytes_of (whole_operations p),
      c.put_whole.ensures.items,
      record {
        bounded = grown c.args.out.now.items c.put_whole.new.out.items (bytes_of (whole_operations p)) _ c.put_whole.ensures.items (omega arith);
        draws = λ s valid rows cols. (whole_operations p, refl, whole_leads p s c.rows.ensures.picture valid rows cols);
      },
    )
