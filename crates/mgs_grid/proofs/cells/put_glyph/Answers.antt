use Rattle.std.proofs.Common.{refl}
use Rattle.mgs_lines.proofs.Glyphs.{glyph-plain}
use Rattle.mgs_grid.proofs.cells.put_glyph.Goals as goal

pub returns-then-c-lt127-clause-row : goal.returns-then-c-lt127-clause-row
returns-then-c-lt127-clause-row c = rw (glyph-plain c.args.column c.args.c c.if-c-ge32.true c.if-c-lt127.true) c.put.ensures

pub returns-then-c-lt127-clause-next : goal.returns-then-c-lt127-clause-next
returns-then-c-lt127-clause-next c = rw (glyph-plain c.args.column c.args.c c.if-c-ge32.true c.if-c-lt127.true) refl
