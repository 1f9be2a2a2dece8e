use Rattle.std.proofs.Common.{ℕ, ◌-◌, ◌%◌, ◌∙◌, refl, sym}
use Rattle.std.proofs.lemmas.List.{length-replicate}
use Rattle.mgs_lines.proofs.Glyphs.{glyph-tab, glyph-control, glyph-delete, glyph-escape, glyph-own}
use Rattle.mgs_grid.proofs.cells.put_rare.Goals as goal

pub returns-then-c-eq9-clause-row : goal.returns-then-c-eq9-clause-row
returns-then-c-eq9-clause-row c = rw (glyph-tab c.args.column c.args.c c.if-c-eq9.true) c.put_blanks.ensures

pub returns-then-c-eq9-clause-next : goal.returns-then-c-eq9-clause-next
returns-then-c-eq9-clause-next c = rw (glyph-tab c.args.column c.args.c c.if-c-eq9.true, length-replicate {A = ℕ} (8 - c.args.column % 8) 32) refl

pub returns-then-c-lt32-clause-row : goal.returns-then-c-lt32-clause-row
returns-then-c-lt32-clause-row c = rw (glyph-control c.args.column c.args.c c.if-c-eq9.false c.if-c-lt32.true) (c.put-then-c-lt32.ensures ∙ rw c.put.ensures refl)

pub returns-then-c-lt32-clause-next : goal.returns-then-c-lt32-clause-next
returns-then-c-lt32-clause-next c = rw (glyph-control c.args.column c.args.c c.if-c-eq9.false c.if-c-lt32.true) refl

pub returns-then-c-eq127-clause-row : goal.returns-then-c-eq127-clause-row
returns-then-c-eq127-clause-row c = rw (glyph-delete c.args.column c.args.c c.if-c-eq127.true) (c.put-then-c-eq127-2.ensures ∙ rw c.put-then-c-eq127.ensures refl)

pub returns-then-c-eq127-clause-next : goal.returns-then-c-eq127-clause-next
returns-then-c-eq127-clause-next c = rw (glyph-delete c.args.column c.args.c c.if-c-eq127.true) refl

pub returns-then-own_columns-eq0-clause-row : goal.returns-then-own_columns-eq0-clause-row
returns-then-own_columns-eq0-clause-row c = rw (glyph-escape c.args.column c.args.c (c.requires.rare c.if-c-lt32.false) c.if-c-eq127.false (sym c.own_columns.ensures.value ∙ c.if-own_columns-eq0.true)) c.put_escape.ensures.row

pub returns-then-own_columns-eq0-clause-next : goal.returns-then-own_columns-eq0-clause-next
returns-then-own_columns-eq0-clause-next c = rw (glyph-escape c.args.column c.args.c (c.requires.rare c.if-c-lt32.false) c.if-c-eq127.false (sym c.own_columns.ensures.value ∙ c.if-own_columns-eq0.true)) c.put_escape.ensures.next

pub returns-else-own_columns-eq0-clause-row : goal.returns-else-own_columns-eq0-clause-row
returns-else-own_columns-eq0-clause-row c = rw (glyph-own c.args.column c.args.c (c.requires.rare c.if-c-lt32.false) c.if-c-eq127.false (λ e. c.if-own_columns-eq0.false (c.own_columns.ensures.value ∙ e))) c.put_own.ensures.row

pub returns-else-own_columns-eq0-clause-next : goal.returns-else-own_columns-eq0-clause-next
returns-else-own_columns-eq0-clause-next c = rw (glyph-own c.args.column c.args.c (c.requires.rare c.if-c-lt32.false) c.if-c-eq127.false (λ e. c.if-own_columns-eq0.false (c.own_columns.ensures.value ∙ e))) c.put_own.ensures.next
