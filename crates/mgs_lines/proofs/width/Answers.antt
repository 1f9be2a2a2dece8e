use Rattle.std.proofs.Common.{◌%◌, ◌-◌, length, arith, sym, ap, ◌≡◌, ◌∙◌}
use Rattle.mgs_model.specs.Cells.{own_columns}
use Rattle.std.proofs.lemmas.List.{length-replicate}
use Rattle.mgs_lines.proofs.Glyphs.{glyph-tab, glyph-control, glyph-plain, glyph-delete, glyph-escape, glyph-own, length-escape, length-own}
use Rattle.mgs_lines.proofs.width.Goals as goal

pub returns-then-c-eq9-clause-value : goal.returns-then-c-eq9-clause-value
returns-then-c-eq9-clause-value c = rw (glyph-tab c.args.column c.args.c c.if-c-eq9.true) (sym (length-replicate (8 - c.args.column % 8) 32))

pub returns-then-c-lt32-clause-value : goal.returns-then-c-lt32-clause-value
returns-then-c-lt32-clause-value c = ap length (sym (glyph-control c.args.column c.args.c c.if-c-eq9.false c.if-c-lt32.true))

pub returns-then-c-lt127-clause-value : goal.returns-then-c-lt127-clause-value
returns-then-c-lt127-clause-value c = ap length (sym (glyph-plain c.args.column c.args.c c.if-c-lt32.false c.if-c-lt127.true))

pub returns-then-c-eq127-clause-value : goal.returns-then-c-eq127-clause-value
returns-then-c-eq127-clause-value c = ap length (sym (glyph-delete c.args.column c.args.c c.if-c-eq127.true))

pub returns-then-columns-eq0-clause-value : goal.returns-then-columns-eq0-clause-value
returns-then-columns-eq0-clause-value c =
    rw (glyph-escape c.args.column c.args.c c.if-c-lt127.false c.if-c-eq127.false (sym c.own_columns-columns.ensures.value ∙ c.if-columns-eq0.true)) (omega (arith, length-escape c.args.c))

pub returns-else-columns-eq0-clause-value : goal.returns-else-columns-eq0-clause-value
returns-else-columns-eq0-clause-value c =
    let some : own_columns c.args.c ≡ 0 → ⊥ = λ e. c.if-columns-eq0.false (c.own_columns-columns.ensures.value ∙ e) in
    rw (glyph-own c.args.column c.args.c c.if-c-lt127.false c.if-c-eq127.false some) (c.own_columns-columns.ensures.value ∙ sym (length-own c.args.c some))
