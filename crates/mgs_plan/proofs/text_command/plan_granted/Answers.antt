use Rattle.std.proofs.Common.{ℕ, List, length, refl, sym, ap, subst, ◌∙◌, arith}
use Rattle.mgs_model.specs.Acts.{moved_by}
use Rattle.mgs_model.specs.Plans as plans
use Rattle.mgs_model.specs.Plans.{insertion}
use Rattle.mgs_model.specs.declared.session.Command.{Command}
use Rattle.mgs_buffers.specs.Found.{Named}
use Rattle.mgs_buffers.specs.MarkedBuffer.{marked_at}
use Rattle.mgs_edit.specs.Reading.{surrounded}
use Rattle.mgs_plan.specs.Actions.{IsDoneBy, edit_outcome, granted_outcome}
use Rattle.mgs_model.specs.declared.session.Command.TheVariants.{Insert, InsertReading, Move, Alter, Scroll, UndoEdit, NotModified}
use Rattle.mgs_plan.proofs.Granted.{insertion_writes_so, reading_writes_so, three_so, writes_so}
use Rattle.mgs_plan.proofs.Plans.{planned_here}
use Rattle.mgs_plan.proofs.text_command.plan_granted.Goals as goal

pub edits_so-requires-clause-within : goal.edits_so-requires-clause-within
edits_so-requires-clause-within g c = c.reading_insertion.ensures.within c.args.kill.now

pub edits-requires-clause-writes : goal.edits-requires-clause-writes
edits-requires-clause-writes g c = insertion_writes_so c.args.mask c.args.around.now.place _ c.args.command (Insert c.in-Insert.by) c.requires.mask c.in-Insert.is refl

pub edits_so-requires-clause-writes : goal.edits_so-requires-clause-writes
edits_so-requires-clause-writes g c = reading_writes_so c.args.mask c.args.around.now.place _ c.args.command (InsertReading c.in-InsertReading.by) c.requires.mask c.in-InsertReading.is refl

pub edits-requires-in-Alter-clause-writes : goal.edits-requires-in-Alter-clause-writes
edits-requires-in-Alter-clause-writes g c = writes_so c.args.mask c.args.around.now.place _ c.args.command (Alter c.in-Alter.by) c.requires.mask c.in-Alter.is refl

pub returns-in-Insert : goal.returns-in-Insert
returns-in-Insert g c =
    let f : Named = c.args.found.now in
    let text = g.T.Text.text c.text-text.result.now in
    let serial = c.serial-serial.result in
    let both = planned_here f.all f.name c.args.kill.now c.args.around.now c.args.command (Insert c.in-Insert.by) c.edits.result text serial c.text-text.ensures.text c.serial-serial.ensures c.in-Insert.is
    (λ state rest. c.edits.ensures.value state f.name (marked_at f.name f.all).buffer.items
    ∙ ap (edit_outcome state f.name (length text) serial) (c.insertion.ensures.plan text (record rest { name = f.name; kill = c.args.kill.now; serial = serial }) c.requires.killed)
    ∙ ap (λ size. edit_outcome state f.name (length text) serial (insertion c.in-Insert.by (surrounded c.args.around.now size (record rest { name = f.name; kill = c.args.kill.now; serial = serial })))) (c.text_len-size.ensures.value ∙ sym (ap (λ (t : List ℕ). length t) c.text-text.ensures.text)))
    c.edits.ensures.can in
    record { value = both.0; can = both.1; by = c.edits.ensures.by }

pub returns-in-InsertReading : goal.returns-in-InsertReading
returns-in-InsertReading g c =
    let f : Named = c.args.found.now in
    let text = g.T.Text.text c.text-text.result.now in
    let serial = c.serial-serial.result in
    let both = planned_here f.all f.name c.args.kill.now c.args.around.now c.args.command (InsertReading c.in-InsertReading.by) c.edits_so.result text serial c.text-text.ensures.text c.serial-serial.ensures c.in-InsertReading.is
    (λ state rest. c.edits_so.ensures.value state f.name (marked_at f.name f.all).buffer.items
    ∙ ap (edit_outcome state f.name (length text) serial) (c.reading_insertion.ensures.plan (record rest { name = f.name; kill = c.args.kill.now; serial = serial })))
    c.edits_so.ensures.can in
    record { value = both.0; can = both.1; by = c.edits_so.ensures.by }

pub motion-requires-clause-short : goal.motion-requires-clause-short
motion-requires-clause-short g c =
    omega (arith, ap (λ (t : List ℕ). length t) c.text-text.ensures.text, c.text_len-size.ensures.value, c.text_len-size.ensures.limit)

pub returns-in-Move : goal.returns-in-Move
returns-in-Move g c =
    let f : Named = c.args.found.now in
    let text = g.T.Text.text c.text-text.result.now in
    let serial = c.serial-serial.result in
    let both = planned_here f.all f.name c.args.kill.now c.args.around.now c.args.command (Move c.in-Move.by) c.moves.result text serial c.text-text.ensures.text c.serial-serial.ensures c.in-Move.is
    (λ state rest. c.moves.ensures.value state f.name (marked_at f.name f.all).buffer.items
    ∙ ap (moved_by state) (c.motion.ensures.plan (record rest { name = f.name; kill = c.args.kill.now; serial = serial })))
    (λ items. c.moves.ensures.can items serial) in
    record { value = both.0; can = both.1; by = c.moves.ensures.by c.args.mask }

pub returns-in-Alter : goal.returns-in-Alter
returns-in-Alter g c =
    let f : Named = c.args.found.now in
    let text = g.T.Text.text c.text-text.result.now in
    let serial = c.serial-serial.result in
    let both = planned_here f.all f.name c.args.kill.now c.args.around.now c.args.command (Alter c.in-Alter.by) c.edits-in-Alter.result text serial c.text-text.ensures.text c.serial-serial.ensures c.in-Alter.is
    (λ state rest. c.edits-in-Alter.ensures.value state f.name (marked_at f.name f.all).buffer.items
    ∙ ap (edit_outcome state f.name (length text) serial) (c.alteration.ensures.plan (record rest { name = f.name; kill = c.args.kill.now; serial = serial })))
    c.edits-in-Alter.ensures.can in
    record { value = both.0; can = both.1; by = c.edits-in-Alter.ensures.by }

pub returns-in-Scroll : goal.returns-in-Scroll
returns-in-Scroll g c =
    let f : Named = c.args.found.now in
    let text = g.T.Text.text c.text-text.result.now in
    let serial = c.serial-serial.result in
    let both = planned_here f.all f.name c.args.kill.now c.args.around.now c.args.command (Scroll c.in-Scroll.by) c.moves-in-Scroll.result text serial c.text-text.ensures.text c.serial-serial.ensures c.in-Scroll.is
    (λ state rest. c.moves-in-Scroll.ensures.value state f.name (marked_at f.name f.all).buffer.items
    ∙ ap (moved_by state) (c.scroll.ensures.plan (record rest { name = f.name; kill = c.args.kill.now; serial = serial })))
    (λ items. c.moves-in-Scroll.ensures.can items serial) in
    record { value = both.0; can = both.1; by = c.moves-in-Scroll.ensures.by c.args.mask }

pub returns-in-UndoEdit : goal.returns-in-UndoEdit
returns-in-UndoEdit g c =
    let f : Named = c.args.found.now in
    let b = (marked_at f.name f.all).buffer in
    let around : plans.Around → plans.Around = λ rest. surrounded c.args.around.now (length b.text) (record rest { name = f.name; kill = c.args.kill.now; serial = b.serial }) in
    record {
      value = λ state rest. c.undoes.ensures.value state c.args.kill.now (around rest) ∙ sym (ap (λ (k : Command). granted_outcome state k b.text b.items (around rest)) c.in-UndoEdit.is);
      can = c.undoes.ensures.can c.args.kill.now;
      by = subst (λ m. IsDoneBy m c.undoes.result) (sym (three_so c.args.mask c.args.around.now.place _ c.args.command UndoEdit c.requires.mask c.in-UndoEdit.is refl)) c.undoes.ensures.by;
    }

pub returns-in-NotModified-clause-by : goal.returns-in-NotModified-clause-by
returns-in-NotModified-clause-by g c = three_so c.args.mask c.args.around.now.place _ c.args.command NotModified c.requires.mask c.in-NotModified.is refl
