use Rattle.std.proofs.Common.{◌≡◌, ◌+◌, sym, arith}
use Rattle.mgs_laws.specs.Apart.{IsEditedOnce}
use Rattle.mgs_model.specs.World.{Buffer}
use Rattle.mgs_buffers.specs.MarkedBuffer.{marked_at}
use Rattle.mgs_undo.specs.Numbered.{item_of}
use Rattle.mgs_screen.proofs.Changes.{item_found}
use Rattle.mgs_screen.proofs.change.change_since.Goals as goal

pub returns-in-Some : goal.returns-in-Some
returns-in-Some g c = λ old serial count follows.
    let b : Buffer = (marked_at c.args.found.now.name c.args.found.now.all).buffer in
    let next : b.serial ≡ old.serial + 1 = omega (arith, serial, c.requires.read.serial_is, c.if-shown-serial.false, c.if-shown-serial-2.false, c.if-shown-serial-gt1.false) in
    let e : IsEditedOnce old b = follows.once next in
    c.change_by.ensures old b c.args.shown.now.serial e
    (item_found old b e (item_of c.args.shown.now.serial c.in-Some.edit.now) c.args.shown.now.serial c.requires.read.serial_is c.in-Some.ensures)
    (sym c.requires.read.text_is) count
