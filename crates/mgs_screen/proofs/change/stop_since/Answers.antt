use Rattle.std.proofs.Common.{◌≡◌, ◌+◌, ap, arith}
use Rattle.mgs_laws.specs.Apart.{IsEditedOnce}
use Rattle.mgs_model.specs.World.{Buffer, Item}
use Rattle.mgs_buffers.specs.MarkedBuffer.{marked_at}
use Rattle.mgs_undo.specs.Numbered.{item_of}
use Rattle.mgs_screen.proofs.Changes.{item_found}
use Rattle.mgs_screen.proofs.TabStops.{stop_edited}
use Rattle.mgs_screen.proofs.change.stop_since.Goals as goal

pub returns-in-Some : goal.returns-in-Some
returns-in-Some g c = λ old serial stop follows.
    let b : Buffer = (marked_at c.args.found.now.name c.args.found.now.all).buffer in
    let earlier = c.args.earlier.now in
    let now = c.serial-serial.result in
    let next : b.serial ≡ old.serial + 1 = omega (arith, serial, c.serial-serial.ensures, c.if-serial-earlier.false, c.if-serial-earlier-2.false, c.if-serial-earlier-gt1.false) in
    let e : IsEditedOnce old b = follows.once next in
    let item : e.item ≡ item_of now c.in-Some.edit.now = item_found old b e (item_of now c.in-Some.edit.now) now c.serial-serial.ensures c.in-Some.ensures in
    c.stop_before.ensures b.text (λ order. stop_edited old b e earlier.stop (omega (arith, order, ap (λ (i : Item). i.place) item)) stop)
