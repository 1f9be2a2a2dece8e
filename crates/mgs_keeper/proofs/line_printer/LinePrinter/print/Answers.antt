use Rattle.mgs_keeper.proofs.Printing.{prints_line}
use Rattle.mgs_keeper.proofs.line_printer.LinePrinter.print.Goals as goal

pub returns-clause-prints : goal.returns-clause-prints
returns-clause-prints g c =
    prints_line g.O.Outlet.written c.args.line.now c.args.self.now.out c.send_all.new.out c.add.new.self.out c.send_all-2.new.out
    c.args.self.now.waiting.items c.send_all.new.waiting.items c.add.new.self.waiting.items c.send_all-2.new.waiting.items c.args.self.now.missed c.add.new.self.missed
    c.send_all.ensures.sends c.add.ensures.out c.add.ensures.adds c.send_all-2.ensures.sends
