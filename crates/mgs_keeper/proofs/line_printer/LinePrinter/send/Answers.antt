use Rattle.std.proofs.Common.{◌≡◌, []}
use Rattle.mgs_keeper.proofs.Printing.{count_full, sends_count}
use Rattle.mgs_keeper.proofs.line_printer.LinePrinter.send.Goals as goal

pub returns-then-is_sent-clause-sends : goal.returns-then-is_sent-clause-sends
returns-then-is_sent-clause-sends g c =
    sends_count g.O.Outlet.written c.announce.result c.args.self.now.out c.send_all.new.out c.announce.new.self.out
    c.args.self.now.waiting.items c.send_all.new.waiting.items c.announce.new.self.waiting.items c.args.self.now.missed c.announce.new.self.missed
    c.send_all.ensures.sends c.announce.ensures.ok c.announce.ensures.err

pub returns-then-is_sent-clause-full : goal.returns-then-is_sent-clause-full
returns-then-is_sent-clause-full g c =
    let none : c.send_all.new.waiting.items ≡ [] = c.is_sent.ensures c.if-is_sent.true in
    count_full g.O.Outlet.full c.announce.result c.send_all.new.out c.announce.new.self.out c.send_all.new.waiting.items c.announce.new.self.waiting.items c.args.self.now.missed c.announce.new.self.missed
    none c.announce.ensures.full c.announce.ensures.err
