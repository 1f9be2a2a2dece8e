use Rattle.std.proofs.Common.{List, arith, [], sym, subst}
use Rattle.mgs_replay.specs.Players.{playing}
use Rattle.mgs_script.specs.Scripts.{lines_of}
use Rattle.mgs_replay.specs.declared.client.Labelled.{Labelled}
use Rattle.mgs_replay.specs.Served.{IsReady, player_of}
use Rattle.mgs_replay.proofs.Events.{ready_first}
use Rattle.mgs_replay.proofs.Standing.{Stands, lines_left, stands_first, stands_next, stands_end, ends_on, left_cut, left_none, left_shorter}
use Rattle.mgs_replay.proofs.lines.run_lines.Goals as goal

pub loop-rest-init : goal.loop-rest-init
loop-rest-init g c =
    let server = c.args.server.now in
    let all = lines_of c.args.text.now in
    let contents = g.W.Write.contents c.args.writer.now in
    record {
      ready = subst (λ (xs : List Labelled). IsReady server xs) (sym c.new-clients.ensures) (ready_first server c.requires.sessions c.requires.queues c.requires.ended);
      stands = subst (λ (xs : List Labelled). Stands c.args.first (playing server.world []) all contents contents c.args.first (player_of server xs) all) (sym c.new-clients.ensures)
          (stands_first c.args.first (playing server.world []) all contents);
      first = c.requires.first;
      counted = omega (arith, c.requires.counted);
    }

pub returns-in-Err-clause-written : goal.returns-in-Err-clause-written
returns-in-Err-clause-written g c =
    let here = rw (left_cut c.loop-rest.rest c.in-Some.text c.cut_line.result.0.now c.cut_line.result.1 c.in-Some.is c.cut_line.ensures.lines) at c.loop-rest.invariant.stands in
    ends_on c.ended_at.result c.in-Err.fault c.args.first (playing c.args.server.now.world []) (lines_of c.args.text.now)
    (g.W.Write.contents c.args.writer.now) (g.W.Write.contents c.loop-rest.writer) (g.W.Write.contents c.turn.new.writer)
    c.loop-rest.number (player_of c.loop-rest.server c.loop-rest.clients) (player_of c.turn.new.server c.turn.new.clients) c.cut_line.result.0.now (lines_left c.cut_line.result.1)
    c.ended_at.ensures here c.in-Err.ensures.turned

pub loop-rest-preserved : goal.loop-rest-preserved
loop-rest-preserved g c =
    let here = rw (left_cut c.loop-rest.rest c.in-Some.text c.cut_line.result.0.now c.cut_line.result.1 c.in-Some.is c.cut_line.ensures.lines) at c.loop-rest.invariant.stands in
    let did = c.in-Ok.ensures.turned in
    record {
      ready = c.in-Ok.ensures.ready;
      stands = stands_next c.args.first (playing c.args.server.now.world []) (lines_of c.args.text.now)
          (g.W.Write.contents c.args.writer.now) (g.W.Write.contents c.loop-rest.writer) (g.W.Write.contents c.turn.new.writer)
          c.loop-rest.number (player_of c.loop-rest.server c.loop-rest.clients) (player_of c.turn.new.server c.turn.new.clients) c.cut_line.result.0.now (lines_left c.cut_line.result.1) did.0
          here did.1 did.2;
      first = omega (arith, c.loop-rest.invariant.first);
      counted = left_shorter c.loop-rest.rest c.in-Some.text c.cut_line.result.1 c.loop-rest.number 16777218 c.in-Some.is c.cut_line.ensures.shorter c.loop-rest.invariant.counted;
    }

pub returns-clause-written : goal.returns-clause-written
returns-clause-written g c = stands_end _ _ _ _ _ _ _ (rw (left_none c.loop-rest.rest c.in_default.is) at c.loop-rest.invariant.stands)
