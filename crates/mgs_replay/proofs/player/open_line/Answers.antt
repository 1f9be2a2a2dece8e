use Rattle.std.proofs.Common.{Bor, Ok, Err, sym, ap, subst, ◌∙◌}
use Rattle.std.specs.Prelude.{is_some}
use Rattle.mgs_engine.proofs.Prompt.{admits_opens}
use Rattle.mgs_replay.specs.declared.client.Client.{Client}
use Rattle.mgs_replay.specs.Served.{labels_in}
use Rattle.mgs_replay.proofs.Opens.{MakesOpen, opens_waiting}
use Rattle.mgs_replay.proofs.Players.{is_used, some_map, opened_runs, refused_runs, refused_ready}
use Rattle.mgs_replay.proofs.player.open_line.Goals as goal

pub returns-then-is_some-clause-runs : goal.returns-then-is_some-clause-runs
returns-then-is_some-clause-runs g c =
    is_used c.args.label c.args.clients.now ∙ ap is_some (sym c.client.ensures) ∙ some_map (λ (x : Bor Client). x.now) c.client.result ∙ sym c.is_some.ensures ∙ c.if-is_some.true

pub returns-in_default-clause-runs : goal.returns-in_default-clause-runs
returns-in_default-clause-runs g c =
    is_used c.args.label c.args.clients.now ∙ ap is_some (sym c.client.ensures) ∙ some_map (λ (x : Bor Client). x.now) c.client.result ∙ sym c.is_some.ensures ∙ c.if-is_some.false

pub client_session-requires-clause-waiting : goal.client_session-requires-clause-waiting
client_session-requires-clause-waiting g c =
    let free = is_used c.args.label c.args.clients.now ∙ ap is_some (sym c.client.ensures) ∙ some_map (λ (x : Bor Client). x.now) c.client.result ∙ sym c.is_some.ensures ∙ c.if-is_some.false in
    let made : MakesOpen c.args.server.now c.open.new.server c.args.user.now c.args.rows c.args.cols (Ok c.in-Ok-answer.id) = subst (MakesOpen c.args.server.now c.open.new.server c.args.user.now c.args.rows c.args.cols) c.in-Ok-answer.is (record { does = c.in-Ok.ensures.does; sizes = c.in-Ok.ensures.sizes }) in
    opens_waiting c.args.server.now c.open.new.server c.args.clients.now c.args.label c.args.user.now c.in-Ok-answer.id c.args.rows c.args.cols free c.requires made

pub returns-in-Ok-answer-clause-runs : goal.returns-in-Ok-answer-clause-runs
returns-in-Ok-answer-clause-runs g c =
    let free = is_used c.args.label c.args.clients.now ∙ ap is_some (sym c.client.ensures) ∙ some_map (λ (x : Bor Client). x.now) c.client.result ∙ sym c.is_some.ensures ∙ c.if-is_some.false in
    let made : MakesOpen c.args.server.now c.open.new.server c.args.user.now c.args.rows c.args.cols (Ok c.in-Ok-answer.id) = subst (MakesOpen c.args.server.now c.open.new.server c.args.user.now c.args.rows c.args.cols) c.in-Ok-answer.is (record { does = c.in-Ok.ensures.does; sizes = c.in-Ok.ensures.sizes }) in
    opened_runs c.client_session.result c.args.server.now.world c.open.new.server.world c.client_session.new.server.world (labels_in c.args.clients.now) (labels_in c.client_session.new.clients)
    c.args.label c.args.user.now c.args.rows c.args.cols c.in-Ok-answer.id c.args.out.now.items free (admits_opens c.args.server.now c.open.new.server c.args.user.now c.args.rows c.args.cols (Ok c.in-Ok-answer.id) made.does.0 c.requires.told)
    c.client_session.ensures.fault c.client_session.ensures.world c.client_session.ensures.labels

pub returns-in-Err-clause-ready : goal.returns-in-Err-clause-ready
returns-in-Err-clause-ready g c =
    let made : MakesOpen c.args.server.now c.open.new.server c.args.user.now c.args.rows c.args.cols (Err c.in-Err.fault) = subst (MakesOpen c.args.server.now c.open.new.server c.args.user.now c.args.rows c.args.cols) c.in-Err.is (record { does = c.in-Ok.ensures.does; sizes = c.in-Ok.ensures.sizes }) in
    refused_ready c.refuse_open.result c.args.server.now c.open.new.server c.args.clients.now c.refuse_open.new.clients c.args.label c.refuse_open.ensures.clients made.does.0.err c.requires

pub returns-in-Err-clause-runs : goal.returns-in-Err-clause-runs
returns-in-Err-clause-runs g c =
    let free = is_used c.args.label c.args.clients.now ∙ ap is_some (sym c.client.ensures) ∙ some_map (λ (x : Bor Client). x.now) c.client.result ∙ sym c.is_some.ensures ∙ c.if-is_some.false in
    let made : MakesOpen c.args.server.now c.open.new.server c.args.user.now c.args.rows c.args.cols (Err c.in-Err.fault) = subst (MakesOpen c.args.server.now c.open.new.server c.args.user.now c.args.rows c.args.cols) c.in-Err.is (record { does = c.in-Ok.ensures.does; sizes = c.in-Ok.ensures.sizes }) in
    refused_runs c.refuse_open.result c.args.server.now c.open.new.server c.args.clients.now c.refuse_open.new.clients c.args.label c.args.user.now c.args.rows c.args.cols c.in-Err.fault
    c.args.out.now.items c.refuse_open.new.out.items free (admits_opens c.args.server.now c.open.new.server c.args.user.now c.args.rows c.args.cols (Err c.in-Err.fault) made.does.0 c.requires.told)
    c.refuse_open.ensures.fault c.refuse_open.ensures.clients c.refuse_open.ensures.out
