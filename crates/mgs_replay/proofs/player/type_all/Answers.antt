use Rattle.std.proofs.Common.{ℕ, ◌+◌, List, drop, get_or, arith, sym, subst}
use Rattle.std.proofs.lemmas.List.{drop_more}
use Rattle.mgs_replay.specs.Served.{player_of}
use Rattle.mgs_replay.specs.Turns.{Types}
use Rattle.mgs_replay.proofs.Players.{types_more}
use Rattle.mgs_replay.proofs.player.type_all.Goals as goal

pub loop-key-preserved : goal.loop-key-preserved
loop-key-preserved g c =
    let i = c.loop-key.key-index in
    let keys = c.args.keys.now in
    let here = player_of c.loop-key.server c.loop-key.clients in
    record {
      ready = c.in-Ok.ensures.ready;
      types = λ t rest.
          c.loop-key.invariant.types t
          (subst (λ (ks : List ℕ). Types here c.args.label.now ks t) (sym (drop_more keys i 0 (omega arith)))
          (types_more here (player_of c.type_one.new.server c.type_one.new.clients) t c.args.label.now (get_or keys i 0) (drop (i + 1) keys) c.in-Ok.ensures.types rest));
    }
