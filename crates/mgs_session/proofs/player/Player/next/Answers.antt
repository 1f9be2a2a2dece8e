use Rattle.std.proofs.Common.{subst}
use Rattle.mgs_session.specs.Playing.{IsNext, Playing}
use Rattle.mgs_session.specs.declared.player.Pending.TheVariants.{Replacement, FirstReplacement}
use Rattle.mgs_session.specs.Playing.{left_of}
use Rattle.mgs_session.proofs.Rounds.{first_replacement, replacement_next}
use Rattle.mgs_session.proofs.player.Player.next.Goals as goal

pub returns-then-self-2 : goal.returns-then-self-2
returns-then-self-2 c =
    let p = c.self.inside in
    subst (λ (q : Playing). IsNext FirstReplacement q q) c.self.view_is (first_replacement p.typed p.begins p.replaces_all p.is_playing (left_of p.bytes.items p.left.at p.left.rounds) c.in_default.is c.if-self-2.true c.if-self.true)

pub returns-then-self : goal.returns-then-self
returns-then-self c =
    let p = c.self.inside in
    subst (λ (q : Playing). IsNext Replacement q q) c.self.view_is (replacement_next p.typed p.begins p.replaces_all p.is_playing (left_of p.bytes.items p.left.at p.left.rounds) c.in_default.is c.if-self-2.false c.if-self.true)
