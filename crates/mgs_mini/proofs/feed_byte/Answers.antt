use Rattle.std.proofs.Common.{◌∙◌}
use Rattle.mgs_mini.proofs.Characters.{behind_one, behind_two, behind_three}
use Rattle.mgs_mini.proofs.feed_byte.Goals as goal

pub returns-in-One-clause-turn : goal.returns-in-One-clause-turn
returns-in-One-clause-turn c = λ v q state.
    behind_one v q state c.args.input.now.items c.args.byte c.in-One.a c.args.waiting c.in-One.is c.requires c.if-byte-eq-QUIT.false ∙ c.feed_character.ensures.turn v q state

pub returns-in-Two-clause-turn : goal.returns-in-Two-clause-turn
returns-in-Two-clause-turn c = λ v q state.
    behind_two v q state c.args.input.now.items c.args.byte c.in-Two.a c.in-Two.b c.args.waiting c.in-Two.is c.requires c.if-byte-eq-QUIT.false ∙ c.feed_character-in-Two.ensures.turn v q state

pub returns-in-Three-clause-turn : goal.returns-in-Three-clause-turn
returns-in-Three-clause-turn c = λ v q state.
    behind_three v q state c.args.input.now.items c.args.byte c.in-Three.a c.in-Three.b c.in-Three.c c.args.waiting c.in-Three.is c.requires c.if-byte-eq-QUIT.false ∙ c.feed_character-in-Three.ensures.turn v q state
