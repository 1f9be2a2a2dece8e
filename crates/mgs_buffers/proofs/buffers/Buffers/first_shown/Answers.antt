use Rattle.std.proofs.Common.{Bool, Option, sym, ap, subst}
use Rattle.std.specs.Prelude.{IfSome}
use Rattle.std.specs.Option.{option_map}
use Rattle.mgs_model.specs.World.{Buffer, may}
use Rattle.mgs_model.specs.declared.right.Right.TheVariants.{ReadAttributes}
use Rattle.mgs_buffers.specs.MarkedBuffer.{HasBuffer}
use Rattle.mgs_buffers.proofs.MarkedLemmas.{kept-first, found-first, found-later}
use Rattle.mgs_buffers.proofs.buffers.Buffers.first_shown.Goals as goal

pub returns-then-is_shown-clause-kept : goal.returns-then-is_shown-clause-kept
returns-then-is_shown-clause-kept g c =
    let shown : Buffer → Bool = may c.args.directory.now c.args.user.now ReadAttributes in
    let found = found-first g.T.Text.text g.T.Text.marks shown _ _ c.args.self.now _ _ c.in-Some.ensures.steps c.loop-name.invariant c.if-is_shown.ensures in
    subst (λ (o : Option Buffer). IfSome (option_map (λ (b : Buffer). b.name) o) (λ n. HasBuffer n c.args.self.now)) found (kept-first shown c.args.self.now)

pub returns-then-is_shown-clause-value : goal.returns-then-is_shown-clause-value
returns-then-is_shown-clause-value g c =
    let shown : Buffer → Bool = may c.args.directory.now c.args.user.now ReadAttributes in
    sym (ap (option_map (λ (b : Buffer). b.name)) (found-first g.T.Text.text g.T.Text.marks shown _ _ c.args.self.now _ _ c.in-Some.ensures.steps c.loop-name.invariant c.if-is_shown.ensures))

pub loop-name-preserved : goal.loop-name-preserved
loop-name-preserved g c =
    let shown : Buffer → Bool = may c.args.directory.now c.args.user.now ReadAttributes in
    found-later g.T.Text.text g.T.Text.marks shown _ _ c.args.self.now _ _ c.in-Some.ensures.steps c.loop-name.invariant c.if-is_shown.ensures
