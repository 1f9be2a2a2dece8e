use Rattle.std.proofs.Common.{◌≡◌, ◌<◌, ◌+◌, ℕ, length, arith, ap, sym, ◌∙◌, length-append, ◌∷◌, []}
use Rattle.std.proofs.Math.Path.{subst}
use Rattle.std.proofs.lemmas.Grind.{get_or_default_zero}
use Rattle.mgs_search.specs.Borders.{char_at, IsBorders}
use Rattle.mgs_search.proofs.Borders.{borders_pushed}
use Rattle.mgs_search.proofs.heads.borders_of.Goals as goal

pub step-kept-requires-clause-borders : goal.step-kept-requires-clause-borders
step-kept-requires-clause-borders c =
    let ps = c.args.head.now in
    let pushed = borders_pushed ps c.loop-n.borders.items c.loop-n.n c.loop-n.kept c.loop-n.invariant.count c.loop-n.invariant.borders c.loop-n.invariant.read in
    subst (IsBorders ps) (sym (c.as_slice.ensures.value ∙ c.add_border.ensures)) pushed

pub loop-n-preserved : goal.loop-n-preserved
loop-n-preserved c =
    let ps = c.args.head.now in
    let n : ℕ = c.loop-n.n in
    let bs = c.loop-n.borders.items in
    let x = c.index-head-n.result in
    let inside : n < length ps = omega arith in
    let next : char_at ps n ≡ x = sym (c.index-head-n.is ∙ get_or_default_zero ps n x inside) in
    record {
      count = ap length c.add_border.ensures ∙ length-append bs (c.loop-n.kept ∷ []) ∙ ap (λ (j : ℕ). j + 1) c.loop-n.invariant.count;
      borders = subst (IsBorders ps) (sym c.add_border.ensures) (borders_pushed ps bs n c.loop-n.kept c.loop-n.invariant.count c.loop-n.invariant.borders c.loop-n.invariant.read);
      read = c.step-kept.ensures.value (char_at ps) 1 n c.loop-n.invariant.read next;
    }
