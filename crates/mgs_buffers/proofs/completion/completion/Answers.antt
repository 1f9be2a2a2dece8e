use Rattle.std.proofs.Common.{List, map, sym, ◌∙◌, arith}
use Rattle.std.proofs.lemmas.List.{length-map}
use Rattle.mgs_buffers.specs.Contents.{marked_all, marked_of}
use Rattle.mgs_buffers.specs.MarkedBuffer.{MarkedBuffer}
use Rattle.mgs_mini.specs.Narrowing.{granted_names}
use Rattle.mgs_buffers.proofs.Completed.{by_names, found_end}
use Rattle.mgs_buffers.proofs.completion.completion.Goals as goal

pub loop-place-init : goal.loop-place-init
loop-place-init g c =
    let ks : List MarkedBuffer = marked_all g.T.Text.text g.T.Text.marks c.args.all.now.entries in
    record {
      within = tt;
      same = by_names c.args.input.now (granted_names c.args.directory.now c.args.user.now (map (λ (k : MarkedBuffer). k.buffer) ks));
      judged = c.requires;
    }

pub loop-place-preserved : goal.loop-place-preserved
loop-place-preserved g c = record {
  within = c.with_place-found.ensures.within c.loop-place.invariant.within;
  same = sym c.with_place-found.ensures.same ∙ c.loop-place.invariant.same;
  judged = c.with_place-found.ensures.judged;
}

pub returns : goal.returns
returns g c =
    let ks : List MarkedBuffer = marked_all g.T.Text.text g.T.Text.marks c.args.all.now.entries in
    record {
      within = c.loop-place.invariant.within;
      value = sym (found_end c.args.directory.now c.args.user.now c.args.input.now _ ks c.loop-place.place (omega (arith, c.loop-place-test.false, c.loop-place.auto.place-end, c.len-place-end.ensures.len, length-map c.args.all.now.entries (λ e. marked_of g.T.Text.text g.T.Text.marks e.0 e.1)))) ∙ c.loop-place.invariant.same;
      judged = c.loop-place.invariant.judged;
    }
