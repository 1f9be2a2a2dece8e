use Rattle.std.proofs.Common.{◌≡◌, ℕ, map, Bor, List}
use Rattle.std.specs.Option.{option_map}
use Rattle.mgs_model.specs.Completion.{completion}
use Rattle.mgs_mini.specs.Narrowing.{granted_names}
use Rattle.mgs_buffers.specs.MarkedBuffer.{MarkedBuffer}
use Rattle.mgs_buffers.specs.Completed.{IsWithinName, found_from}
use Rattle.mgs_buffers.specs.Contents.{marked_all}
use Rattle.mgs_buffers.specs.Judging.{AreJudged, rules_kept}
use Rattle.mgs_buffers.proofs.completion.completion.Given as goal

-- the buffers that are left, from here, come to what all do
abbrev pub invariant-loop-place : goal.invariant-loop-place
invariant-loop-place g l =
    let ks : List MarkedBuffer = marked_all g.T.Text.text g.T.Text.marks l.all.entries in
    record {
      within : IsWithinName (option_map (λ (t : Bor (List ℕ)). t.now) l.found);
      same : found_from l.directory l.user l.input (option_map (λ (t : Bor (List ℕ)). t.now) l.found) ks l.place ≡ completion (granted_names l.directory l.user (map (λ (k : MarkedBuffer). k.buffer) ks)) l.input;
      judged : AreJudged l.directory (rules_kept ks) l.judge;
    }
