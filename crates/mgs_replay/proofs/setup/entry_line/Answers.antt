use Rattle.std.proofs.Common.{get_or, position, sym, ap, refl, ◌∙◌}
use Rattle.mgs_acl.specs.Spelling.{entry_in}
use Rattle.mgs_replay.specs.Setups.{is_drafted}
use Rattle.mgs_replay.specs.Settings.{entry_refused}
use Rattle.mgs_replay.proofs.Drafts.{listed, not_drafted}
use Rattle.mgs_replay.proofs.setup.entry_line.Goals as goal

pub returns-in-Some : goal.returns-in-Some
returns-in-Some c =
    let ds = c.args.drafts.now in
    let d = c.index-drafts-at.result in
    listed c.add_entry.result (entry_in c.args.entry.now) c.args.name.now ds c.in-Some.at (get_or ds c.in-Some.at d) c.add_entry.new.draft
    (sym c.in-Some.is ∙ c.place_of.ensures.at ∙ ap (λ n. position (is_drafted n) ds) c.as_bytes.ensures.value)
    (ap (λ x. get_or ds c.in-Some.at x) c.index-drafts-at.is)
    c.add_entry.ensures.list c.add_entry.ensures.text c.add_entry.ensures.name c.add_entry.ensures.owner c.add_entry.ensures.group

pub returns-in-None : goal.returns-in-None
returns-in-None c =
    let ds = c.args.drafts.now in (
      not_drafted (λ o. entry_refused o (entry_in c.args.entry.now)) c.args.name.now ds
          (sym c.in-None.is ∙ c.place_of.ensures.at ∙ ap (λ n. position (is_drafted n) ds) c.as_bytes.ensures.value) refl,
      refl,
    )
