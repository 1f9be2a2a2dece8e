use Rattle.std.proofs.Common.{get_or, position, sym, ap, refl, ◌∙◌}
use Rattle.mgs_replay.specs.Setups.{is_drafted}
use Rattle.mgs_replay.specs.Settings.{text_refused}
use Rattle.mgs_replay.proofs.Drafts.{lengthened, not_drafted}
use Rattle.mgs_replay.proofs.setup.text_line.Goals as goal

pub returns-in-Some : goal.returns-in-Some
returns-in-Some c =
    let ds = c.args.drafts.now in
    let d = c.index-drafts-at.result in
    lengthened c.add_text.result c.args.text.now c.args.name.now ds c.in-Some.at (get_or ds c.in-Some.at d) c.add_text.new.draft
    (sym c.in-Some.is ∙ c.place_of.ensures.at ∙ ap (λ n. position (is_drafted n) ds) c.as_bytes.ensures.value)
    (ap (λ x. get_or ds c.in-Some.at x) c.index-drafts-at.is)
    c.add_text.ensures.text c.add_text.ensures.list c.add_text.ensures.name c.add_text.ensures.owner c.add_text.ensures.group

pub returns-in-None : goal.returns-in-None
returns-in-None c =
    let ds = c.args.drafts.now in (
      not_drafted (λ o. text_refused o c.args.text.now) c.args.name.now ds
          (sym c.in-None.is ∙ c.place_of.ensures.at ∙ ap (λ n. position (is_drafted n) ds) c.as_bytes.ensures.value) refl,
      refl,
    )
