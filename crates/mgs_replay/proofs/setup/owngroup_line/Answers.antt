use Rattle.std.proofs.Common.{Some, get_or, position, sym, ap, refl, ◌∙◌}
use Rattle.mgs_replay.specs.Setups.{is_drafted}
use Rattle.mgs_replay.specs.Settings.{owngroup_refused}
use Rattle.mgs_replay.proofs.Drafts.{grouped, not_drafted}
use Rattle.mgs_replay.proofs.setup.owngroup_line.Goals as goal

pub returns-in-Some : goal.returns-in-Some
returns-in-Some c =
    let ds = c.args.drafts.now in
    let x = get_or ds c.in-Some.at c.index-drafts-at.result in
    grouped c.args.name.now c.args.group.now c.args.directory.now ds c.in-Some.at x (record x { group = Some c.args.group })
    (sym c.in-Some.is ∙ c.place_of.ensures.at ∙ ap (λ n. position (is_drafted n) ds) c.as_bytes.ensures.value)
    (ap (λ x. get_or ds c.in-Some.at x) c.index-drafts-at.is)
    (sym c.is_group.ensures ∙ c.if-not-is_group.false) refl

pub returns-in-None : goal.returns-in-None
returns-in-None c =
    let ds = c.args.drafts.now in (
      not_drafted (λ o. owngroup_refused o c.args.group.now c.args.directory.now) c.args.name.now ds
          (sym c.in-None.is ∙ c.place_of.ensures.at ∙ ap (λ n. position (is_drafted n) ds) c.as_bytes.ensures.value) refl,
      refl,
    )
