use Rattle.std.proofs.Common.{◌≡◌, ℕ, List, sym, subst}
use Rattle.std.specs.Prelude.{Result}
use Rattle.mgs_model.specs.Plans.{alteration}
use Rattle.mgs_model.specs.declared.echo_text.Message.{Message}
use Rattle.mgs_model.specs.declared.session.Alteration.{Alteration}
use Rattle.mgs_model.specs.declared.session.Alteration.TheVariants.{UpcaseWord, DowncaseWord, CapitalizeWord, UpcaseRegion, DowncaseRegion, JustOneSpace, DeleteHorizontalSpace, DeleteBlankLines, JoinLine, FillParagraph}
use Rattle.mgs_edit.specs.Reading.{IsChange}
use Rattle.mgs_edit.specs.declared.plan.Around.{Around}
use Rattle.mgs_edit.specs.declared.plan.Change.{Change}
use Rattle.mgs_edit.proofs.alterations.alteration.Goals as goal

-- the plan of the command of an arm
of_arm : (command k : Alteration) (x : Around) (text : List ℕ) (r : Result Change Message) → command ≡ k → IsChange (alteration k) x text r → IsChange (alteration command) x text r
of_arm command k x text r is h = subst (λ (a : Alteration). IsChange (alteration a) x text r) (sym is) h

pub returns-in-UpcaseWord-clause-plan : goal.returns-in-UpcaseWord-clause-plan
returns-in-UpcaseWord-clause-plan g c =
    let x = c.args.around.now in let text = g.T.Text.text c.args.text.now in
    of_arm c.args.command UpcaseWord x text c.planned.result c.in-UpcaseWord.is (c.planned.ensures.plan UpcaseWord x text c.given_of-given.result c.given_of-given.ensures c.case_words.ensures.plan)

pub returns-in-DowncaseWord-clause-plan : goal.returns-in-DowncaseWord-clause-plan
returns-in-DowncaseWord-clause-plan g c =
    let x = c.args.around.now in let text = g.T.Text.text c.args.text.now in
    of_arm c.args.command DowncaseWord x text c.planned-in-DowncaseWord.result c.in-DowncaseWord.is (c.planned-in-DowncaseWord.ensures.plan DowncaseWord x text c.given_of-given.result c.given_of-given.ensures c.case_words-in-DowncaseWord.ensures.plan)

pub returns-in-CapitalizeWord-clause-plan : goal.returns-in-CapitalizeWord-clause-plan
returns-in-CapitalizeWord-clause-plan g c =
    let x = c.args.around.now in let text = g.T.Text.text c.args.text.now in
    of_arm c.args.command CapitalizeWord x text c.planned-in-CapitalizeWord.result c.in-CapitalizeWord.is (c.planned-in-CapitalizeWord.ensures.plan CapitalizeWord x text c.given_of-given.result c.given_of-given.ensures c.case_words-in-CapitalizeWord.ensures.plan)

pub returns-in-UpcaseRegion-clause-plan : goal.returns-in-UpcaseRegion-clause-plan
returns-in-UpcaseRegion-clause-plan g c =
    let x = c.args.around.now in let text = g.T.Text.text c.args.text.now in
    of_arm c.args.command UpcaseRegion x text c.planned-in-UpcaseRegion.result c.in-UpcaseRegion.is (c.planned-in-UpcaseRegion.ensures.plan UpcaseRegion x text c.given_of-given.result c.given_of-given.ensures c.case_region.ensures.plan)

pub returns-in-DowncaseRegion-clause-plan : goal.returns-in-DowncaseRegion-clause-plan
returns-in-DowncaseRegion-clause-plan g c =
    let x = c.args.around.now in let text = g.T.Text.text c.args.text.now in
    of_arm c.args.command DowncaseRegion x text c.planned-in-DowncaseRegion.result c.in-DowncaseRegion.is (c.planned-in-DowncaseRegion.ensures.plan DowncaseRegion x text c.given_of-given.result c.given_of-given.ensures c.case_region-in-DowncaseRegion.ensures.plan)

pub returns-in-JustOneSpace-clause-plan : goal.returns-in-JustOneSpace-clause-plan
returns-in-JustOneSpace-clause-plan g c =
    let x = c.args.around.now in let text = g.T.Text.text c.args.text.now in
    of_arm c.args.command JustOneSpace x text c.planned-in-JustOneSpace.result c.in-JustOneSpace.is (c.planned-in-JustOneSpace.ensures.plan JustOneSpace x text c.given_of-given.result c.given_of-given.ensures c.just_one_space.ensures.plan)

pub returns-in-DeleteHorizontalSpace-clause-plan : goal.returns-in-DeleteHorizontalSpace-clause-plan
returns-in-DeleteHorizontalSpace-clause-plan g c =
    let x = c.args.around.now in let text = g.T.Text.text c.args.text.now in
    of_arm c.args.command DeleteHorizontalSpace x text c.planned-in-DeleteHorizontalSpace.result c.in-DeleteHorizontalSpace.is (c.planned-in-DeleteHorizontalSpace.ensures.plan DeleteHorizontalSpace x text c.given_of-given.result c.given_of-given.ensures c.delete_horizontal_space.ensures.plan)

pub returns-in-DeleteBlankLines-clause-plan : goal.returns-in-DeleteBlankLines-clause-plan
returns-in-DeleteBlankLines-clause-plan g c =
    let x = c.args.around.now in let text = g.T.Text.text c.args.text.now in
    of_arm c.args.command DeleteBlankLines x text c.planned-in-DeleteBlankLines.result c.in-DeleteBlankLines.is (c.planned-in-DeleteBlankLines.ensures.plan DeleteBlankLines x text c.given_of-given.result c.given_of-given.ensures c.delete_blank_lines.ensures.plan)

pub returns-in-JoinLine-clause-plan : goal.returns-in-JoinLine-clause-plan
returns-in-JoinLine-clause-plan g c =
    let x = c.args.around.now in let text = g.T.Text.text c.args.text.now in
    of_arm c.args.command JoinLine x text c.planned-in-JoinLine.result c.in-JoinLine.is (c.planned-in-JoinLine.ensures.plan JoinLine x text c.given_of-given.result c.given_of-given.ensures c.join_line.ensures.plan)

pub returns-in-FillParagraph-clause-plan : goal.returns-in-FillParagraph-clause-plan
returns-in-FillParagraph-clause-plan g c =
    let x = c.args.around.now in let text = g.T.Text.text c.args.text.now in
    of_arm c.args.command FillParagraph x text c.planned-in-FillParagraph.result c.in-FillParagraph.is (c.planned-in-FillParagraph.ensures.plan FillParagraph x text c.given_of-given.result c.given_of-given.ensures c.fill_paragraph.ensures.plan)
