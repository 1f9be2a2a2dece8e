use Rattle.std.proofs.Common.{◌∙◌, ap, sym}
use Rattle.std.proofs.lemmas.Result.{IfOk-weaker, on_err_weaker}
use Rattle.mgs_world.specs.Worlds.{state_at, world_of}
use Rattle.mgs_core.specs.declared.byte_acts.ByteAct.TheVariants.{Answer}
use Rattle.mgs_core.proofs.Prompted.{answer_done, answer_may}
use Rattle.mgs_core.proofs.Taken.{quit_quietly, replaced_may, replaced_quietly, skipped_quietly, sought_quietly, started_replacing}
use Rattle.mgs_core.proofs.byte_acts.do_in_parts.Goals as goal

pub returns-in-Act-clause-ok : goal.returns-in-Act-clause-ok
returns-in-Act-clause-ok g c = rw c.in-Act.is c.do_key_act.ensures.ok

pub returns-in-Act-clause-may : goal.returns-in-Act-clause-may
returns-in-Act-clause-may g c = rw c.in-Act.is c.do_key_act.ensures.may

pub returns-in-Answer-clause-ok : goal.returns-in-Answer-clause-ok
returns-in-Answer-clause-ok g c =
    rw (c.in-Answer.is ∙ ap Answer (sym c.counted-count.ensures))
    (IfOk-weaker c.answer.result _ _
    (λ touched did id next place. answer_done touched _ _ _ _ id (state_at c.args.at c.args.sessions.now) c.args.due.before.now c.asked-prompt.result.now c.counted-count.result c.question-question.result c.input-input.result.now
    c.asked-prompt.ensures c.question-question.ensures c.input-input.ensures.value (did id next place)) c.answer.ensures.ok)

pub returns-in-Answer-clause-may : goal.returns-in-Answer-clause-may
returns-in-Answer-clause-may g c =
    rw (c.in-Answer.is ∙ ap Answer (sym c.counted-count.ensures))
    (on_err_weaker c.answer.result
    (λ may id next place. answer_may (world_of c.args.directory.now c.args.buffers.now c.args.sessions.now next) id (state_at c.args.at c.args.sessions.now) c.args.due.before.now c.asked-prompt.result.now c.counted-count.result c.question-question.result c.input-input.result.now
    c.asked-prompt.ensures c.question-question.ensures c.input-input.ensures.value (may id next place)) c.answer.ensures.may)

pub returns-in-Seek-clause-ok : goal.returns-in-Seek-clause-ok
returns-in-Seek-clause-ok g c id next place =
    rw c.in-Seek.is (sought_quietly _ _ _ id c.args.sessions.now c.args.at c.in-Seek.step (rw c.in-Seek.is at c.requires.ready) (λ s f held aim. c.search_on.ensures.world id next s f place held aim))

pub returns-in-QuitSearch-clause-ok : goal.returns-in-QuitSearch-clause-ok
returns-in-QuitSearch-clause-ok g c id next place = rw c.in-QuitSearch.is (quit_quietly _ _ _ id (c.quit_search.ensures.world c.args.directory.now id next place))

pub returns-in-StartReplacing-clause-ok : goal.returns-in-StartReplacing-clause-ok
returns-in-StartReplacing-clause-ok g c id next place =
    rw c.in-StartReplacing.is (started_replacing _ _ _ id c.args.due.before.now c.asked-prompt-in-StartReplacing.result.now c.of-pattern.result c.of-put.result c.asked-prompt-in-StartReplacing.ensures
    (c.of-pattern.ensures ∙ c.first.ensures.value) (c.of-put.ensures ∙ c.input.ensures.value) (c.start_replacing.ensures.world id next place))

pub returns-in-Ok-clause-ok : goal.returns-in-Ok-clause-ok
returns-in-Ok-clause-ok g c id next place =
    rw c.in-Replace.is (replaced_quietly c.in-Ok.touched _ _ _ id c.args.sessions.now c.args.at c.in-Replace.last (rw c.in-Replace.is at c.requires.ready) (λ s r held aim. c.in-Ok.ensures.ok id next s r place held aim) (λ s r held aim. c.in-Ok.ensures.tells id next s r place held aim))

pub returns-in-Err-clause-may : goal.returns-in-Err-clause-may
returns-in-Err-clause-may g c id next place =
    rw c.in-Replace.is (replaced_may (world_of c.args.directory.now c.args.buffers.now c.args.sessions.now next) id c.args.sessions.now c.args.at c.in-Replace.last (rw c.in-Replace.is at c.requires.ready) (λ s r held aim. c.in-Err.ensures.may id next s r place held aim))

pub returns-in-Skip-clause-ok : goal.returns-in-Skip-clause-ok
returns-in-Skip-clause-ok g c id next place =
    rw c.in-Skip.is (skipped_quietly _ _ _ id c.args.sessions.now c.args.at (rw c.in-Skip.is at c.requires.ready) (λ s r held aim. c.skip.ensures.world id next s r place held aim))

pub returns-in-Ok-clause-further : goal.returns-in-Ok-clause-further
returns-in-Ok-clause-further g c s t is old new some = c.in-Ok.ensures.further s t old new some
