use Rattle.mgs_cache.proofs.judge.Judge.decide.Goals as goal

-- what is recalled was kept
pub returns-in-Some-clause-value : goal.returns-in-Some-clause-value
returns-in-Some-clause-value c = c.requires.each c.args.user.now c.args.mask c.in-Some.decision c.in-Some.ensures.value
