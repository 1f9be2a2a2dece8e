use Rattle.mgs_buffers.proofs.list_row.is_shown_by.Goals as goal

pub returns-clause-value : goal.returns-clause-value
returns-clause-value g c = c.grants_by.ensures.value c.args.name.now
