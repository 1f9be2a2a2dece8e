use Rattle.std.proofs.Common.{◌∙◌, ap, rules}
use Rattle.indexmap.proofs.CallerLemmas.{insert_entry-new}
use Rattle.mgs_model.specs.Names.{same_name}
use Rattle.mgs_buffers.proofs.buffers.put_last.Goals as goal

pub returns-in-Ok-clause-ok : goal.returns-in-Ok-clause-ok
returns-in-Ok-clause-ok g c =
    let put = ap (λ m. m.entries) c.insert_entry.ensures.1 ∙ c.in-Ok.ensures.update.1 c.args.buffer ∙ insert_entry-new same_name c.args.all.now c.args.name c.args.buffer c.requires in
    search (put, rules)
