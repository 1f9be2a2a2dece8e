use Rattle.std.proofs.Common.{sym, subst}
use Rattle.std.specs.Str.{IsUtf8}
use Rattle.mgs_buffers.proofs.Spelled.{name_is_text}
use Rattle.mgs_ledger.proofs.rights_spelling.name_text.Goals as goal

pub returns-in-Err : goal.returns-in-Err
returns-in-Err c = absurd (c.in-Err.ensures.cases.0 (subst IsUtf8 (sym c.as_bytes.ensures.value) (name_is_text c.args.name.now c.as_bytes.ensures.form)))
