use Rattle.std.proofs.Common.{◌∙◌, ap}
use Rattle.mgs_model.specs.Spelling.{entry_in}
use Rattle.mgs_acl.proofs.Printable.{entry_printable}
use Rattle.mgs_acl.proofs.RoundTrip.{entry_in-entry_text, entry_in-printed}
use Rattle.mgs_acl.proofs.entry_printer.print_entry.Goals as goal

pub returns-clause-read_back : goal.returns-clause-read_back
returns-clause-read_back c = λ h. ap entry_in c.printed.ensures.text ∙ entry_in-entry_text c.args.entry.now h

pub returns-clause-canonical : goal.returns-clause-canonical
returns-clause-canonical c = λ text h. ap entry_in c.printed.ensures.text ∙ entry_in-printed text c.args.entry.now h

pub returns-clause-printable : goal.returns-clause-printable
returns-clause-printable c = entry_printable c.args.entry.now c.printed.result.bytes c.printed.ensures.text c.printed.ensures.form
