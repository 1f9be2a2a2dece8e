use Rattle.mgs_disk.proofs.Lengths.{read_so}
use Rattle.mgs_disk.proofs.disk.read_text.Goals as goal

pub returns-in-Ok : goal.returns-in-Ok
returns-in-Ok g c = read_so (λ t. t.items) c.text_of.result _ c.in-Ok.bytes.items c.deref.result.now c.deref.ensures.value c.in-Ok.ensures c.text_of.ensures.whole c.text_of.ensures.long
