use Rattle.std.proofs.Common.{ℕ, List, Some, sym, ap, ◌∙◌}
use Rattle.mgs_keys.proofs.Utf8Lemmas.{utf8_of-text, utf8_of-other}
use Rattle.mgs_keys.proofs.words.utf8.Goals as goal

pub returns-in-Ok : goal.returns-in-Ok
returns-in-Ok c =
    let e = c.in-Ok.ensures.cases.0 in
    ap (λ (bs : List ℕ). Some bs) e ∙ sym (utf8_of-text c.args.bytes.now c.in-Ok.ensures.cases.1)

pub returns-in-Err : goal.returns-in-Err
returns-in-Err c = sym (utf8_of-other c.args.bytes.now c.in-Err.ensures.cases.0)
