use Rattle.std.proofs.Common.{◌≡◌, sym, subst}
use Rattle.std.specs.Prelude.{OnOk}
use Rattle.mgs_act.specs.Performing.{buffers_acted}
use Rattle.mgs_act.proofs.text_action.carry_out.Goals as goal

pub returns-in-Edits-clause-ok : goal.returns-in-Edits-clause-ok
returns-in-Edits-clause-ok g c =
    let x = c.args.spot.marks.now in
    let ks = c.args.buffers.now in
    let h = c.args.session.now in
    subst (λ a. OnOk c.change_text.result (c.change_text.new.buffers ≡ buffers_acted x h.kill a ks)) (sym c.in-Edits.is) c.change_text.ensures.ok
