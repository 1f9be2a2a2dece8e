use Rattle.std.proofs.Common.{◌≡◌, ◌∙◌, ◌^◌, Some, true, false, ap, sym, refl}
use Rattle.std.specs.Prelude.{is_some, nat_le}
use Rattle.mgs_model.specs.declared.errors.OpenFault.TheVariants.{Full}
use Rattle.mgs_model.specs.Events.{open_fault}
use Rattle.mgs_world.specs.Worlds.{world_of}
use Rattle.mgs_core.proofs.Openings.{fault_is, many_sessions, no_user}
use Rattle.mgs_core.proofs.Kept.{world_is}
use Rattle.mgs_core.proofs.server.Core.refusal.Goals.{then-is_full-via-then-is_full, then-is_full-via-else-is_full+then-is_used_up}
use Rattle.mgs_core.proofs.server.Core.refusal.Goals as goal

pub returns-then-is_none-clause-value : goal.returns-then-is_none-clause-value
returns-then-is_none-clause-value g c =
    let i = c.self.inside in
    rw (← world_is _ _ c.self.view_is) (sym (no_user (world_of i.world.directory i.world.buffers i.world.sessions.items i.next_id) c.args.user.now c.args.rows c.args.cols (ap is_some (sym c.user.ensures) ∙ c.if-is_none.ensures)))

pub returns-then-not-is_size-clause-value : goal.returns-then-not-is_size-clause-value
returns-then-not-is_size-clause-value g c =
    let i = c.self.inside in
    rw (← world_is _ _ c.self.view_is) (sym (fault_is (world_of i.world.directory i.world.buffers i.world.sessions.items i.next_id) c.args.user.now c.args.rows c.args.cols true false _ _ (ap is_some (sym c.user.ensures) ∙ c.if-is_none.ensures) (sym c.is_size.ensures ∙ c.if-not-is_size.true) refl refl))

pub returns-then-is_full-clause-value : goal.returns-then-is_full-clause-value
returns-then-is_full-clause-value g c =
    let i = c.self.inside in
    let v = world_of i.world.directory i.world.buffers i.world.sessions.items i.next_id in
    let due = fault_is v c.args.user.now c.args.rows c.args.cols true true in
    let known = ap is_some (sym c.user.ensures) ∙ c.if-is_none.ensures in
    let fits = sym c.is_size.ensures ∙ c.if-not-is_size.false in
    let many = many_sessions i.world.directory i.world.buffers i.world.sessions.items i.next_id c.len.result (c.len.ensures ∙ i.world.sessions.ok.0) ∙ sym c.is_full.ensures in
    let full : open_fault v c.args.user.now c.args.rows c.args.cols ≡ Some Full =
    elim c.then-is_full.branch [
      | then-is_full-via-then-is_full w ↦ due true (nat_le (2 ^ 64) v.next_id) known fits (many ∙ w.if-is_full.true) refl
      | then-is_full-via-else-is_full+then-is_used_up w ↦ due false true known fits (many ∙ w.if-is_full.false) (sym w.is_used_up.ensures ∙ w.if-is_used_up.true)
    ] in
    rw (← world_is _ _ c.self.view_is) (sym full)

pub returns-clause-value : goal.returns-clause-value
returns-clause-value g c =
    let i = c.self.inside in
    let v = world_of i.world.directory i.world.buffers i.world.sessions.items i.next_id in
    rw (← world_is _ _ c.self.view_is) (sym (fault_is v c.args.user.now c.args.rows c.args.cols true true false false (ap is_some (sym c.user.ensures) ∙ c.if-is_none.ensures) (sym c.is_size.ensures ∙ c.if-not-is_size.false)
    (many_sessions i.world.directory i.world.buffers i.world.sessions.items i.next_id c.len.result (c.len.ensures ∙ i.world.sessions.ok.0) ∙ sym c.is_full.ensures ∙ c.if-is_full.false) (sym c.is_used_up.ensures ∙ c.if-is_used_up.false)))
