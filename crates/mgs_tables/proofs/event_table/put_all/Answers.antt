use Rattle.std.proofs.Common.{◌∙◌, sym, subst, map, arith}
use Rattle.std.proofs.lemmas.List.{drop_more}
use Rattle.sqlite.specs.Held.{state}
use Rattle.sqlite.proofs.StateLemmas.{survives_then}
use Rattle.sqlite.proofs.InsideLemmas.{keeps_then}
use Rattle.mgs_tables.specs.Rows.{event_values}
use Rattle.mgs_tables.specs.Events.{RunAll}
use Rattle.mgs_tables.proofs.event_table.put_all.Goals as goal

pub loop-event-preserved : goal.loop-event-preserved
loop-event-preserved g c =
    let old = state g.S.Store c.args.tx.now.conn.now in
    let was = c.loop-event.tx.conn.now in
    let new = c.put_event_within.new.tx.conn.now in
    let step = c.put_event_within.ensures.survives in (
      c.put_event_within.ensures.same_reference ∙ c.loop-event.invariant.0,
      survives_then old (state g.S.Store was) (state g.S.Store new) _ _ (λ _. ⊥) (λ _ db none. none) (λ _ db none. none) c.loop-event.invariant.1 step,
      λ clean inside.
          let had = c.loop-event.invariant.2 (omega (arith, step.clean)) inside in
          let ran = c.in_ok-put_event_within.ensures.runs clean had.0 in (
            ran.1.mode,
            keeps_then old (state g.S.Store was) (state g.S.Store new) had.1 (record { was_open = λ _. ran.1.was_open; committed = λ _. ran.1.committed_is }),
            λ last rest. had.2 last (subst (λ xs. RunAll g.S.Store (map event_values xs) was last) (sym (drop_more c.args.events.now c.loop-event.event-index _ c.loop-event-test.true)) (new, _, ran.0, rest)),
          ),
    )
