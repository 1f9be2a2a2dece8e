use Rattle.std.proofs.Common.{ap, sym, ◌∙◌}
use Rattle.std.specs.Prelude.{slice_get}
use Rattle.mgs_plan.specs.Rows.{outcome_without, rows_scrolled}
use Rattle.mgs_plan.proofs.list_scroll.plan_rows.Goals as goal

pub returns-in-Some-clause-value : goal.returns-in-Some-clause-value
returns-in-Some-clause-value c = λ ks v stored.
    let ws = c.args.session.now.windows in
    ap (outcome_without v.session.state) (sym (c.rows_scrolled.ensures ∙ ap (λ s. rows_scrolled s (slice_get ws.windows ws.selected)) c.scroll_in.ensures) ∙ c.in-Some.is)

pub returns-in-Some-clause-can : goal.returns-in-Some-clause-can
returns-in-Some-clause-can c = λ directory ks none. record { by = c.scroll_in.result; unshown = none; scrolled = sym c.rows_scrolled.ensures ∙ c.in-Some.is }

pub returns-in-None-clause-value : goal.returns-in-None-clause-value
returns-in-None-clause-value c = λ ks v stored.
    let ws = c.args.session.now.windows in
    ap (outcome_without v.session.state) (sym (c.rows_scrolled.ensures ∙ ap (λ s. rows_scrolled s (slice_get ws.windows ws.selected)) c.scroll_in.ensures) ∙ c.in-None.is)
