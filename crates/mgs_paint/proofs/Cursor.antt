-- Where operations leave the cursor of a screen.
use Rattle.std.proofs.Common.{◌≡◌, List, [], ◌∷◌, ap}
use Rattle.mgs_term.specs.Screen.{Screen}
use Rattle.mgs_term.specs.Sequences.{after}
use Rattle.mgs_term.specs.Drawing.{Leads}
use Rattle.mgs_term.specs.declared.operation.Operation.{Operation}
use Rattle.mgs_term.specs.declared.operation.Operation.TheVariants.{Goto, Clear, Erase, Reverse, Plain, Unwrap, Print}
use Rattle.mgs_paint.specs.Changes.{moved}

pub leads_cursor : (may : Screen → Operation → Type 0) (os : List Operation) (s t : Screen) → Leads may os s t → moved s.cols (s.row, s.col) os ≡ (t.row, t.col)
leads_cursor may [] s t leads = ap (λ (z : Screen). (z.row, z.col)) leads
leads_cursor may (Goto r c ∷ os) s t leads = leads_cursor may os (after (Goto r c) s) t leads.2
leads_cursor may (Clear ∷ os) s t leads = leads_cursor may os (after Clear s) t leads.2
leads_cursor may (Erase ∷ os) s t leads = leads_cursor may os (after Erase s) t leads.2
leads_cursor may (Reverse ∷ os) s t leads = leads_cursor may os (after Reverse s) t leads.2
leads_cursor may (Plain ∷ os) s t leads = leads_cursor may os (after Plain s) t leads.2
leads_cursor may (Unwrap ∷ os) s t leads = leads_cursor may os (after Unwrap s) t leads.2
leads_cursor may (Print b ∷ os) s t leads = leads_cursor may os (after (Print b) s) t leads.2
