-- What is planned where the rights are granted, and where they are not.
use Rattle.std.proofs.Common.{◌≡◌, ℕ, List, length, sym, ap, subst, ◌∙◌}
use Rattle.mgs_model.specs.Access.{Directory, decision}
use Rattle.mgs_model.specs.Acts.{fails, permitted}
use Rattle.mgs_model.specs.Outcome.{Outcome}
use Rattle.mgs_model.specs.Plans as plans
use Rattle.mgs_model.specs.World as model
use Rattle.mgs_model.specs.declared.entry.Decision.{Decision}
use Rattle.mgs_model.specs.declared.entry.Decision.TheVariants.{Granted}
use Rattle.mgs_model.specs.declared.echo_text.Message.{Message}
use Rattle.mgs_model.specs.declared.session.Command.{Command}
use Rattle.mgs_buffers.specs.MarkedBuffer.{MarkedBuffer, marked_at}
use Rattle.mgs_windows.specs.declared.WindowMarks.{WindowMarks}
use Rattle.mgs_edit.specs.Reading.{surrounded}
use Rattle.mgs_edit.specs.declared.plan.Around.{Around}
use Rattle.mgs_plan.specs.declared.action.Action.{Action}
use Rattle.mgs_plan.specs.declared.action.Action.TheVariants.{Fails}
use Rattle.mgs_plan.specs.declared.given.Given.{Given}
use Rattle.mgs_plan.specs.Actions.{CanDo, CanDoIn, IsGrantedIn, action_outcome, around_given, around_in, given_state, granted_outcome, mask_at, outcome_through, plan_in}

-- what holds of a text and a serial holds of the buffer's, which are the same
pub at_buffer : (holds : List ℕ → ℕ → Type 0) (text kept : List ℕ) (serial last : ℕ) → text ≡ kept → serial ≡ last → holds text serial → holds kept last
at_buffer holds text kept serial last same_text same_serial h = subst (λ n. holds kept n) same_serial (subst (λ t. holds t serial) same_text h)

-- what is planned in an arm of a command, and that it can be done, over the text and the serial that were read
pub planned_here : (ks : List MarkedBuffer) (name kill : List ℕ) (around : Around) (c k : Command) (action : Action) (text : List ℕ) (serial : ℕ)
    → text ≡ (marked_at name ks).buffer.text → serial ≡ (marked_at name ks).buffer.serial → c ≡ k
    → (let items = (marked_at name ks).buffer.items in (state : model.State) (rest : plans.Around) → action_outcome state name text items kill action ≡ granted_outcome state k text items (surrounded around (length text) (record rest { name = name; kill = kill; serial = serial })))
    → ((items : List model.Item) → CanDo text items kill serial action) → IsGrantedIn ks name kill around c action × CanDoIn ks name kill action
planned_here ks name kill around c k action text serial same_text same_serial is value can =
    let b = (marked_at name ks).buffer in (
      λ state rest.
          at_buffer (λ t n. action_outcome state name t b.items kill action ≡ granted_outcome state c t b.items (surrounded around (length t) (record rest { name = name; kill = kill; serial = n }))) text b.text serial b.serial same_text same_serial
          (value state rest ∙ sym (ap (λ (k : Command). granted_outcome state k text b.items (surrounded around (length text) (record rest { name = name; kill = kill; serial = serial }))) is)),
      at_buffer (λ t n. CanDo t b.items kill n action) text b.text serial b.serial same_text same_serial (can b.items),
    )

-- what is decided on the rights that a command needs
abbrev pub needed : Directory → List MarkedBuffer → List ℕ → WindowMarks → Given → Command → ℕ → Decision
needed directory ks user x g c killed =
    let b = (marked_at x.name ks).buffer in
    decision directory b.owners user b.entries (mask_at c (around_given directory ks user x g killed).place (length b.text))

pub granted : (directory : Directory) (ks : List MarkedBuffer) (user : List ℕ) (x : WindowMarks) (g : Given) (c : Command) (typed kill : List ℕ) (around : Around) (action : Action) (state : model.State)
    → around ≡ around_given directory ks user x g (length kill) → needed directory ks user x g c (length kill) ≡ Granted
    → (let b = (marked_at x.name ks).buffer in (state : model.State) (rest : plans.Around) → action_outcome state x.name b.text b.items kill action ≡ granted_outcome state c b.text b.items (record (surrounded around (length b.text) (record rest { name = x.name; kill = kill; serial = b.serial })) { typed = typed }))
    → outcome_through (given_state g state) x ks kill action ≡ plan_in directory ks (given_state g state) user x g.height c g.argument typed kill
granted directory ks user x g c typed kill around action holds around_is allowed value =
    let state = given_state g holds in
    let b = (marked_at x.name ks).buffer in
    let rest = around_in directory ks user x g.height g.argument typed kill state in
    let by_around = subst (λ (a : Around). action_outcome state x.name b.text b.items kill action ≡ granted_outcome state c b.text b.items (record (surrounded a (length b.text) (record rest { name = x.name; kill = kill; serial = b.serial })) { typed = typed })) around_is (value state rest) in
    by_around ∙ sym (ap (λ d. permitted state d (granted_outcome state c b.text b.items rest)) allowed)

pub denied : (directory : Directory) (ks : List MarkedBuffer) (user : List ℕ) (x : WindowMarks) (g : Given) (c : Command) (typed kill : List ℕ) (message : Message) (state : model.State)
    → ((state : model.State) (o : Outcome) → permitted state (needed directory ks user x g c (length kill)) o ≡ fails state message)
    → outcome_through (given_state g state) x ks kill (Fails message) ≡ plan_in directory ks (given_state g state) user x g.height c g.argument typed kill
denied directory ks user x g c typed kill message holds told =
    let state = given_state g holds in
    let b = (marked_at x.name ks).buffer in
    sym (told state (granted_outcome state c b.text b.items (around_in directory ks user x g.height g.argument typed kill state)))

-- the same for a session that has this kill buffer and whose selected window has so many rows
pub for_session : (directory : Directory) (ks : List MarkedBuffer) (user : List ℕ) (x : WindowMarks) (g : Given) (c : Command) (typed kill held : List ℕ) (height : ℕ) (action : Action) (state : model.State)
    → given_state g state ≡ state → held ≡ kill → height ≡ g.height
    → outcome_through (given_state g state) x ks held action ≡ plan_in directory ks (given_state g state) user x g.height c g.argument typed held
    → outcome_through state x ks kill action ≡ plan_in directory ks state user x height c g.argument typed kill
for_session directory ks user x g c typed kill held height action state same kills rows value =
    let by_state = subst (λ (o : model.State). outcome_through o x ks held action ≡ plan_in directory ks o user x g.height c g.argument typed held) same value in
    let by_kill = subst (λ (k : List ℕ). outcome_through state x ks k action ≡ plan_in directory ks state user x g.height c g.argument typed k) kills by_state in
    subst (λ (n : ℕ). outcome_through state x ks kill action ≡ plan_in directory ks state user x n c g.argument typed kill) (sym rows) by_kill
