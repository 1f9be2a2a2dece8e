-- What a search for a pattern comes to where reading is granted, and where it is not.
use Rattle.std.proofs.Common.{◌≡◌, ℕ, Bool, List, [], length, sym, ap, ◌∙◌}
use Rattle.mgs_model.specs.Access.{Decider, Directory, allows, decider, decision_by}
use Rattle.mgs_model.specs.Acts.{permitted, sought_by}
use Rattle.mgs_model.specs.Outcome.{Outcome}
use Rattle.mgs_model.specs.Rights.{rights_in}
use Rattle.mgs_model.specs.SearchCommands.{AroundSearch, seek}
use Rattle.mgs_model.specs.World.{Buffer, State}
use Rattle.mgs_model.specs.declared.entry.Decision.{Decision}
use Rattle.mgs_model.specs.declared.entry.Decision.TheVariants.{Granted}
use Rattle.mgs_model.specs.declared.echo_text.Message.{Message}
use Rattle.mgs_model.specs.declared.right.Right.{Right}
use Rattle.mgs_model.specs.declared.right.Right.TheVariants.{ReadData}
use Rattle.mgs_model.specs.declared.search.Direction.{Direction}
use Rattle.mgs_model.specs.declared.session.Seeking.TheVariants.{SearchFor}
use Rattle.mgs_buffers.specs.MarkedBuffer.{MarkedBuffer, mark_at, marked_at}
use Rattle.mgs_windows.specs.declared.WindowMarks.{WindowMarks}
use Rattle.mgs_plan.specs.declared.action.Action.{Action}
use Rattle.mgs_plan.specs.declared.action.Action.TheVariants.{Fails}
use Rattle.mgs_plan.specs.Actions.{IsSearchFor, IsSearchIn, around_search_in, place_in}
use Rattle.mgs_plan.specs.Deciding.{Refuses}
use Rattle.mgs_plan.proofs.Outcomes.{first_granted}

-- what is decided on reading the buffer of a name
abbrev pub reading_decided : Directory → List MarkedBuffer → List ℕ → List ℕ → Decision
reading_decided directory ks user name =
    let b = (marked_at name ks).buffer in decision_by (decider directory b.owners user b.entries) (rights_in 1)

module _ (directory : Directory) (ks : List MarkedBuffer) (user : List ℕ) (x : WindowMarks) (direction : Direction) (pattern : List ℕ) where
  abbrev b : Buffer
  b = (marked_at x.name ks).buffer

  abbrev d : Right → Decider
  d = decider directory b.owners user b.entries

  -- from a place
  abbrev comes : State → ℕ → Outcome
  comes state p =
      let seen : AroundSearch = around_search_in directory ks user x pattern state in
      sought_by state (seek (SearchFor direction) b.text (record seen { places = record { origin = 0; anchor = 0; point = p } }))

  -- whoever reads acts at the point
  pub search_granted : (action : Action) → reading_decided directory ks user x.name ≡ Granted → IsSearchIn ks x.name (mark_at x.name ks x.point) direction pattern action → IsSearchFor directory ks user x direction pattern action
  search_granted action granted value = λ state kill.
      let point = mark_at x.name ks x.point in
      value state kill (around_search_in directory ks user x pattern state)
      ∙ ap (λ (r : Bool). comes state (place_in r point (length b.text))) (sym (first_granted d [] granted))
      ∙ sym (ap (λ (g : Decision). permitted state g (comes state (place_in (allows (d ReadData)) point (length b.text)))) granted)

  pub search_denied : (message : Message) → Refuses (reading_decided directory ks user x.name) message → IsSearchFor directory ks user x direction pattern (Fails message)
  search_denied message refused = λ state kill. sym (refused state (comes state (place_in (allows (d ReadData)) (mark_at x.name ks x.point) (length b.text))))
