-- What becomes of an access list.
use Rattle.std.specs.Prelude.{◌≡◌, ℕ, List, [], Result, Ok}
use Rattle.mgs_model.specs.Plans.{entries_changed, entry_inserted, entry_replaced, new_number}
use Rattle.mgs_model.specs.declared.entry.Entry.{Entry}
use Rattle.mgs_model.specs.declared.echo_text.Message.{Message}
use Rattle.mgs_model.specs.declared.session.EntryChange.TheVariants.{DeleteEntry}
use Rattle.mgs_buffers.specs.MarkedBuffer.{HasBuffer, MarkedBuffer, marked_at}
use Rattle.mgs_plan.specs.declared.outcome.EntryPlan.{EntryPlan}
use Rattle.mgs_plan.specs.declared.outcome.EntryPlan.TheVariants.{Insert, Delete, Replace}

abbrev pub entries_planned : EntryPlan → List Entry → Result (List Entry) Message
entries_planned (Insert n e) entries = entry_inserted entries (new_number entries n) e
entries_planned (Delete n) entries = entries_changed DeleteEntry entries n []
entries_planned (Replace n e) entries = entry_replaced entries n e

-- that it can be, in the buffer of a name
pub record CanSetList (ks : List MarkedBuffer) (name : List ℕ) (plan : EntryPlan) : Type 0 where
  pub kept : HasBuffer name ks
  pub entries : List Entry
  pub planned : entries_planned plan (marked_at name ks).buffer.entries ≡ Ok entries
