-- A tape of deeds: what acts did to rights and buffers, what they saved, and what was denied, in the order of the acts.
use Rattle.std.specs.Prelude.{ℕ, nat_lt, List, [], ◌∷◌, ◌++◌, Option, Some, None, length, if◌then◌else◌}
use Rattle.mgs_model.specs.Outcome.{Effect, SetList, SetOwners, Create, Kill, Save}
use Rattle.mgs_births.specs.Reports.{Report, Did, Refused}
use Rattle.mgs_births.specs.declared.deed.Deed.{Deed}
use Rattle.mgs_births.specs.declared.deed.Deed.TheVariants.{ListSet, OwnersSet, Created, Killed, Saved, Denied}

-- it has room for so many deeds; `None`: more than that were recorded
pub record Tape : Type 0 where
  pub room : ℕ
  pub deeds : Option (List Deed)

-- without a deed
abbrev pub blank_tape : ℕ → Tape
blank_tape room = record { room = room; deeds = Some [] }

-- one deed more, if there is room
abbrev pub deeds_with : ℕ → Deed → Option (List Deed) → Option (List Deed)
deeds_with room d None = None
deeds_with room d (Some ds) = if nat_lt (length ds) room then Some (ds ++ d ∷ []) else None

abbrev pub tape_with : Deed → Tape → Tape
tape_with d t = record { room = t.room; deeds = deeds_with t.room d t.deeds }

-- after an effect: edits of texts are no deeds
abbrev pub tape_done : Effect → Tape → Tape
tape_done (SetList name entries) t = tape_with (ListSet name entries) t
tape_done (SetOwners name new) t = tape_with (OwnersSet name new) t
tape_done (Create name owner) t = tape_with (Created name owner) t
tape_done (Kill name) t = tape_with (Killed name) t
tape_done (Save name text) t = tape_with (Saved name) t
tape_done _ t = t

abbrev pub tape_told : Report → Tape → Tape
tape_told (Did e) t = tape_done e t
tape_told (Refused buffer d) t = tape_with (Denied buffer d) t

-- after reports, one after another
abbrev pub tape_after : List Report → Tape → Tape
tape_after [] t = t
tape_after (r ∷ rs) t = tape_after rs (tape_told r t)
