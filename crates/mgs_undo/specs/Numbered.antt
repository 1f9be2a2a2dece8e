-- Edits and their serials.
use Rattle.std.specs.Prelude.{ℕ, ◌-◌, List, [], ◌∷◌}
use Rattle.mgs_model.specs.World.{Item}
use Rattle.mgs_undo.specs.declared.Edit.{Edit}

-- an edit as the item of a serial
abbrev pub item_of : ℕ → Edit → Item
item_of n e = record { serial = n; place = e.at; removed = e.removed.items; put = e.added }

-- edits, the latest first, whose serials run down by one from that of the latest
abbrev pub numbered : ℕ → List Edit → List Item
numbered n [] = []
numbered n (e ∷ es) = item_of n e ∷ numbered (n - 1) es
