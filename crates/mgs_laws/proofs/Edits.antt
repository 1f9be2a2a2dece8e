-- What an edit makes of its buffer and of a position in it, where it makes anything.
use Rattle.std.specs.Prelude.{ℕ, ◌+◌, true, List, ◌∷◌, take}
use Rattle.std.specs.Option.{option_map}
use Rattle.mgs_model.specs.Text.{edited}
use Rattle.mgs_model.specs.World.{Buffer, Window, Place, Search, most_items}
use Rattle.mgs_model.specs.Apply.{item_for}

abbrev pub buffer_made : ℕ → ℕ → List ℕ → Buffer → Buffer
buffer_made a b put x = record x { text = edited a b put x.text; items = take most_items (item_for a b put x ∷ x.items); serial = x.serial + 1; modified = true }

abbrev pub window_made : (ℕ → ℕ) → Window → Window
window_made move x = record x { point = move x.point; mark = option_map move x.mark; top = move x.top }

abbrev pub place_made : (ℕ → ℕ) → Place → Place
place_made move x = record x { point = move x.point; mark = option_map move x.mark }

abbrev pub search_made : (ℕ → ℕ) → Search → Search
search_made move x = record x { origin = move x.origin; anchor = move x.anchor }
