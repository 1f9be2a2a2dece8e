-- Where the line feeds of a text stand that lies in two parts.
use Rattle.std.specs.Prelude.{ℕ, suc, ◌≡◌, ◌+◌, ◌-◌, ◌<◌, ◌≤◌, List, [], ◌∷◌, ◌++◌, length, slice_index, if◌then◌else◌}
use Rattle.std.specs.Vec.{vec_capacity}
use Rattle.mgs_model.specs.Lines.{is_feed}
use Rattle.mgs_gap.specs.declared.feeds.Feeds.{Feeds}

-- their places, where the first character has the place n
abbrev pub feeds_from : ℕ → List ℕ → List ℕ
feeds_from n [] = []
feeds_from n (c ∷ cs) = if is_feed c then n ∷ feeds_from (suc n) cs else feeds_from (suc n) cs

-- how far each is from the text's end, from the last one on, where m characters follow
abbrev pub ends_from : ℕ → List ℕ → List ℕ
ends_from m [] = []
ends_from m (c ∷ cs) = if is_feed c then ends_from m cs ++ suc (length cs + m) ∷ [] else ends_from m cs

-- numbers counted from the other end of a text of n characters, the last one first
abbrev pub turned : ℕ → List ℕ → List ℕ
turned n [] = []
turned n (x ∷ xs) = turned n xs ++ (n - x) ∷ []

-- these are the line feeds of a text, of which one part lies before the gap and one after it
abbrev pub AreFeeds : List ℕ → List ℕ → List ℕ → List ℕ → Type 0
AreFeeds before after front back = (before ≡ feeds_from 0 front) × (after ≡ ends_from 0 back)

-- those before the gap have memory for those after it too
abbrev pub HasRoom : Feeds → Type 0
HasRoom f = length f.before.items + length f.after.items ≤ vec_capacity f.before

-- the first n of the numbers are below the limit, and the others are not
abbrev pub Parts : ℕ → List ℕ → ℕ → Type 0
Parts limit xs n = (n ≤ length xs) × (((i : ℕ) → i < n → slice_index xs i < limit) × ((i : ℕ) → n ≤ i → i < length xs → limit ≤ slice_index xs i))
