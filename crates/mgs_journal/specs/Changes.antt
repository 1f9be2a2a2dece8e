-- WHAT A JOURNAL KEEPS OF RIGHTS, a row for each buffer, and what changes make of it.
use Rattle.std.specs.Prelude.{ℕ, List, [], ◌∷◌, ◌++◌, Option, Some, None, map, remove, slice_get, slice_set}
use Rattle.mgs_laws.specs.Apart.{Rules}
use Rattle.mgs_journal.specs.Rows.{KeptRights}
use Rattle.mgs_journal.specs.Texts.{KeptText}
use Rattle.mgs_journal.specs.declared.change.Change.{Change}
use Rattle.mgs_journal.specs.declared.change.Change.TheVariants.{Add, Set, Remove}

-- these rights in the row at an index; its birth number stays
abbrev pub row_set : ℕ → Rules → List KeptRights → List KeptRights
row_set i r rows = elim (slice_get rows i) [ None ↦ rows | Some k ↦ slice_set rows i (record { rules = r; birth = k.birth }) ]

-- the rows after one change: a buffer that is made comes last, and the row of one that is killed goes
abbrev pub row_changed : Change → List KeptRights → List KeptRights
row_changed (Add r birth) rows = rows ++ record { rules = r; birth = birth } ∷ []
row_changed (Set i r) rows = row_set i r rows
row_changed (Remove i) rows = remove rows i

-- the texts, which stand in the same order: a buffer that is made has none yet, and the text of one that is killed goes
abbrev pub text_changed : Change → List (Option KeptText) → List (Option KeptText)
text_changed (Add r birth) texts = texts ++ None ∷ []
text_changed (Set i r) texts = texts
text_changed (Remove i) texts = remove texts i

-- one change after another
abbrev pub rows_changed : List Change → List KeptRights → List KeptRights
rows_changed [] rows = rows
rows_changed (c ∷ cs) rows = rows_changed cs (row_changed c rows)

abbrev pub texts_changed : List Change → List (Option KeptText) → List (Option KeptText)
texts_changed [] texts = texts
texts_changed (c ∷ cs) texts = texts_changed cs (text_changed c texts)
