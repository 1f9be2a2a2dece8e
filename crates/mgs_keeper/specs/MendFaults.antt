-- WHY what the journal keeps is not mended.
use Rattle.std.specs.Prelude.{◌≡◌, ◌≤◌, ℕ, Bool, true, false, List, Option, None, Some, IsErr, IfSome, length, slice_get}
use Rattle.mgs_model.specs.Spelling.{entry_in}
use Rattle.mgs_model.specs.declared.limits.TheConstants.{ENTRY_LIMIT}
use Rattle.mgs_buffers.specs.MarkedBuffer.{MarkedBuffer}
use Rattle.mgs_journal.specs.Kept.{place_of}
use Rattle.mgs_journal.specs.Rows.{KeptRights, rules_in_rows}
use Rattle.mgs_journal.specs.Texts.{KeptText}
use Rattle.mgs_keeper.specs.declared.repair.MendFault.{MendFault}
use Rattle.mgs_keeper.specs.declared.repair.MendFault.TheVariants.{NoBuffer, NoName, Unsaved, NoEntry, FullList, Journal}
use Rattle.mgs_keeper.specs.Mending.{loses_text, text_named}

-- a buffer is not forgotten: it is not kept and no user took its name, its text would be lost, or the journal failed
abbrev pub IsForgetFault : List KeptRights → List (Option KeptText) → (List ℕ → Bool) → List MarkedBuffer → Bool → List ℕ → MendFault → Type 0
IsForgetFault rows texts taken config may_discard name (NoBuffer said) = (taken name ≡ false) × (place_of name (rules_in_rows rows) ≡ None)
IsForgetFault rows texts taken config may_discard name (Unsaved said) = (may_discard ≡ false) × (loses_text taken config name (text_named name rows texts) ≡ true)
IsForgetFault rows texts taken config may_discard name Journal = Unit {0}
IsForgetFault rows texts taken config may_discard name _ = ⊥

-- a list is not longer: its buffer is not kept, what was typed is no entry, it is full, or the journal failed
abbrev pub IsListFault : List KeptRights → List ℕ → List ℕ → MendFault → Type 0
IsListFault rows name entry (NoBuffer said) = place_of name (rules_in_rows rows) ≡ None
IsListFault rows name entry (NoEntry said) = IsErr (entry_in entry)
IsListFault rows name entry (FullList said) = (i : ℕ) × (place_of name (rules_in_rows rows) ≡ Some i) × IfSome (slice_get (rules_in_rows rows) i) (λ r. ENTRY_LIMIT ≤ length r.entries)
IsListFault rows name entry Journal = Unit {0}
IsListFault rows name entry _ = ⊥
