use Rattle.std.proofs.Common.{◌≡◌, map, take}
use Rattle.toml.specs.View.{view}
use Rattle.mgs_config.specs.Rows.{text_of}
use Rattle.mgs_config.proofs.row.texts_of.Given as goal

-- the strings so far
abbrev pub invariant-loop-value : goal.invariant-loop-value
invariant-loop-value l = map (λ t. t.now) l.texts.items ≡ map (λ v. text_of (view v)) (take l.value-index l.values)
