use Rattle.std.proofs.Common.{◌≡◌, map}
use Rattle.toml.specs.View.{members_view, table_view}
use Rattle.mgs_config.specs.Rows.{are_keys}
use Rattle.mgs_config.proofs.row.are_keys.Given as goal

-- the keys that are left decide
abbrev pub invariant-loop-key : goal.invariant-loop-key
invariant-loop-key l = record {
  can : (goal.iterator-loop-key).can_next l.key-iterator;
  finite : (goal.iterator-loop-key).is_finite l.key-iterator;
  left : are_keys (map (λ k. k.now) l.keys) (members_view l.key-iterator) ≡ are_keys (map (λ k. k.now) l.keys) (table_view l.table);
}
