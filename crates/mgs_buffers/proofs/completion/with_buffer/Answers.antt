use Rattle.std.proofs.Common.{ℕ, List, Option, Bor}
use Rattle.std.specs.Option.{option_map}
use Rattle.mgs_buffers.proofs.Completed.{counted_value, counted_within}
use Rattle.mgs_buffers.proofs.completion.with_buffer.Goals as goal

pub returns-clause-value : goal.returns-clause-value
returns-clause-value g c =
    let bytes_of : Option (Bor (List ℕ)) → Option (List ℕ) = option_map (λ (t : Bor (List ℕ)). t.now) in
    counted_value (bytes_of c.args.found) (bytes_of c.with_name.result) c.args.typed.input.now c.args.name.now _ _ _ c.as_bytes.ensures.value (c.grants_by-counts.ensures.value c.args.name.now) c.with_name.ensures

pub returns-clause-within : goal.returns-clause-within
returns-clause-within g c =
    let bytes_of : Option (Bor (List ℕ)) → Option (List ℕ) = option_map (λ (t : Bor (List ℕ)). t.now) in
    counted_within (bytes_of c.args.found) (bytes_of c.with_name.result) c.args.typed.input.now c.args.name.now _ _ c.as_bytes.ensures.value c.as_bytes.ensures.form c.with_name.ensures
