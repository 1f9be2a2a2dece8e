use Rattle.std.proofs.Common.{◌≡◌, ◌+◌, ◌-◌, ℕ, List, take, drop, ap, ◌∙◌, arith}
use borrow.Rule.Slice.PartMut.{put_mid}
use Rattle.mgs_grid.proofs.Runs.{run_over}
use Rattle.mgs_grid.proofs.cells.put_plain.Goals as goal

pub returns : goal.returns
returns c =
    let row : List ℕ = c.args.row.now in
    let chars : List ℕ = c.args.chars.now in
    let skip : ℕ = c.min-skip.result in
    let first : ℕ = c.min-first.result in
    let count : ℕ = c.min-count.result in
    let span : first + count - first ≡ count = omega arith in
    let part : skip + count - skip ≡ count = omega arith in
    ap (λ k. put_mid first k row c.copy_from_slice.new.self) span
    ∙ ap (λ (ys : List ℕ). put_mid first count row ys) (c.copy_from_slice.ensures.after ∙ ap (λ k. take k (drop skip chars)) part)
    ∙ run_over row chars c.args.shift c.args.column skip first count (omega (arith, c.saturating_sub.ensures, c.min-skip.ensures)) (omega (arith, c.saturating_sub-2.ensures, c.min-first.ensures)) (omega (arith, c.min-count.ensures))
