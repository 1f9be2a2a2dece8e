use Rattle.std.proofs.Common.{ℕ, List, ◌<◌, length, ap, sym, ◌∙◌, arith}
use Rattle.std.proofs.lemmas.List.{drop_all}
use Rattle.mgs_model.specs.Whites.{text_words, refilled}
use Rattle.mgs_fill.proofs.Words.{no_word, word_is_some, filled_first, filled_on, filled_below, filled_end}
use Rattle.mgs_fill.proofs.fills.refill.Goals as goal
use Rattle.mgs_fill.proofs.fills.refill.Goals.{else-loop-at-test, then-loop-at-test+then-start-chars}

pub loop-at-init : goal.loop-at-init
loop-at-init c =
    let xs : List ℕ = c.args.chars.now in
    let first = c.over_between-first.ensures in
    let end = c.over_word-at.ensures in
    record { within = end.within; value = filled_first c.args.fill c.over_between-first.result c.over_word-at.result c.cells_wide-column.result xs c.in-Ok.filled.items first.value first.within end.value end.from end.within c.cells_wide-column.ensures c.in-Ok.ensures.items }

pub loop-at-smaller-in_ok-put_word : goal.loop-at-smaller-in_ok-put_word
loop-at-smaller-in_ok-put_word c =
    let xs : List ℕ = c.args.chars.now in
    let within : c.over_between-start.result < length xs = omega (arith, c.over_between-start.ensures.within) in
    omega (arith, c.over_word-end.ensures.within, c.over_between-start.ensures.from, word_is_some xs c.loop-at.at c.over_between-start.result c.over_word-end.result c.over_between-start.ensures.value within c.over_word-end.ensures.value)

pub loop-at-preserved-in_ok-put_word : goal.loop-at-preserved-in_ok-put_word
loop-at-preserved-in_ok-put_word c =
    let xs : List ℕ = c.args.chars.now in
    let within : c.over_between-start.result < length xs = omega (arith, c.over_between-start.ensures.within) in
    record {
      within = c.over_word-end.ensures.within;
      value = filled_on c.args.fill c.loop-at.column c.loop-at.at c.over_between-start.result c.over_word-end.result c.cells_wide-wide.result xs c.loop-at.filled.items c.put_word.new.filled.items (refilled c.args.fill xs) c.over_between-start.ensures.value within c.over_word-end.ensures.value c.cells_wide-wide.ensures (sym c.fits.ensures ∙ c.if-fits.true) c.in_ok-put_word.ensures c.loop-at.invariant.value;
    }

pub loop-at-smaller : goal.loop-at-smaller
loop-at-smaller c =
    let xs : List ℕ = c.args.chars.now in
    let within : c.over_between-start.result < length xs = omega (arith, c.over_between-start.ensures.within) in
    omega (arith, c.over_word-end.ensures.within, c.over_between-start.ensures.from, word_is_some xs c.loop-at.at c.over_between-start.result c.over_word-end.result c.over_between-start.ensures.value within c.over_word-end.ensures.value)

pub loop-at-preserved : goal.loop-at-preserved
loop-at-preserved c =
    let xs : List ℕ = c.args.chars.now in
    let within : c.over_between-start.result < length xs = omega (arith, c.over_between-start.ensures.within) in
    record {
      within = c.over_word-end.ensures.within;
      value = filled_below c.args.fill c.loop-at.column c.loop-at.at c.over_between-start.result c.over_word-end.result c.cells_wide-wide.result xs c.loop-at.filled.items c.put_word-else-fits.new.filled.items (refilled c.args.fill xs) c.over_between-start.ensures.value within c.over_word-end.ensures.value c.cells_wide-wide.ensures (sym c.fits.ensures ∙ c.if-fits.false) c.in_ok-put_word-2.ensures c.loop-at.invariant.value;
    }

pub returns : goal.returns
returns c =
    let xs : List ℕ = c.args.chars.now in
    let all : List ℕ = refilled c.args.fill xs in
    elim c.loop-at-test.branch [
      | else-loop-at-test w ↦ filled_end c.args.fill c.loop-at.column c.loop-at.at xs c.loop-at.filled.items all (ap text_words (drop_all c.loop-at.at xs (omega arith))) c.loop-at.invariant.value
      | then-loop-at-test+then-start-chars w ↦ filled_end c.args.fill c.loop-at.column c.loop-at.at xs c.loop-at.filled.items all (no_word xs c.loop-at.at w.over_between-start.result w.over_between-start.ensures.value (omega arith)) c.loop-at.invariant.value
    ]
