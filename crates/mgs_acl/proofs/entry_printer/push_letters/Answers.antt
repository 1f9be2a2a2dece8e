use Rattle.std.proofs.Common.{ℕ, List, [], ◌∷◌, ◌+◌, ◌++◌, ◌∙◌, sym, ap, drop, get_or, cond, arith}
use Rattle.std.specs.Prelude.{filter}
use Rattle.arrayvec.specs.ArrayString.{ArrayString, array_string_len}
use Rattle.mgs_model.specs.Rights.{letter_of, has_right, all_rights}
use Rattle.mgs_model.specs.declared.right.Right.{Right}
use Rattle.mgs_model.specs.declared.right.Right.TheVariants.{ReadData}
use Rattle.mgs_acl.proofs.RoundTrip.{letters, letters_turn}
use Rattle.mgs_acl.proofs.entry_printer.push_letters.Goals as goal
use Rattle.mgs_acl.proofs.entry_printer.push_letters.Goals.{then-has, else-has}

pub loop-right-preserved : goal.loop-right-preserved
loop-right-preserved c =
    let mask = c.args.mask in
    let i = c.loop-right.right-index in
    let right : Right = get_or all_rights i ReadData in
    let text = c.loop-right.text.bytes in
    let rest = letters (filter (has_right mask) (drop (i + 1) all_rights)) in
    let turned = sym (letters_turn mask all_rights i ReadData text (omega arith)) ∙ c.loop-right.invariant.letters in
    elim c.if-has.branch [
      | then-has w ↦
          record {
            letters =
                ap (λ (t : ArrayString). t.bytes ++ rest) w.text-is
                ∙ ap (λ (xs : List ℕ). xs ++ rest) w.push_letter.ensures.value
                ∙ ap (λ b. cond b (text ++ letter_of right ∷ []) text ++ rest) (sym (sym c.has.ensures ∙ w.if-has.true))
                ∙ turned;
            room = omega (arith, ap array_string_len w.text-is, w.push_letter.ensures.room);
          }
      | else-has w ↦
          record {
            letters =
                ap (λ (t : ArrayString). t.bytes ++ rest) w.text-is
                ∙ ap (λ b. cond b (text ++ letter_of right ∷ []) text ++ rest) (sym (sym c.has.ensures ∙ w.if-has.false))
                ∙ turned;
            room = omega (arith, ap array_string_len w.text-is);
          }
    ]
