use Rattle.std.proofs.Common.{◌≡◌, ◌++◌, ℕ, List, length, sym, ap, ◌∙◌, refl}
use Rattle.std.specs.Prelude.{None, Some, drop, encode_utf8}
use Rattle.std.specs.Str.{IsUtf8}
use Rattle.std.specs.Str.Lossy.{utf8_valid_len, utf8_error_len}
use Rattle.mgs_model.proofs.Utf8Lemmas.{is_text, is_none, chars_first, chars_empty}
use Rattle.mgs_model.specs.Sequences.{sequence_read}
use Rattle.mgs_model.proofs.sequence.read_sequence.Goals as goal

pub returns-in-Some : goal.returns-in-Some
unfolding sequence_read
returns-in-Some c =
    let bs : List ℕ = c.args.bytes.now in
    let text : IsUtf8 bs = c.in-Ok.ensures.cases.1 in
    let first : bs ≡ encode_utf8 c.in-Some.c ++ c.next.new.self.rest.now = sym c.in-Ok.ensures.cases.0 ∙ sym c.chars.ensures.rest ∙ c.in-Some.ensures.steps.0 in
    rw (is_text bs text, chars_first bs c.next.new.self.rest.now c.in-Some.c text first) refl

pub returns-in-None : goal.returns-in-None
unfolding sequence_read
returns-in-None c =
    let bs : List ℕ = c.args.bytes.now in
    let text : IsUtf8 bs = c.in-Ok.ensures.cases.1 in
    let none : length bs ≡ 0 = ap length (sym c.in-Ok.ensures.cases.0 ∙ sym c.chars.ensures.rest) ∙ c.in-None.ensures.steps.0.0 in
    rw (is_text bs text, chars_empty bs none) refl

pub returns-in-Some-error_len : goal.returns-in-Some-error_len
unfolding sequence_read
returns-in-Some-error_len c =
    let bs : List ℕ = c.args.bytes.now in
    let len : utf8_error_len (drop (utf8_valid_len bs) bs) ≡ Some c.in-Some-error_len.field-0 = sym (ap (λ n. utf8_error_len (drop n bs)) c.in-Err.ensures.valid_len) ∙ sym c.in-Err.ensures.fault ∙ sym c.in-Some-error_len.ensures in
    rw (is_none bs c.in-Err.ensures.cases.0, len) refl

pub returns-in-None-error_len : goal.returns-in-None-error_len
unfolding sequence_read
returns-in-None-error_len c =
    let bs : List ℕ = c.args.bytes.now in
    let len : utf8_error_len (drop (utf8_valid_len bs) bs) ≡ None = sym (ap (λ n. utf8_error_len (drop n bs)) c.in-Err.ensures.valid_len) ∙ sym c.in-Err.ensures.fault ∙ sym c.in-None-error_len.ensures in
    rw (is_none bs c.in-Err.ensures.cases.0, len) c.begun.ensures
