-- Where each that ended was told, and where nothing waits: calls are those of the world alone.
use Rattle.std.proofs.Common.{◌≡◌, ℕ, ◌^◌, Bool, true, false, not, List, [], length, Option, Some, None, Result, Ok, Err, refl, sym, ap, subst, ◌∙◌, add-zero, ◌+◌}
use Rattle.std.specs.Prelude.{nat_le, if◌then◌else◌}
use Rattle.std.specs.Option.{option_or}
use Rattle.mgs_model.specs.Access.{is_among}
use Rattle.mgs_model.specs.Events.{is_size, open_fault}
use Rattle.mgs_model.specs.declared.errors.Keyed.{Keyed}
use Rattle.mgs_model.specs.declared.errors.OpenFault.{OpenFault}
use Rattle.mgs_model.specs.declared.errors.OpenFault.TheVariants.{NoUser, Size, Full}
use Rattle.mgs_model.specs.declared.limits.TheConstants.{SESSION_LIMIT}
use Rattle.mgs_core.specs.Calls.{KeyedBy, OpenAnswers, OpenedBy}
use Rattle.mgs_engine.specs.declared.session_end.Cause.{Cause}
use Rattle.mgs_engine.specs.declared.session_end.Cause.TheVariants.{Slow}
use Rattle.mgs_engine.specs.Handled.{Admits, Handles}
use Rattle.mgs_engine.specs.Serving.{NoneWaits, Serving, all_ended_by, opening_fault}

-- AN OPEN

same_fault : (a b c d : Bool) → let o : Option OpenFault = option_or (if a then Some NoUser else if b then Some Size else if c then Some Full else None) (if d then Some Full else None) in option_or o (if c then Some Full else None) ≡ o
same_fault true b c d = refl
same_fault false true c d = refl
same_fault false false true d = refl
same_fault false false false true = refl
same_fault false false false false = refl

-- the faults are the world's
pub told_fault : (s : Serving) (user : List ℕ) (rows cols : ℕ) → s.ended ≡ [] → opening_fault s user rows cols ≡ open_fault s.world user rows cols
told_fault s user rows cols e =
    let used : length s.world.sessions + length s.ended ≡ length s.world.sessions = ap (λ (es : List (ℕ × Cause)). length s.world.sessions + length es) e ∙ add-zero (length s.world.sessions) in
    ap (λ n. option_or (open_fault s.world user rows cols) (if nat_le SESSION_LIMIT n then Some Full else None)) used
    ∙ same_fault (not (is_among user s.world.directory.users)) (not (is_size rows cols)) (nat_le SESSION_LIMIT (length s.world.sessions)) (nat_le (2 ^ 64) s.world.next_id)

pub admits_opens : (s t : Serving) (user : List ℕ) (rows cols : ℕ) (result : Result ℕ OpenFault) → Admits s t user rows cols result → s.ended ≡ [] → OpenedBy s.world t.world user rows cols result
admits_opens s t user rows cols (Ok id) h e = record { ok = h.ok; err = tt; answer = sym (told_fault s user rows cols e) ∙ h.answer }
admits_opens s t user rows cols (Err fault) h e = record {
  ok = tt;
  err = ap (λ (x : Serving). x.world) h.err;
  answer = subst (OpenAnswers (Err fault)) (told_fault s user rows cols e) h.answer;
}

-- A BYTE

-- none falls behind
pub handles_prompt : (s t : Serving) (id byte : ℕ) (result : Keyed) → Handles s t id byte result → NoneWaits s → KeyedBy s.world t.world s.store t.store id byte result
handles_prompt s t id byte result h none =
    let all : t ≡ h.typed = h.slow ∙ ap (λ ids. all_ended_by Slow ids h.typed) (h.prompt none) in
    subst (λ (x : Serving). KeyedBy s.world x.world s.store x.store id byte result) (sym all) h.step
