-- Bytes that are written by one write after another.
use Rattle.std.proofs.Common.{◌≡◌, ℕ, ◌+◌, ◌-◌, ◌<◌, ◌≤◌, List, [], ◌∷◌, length, take, drop, drop-drop, Result, Ok, Err, refl, sym, subst, arith, length-drop}
use Rattle.std.proofs.lemmas.List.{take_all}
use Rattle.std.specs.Prelude.{◌≢◌}
use Rattle.std.specs.IoError.{error_kind}
use Rattle.std.specs.declared.io.ErrorKind.TheVariants.{WouldBlock}
use Rattle.std.specs.declared.io.Error.{Error}
use Rattle.mgs_wire.specs.declared.pump.PumpedOut.{PumpedOut}
use Rattle.mgs_wire.specs.declared.pump.PumpedOut.TheVariants as out
use Rattle.mgs_wire.specs.Pumps.{Put, Puts, PutsLast, StopsBy}

module _ {W : Type 0} (answers : W → List ℕ → Result ℕ Error → W → Type 0) (bytes : List ℕ) (i : ℕ) where
  -- all that stands after the first i
  whole : take (length bytes - i) (drop i bytes) ≡ drop i bytes
  whole = take_all (length bytes - i) (drop i bytes) (omega (arith, length-drop i bytes))

  answered : (a : Result ℕ Error) (old new : W) → answers old (take (length bytes - i) (drop i bytes)) a new → answers old (drop i bytes) a new
  answered a old new p = subst (λ rest. answers old rest a new) whole p

  -- the next part was taken
  pub put_more : (n k : ℕ) (outcome : PumpedOut) (first old mid new : W) → ((m : ℕ) → Put answers (drop i bytes) outcome m old new → Put answers bytes outcome (i + m) first new)
      → answers old (take (length bytes - i) (drop i bytes)) (Ok n) mid → Put answers (drop (i + n) bytes) outcome k mid new → Put answers bytes outcome (i + n + k) first new
  put_more n k outcome first old mid new go a p =
      let all : Put answers bytes outcome (i + (n + k)) first new = go (n + k) (record {
        taken = n ∷ p.taken;
        puts = (mid, k, answered (Ok n) old mid a, refl, subst (λ rest. Puts answers p.taken rest outcome k mid new) (sym (drop-drop n i bytes)) p.puts);
      })
      in
      let same : i + (n + k) ≡ i + n + k = omega arith in
      subst (λ (m : ℕ). Put answers bytes outcome m first new) same all

  here : (outcome : PumpedOut) (first old new : W) → ((m : ℕ) → Put answers (drop i bytes) outcome m old new → Put answers bytes outcome (i + m) first new)
      → PutsLast answers (drop i bytes) outcome old new → Put answers bytes outcome i first new
  here outcome first old new go p =
      let same : i + 0 ≡ i = omega arith in
      subst (λ (m : ℕ). Put answers bytes outcome m first new) same (go 0 (record { taken = []; puts = (refl, p) }))

  some : i < length bytes → 1 ≤ length (drop i bytes)
  some l = omega (arith, length-drop i bytes)

  -- none was
  pub put_none : (first old new : W) → ((m : ℕ) → Put answers (drop i bytes) out.Failed m old new → Put answers bytes out.Failed (i + m) first new)
      → i < length bytes → (n : ℕ) → n ≡ 0 → answers old (take (length bytes - i) (drop i bytes)) (Ok n) new → Put answers bytes out.Failed i first new
  put_none first old new go l n e a = here out.Failed first old new go (some l, Ok 0, subst (λ (m : ℕ). answers old (drop i bytes) (Ok m) new) e (answered (Ok n) old new a), refl)

  last_of : (e : Error) (outcome : PumpedOut) (old new : W) → i < length bytes → answers old (drop i bytes) (Err e) new → StopsBy (error_kind e) outcome → PutsLast answers (drop i bytes) outcome old new
  last_of e out.Drained old new l a s =
      let other : error_kind e ≢ WouldBlock = λ k. (let d : out.Drained ≡ out.Blocked = s.blocked k in absurd cc) in
      let d : out.Drained ≡ out.Failed = s.failed other in
      absurd cc
  last_of e out.Blocked old new l a s = (some l, Err e, a, s)
  last_of e out.Failed old new l a s = (some l, Err e, a, s)

  -- or an error was answered
  pub put_err : (e : Error) (outcome : PumpedOut) (first old new : W) → ((m : ℕ) → Put answers (drop i bytes) outcome m old new → Put answers bytes outcome (i + m) first new)
      → i < length bytes → answers old (take (length bytes - i) (drop i bytes)) (Err e) new → StopsBy (error_kind e) outcome → Put answers bytes outcome i first new
  put_err e outcome first old new go l a s = here outcome first old new go (last_of e outcome old new l (answered (Err e) old new a) s)

  none_left : (rest : List ℕ) → length rest ≤ 0 → rest ≡ []
  none_left [] l = refl
  none_left (x ∷ xs) l = absurd (omega (arith, l))

  -- all were
  pub put_all : (first now : W) → ((m : ℕ) → Put answers (drop i bytes) out.Drained m now now → Put answers bytes out.Drained (i + m) first now)
      → length bytes ≤ i → Put answers bytes out.Drained i first now
  put_all first now go l = here out.Drained first now now go (none_left (drop i bytes) (omega (arith, length-drop i bytes, l)), refl)
