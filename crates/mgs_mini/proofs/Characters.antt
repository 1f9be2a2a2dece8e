-- A byte within a character past ASCII.
use Rattle.std.proofs.Common.{◌≡◌, ℕ, ◌≤◌, ◌==◌, Bool, true, false, cond, List, [], ◌∷◌, ◌++◌, refl, ap, ◌∙◌, subst, arith, ne_eqb, le-leb}
use Rattle.mgs_model.specs.World.{State}
use Rattle.mgs_model.specs.View.{View}
use Rattle.mgs_model.specs.Keys.{begins_past_ascii, in_sequence, sequence_of}
use Rattle.mgs_model.specs.Sequences.{sequence_read}
use Rattle.mgs_model.specs.Turns.{input_turn, prompt_turn}
use Rattle.mgs_model.proofs.Utf8Lemmas.{four_bytes}
use Rattle.mgs_model.specs.declared.sequence.Sequence.{Sequence}
use Rattle.mgs_model.specs.declared.sequence.Sequence.TheVariants.{Whole, Begun, Broken}
use Rattle.mgs_model.specs.declared.session.Question.{Question}
use Rattle.mgs_mini.specs.Typing.{IsWaiting, typed_state, typed_turn}
use Rattle.mgs_mini.specs.declared.Waiting.{Waiting}
use Rattle.mgs_mini.specs.declared.Waiting.TheVariants.{NoKey, One, Two, Three}

-- bytes of which the first is past ASCII are those of a character
not_quoted : (a : ℕ) → 128 ≤ a → (a == 17) ≡ false
not_quoted a past = ne_eqb a 17 (λ same. omega (arith, past, same))

bytes_same : (a : ℕ) (rest : List ℕ) → 128 ≤ a → sequence_of (a ∷ rest) ≡ a ∷ rest
bytes_same a rest past = ap (λ (t : Bool). cond t rest (a ∷ rest)) (not_quoted a past)

have_begun : (a : ℕ) (rest : List ℕ) → 128 ≤ a → in_sequence (a ∷ rest) ≡ true
have_begun a rest past = ap begins_past_ascii (bytes_same a rest past) ∙ le-leb 128 a past

turn_within : (v : View) (q : Question) (state : State) (keys : List ℕ) (byte : ℕ) → in_sequence keys ≡ true → sequence_of keys ≡ keys → (byte == 7) ≡ false
    → prompt_turn v q (record state { keys = keys }) byte ≡ input_turn (record state { keys = keys }) byte (sequence_read (keys ++ byte ∷ []))
turn_within v q state keys byte begun same other =
    (rw (other, begun) refl) ∙ ap (λ (ks : List ℕ). input_turn (record state { keys = keys }) byte (sequence_read (ks ++ byte ∷ []))) same

module _ (v : View) (q : Question) (state : State) (input : List ℕ) (a byte : ℕ) (past : 128 ≤ a) (other : byte ≡ 7 → ⊥) where
  pub second_byte : prompt_turn v q (typed_state state input (One a)) byte ≡ typed_turn state input (Two a byte) (sequence_read (a ∷ byte ∷ []))
  second_byte =
      turn_within v q (record state { input = input }) (a ∷ []) byte (have_begun a [] past) (bytes_same a [] past) (ne_eqb byte 7 other) ∙ by (sequence_read (a ∷ byte ∷ []))
    where
      by : (s : Sequence) → input_turn (typed_state state input (One a)) byte s ≡ typed_turn state input (Two a byte) s
      by (Whole c) = refl
      by Begun = refl
      by Broken = refl

  pub third_byte : (b : ℕ) → prompt_turn v q (typed_state state input (Two a b)) byte ≡ typed_turn state input (Three a b byte) (sequence_read (a ∷ b ∷ byte ∷ []))
  third_byte b =
      turn_within v q (record state { input = input }) (a ∷ b ∷ []) byte (have_begun a (b ∷ []) past) (bytes_same a (b ∷ []) past) (ne_eqb byte 7 other) ∙ by (sequence_read (a ∷ b ∷ byte ∷ []))
    where
      by : (s : Sequence) → input_turn (typed_state state input (Two a b)) byte s ≡ typed_turn state input (Three a b byte) s
      by (Whole c) = refl
      by Begun = refl
      by Broken = refl

  -- no more are to come behind the fourth
  pub fourth_byte : (b c : ℕ) → prompt_turn v q (typed_state state input (Three a b c)) byte ≡ typed_turn state input NoKey (sequence_read (a ∷ b ∷ c ∷ byte ∷ []))
  fourth_byte b c =
      turn_within v q (record state { input = input }) (a ∷ b ∷ c ∷ []) byte (have_begun a (b ∷ c ∷ []) past) (bytes_same a (b ∷ c ∷ []) past) (ne_eqb byte 7 other)
      ∙ by (sequence_read (a ∷ b ∷ c ∷ byte ∷ [])) (four_bytes a b c byte)
    where
      by : (s : Sequence) → (s ≡ Begun → ⊥) → input_turn (typed_state state input (Three a b c)) byte s ≡ typed_turn state input NoKey s
      by (Whole k) more = refl
      by Begun more = absurd (more refl)
      by Broken more = refl

-- behind what waits
pub behind_one : (v : View) (q : Question) (state : State) (input : List ℕ) (byte a : ℕ) (waiting : Waiting) → waiting ≡ One a → IsWaiting waiting → (byte ≡ 7 → ⊥)
    → prompt_turn v q (typed_state state input waiting) byte ≡ typed_turn state input (Two a byte) (sequence_read (a ∷ byte ∷ []))
behind_one v q state input byte a waiting is waits other =
    ap (λ (w : Waiting). prompt_turn v q (typed_state state input w) byte) is ∙ second_byte v q state input a byte (subst IsWaiting is waits) other

pub behind_two : (v : View) (q : Question) (state : State) (input : List ℕ) (byte a b : ℕ) (waiting : Waiting) → waiting ≡ Two a b → IsWaiting waiting → (byte ≡ 7 → ⊥)
    → prompt_turn v q (typed_state state input waiting) byte ≡ typed_turn state input (Three a b byte) (sequence_read (a ∷ b ∷ byte ∷ []))
behind_two v q state input byte a b waiting is waits other =
    ap (λ (w : Waiting). prompt_turn v q (typed_state state input w) byte) is ∙ third_byte v q state input a byte (subst IsWaiting is waits) other b

pub behind_three : (v : View) (q : Question) (state : State) (input : List ℕ) (byte a b c : ℕ) (waiting : Waiting) → waiting ≡ Three a b c → IsWaiting waiting → (byte ≡ 7 → ⊥)
    → prompt_turn v q (typed_state state input waiting) byte ≡ typed_turn state input NoKey (sequence_read (a ∷ b ∷ c ∷ byte ∷ []))
behind_three v q state input byte a b c waiting is waits other =
    ap (λ (w : Waiting). prompt_turn v q (typed_state state input w) byte) is ∙ fourth_byte v q state input a byte (subst IsWaiting is waits) other b c
