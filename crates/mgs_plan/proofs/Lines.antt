-- A line whose number is typed is gone to as one whose number is the argument.
use Rattle.std.proofs.Common.{◌≡◌, ℕ, Bool, true, false, cond, List, [], Option, Some, None, refl, sym, ap}
use Rattle.mgs_model.specs.View.{View, text_in}
use Rattle.mgs_model.specs.Outcome as outcomes
use Rattle.mgs_model.specs.Acts.{here, judged, moves, outcome, permitted, target}
use Rattle.mgs_model.specs.Plans.{goes_to_line, is_number, line_wanted, number_typed}
use Rattle.mgs_model.specs.declared.session.Command.TheVariants.{Move}
use Rattle.mgs_model.specs.declared.session.Motion.TheVariants.{GoToLine}

wanted_twice : (n : Option ℕ) (typed : List ℕ) → line_wanted (line_wanted n typed) [] ≡ line_wanted n typed
wanted_twice (Some m) typed = refl
wanted_twice None typed = go (is_number typed)
  where
    go : (b : Bool) → line_wanted (cond b (Some (number_typed typed)) None) [] ≡ cond b (Some (number_typed typed)) None
    go true = refl
    go false = refl

pub line_same : (v : View) (n : Option ℕ) (typed : List ℕ) (stored : Bool) → outcome v (outcomes.Run (Move GoToLine) n typed) stored ≡ outcome v (outcomes.Run (Move GoToLine) (line_wanted n typed) []) stored
unfolding outcome
line_same v n typed stored =
    ap (λ (m : Option ℕ). permitted v.session.state (judged v (here (target v) (λ t. 1))) (moves v.session.state (target v) (λ t. goes_to_line (text_in t.buffer.full) m))) (sym (wanted_twice n typed))
