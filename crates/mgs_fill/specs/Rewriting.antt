-- What a rewriting says: it is read as a plan of the model, given the text that it is for.
use Rattle.std.specs.Prelude.{◌≡◌, ℕ, ◌+◌, ◌-◌, ◌≤◌, Bool, not, List, [], ◌∷◌, length, slice_range, Option, Some, None, Result, Ok, Err, if◌then◌else◌}
use Rattle.mgs_model.specs.Cases.{uppercased, lowercased, capitalized}
use Rattle.mgs_model.specs.Lines.{space}
use Rattle.mgs_model.specs.Outcome.{PointPlan, Keep_position, At}
use Rattle.mgs_model.specs.Plans as model
use Rattle.mgs_model.specs.Whites.{is_between, refilled}
use Rattle.mgs_model.specs.declared.echo_text.Message.{Message}
use Rattle.mgs_fill.specs.declared.rewrite.Case.{Case}
use Rattle.mgs_fill.specs.declared.rewrite.Case.TheVariants.{Upper, Lower, Capitalized}
use Rattle.mgs_fill.specs.declared.rewrite.Given.{Given}
use Rattle.mgs_fill.specs.declared.rewrite.Point.{Point}
use Rattle.mgs_fill.specs.declared.rewrite.Point.TheVariants.{Stays, To, Behind}
use Rattle.mgs_fill.specs.declared.rewrite.Rewrite.{Rewrite}
use Rattle.mgs_fill.specs.declared.rewrite.Written.{Written}
use Rattle.mgs_fill.specs.declared.rewrite.Written.TheVariants.{Nothing, Space, Cased, Filled}

-- GIVEN: what is given here, in a text of so many characters; all else is as it is
abbrev pub given_around : Given → ℕ → model.Around → model.Around
given_around x size rest = record rest { size = size; place = x.place; mark = x.mark; argument = x.argument; fill = x.fill }

-- REWRITINGS

abbrev pub cased : Case → List ℕ → List ℕ
cased Upper chars = uppercased chars
cased Lower chars = lowercased chars
cased Capitalized chars = capitalized chars

-- what comes in for these
abbrev pub chars_written : List ℕ → Written → List ℕ
chars_written chars Nothing = []
chars_written chars Space = space ∷ []
chars_written chars (Cased case) = cased case chars
chars_written chars (Filled fill len) = refilled fill chars

-- behind is where what comes in ends
abbrev pub point_at : ℕ → Point → PointPlan
point_at behind Stays = Keep_position
point_at behind (To p) = At p
point_at behind Behind = At behind

abbrev pub put_for : List ℕ → Rewrite → List ℕ
put_for text r = chars_written (slice_range text r.from r.to) r.written

abbrev pub rewrite_read : List ℕ → Rewrite → model.Change
rewrite_read text r =
    record { a = r.from; b = r.to; put = put_for text r; finish = record model.stays { point = point_at (r.from + length (put_for text r)) r.point } }

abbrev pub answer_read : List ℕ → Result Rewrite Message → Result model.Change Message
answer_read text (Ok r) = Ok (rewrite_read text r)
answer_read text (Err message) = Err message

-- PLANNERS: what each answers is that plan, whatever is given beside what is given here
abbrev pub IsRewrite : (List ℕ → model.Around → Result model.Change Message) → Given → List ℕ → Result Rewrite Message → Type 0
IsRewrite plan x text answer = (rest : model.Around) → answer_read text answer ≡ plan text (given_around x (length text) rest)

-- WHAT CAN BE DONE: every position lies in its text

abbrev pub IsWithin : ℕ → Option ℕ → Type 0
IsWithin size None = Unit {0}
IsWithin size (Some p) = p ≤ size

abbrev pub PointWithin : ℕ → Point → Type 0
PointWithin size Stays = Unit {0}
PointWithin size (To p) = p ≤ size
PointWithin size Behind = Unit {0}

-- what is filled has the length that is told
abbrev pub WrittenWithin : List ℕ → Written → Type 0
WrittenWithin chars Nothing = Unit {0}
WrittenWithin chars Space = Unit {0}
WrittenWithin chars (Cased case) = Unit {0}
WrittenWithin chars (Filled fill len) = length (refilled fill chars) ≡ len

pub record RewriteWithin (text : List ℕ) (r : Rewrite) : Type 0 where
  pub order : r.from ≤ r.to
  pub within : r.to ≤ length text
  pub written : WrittenWithin (slice_range text r.from r.to) r.written
  pub point : PointWithin (length text - (r.to - r.from) + length (put_for text r)) r.point

-- FILLING: a character of a word
abbrev pub is_in_word : ℕ → Bool
is_in_word c = not (is_between c)

-- how many characters come in for one, behind a character of a word or behind another: a word has one before it that parts
-- it from the word before
abbrev pub filled_by : Bool → ℕ → ℕ
filled_by in_word c = if is_between c then 0 else if in_word then 1 else 2
