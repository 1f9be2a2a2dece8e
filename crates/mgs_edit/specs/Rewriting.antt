-- What mgs_fill rewrites, as a change.
use Rattle.std.specs.Prelude.{◌≡◌, ℕ, List, None, Result, Ok, Err}
use Rattle.mgs_fill.specs.Rewriting.{IsRewrite}
use Rattle.mgs_fill.specs.declared.rewrite.Given.{Given}
use Rattle.mgs_fill.specs.declared.rewrite.Point.{Point}
use Rattle.mgs_fill.specs.declared.rewrite.Point.TheVariants as points
use Rattle.mgs_fill.specs.declared.rewrite.Rewrite.{Rewrite}
use Rattle.mgs_fill.specs.declared.rewrite.Written.{Written}
use Rattle.mgs_fill.specs.declared.rewrite.Written.TheVariants as written
use Rattle.mgs_model.specs.Plans.{alteration}
use Rattle.mgs_model.specs.declared.echo_text.Message.{Message}
use Rattle.mgs_model.specs.declared.echo_text.Message.TheVariants.{Says}
use Rattle.mgs_model.specs.declared.echo_text.Notice.TheVariants.{Silent}
use Rattle.mgs_model.specs.declared.session.Alteration.{Alteration}
use Rattle.mgs_model.specs.declared.session.Kind.TheVariants.{Other}
use Rattle.mgs_edit.specs.Reading.{IsChange}
use Rattle.mgs_edit.specs.declared.plan.Around.{Around}
use Rattle.mgs_edit.specs.declared.plan.Change.{Change}
use Rattle.mgs_edit.specs.declared.plan.Finish.{Finish}
use Rattle.mgs_edit.specs.declared.plan.Goes.{Goes}
use Rattle.mgs_edit.specs.declared.plan.Goes.TheVariants.{Stays, To, Behind}
use Rattle.mgs_edit.specs.declared.plan.Put.{Put}
use Rattle.mgs_edit.specs.declared.plan.Put.TheVariants.{Nothing, Character, Cased, Filled}

-- what it is given of what is given here
abbrev pub given_of : Around → Given
given_of x = record { place = x.place; mark = x.mark; argument = x.argument; fill = x.fill }

abbrev pub put_for : ℕ → ℕ → Written → Put
put_for a b written.Nothing = Nothing
put_for a b written.Space = Character 32 1
put_for a b (written.Cased case) = Cased a b case
put_for a b (written.Filled fill len) = Filled a b fill len

abbrev pub goes_for : Point → Goes
goes_for points.Stays = Stays
goes_for (points.To p) = To p
goes_for points.Behind = Behind

abbrev pub finish_for : Point → Finish
finish_for p = record { point = goes_for p; mark = None; top = None; kill = None; kind = Other; told = Says Silent }

abbrev pub changed : Rewrite → Change
changed r = record { from = r.from; to = r.to; put = put_for r.from r.to r.written; finish = finish_for r.point }

abbrev pub changed_or : Result Rewrite Message → Result Change Message
changed_or (Ok r) = Ok (changed r)
changed_or (Err message) = Err message

-- what is a command's rewriting on a text is its change then
abbrev pub IsOfRewrite : Result Rewrite Message → Result Change Message → Type 0
IsOfRewrite answer change =
    (command : Alteration) (x : Around) (text : List ℕ) (g : Given) → g ≡ given_of x
    → IsRewrite (alteration command) g text answer → IsChange (alteration command) x text change
