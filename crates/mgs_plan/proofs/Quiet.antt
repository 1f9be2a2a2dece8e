-- Acts that touch nothing, whoever does them and whatever they come to.
use Rattle.std.proofs.Common.{◌≡◌, ℕ, Bool, List, [], Option, Some, None, refl}
use Rattle.std.specs.Prelude.{Result, Ok, Err}
use Rattle.std.specs.Option.{option_map}
use Rattle.mgs_model.specs.Acts.{Target, allowed, around_search, arranges, judged, needs, outcome, permitted, seeks, sets, sought_by, target}
use Rattle.mgs_model.specs.SearchCommands.{SearchFinish, seek}
use Rattle.mgs_laws.specs.Apart.{touched_by}
use Rattle.mgs_model.specs.Apply.{outcome_in}
use Rattle.mgs_model.specs.Outcome.{Act, Run, Arrange, No_effect, Outcome}
use Rattle.mgs_model.specs.Plans.{acted_state, arrangement, setting}
use Rattle.mgs_model.specs.View.{View, text_in, view_of}
use Rattle.mgs_model.specs.World.{State, World}
use Rattle.mgs_model.specs.declared.entry.Decision.{Decision}
use Rattle.mgs_model.specs.declared.entry.Decision.TheVariants.{Granted}
use Rattle.mgs_model.specs.declared.echo_text.Message.{Message}
use Rattle.mgs_model.specs.declared.session.Arrangement.{Arrangement}
use Rattle.mgs_model.specs.declared.session.Command.TheVariants.{Ask, LeaveSearch, Rearrange, Seek, Set}
use Rattle.mgs_model.specs.declared.session.Seeking.{Seeking}
use Rattle.mgs_model.specs.declared.session.Question.{Question}
use Rattle.mgs_model.specs.declared.session.Setting.{Setting}
use Rattle.mgs_model.specs.declared.touched.Touched.{Touched}
use Rattle.mgs_model.specs.declared.touched.Touched.TheVariants.{Nowhere}
use Rattle.mgs_plan.specs.Tells.{touched_in}

abbrev pub touched_of : Outcome → Touched
touched_of o = touched_by o.effect

-- a denial touches nothing
permitted_quiet : (state : State) (d : Decision) (o : Outcome) → touched_of o ≡ Nowhere → touched_of (permitted state d o) ≡ Nowhere
permitted_quiet state Granted o h = h
permitted_quiet state _ o h = refl

seeks_quiet : (state : State) (o : Option Target) (plan : Target → Result SearchFinish Message) → touched_of (seeks state o plan) ≡ Nowhere
seeks_quiet state None plan = refl
seeks_quiet state (Some t) plan = by (plan t)
  where
    by : (r : Result SearchFinish Message) → touched_of (sought_by state r) ≡ Nowhere
    by (Err message) = refl
    by (Ok f) = refl

sets_quiet : (state : State) (r : Result State Message) → touched_of (sets state r) ≡ Nowhere
sets_quiet state (Err message) = refl
sets_quiet state (Ok after) = refl

arranges_quiet : (state : State) (r : Result Arrange Message) → touched_of (arranges state No_effect r) ≡ Nowhere
arranges_quiet state (Err message) = refl
arranges_quiet state (Ok plan) = refl

-- whoever does it: a session that is there, or none
in_all : (c : Act) (stored : Bool) → ((v : View) → touched_of (outcome v c stored) ≡ Nowhere) → (o : Option View) → touched_in (option_map (λ v. outcome v c stored) o) ≡ Nowhere
in_all c stored h None = refl
in_all c stored h (Some v) = h v

allowed_quiet : (c : Act) (stored : Bool) → ((v : View) → touched_of (allowed v c stored) ≡ Nowhere) → (w : World) (id : ℕ) → touched_in (outcome_in w id c stored) ≡ Nowhere
unfolding outcome
allowed_quiet c stored h w id = in_all c stored (λ v. permitted_quiet v.session.state (judged v (needs v c)) (allowed v c stored) (h v)) (view_of w id)

-- a setting, a question, an arrangement in a view
module _ (v : View) (n : Option ℕ) (stored : Bool) where
  pub setting_quiet : (s : Setting) → touched_of (outcome v (Run (Set s) n []) stored) ≡ Nowhere
  unfolding outcome
  setting_quiet s = permitted_quiet v.session.state (judged v (needs v (Run (Set s) n []))) (allowed v (Run (Set s) n []) stored) (sets_quiet v.session.state (setting s (acted_state v.session.state) n))

  pub question_quiet : (q : Question) → touched_of (outcome v (Run (Ask q) n []) stored) ≡ Nowhere
  unfolding outcome
  question_quiet q = permitted_quiet v.session.state (judged v (needs v (Run (Ask q) n []))) (allowed v (Run (Ask q) n []) stored) refl

  pub arrangement_quiet : (a : Arrangement) → touched_of (outcome v (Run (Rearrange a) n []) stored) ≡ Nowhere
  unfolding outcome
  arrangement_quiet a = permitted_quiet v.session.state (judged v (needs v (Run (Rearrange a) n []))) (allowed v (Run (Rearrange a) n []) stored) (arranges_quiet v.session.state (arrangement a v.session.windows v.session.selected n))

module _ (w : World) (id : ℕ) (n : Option ℕ) (typed : List ℕ) (stored : Bool) where
  pub quiet_seeking : (c : Seeking) → touched_in (outcome_in w id (Run (Seek c) n typed) stored) ≡ Nowhere
  quiet_seeking c = allowed_quiet (Run (Seek c) n typed) stored (λ v. seeks_quiet v.session.state (target v) (λ t. seek c (text_in t.buffer.full) (around_search v.session typed t))) w id

  pub quiet_leaving : touched_in (outcome_in w id (Run LeaveSearch n typed) stored) ≡ Nowhere
  quiet_leaving = allowed_quiet (Run LeaveSearch n typed) stored (λ v. refl) w id
