-- What a plan says: each is read as a plan of the model, given the text and the kill buffer that it is for.
use Rattle.std.specs.Prelude.{◌≡◌, ℕ, ◌+◌, ◌-◌, ◌≤◌, Bool, List, [], ◌++◌, length, nat_lt, replicate, slice_range, Option, Some, None, Result, Ok, Err}
use Rattle.std.specs.List.{repeat}
use Rattle.mgs_model.specs.Outcome.{PointPlan, Keep_position, At, MarkPlan, Keep_mark, Mark_at, KillPlan, Keep_kill, Kill_is}
use Rattle.mgs_model.specs.Whites.{refilled}
use Rattle.mgs_model.specs.Plans as model
use Rattle.mgs_model.specs.World.{Item}
use Rattle.mgs_model.specs.declared.limits.TheConstants.{TEXT_LIMIT}
use Rattle.mgs_model.specs.declared.echo_text.Message.{Message}
use Rattle.mgs_model.specs.declared.echo_text.Message.TheVariants.{Says}
use Rattle.mgs_model.specs.declared.echo_text.Notice.TheVariants.{Silent}
use Rattle.mgs_model.specs.declared.session.Kind.{Kind}
use Rattle.mgs_model.specs.declared.session.Kind.TheVariants.{Other, Kill}
use Rattle.mgs_fill.specs.Rewriting.{cased}
use Rattle.mgs_edit.specs.declared.plan.Around.{Around}
use Rattle.mgs_edit.specs.declared.plan.Goes.{Goes}
use Rattle.mgs_edit.specs.declared.plan.Goes.TheVariants.{Stays, To, Behind}
use Rattle.mgs_edit.specs.declared.plan.Joins.{Joins}
use Rattle.mgs_edit.specs.declared.plan.Joins.TheVariants.{New, InFront}
use Rattle.mgs_edit.specs.declared.plan.Joins.TheVariants as joins
use Rattle.mgs_edit.specs.declared.plan.Piece.{Piece}
use Rattle.mgs_edit.specs.declared.plan.Finish.{Finish}
use Rattle.mgs_edit.specs.declared.plan.Put.{Put}
use Rattle.mgs_edit.specs.declared.plan.Put.TheVariants.{Nothing, Character, KillBuffer, Indented, Exchanged, Cased, Filled}
use Rattle.mgs_edit.specs.declared.plan.Change.{Change}
use Rattle.mgs_edit.specs.declared.plan.Undone.{Undone}

-- GIVEN

-- what is given here, in a text of so many characters; what was typed is in the argument, and all else is as it is
abbrev pub surrounded : Around → ℕ → model.Around → model.Around
surrounded x size rest = record rest { size = size; place = x.place; mark = x.mark; argument = x.argument; typed = []; kind = x.kind; height = x.height; fill = x.fill }

-- what an undo in a buffer goes by
abbrev pub undoing : Kind → List ℕ → ℕ → model.Around → model.Around
undoing kind name serial rest = record rest { kind = kind; name = name; serial = serial }

-- PLANS

abbrev pub put_read : List ℕ → List ℕ → Put → List ℕ
put_read text kill Nothing = []
put_read text kill (Character c n) = replicate n c
put_read text kill (KillBuffer n) = repeat n kill
put_read text kill (Indented n a b) = replicate n 10 ++ slice_range text a b
put_read text kill (Exchanged q) = slice_range text q (q + 1) ++ slice_range text (q - 1) q
put_read text kill (Cased a b case) = cased case (slice_range text a b)
put_read text kill (Filled a b fill len) = refilled fill (slice_range text a b)

-- behind is where what is put in ends
abbrev pub point_read : ℕ → Goes → PointPlan
point_read behind Stays = Keep_position
point_read behind (To p) = At p
point_read behind Behind = At behind

abbrev pub mark_read : Option ℕ → MarkPlan
mark_read None = Keep_mark
mark_read (Some p) = Mark_at p

abbrev pub top_read : Option ℕ → PointPlan
top_read None = Keep_position
top_read (Some p) = At p

abbrev pub kill_joined : Joins → List ℕ → List ℕ → List ℕ
kill_joined New kill piece = piece
kill_joined joins.Behind kill piece = kill ++ piece
kill_joined InFront kill piece = piece ++ kill

abbrev pub kill_read : List ℕ → List ℕ → Option Piece → KillPlan
kill_read text kill None = Keep_kill
kill_read text kill (Some x) = Kill_is (kill_joined x.joins kill (slice_range text x.from x.to))

abbrev pub finish_read : List ℕ → List ℕ → ℕ → Finish → model.Finish
finish_read text kill behind f =
    record {
      point = point_read behind f.point;
      mark = mark_read f.mark;
      top = top_read f.top;
      kill = kill_read text kill f.kill;
      kind = f.kind;
      told = f.told;
    }

abbrev pub change_read : List ℕ → List ℕ → Change → model.Change
change_read text kill c =
    record { a = c.from; b = c.to; put = put_read text kill c.put; finish = finish_read text kill (c.from + length (put_read text kill c.put)) c.finish }

-- given the characters that the undone edit took out
abbrev pub undone_read : List ℕ → List ℕ → List ℕ → Undone → model.Change
undone_read text kill removed u =
    record { a = u.from; b = u.from + u.gone; put = removed; finish = finish_read text kill (u.from + length removed) u.finish }

-- what a planner answers; a motion puts nothing in
abbrev pub motion_read : List ℕ → List ℕ → Result Finish Message → Result model.Finish Message
motion_read text kill (Ok f) = Ok (finish_read text kill 0 f)
motion_read text kill (Err message) = Err message

abbrev pub edit_read : List ℕ → List ℕ → Result Change Message → Result model.Change Message
edit_read text kill (Ok c) = Ok (change_read text kill c)
edit_read text kill (Err message) = Err message

-- a finish that moves the point and nothing else
abbrev pub gone : ℕ → Finish
gone p = record { point = To p; mark = None; top = None; kill = None; kind = Other; told = Says Silent }

-- it comes in at a position, and the point goes behind it; or the mark is set too
abbrev pub coming : ℕ → Put → Change
coming a put = record { from = a; to = a; put = put; finish = record (gone a) { point = Behind } }

abbrev pub marked : ℕ → Change → Change
marked m c = record c { finish = record c.finish { mark = Some m } }

-- what stands between two positions is taken out, and is killed or not
abbrev pub deleted : ℕ → ℕ → Change
deleted a b = record { from = a; to = b; put = Nothing; finish = gone a }

abbrev pub killing : ℕ → ℕ → Joins → Change
killing a b joins =
    record { from = a; to = b; put = Nothing; finish = record (gone a) { kill = Some (record { from = a; to = b; joins = joins }); kind = Kill } }

-- WHAT CAN BE DONE: every position lies in its text

abbrev pub IsWithin : ℕ → Option ℕ → Type 0
IsWithin size None = Unit {0}
IsWithin size (Some p) = p ≤ size

abbrev pub GoesWithin : ℕ → Goes → Type 0
GoesWithin size Stays = Unit {0}
GoesWithin size (To p) = p ≤ size
GoesWithin size Behind = Unit {0}

abbrev pub PieceWithin : ℕ → Option Piece → Type 0
PieceWithin size None = Unit {0}
PieceWithin size (Some x) = (x.from ≤ x.to) × (x.to ≤ size)

-- what is filled has the length that the plan says
abbrev pub PutWithin : List ℕ → Put → Type 0
PutWithin text Nothing = Unit {0}
PutWithin text (Character c n) = Unit {0}
PutWithin text (KillBuffer n) = Unit {0}
PutWithin text (Indented n a b) = (a ≤ b) × (b ≤ length text)
PutWithin text (Exchanged q) = (1 ≤ q) × (q + 1 ≤ length text)
PutWithin text (Cased a b case) = (a ≤ b) × (b ≤ length text)
PutWithin text (Filled a b fill len) = (a ≤ b) × (b ≤ length text) × (length (refilled fill (slice_range text a b)) ≡ len)

-- of a text of so many characters, and so many afterwards
pub record FinishWithin (size after : ℕ) (f : Finish) : Type 0 where
  pub point : GoesWithin after f.point
  pub mark : IsWithin after f.mark
  pub top : IsWithin after f.top
  pub kill : PieceWithin size f.kill

pub record ChangeWithin (text kill : List ℕ) (c : Change) : Type 0 where
  pub order : c.from ≤ c.to
  pub within : c.to ≤ length text
  pub put : PutWithin text c.put
  pub finish : FinishWithin (length text) (length text - (c.to - c.from) + length (put_read text kill c.put)) c.finish

-- PLANNERS: what each answers is that plan, whatever is given beside what is given here

abbrev pub IsMotion : (List ℕ → model.Around → Result model.Finish Message) → Around → List ℕ → Result Finish Message → Type 0
IsMotion plan x text answer = (rest : model.Around) → motion_read text rest.kill answer ≡ plan text (surrounded x (length text) rest)

abbrev pub IsChange : (List ℕ → model.Around → Result model.Change Message) → Around → List ℕ → Result Change Message → Type 0
IsChange plan x text answer = (rest : model.Around) → edit_read text rest.kill answer ≡ plan text (surrounded x (length text) rest)

-- in any text of so many characters
abbrev pub IsInsertion : (model.Around → Result model.Change Message) → Around → ℕ → Result Change Message → Type 0
IsInsertion plan x size answer = (text : List ℕ) (rest : model.Around) → length rest.kill ≡ x.killed → edit_read text rest.kill answer ≡ plan (surrounded x size rest)

-- an item of a buffer of that name, serial and size
abbrev pub IsTakenBack : List ℕ → ℕ → ℕ → Item → Undone → Type 0
IsTakenBack name serial size item u =
    (text kill : List ℕ) (kind : Kind) (rest : model.Around) → undone_read text kill item.removed u ≡ model.taken_back (undoing kind name serial (record rest { size = size })) item

-- SIZES: so is what comes in, or what the kill buffer becomes, in each text that has it, where the kill buffer has so many
-- characters

abbrev pub IsPut : Put → ℕ → (List ℕ → Type 0) → Type 0
IsPut put killed P = (text kill : List ℕ) → PutWithin text put → length kill ≡ killed → P (put_read text kill put)

abbrev pub IsKilled : Option Piece → ℕ → (KillPlan → Type 0) → Type 0
IsKilled piece killed P = (text kill : List ℕ) → PieceWithin (length text) piece → length kill ≡ killed → P (kill_read text kill piece)

-- a text of so many characters has more than a text may have when these come in place of those from a up to b
abbrev pub is_long : ℕ → ℕ → ℕ → List ℕ → Bool
is_long size a b put = nat_lt TEXT_LIMIT (size - (b - a) + length put)

abbrev pub IsTooLong : ℕ → Change → ℕ → Bool → Type 0
IsTooLong size c killed answer =
    (text kill : List ℕ) → length text ≡ size → PutWithin text c.put → length kill ≡ killed → answer ≡ is_long size c.from c.to (put_read text kill c.put)

-- whichever characters come back
abbrev pub IsUndoTooLong : ℕ → Undone → Bool → Type 0
IsUndoTooLong size u answer = (removed : List ℕ) → length removed ≡ u.len → answer ≡ is_long size u.from (u.from + u.gone) removed

-- WHAT AN INSERTION LEAVES: the point goes behind what is put in; no mark is set, the top stays, and nothing is killed
pub record LeavesBehind (f : Finish) : Type 0 where
  pub point : f.point ≡ Behind
  pub mark : f.mark ≡ None
  pub top : f.top ≡ None
  pub kill : f.kill ≡ None
