-- What the lines so far and those left come to together.
use Rattle.std.proofs.Common.{◌≡◌, ℕ, ◌+◌, ◌<◌, ◌≤◌, length, arith, Bool, false, true, cond, List, [], ◌∷◌, ◌++◌, Option, Some, None, Result, Ok, Err, Bor, refl, sym, ap, subst, ◌∙◌, append_assoc}
use Rattle.std.proofs.KnownBytes.{Appends-nil, Appends-trans}
use Rattle.std.specs.Option.{option_map}
use Rattle.std.specs.Prelude.{IfSome}
use Rattle.mgs_script.proofs.Feeds.{length_left}
use Rattle.std.specs.Io.KnownBytes.{Appends}
use Rattle.mgs_model.specs.World.{World}
use Rattle.mgs_model.specs.Events.{open_fault}
use Rattle.mgs_model.specs.declared.errors.OpenFault.{OpenFault}
use Rattle.mgs_script.specs.Lines.{Said, said_in}
use Rattle.mgs_script.specs.Lines as said
use Rattle.mgs_script.specs.Scripts.{lines_of, line_in, after_line, lines_after}
use Rattle.mgs_replay.specs.Settings.{first_world}
use Rattle.mgs_replay.specs.Players.{Player, setting, playing}
use Rattle.mgs_replay.specs.Replayed.{LineChoice, NoMemory, Events, Did, did_by, did_open, next_choice, open_answer, Replayed, ended, after_print, line_then, later, next_line, played, replayed, Written}
use Rattle.mgs_replay.specs.Turns.{LineDoes, LineRefused, MayBeShort, IsDue, IsOpening, Turned, PlaysOn, SetsSaid, Leads, Ends}
use Rattle.mgs_replay.specs.Faults.{end_at, fault_of}
use Rattle.mgs_script.specs.declared.line.LineFault.{LineFault}
use Rattle.mgs_script.specs.declared.line.LineFault.TheVariants as lines
use Rattle.mgs_replay.specs.declared.lines.TurnFault.{TurnFault}
use Rattle.mgs_replay.specs.declared.lines.TurnFault.TheVariants as turns
use Rattle.mgs_replay.specs.declared.script.ReplayFault.{ReplayFault}
use Rattle.mgs_replay.specs.declared.script.ReplayFault.TheVariants as ends

-- ONE LINE

-- what a line did, it does for some choice
line_done : (n : ℕ) (o : Option Said) (s t : Player) (print : List ℕ) → LineDoes o s t print → (c : LineChoice) × ((rest : Player → Replayed) → line_then n s o c rest ≡ after_print print (rest t))
line_done n None s t print h = absurd h
line_done n (Some l) s t print h = (
  Events h.1.0,
  λ rest.
      ap (λ b. cond b (ended (Err (ends.Line n))) (after_print (did_by h.1.0 s l).print (rest (did_by h.1.0 s l).player))) h.0
      ∙ ap (λ (x : Did). after_print x.print (rest x.player)) (sym h.1.1),
)

line_refused : (n : ℕ) (o : Option Said) (s : Player) (rest : Player → Replayed) → LineRefused o s → line_then n s o (Events []) rest ≡ ended (Err (ends.Line n))
line_refused n None s rest h = refl
line_refused n (Some l) s rest h = ap (λ b. cond b (ended (Err (ends.Line n))) (after_print (did_by [] s l).print (rest (did_by [] s l).player))) h

line_short : (n : ℕ) (o : Option Said) (s : Player) (rest : Player → Replayed) → MayBeShort o s → line_then n s o NoMemory rest ≡ ended (Err ends.Short)
line_short n None s rest h = absurd h
line_short n (Some l) s rest h = ap (λ b. ended (Err (cond b ends.Short (ends.Line n)))) h

-- THE LINES LEFT

-- the lines of what is left of a text
abbrev pub lines_left : Option (Bor (List ℕ)) → List (List ℕ)
lines_left rest = lines_after (option_map (λ x. x.now) rest)

abbrev wrote : List ℕ → Result (Unit {0}) ReplayFault → Replayed
wrote out end = record { out = out; end = end }

print_none : (r : Replayed) → r ≡ after_print [] r
print_none r = refl

print_twice : (a b : List ℕ) (r : Replayed) → after_print a (after_print b r) ≡ after_print (a ++ b) r
print_twice a b r = ap (λ (out : List ℕ). wrote out r.end) (sym (append_assoc a b r.out))

-- what was printed, and what the lines left come to, is what all lines come to
pub record Stands (first : ℕ) (start : Player) (all : List (List ℕ)) (old now : Option (List ℕ)) (n : ℕ) (s : Player) (left : List (List ℕ)) : Type 0 where
  pub printed : List ℕ
  pub appends : Appends old now printed
  pub goes : (choices : List LineChoice) → (before : List LineChoice) × (played before first start all ≡ after_print printed (played choices n s left))

pub stands_first : (n : ℕ) (s : Player) (all : List (List ℕ)) (c : Option (List ℕ)) → Stands n s all c c n s all
stands_first n s all c = record { printed = []; appends = Appends-nil c; goes = λ choices. (choices, print_none (played choices n s all)) }

pub stands_next : (first : ℕ) (start : Player) (all : List (List ℕ)) (old mid new : Option (List ℕ)) (n : ℕ) (s t : Player) (line : List ℕ) (left : List (List ℕ)) (print : List ℕ)
    → Stands first start all old mid n s (line ∷ left) → LineDoes (said_in line) s t print → Appends mid new print → Stands first start all old new (n + 1) t left
stands_next first start all old mid new n s t line left print h does app =
    let one = line_done n (said_in line) s t print does in
    record {
      printed = h.printed ++ print;
      appends = Appends-trans old mid new h.printed print h.appends app;
      goes = λ choices.
          let all_by = h.goes (one.0 ∷ choices) in (
            all_by.0,
            all_by.1
                ∙ ap (after_print h.printed) (one.1 (λ u. played choices (n + 1) u left))
                ∙ print_twice h.printed print (played choices (n + 1) t left),
          );
    }

-- the lines left end so, and print nothing more
stands_ended : (first : ℕ) (start : Player) (all : List (List ℕ)) (old mid new : Option (List ℕ)) (n : ℕ) (s : Player) (left : List (List ℕ)) (end : Result (Unit {0}) ReplayFault) (choices : List LineChoice)
    → Stands first start all old mid n s left → played choices n s left ≡ ended end → Appends mid new [] → (cs : List LineChoice) × Appends old new (played cs first start all).out × ((played cs first start all).end ≡ end)
stands_ended first start all old mid new n s left end choices h is app =
    let all_by = h.goes choices in
    let come : played all_by.0 first start all ≡ after_print h.printed (ended end) = all_by.1 ∙ ap (after_print h.printed) is in (
      all_by.0,
      subst (λ (r : Replayed). Appends old new r.out) (sym come) (Appends-trans old mid new h.printed [] h.appends app),
      ap (λ (r : Replayed). r.end) come,
    )

pub stands_end : (first : ℕ) (start : Player) (all : List (List ℕ)) (old now : Option (List ℕ)) (n : ℕ) (s : Player) → Stands first start all old now n s [] → PlaysOn (Ok tt) first start all old now
stands_end first start all old now n s h = stands_ended first start all old now now n s [] (Ok tt) [] h refl (Appends-nil now)

-- how a fault of a line ends it
pub ends_on : (r : ReplayFault) (fault : TurnFault) (first : ℕ) (start : Player) (all : List (List ℕ)) (old mid new : Option (List ℕ)) (n : ℕ) (s t : Player) (line : List ℕ) (left : List (List ℕ))
    → r ≡ end_at n fault → Stands first start all old mid n s (line ∷ left) → Turned (Err fault) s (said_in line) t mid new → PlaysOn (Err r) first start all old new
ends_on r turns.Refused first start all old mid new n s t line left is h turned =
    subst (λ (x : ReplayFault). PlaysOn (Err x) first start all old new) (sym is)
    (stands_ended first start all old mid new n s (line ∷ left) (Err (ends.Line n)) [] h (line_refused n (said_in line) s (λ u. played [] (n + 1) u left) turned.0) turned.1)
ends_on r turns.Write first start all old mid new n s t line left is h turned = subst (λ (x : ReplayFault). PlaysOn (Err x) first start all old new) (sym is) tt
ends_on r turns.Short first start all old mid new n s t line left is h turned =
    subst (λ (x : ReplayFault). PlaysOn (Err x) first start all old new) (sym is)
    (stands_ended first start all old mid new n s (line ∷ left) (Err ends.Short) (NoMemory ∷ []) h (line_short n (said_in line) s (λ u. played [] (n + 1) u left) turned.0) turned.1)

-- the first line of what is left, and the others
pub left_cut : (rest : Option (Bor (List ℕ))) (text : Bor (List ℕ)) (line : List ℕ) (later : Option (Bor (List ℕ))) → rest ≡ Some text
    → lines_of text.now ≡ line ∷ lines_after (option_map (λ x. x.now) later) → lines_left rest ≡ line ∷ lines_left later
left_cut rest text line later is cut = ap lines_left is ∙ cut

pub left_none : (rest : Option (Bor (List ℕ))) → rest ≡ None → lines_left rest ≡ []
left_none rest is = ap lines_left is

-- BEFORE THE FIRST OPEN

pub leads_first : (w : World) (all : List (List ℕ)) → Leads w all 1 w all
leads_first w all choices = (choices, refl)

-- a line that was set
pub leads_next : (b : Bool) (old mid new : World) (all : List (List ℕ)) (n : ℕ) (line : List ℕ) (left : List (List ℕ)) → b ≡ true → Leads old all n mid (line ∷ left) → SetsSaid (Ok b) (said_in line) mid new → Leads old all (n + 1) new left
leads_next false old mid new all n line left e leads sets = absurd cc
leads_next true old mid new all n line left e leads sets = λ choices.
    let one = line_done n (said_in line) (setting mid) (setting new) [] sets in
    let all_by = leads (one.0 ∷ choices) in
    (all_by.0, all_by.1 ∙ one.1 (λ u. played choices (n + 1) u left))

-- one that ended it
pub leads_fault : (r : ReplayFault) (fault : LineFault) (old mid : World) (all : List (List ℕ)) (n : ℕ) (line : List ℕ) (left : List (List ℕ)) → r ≡ end_at n (fault_of fault) → Leads old all n mid (line ∷ left) → IsDue fault (said_in line) (setting mid) → Ends (Err r) old all
leads_fault r lines.Bad old mid all n line left is leads due =
    let all_by = leads [] in
    (all_by.0, all_by.1 ∙ line_refused n (said_in line) (setting mid) (λ u. played [] (n + 1) u left) due ∙ ap (λ (x : ReplayFault). ended (Err x)) (sym is))
leads_fault r lines.Short old mid all n line left is leads due =
    let all_by = leads (NoMemory ∷ []) in
    (all_by.0, all_by.1 ∙ line_short n (said_in line) (setting mid) (λ u. played [] (n + 1) u left) due ∙ ap (λ (x : ReplayFault). ended (Err x)) (sym is))

-- the first open
pub leads_open : (b : Bool) (old mid new : World) (all : List (List ℕ)) (n : ℕ) (rest : Option (Bor (List ℕ))) (text : Bor (List ℕ)) (line : List ℕ) → b ≡ false → rest ≡ Some text → line ≡ line_in text.now → Leads old all n mid (lines_left rest)
    → SetsSaid (Ok b) (said_in line) mid new → Leads old all n new (lines_of text.now) × IsOpening (said_in (line_in text.now))
leads_open true old mid new all n rest text line e is cut leads sets = absurd cc
leads_open false old mid new all n rest text line e is cut leads sets = (
  subst (λ (w : World). Leads old all n w (lines_of text.now)) (sym sets.0) (subst (λ (ls : List (List ℕ)). Leads old all n mid ls) (ap lines_left is) leads),
  subst (λ (l : List ℕ). IsOpening (said_in l)) cut sets.1,
)

-- and all of them
pub leads_end : (old mid : World) (all : List (List ℕ)) (n : ℕ) → Leads old all n mid [] → Ends (Ok tt) old all
leads_end old mid all n leads = leads []

-- THE FIRST OPEN is the same before it and after it

did_open_same : (w : World) (name user : List ℕ) (rows cols : ℕ) (answer : Result ℕ OpenFault) → did_open (playing w []) name user rows cols answer ≡ did_open (setting w) name user rows cols answer
did_open_same w name user rows cols (Ok id) = refl
did_open_same w name user rows cols (Err fault) = refl

opens_same : (o : Option Said) (n : ℕ) (w : World) (c : LineChoice) (rest : Player → Replayed) → IsOpening o → line_then n (playing w []) o c rest ≡ line_then n (setting w) o c rest
opens_same None n w c rest is = absurd is
opens_same (Some said.Nothing) n w c rest is = absurd is
opens_same (Some (said.User name)) n w c rest is = absurd is
opens_same (Some (said.Group name members)) n w c rest is = absurd is
opens_same (Some (said.Buffer name owner)) n w c rest is = absurd is
opens_same (Some (said.OwnGroup buffer group)) n w c rest is = absurd is
opens_same (Some (said.Entry buffer entry)) n w c rest is = absurd is
opens_same (Some (said.Text buffer cs)) n w c rest is = absurd is
opens_same (Some (said.Open name user rows cols)) n w NoMemory rest is = refl
opens_same (Some (said.Open name user rows cols)) n w (Events cs) rest is =
    ap (λ (x : Did). after_print x.print (rest x.player)) (did_open_same w name user rows cols (open_answer (next_choice cs) (open_fault w user rows cols) w.next_id))
opens_same (Some (said.Keys name keys)) n w c rest is = absurd is
opens_same (Some (said.Show name)) n w c rest is = absurd is
opens_same (Some (said.Close name)) n w c rest is = absurd is

-- it is not refused
opening_short : (o : Option Said) (w : World) → IsOpening o → MayBeShort o (setting w)
opening_short None w is = absurd is
opening_short (Some said.Nothing) w is = absurd is
opening_short (Some (said.User name)) w is = absurd is
opening_short (Some (said.Group name members)) w is = absurd is
opening_short (Some (said.Buffer name owner)) w is = absurd is
opening_short (Some (said.OwnGroup buffer group)) w is = absurd is
opening_short (Some (said.Entry buffer entry)) w is = absurd is
opening_short (Some (said.Text buffer cs)) w is = absurd is
opening_short (Some (said.Open name user rows cols)) w is = refl
opening_short (Some (said.Keys name keys)) w is = absurd is
opening_short (Some (said.Show name)) w is = absurd is
opening_short (Some (said.Close name)) w is = absurd is

-- WHOLE SCRIPTS

-- from a script's first world on
from_first : (w : World) (script : List ℕ) (cs : List LineChoice) (r : Replayed) → w ≡ first_world → played cs 1 (setting w) (lines_of script) ≡ r → replayed cs script ≡ r
unfolding replayed
from_first w script cs r first is = subst (λ (x : World). played cs 1 (setting x) (lines_of script) ≡ r) first is

-- where the lines before the first open end it
pub written_set : (r : Result (Unit {0}) ReplayFault) (w : World) (script : List ℕ) (c : Option (List ℕ)) → w ≡ first_world → Ends r w (lines_of script) → Written script c c r
written_set r w script c first ends_so = by r ends_so
  where
    written_as : (end : Result (Unit {0}) ReplayFault) → Ends end w (lines_of script) → (cs : List LineChoice) × Appends c c (replayed cs script).out × ((replayed cs script).end ≡ end)
    written_as end h =
        let is = from_first w script h.0 (ended end) first h.1 in
        (h.0, subst (λ (x : Replayed). Appends c c x.out) (sym is) (Appends-nil c), ap (λ (x : Replayed). x.end) is)

    by : (end : Result (Unit {0}) ReplayFault) → Ends end w (lines_of script) → Written script c c end
    by (Ok u) h = written_as (Ok u) h
    by (Err (ends.Line n)) h = written_as (Err (ends.Line n)) h
    by (Err ends.Read) h = tt
    by (Err ends.Write) h = tt
    by (Err ends.Short) h = written_as (Err ends.Short) h

-- memory is refused to the server at the first open
pub unserved : (n : ℕ) (w v : World) (script text : List ℕ) (c : Option (List ℕ)) → w ≡ first_world → Leads w (lines_of script) n v (lines_of text) → IsOpening (said_in (line_in text))
    → lines_of text ≡ line_in text ∷ lines_after (after_line text) → Written script c c (Err ends.Short)
unserved n w v script text c first leads is cut =
    let line : List ℕ = line_in text in
    let left : List (List ℕ) = lines_after (after_line text) in
    let short : Ends (Err ends.Short) w (lines_of script) =
    leads_fault ends.Short lines.Short w v (lines_of script) n line left refl (subst (λ (ls : List (List ℕ)). Leads w (lines_of script) n v ls) cut leads) (opening_short (said_in line) v is) in
    written_set (Err ends.Short) w script c first short

-- the lines before the first open, and those from it on
pub written_on : (r : Result (Unit {0}) ReplayFault) (n : ℕ) (w v : World) (script text : List ℕ) (old new : Option (List ℕ)) → w ≡ first_world → Leads w (lines_of script) n v (lines_of text) → IsOpening (said_in (line_in text))
    → lines_of text ≡ line_in text ∷ lines_after (after_line text) → PlaysOn r n (playing v []) (lines_of text) old new → Written script old new r
written_on r n w v script text old new first leads is cut h = by r h
  where
    line : List ℕ
    line = line_in text

    left : List (List ℕ)
    left = lines_after (after_line text)

    same : (cs : List LineChoice) → played cs n (playing v []) (lines_of text) ≡ played cs n (setting v) (lines_of text)
    same cs =
        ap (played cs n (playing v [])) cut
        ∙ opens_same (said_in line) n v (next_line cs) (λ t. played (later cs) (n + 1) t left) is
        ∙ ap (played cs n (setting v)) (sym cut)

    on : (end : Result (Unit {0}) ReplayFault) → (cs : List LineChoice) × Appends old new (played cs n (playing v []) (lines_of text)).out × ((played cs n (playing v []) (lines_of text)).end ≡ end)
        → (cs : List LineChoice) × Appends old new (replayed cs script).out × ((replayed cs script).end ≡ end)
    on end g =
        let all_by = leads g.0 in
        let come = from_first w script all_by.0 (played g.0 n (playing v []) (lines_of text)) first (all_by.1 ∙ sym (same g.0)) in (
          all_by.0,
          subst (λ (x : Replayed). Appends old new x.out) (sym come) g.1,
          ap (λ (x : Replayed). x.end) come ∙ g.2,
        )

    by : (end : Result (Unit {0}) ReplayFault) → PlaysOn end n (playing v []) (lines_of text) old new → Written script old new end
    by (Ok u) g = on (Ok u) g
    by (Err (ends.Line m)) g = on (Err (ends.Line m)) g
    by (Err ends.Read) g = tt
    by (Err ends.Write) g = tt
    by (Err ends.Short) g = on (Err ends.Short) g

-- no more lines are left than bytes
pub left_shorter : (rest : Option (Bor (List ℕ))) (text : Bor (List ℕ)) (later : Option (Bor (List ℕ))) (n most : ℕ) → rest ≡ Some text → IfSome later (λ x. length x.now < length text.now)
    → n + length_left rest ≤ most → (n + 1) + length_left later ≤ most
left_shorter rest text None n most is short h = let e : length_left rest ≡ length_left (Some text) = ap length_left is in omega arith
left_shorter rest text (Some l) n most is short h = let e : length_left rest ≡ length_left (Some text) = ap length_left is in omega arith
