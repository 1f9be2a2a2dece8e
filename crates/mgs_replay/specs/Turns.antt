-- What lines did, and what was written of them, for some choices.
use Rattle.std.specs.Prelude.{◌≡◌, ℕ, Bool, true, false, List, [], Option, Some, None, Result, Ok, Err}
use Rattle.std.specs.Io.KnownBytes.{Appends}
use Rattle.mgs_model.specs.World.{World}
use Rattle.mgs_script.specs.declared.line.LineFault.{LineFault}
use Rattle.mgs_script.specs.declared.line.LineFault.TheVariants as lines
use Rattle.mgs_replay.specs.declared.lines.TurnFault.{TurnFault}
use Rattle.mgs_replay.specs.declared.lines.TurnFault.TheVariants as turns
use Rattle.mgs_replay.specs.declared.script.ReplayFault.{ReplayFault}
use Rattle.mgs_replay.specs.declared.script.ReplayFault.TheVariants as ends
use Rattle.mgs_script.specs.Lines.{Said, said_in}
use Rattle.mgs_script.specs.Scripts.{lines_of, line_in}
use Rattle.mgs_script.specs.Lines as said
use Rattle.mgs_replay.specs.Players.{Player, setting, is_refused, may_be_short}
use Rattle.mgs_replay.specs.Replayed.{Choice, typed_one, typed, did, did_by, LineChoice, ended, played}

-- LINES

-- a byte of a label, whose session has that id where it is open
abbrev pub TypesOne : Option ℕ → Player → List ℕ → ℕ → Player → Type 0
TypesOne o s name byte t = (c : Choice) × (t ≡ typed_one c o s name byte)

-- bytes of a label, one after another
abbrev pub Types : Player → List ℕ → List ℕ → Player → Type 0
Types s name keys t = (cs : List Choice) × (t ≡ typed cs s name keys)

-- a line that is not refused leads from player to player, and prints this
abbrev pub Does : Player → Said → Player → List ℕ → Type 0
Does s l t print = (cs : List Choice) × (did t print ≡ did_by cs s l)

-- what a line may do, by what it says
abbrev pub LineDoes : Option Said → Player → Player → List ℕ → Type 0
LineDoes None s t print = ⊥
LineDoes (Some l) s t print = (is_refused s l ≡ false) × Does s l t print

-- the line is refused: it says nothing that is known, or not there
abbrev pub LineRefused : Option Said → Player → Type 0
LineRefused None s = Unit {0}
LineRefused (Some l) s = is_refused s l ≡ true

-- where a line may be out of memory
abbrev pub MayBeShort : Option Said → Player → Type 0
MayBeShort None s = ⊥
MayBeShort (Some l) s = may_be_short s l ≡ true

-- why a line that did nothing is not done: refused exactly where it is to be, and out of memory only where it may be
abbrev pub IsDue : LineFault → Option Said → Player → Type 0
IsDue lines.Bad l s = LineRefused l s
IsDue lines.Short l s = MayBeShort l s

-- what a line did, and what was written of it
abbrev pub Turned : Result (Unit {0}) TurnFault → Player → Option Said → Player → Option (List ℕ) → Option (List ℕ) → Type 0
Turned (Ok done) s l t old new = (print : List ℕ) × LineDoes l s t print × Appends old new print
Turned (Err turns.Refused) s l t old new = LineRefused l s × Appends old new []
Turned (Err turns.Write) s l t old new = Unit {0}
Turned (Err turns.Short) s l t old new = MayBeShort l s × Appends old new []

-- LINES ONE AFTER ANOTHER

-- what the lines from the n-th on wrote
abbrev pub PlaysOn : Result (Unit {0}) ReplayFault → ℕ → Player → List (List ℕ) → Option (List ℕ) → Option (List ℕ) → Type 0
PlaysOn (Err ends.Read) n s ls old new = Unit {0}
PlaysOn (Err ends.Write) n s ls old new = Unit {0}
PlaysOn result n s ls old new = (choices : List LineChoice) × Appends old new (played choices n s ls).out × ((played choices n s ls).end ≡ result)

-- the line opens a session
abbrev pub IsOpening : Option Said → Type 0
IsOpening None = ⊥
IsOpening (Some said.Nothing) = ⊥
IsOpening (Some (said.User name)) = ⊥
IsOpening (Some (said.Group name members)) = ⊥
IsOpening (Some (said.Buffer name owner)) = ⊥
IsOpening (Some (said.OwnGroup buffer group)) = ⊥
IsOpening (Some (said.Entry buffer entry)) = ⊥
IsOpening (Some (said.Text buffer cs)) = ⊥
IsOpening (Some (said.Open name user rows cols)) = Unit {0}
IsOpening (Some (said.Keys name keys)) = ⊥
IsOpening (Some (said.Show name)) = ⊥
IsOpening (Some (said.Close name)) = ⊥

-- a line before the first open: true where it did what it says, false where it is that open
abbrev pub SetsSaid : Result Bool LineFault → Option Said → World → World → Type 0
SetsSaid (Ok true) l old new = LineDoes l (setting old) (setting new) []
SetsSaid (Ok false) l old new = (new ≡ old) × IsOpening l
SetsSaid (Err fault) l old new = IsDue fault l (setting old)

-- all lines from the n-th on come to what these come to
abbrev pub Leads : World → List (List ℕ) → ℕ → World → List (List ℕ) → Type 0
Leads old all n new left =
    (choices : List LineChoice) → (before : List LineChoice) × (played before 1 (setting old) all ≡ played choices n (setting new) left)

-- the lines end so, and nothing is written
abbrev pub Ends : Result (Unit {0}) ReplayFault → World → List (List ℕ) → Type 0
Ends result w ls = (choices : List LineChoice) × (played choices 1 (setting w) ls ≡ ended result)

-- what the lines before the first open did: all of them, up to that open, or up to one that is refused
abbrev pub SetUp : {B : Type 0} → (B → List ℕ) → Result (Option (ℕ × B)) ReplayFault → World → List ℕ → World → Type 0
SetUp text (Ok None) old script new = Ends (Ok tt) old (lines_of script)
SetUp text (Ok (Some p)) old script new = Leads old (lines_of script) p.0 new (lines_of (text p.1)) × IsOpening (said_in (line_in (text p.1)))
SetUp text (Err fault) old script new = Ends (Err fault) old (lines_of script)
