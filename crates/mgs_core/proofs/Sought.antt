-- A byte of a session that searches.
use Rattle.std.proofs.Common.{◌≡◌, ℕ, Bool, true, false, cond, List, [], Option, Some, None, refl, sym, ap, subst, ◌∙◌}
use Rattle.std.specs.Prelude.{◌==◌, ⊤, length, nat_lt}
use Rattle.mgs_model.specs.Access.{Directory}
use Rattle.mgs_model.specs.Apply.{is_search_mode}
use Rattle.mgs_model.specs.Keys.{character_read, is_character_byte, is_graphic}
use Rattle.mgs_model.specs.World as model
use Rattle.mgs_model.specs.View.{View}
use Rattle.mgs_model.specs.Outcome.{Run}
use Rattle.mgs_model.specs.Searching.{Sought, directed, dropped, lengthened, read_byte, shortened}
use Rattle.mgs_model.specs.Turns.{Do, pattern_turn, sought_byte, sought_turn, used}
use Rattle.mgs_model.specs.Events.{refused_state}
use Rattle.mgs_model.specs.declared.echo_text.Message.TheVariants.{Says}
use Rattle.mgs_model.specs.declared.echo_text.Notice.TheVariants.{Silent}
use Rattle.mgs_model.specs.declared.search.Direction.{Direction}
use Rattle.mgs_model.specs.declared.search.Direction.TheVariants.{Forward, Backward}
use Rattle.mgs_model.specs.declared.search.SearchStep.{SearchStep}
use Rattle.mgs_model.specs.declared.search.SearchStep.TheVariants as step
use Rattle.mgs_model.specs.declared.session.Command.TheVariants.{Seek}
use Rattle.mgs_model.specs.declared.session.Mode.TheVariants.{Searching}
use Rattle.mgs_model.specs.declared.session.Seeking.TheVariants.{SearchOn}
use Rattle.mgs_model.specs.declared.sequence.Sequence.{Sequence}
use Rattle.mgs_model.specs.declared.sequence.Sequence.TheVariants.{Whole, Begun, Broken}
use Rattle.mgs_buffers.specs.MarkedBuffer.{MarkedBuffer}
use Rattle.mgs_maps.specs.Held.{Held, held_character, nothing_held}
use Rattle.mgs_mini.specs.Typing.{PromptInput}
use Rattle.mgs_session.specs.declared.State.{State}
use Rattle.mgs_session.specs.declared.search.Search.{Search}
use Rattle.mgs_session.specs.declared.Session.{Session}
use Rattle.mgs_session.specs.Seeking.{search_left, searching, unsearched}
use Rattle.mgs_session.specs.Sessions.{reading, told, unbound}
use Rattle.mgs_world.specs.Worlds.{aim_mode, mode_in, state_of, search_of}
use Rattle.mgs_core.specs.declared.byte_acts.ModeBefore.{ModeBefore}
use Rattle.mgs_core.specs.declared.byte_acts.ModeBefore.TheVariants as befores
use Rattle.mgs_core.specs.declared.byte_acts.ByteAct.TheVariants as byte_acts
use Rattle.mgs_core.specs.declared.key_byte.ByteStep.{ByteStep}
use Rattle.mgs_core.specs.declared.typed_byte.SearchPlace.{SearchPlace}
use Rattle.mgs_core.specs.declared.key_byte.ByteStep.TheVariants.{Kept, Acts}
use Rattle.mgs_core.specs.Prompted.{state_turn}
use Rattle.mgs_core.specs.ByteSteps.{IsAlone, IsByteStep, IsLeft, SearchStays, SeesNames, is_keyed, search_for}
use Rattle.mgs_session.specs.declared.search.Aim.{Aim}
use Rattle.mgs_session.specs.declared.search.Aim.TheVariants.{Find, Replace}
use Rattle.mgs_core.proofs.Stepped.{acts_same, step_without_act, kept_none, kept_same, none_stays}

-- WHAT A BYTE LEAVES OF WHAT IS LOOKED FOR, where it goes on with nothing

-- no other byte ends a search, gives it up or is none of its own
abbrev pub IsOver : SearchStep → Type 0
IsOver step.Ends = ⊤
IsOver step.Quits = ⊤
IsOver step.Leaves = ⊤
IsOver _ = ⊥

abbrev IsSame : Sought → Sought × SearchStep → Type 0
IsSame s p = IsOver p.1 → p.0 ≡ s

directed_on : (last : List ℕ) (d : Direction) (s : Sought) → IsSame s (directed last d s)
directed_on last d s = by (nat_lt 0 (length s.pattern)) (nat_lt 0 (length last))
  where
    by : (a b : Bool) → IsSame s (cond a (record s { direction = d }, step.PastAnchor) (cond b (record s { direction = d; pattern = last }, step.FromAnchor) (record s { direction = d }, step.Stays)))
    by true b over = absurd over
    by false true over = absurd over
    by false false over = absurd over

dropped_on : (s : Sought) → IsSame s (dropped s)
dropped_on s =
    elim (nat_lt 1 (length s.pattern)) as (λ a. IsSame s (cond a (record s { pattern = shortened s.pattern }, step.FromOrigin) (record s { pattern = []; failing = false }, step.ToOrigin))) [ true ↦ λ over. absurd over | false ↦ λ over. absurd over ]

pub sought_over : (last : List ℕ) (s q : Sought) (byte : ℕ) (k : SearchStep) → read_byte last s byte ≡ (q, k) → IsOver k → q ≡ s
sought_over last s q byte k e = subst (IsSame s) e (by (is_graphic byte) (byte == 19) (byte == 18) (byte == 127) (byte == 13) (byte == 7))
  where
    by : (a b c f g h : Bool) → IsSame s (cond a (record s { pattern = lengthened s.pattern byte }, step.FromAnchor) (cond b (directed last Forward s) (cond c (directed last Backward s) (cond f (dropped s) (cond g (s, step.Ends) (cond h (s, step.Quits) (s, step.Leaves)))))))
    by true b c f g h over = absurd over
    by false true c f g h over = directed_on last Forward s over
    by false false true f g h over = directed_on last Backward s over
    by false false false true g h over = dropped_on s over
    by false false false false true h over = refl
    by false false false false false true over = refl
    by false false false false false false over = refl

-- a search that was taken out is put back
pub searched_step : (d : Directory) (ks : List MarkedBuffer) (y taken new : Session) (s : Search) (byte : ℕ) (b : ModeBefore) (k : ByteStep) → y.state.search ≡ Some s → taken ≡ unsearched y → IsByteStep d ks (searching s taken) new byte b k → IsByteStep d ks y new byte b k
searched_step d ks y taken new s byte b k is took t =
    subst (λ (z : Session). IsByteStep d ks z new byte b k)
    (ap (searching s) took ∙ sym (ap (λ (o : Option Search). record y { state = record y.state { search = o } }) is)) t

-- WHAT COMES NEXT

-- in a session that is searching
module _ (y : Session) (place : SearchPlace) (f : Sought) (byte : ℕ) where
  abbrev it : State
  it = (searching (search_for place (Find f)) (unsearched y)).state

  abbrev then_state : model.State
  then_state = record (state_of it) { echo = Says Silent }

  abbrev is_past : Bool
  is_past = is_character_byte y.state.keyboard.keys byte

  by_character : (v : View) (a : Bool) → is_past ≡ a → state_turn v it byte ≡ cond a (pattern_turn then_state f byte (character_read then_state.keys byte)) (sought_byte then_state f byte)
  by_character v a is = ap (λ (b : Bool). cond b (pattern_turn then_state f byte (character_read then_state.keys byte)) (sought_byte then_state f byte)) is

  -- a byte of ASCII
  comes : (v : View) (g : Sought) (k : SearchStep) → is_past ≡ false → read_byte y.state.pattern f byte ≡ (g, k) → state_turn v it byte ≡ sought_turn then_state byte g k
  comes v g k ascii read = by_character v false ascii ∙ ap (λ (p : Sought × SearchStep). sought_turn then_state byte p.0 p.1) read

  -- a byte of a character
  comes_past : (v : View) (q : Sequence) → is_past ≡ true → character_read y.state.keyboard.keys byte ≡ q → state_turn v it byte ≡ pattern_turn then_state f byte q
  comes_past v q is read = by_character v true is ∙ ap (pattern_turn then_state f byte) read

-- the session that was searching
module _ (d : Directory) (ks : List MarkedBuffer) (y new : Session) (place : SearchPlace) (f g : Sought) (byte : ℕ) (b : ModeBefore) (alone : IsAlone y.state.player) where
  abbrev pub s : Search
  s = search_for place (Find f)

  abbrev pub r : Search
  r = search_for place (Find g)

  abbrev z : Session
  z = unsearched y

  abbrev x : Session
  x = searching s z

  abbrev state : model.State
  state = record (state_of x.state) { echo = Says Silent }

  -- it is over
  pub search_ends : is_character_byte y.state.keyboard.keys byte ≡ false → read_byte y.state.pattern f byte ≡ (g, step.Ends) → new ≡ search_left g.pattern (unsearched y) → IsByteStep d ks (searching s (unsearched y)) new byte b Kept
  search_ends ascii read is =
      let same : g ≡ f = sought_over z.state.pattern f g byte step.Ends read tt in
      let it : Session = search_left f.pattern z in
      kept_same (SeesNames d ks x.user) (λ v. state_turn v x.state byte) x new it (is ∙ ap (λ (p : Sought). search_left p.pattern z) same) refl (none_stays x.state it.state refl) alone
      (λ v sees. comes y place f byte v g step.Ends ascii read ∙ ap (λ (q : Sought). sought_turn state byte q step.Ends) same) refl

  -- or is given up
  pub search_quits : is_character_byte y.state.keyboard.keys byte ≡ false → read_byte y.state.pattern f byte ≡ (g, step.Quits) → new ≡ searching r (told (Says Silent) (unsearched y)) → IsByteStep d ks (searching s (unsearched y)) new byte b (Acts byte_acts.QuitSearch)
  search_quits ascii read is =
      let same : g ≡ f = sought_over z.state.pattern f g byte step.Quits read tt in
      acts_same (SeesNames d ks x.user) (λ v. state_turn v x.state byte) x new (searching s (told (Says Silent) z)) (is ∙ ap (λ (h : Sought). searching (search_for place (Find h)) (told (Says Silent) z)) same) refl (λ bs. refl) b byte_acts.QuitSearch alone tt tt
      (λ v sees. comes y place f byte v g step.Quits ascii read) refl (λ wants. cc) (λ wants. cc) (λ h. cc)

  -- or does a step, with this half read
  abbrev state_read : Held → model.State
  state_read h = record (state_of (reading h x).state) { echo = Says Silent }

  steps_on : (h : Held) (k : SearchStep) → ((v : View) → state_turn v x.state byte ≡ Do (record (state_read h) { mode = Searching g.direction g.failing; input = g.pattern }) (Run (Seek (SearchOn g.direction k)) None g.pattern)) → new ≡ searching r (told (Says Silent) (reading h (unsearched y)))
      → IsByteStep d ks (searching s (unsearched y)) new byte b (Acts (byte_acts.Seek k))
  steps_on h k turn is =
      acts_same (SeesNames d ks x.user) (λ v. state_turn v x.state byte) x new (searching r (told (Says Silent) (reading h z))) is refl (λ bs. refl) b (byte_acts.Seek k) alone refl tt (λ v sees. turn v) refl (λ wants. cc) (λ wants. cc) (λ h. cc)

  sought_on : (k : SearchStep) → (k ≡ step.Ends → ⊥) → (k ≡ step.Quits → ⊥) → (k ≡ step.Leaves → ⊥) → sought_turn state byte g k ≡ Do (record state { mode = Searching g.direction g.failing; input = g.pattern }) (Run (Seek (SearchOn g.direction k)) None g.pattern)
  sought_on step.Ends ends quits leaves = absurd (ends refl)
  sought_on step.Quits ends quits leaves = absurd (quits refl)
  sought_on step.Leaves ends quits leaves = absurd (leaves refl)
  sought_on _ ends quits leaves = refl

  -- as a byte of ASCII asks
  pub search_on : (k : SearchStep) → is_character_byte y.state.keyboard.keys byte ≡ false → (k ≡ step.Ends → ⊥) → (k ≡ step.Quits → ⊥) → (k ≡ step.Leaves → ⊥) → read_byte y.state.pattern f byte ≡ (g, k) → new ≡ searching r (told (Says Silent) (unsearched y)) → IsByteStep d ks (searching s (unsearched y)) new byte b (Acts (byte_acts.Seek k))
  search_on k ascii ends quits leaves read is = steps_on y.state.keyboard k (λ v. comes y place f byte v g k ascii read ∙ sought_on k ends quits leaves) is

  -- or a character with its last byte
  pub search_puts : (c : ℕ) (k : SearchStep) → is_character_byte y.state.keyboard.keys byte ≡ true → character_read y.state.keyboard.keys byte ≡ Whole c → k ≡ step.FromAnchor → g ≡ record f { pattern = lengthened f.pattern c } → new ≡ searching r (told (Says Silent) (reading nothing_held (unsearched y)))
      → IsByteStep d ks (searching s (unsearched y)) new byte b (Acts (byte_acts.Seek k))
  search_puts c k is read seeks put held =
      rw seeks (steps_on nothing_held step.FromAnchor (λ v. comes_past y place f byte v (Whole c) is read ∙ sym (ap (λ (q : Sought). sought_turn (used state) byte q step.FromAnchor) put)) held)

  -- more of its bytes are to come
  pub search_reads : is_character_byte y.state.keyboard.keys byte ≡ true → character_read y.state.keyboard.keys byte ≡ Begun → new ≡ searching s (told (Says Silent) (reading (held_character y.state.keyboard byte Begun) (unsearched y))) → IsByteStep d ks (searching s (unsearched y)) new byte b Kept
  search_reads is read held =
      kept_same (SeesNames d ks x.user) (λ v. state_turn v x.state byte) x new (searching s (told (Says Silent) (reading (held_character y.state.keyboard byte Begun) z))) held refl (λ bs. refl) alone (λ v sees. comes_past y place f byte v Begun is read) refl

  -- or there is none, which is told
  pub search_breaks : is_character_byte y.state.keyboard.keys byte ≡ true → character_read y.state.keyboard.keys byte ≡ Broken → new ≡ unbound (searching s (reading nothing_held (unsearched y))) → IsByteStep d ks (searching s (unsearched y)) new byte b Kept
  search_breaks is read held =
      kept_none (SeesNames d ks x.user) (λ v. state_turn v x.state byte) x new (unbound (searching s (reading nothing_held z))) held refl (λ bs. refl) (λ v sees. comes_past y place f byte v Broken is read) refl

-- what the session has read of it
pub character_held : (y k : Session) (h : Held) (q e : Sequence) (byte : ℕ) → k ≡ reading h y → h ≡ held_character y.state.keyboard byte q → q ≡ e → k ≡ reading (held_character y.state.keyboard byte e) y
character_held y k h q e byte is held read = is ∙ ap (λ (g : Held). reading g y) (held ∙ ap (held_character y.state.keyboard byte) read)

-- A BYTE THAT IS NONE OF ITS OWN: the search is left, and the byte is a key

-- a step of a session that does not search leaves none
stays_none : (old new : State) → old.search ≡ None → SearchStays old new → new.search ≡ None
stays_none old new none stays =
    by new.search new.prompt (stays [] ∙ ap (λ (o : Option Search). cond (is_search_mode (state_of new).mode) (search_of [] o) None) none)
  where
    by : (o : Option Search) (p : Option PromptInput) → search_of [] o ≡ cond (is_search_mode (mode_in o p)) None None → o ≡ None
    by None p e = refl
    by (Some g) p e = (elim g.aim as (λ a. search_of [] (Some g) ≡ cond (is_search_mode (aim_mode a)) None None → Path (Option Search) (Some g) None) [ Find f ↦ λ h. cc | Replace r ↦ λ h. cc ]) e

module _ (d : Directory) (ks : List MarkedBuffer) (y new : Session) (place : SearchPlace) (f : Sought) (last : List ℕ) (byte : ℕ) (same : last ≡ y.state.pattern) (ascii : is_character_byte y.state.keyboard.keys byte ≡ false) (read : read_byte y.state.pattern f byte ≡ (f, step.Leaves)) where
  abbrev pub was : Search
  was = search_for place (Find f)

  abbrev w : Session
  w = searching was (unsearched y)

  abbrev left_one : Session
  left_one = search_left f.pattern (unsearched y)

  key_comes : (v : View) → state_turn v w.state byte ≡ state_turn v left_one.state byte
  key_comes v = comes y place f byte v f step.Leaves ascii read

  left_stays : SearchStays left_one.state new.state → SearchStays w.state new.state
  left_stays stays = none_stays w.state new.state (stays_none left_one.state new.state refl stays)

  key_left : (k : ByteStep) → is_keyed k ≡ true → IsByteStep d ks left_one new byte befores.Plain k → IsByteStep d ks w new byte (befores.Search was last) k
  key_left (Acts (byte_acts.Act a)) keyed t = record {
    state = t.state;
    stays = left_stays t.stays;
    ready = t.ready;
    here = t.here;
    turn = λ v sees. key_comes v ∙ t.turn v sees;
    playing = t.playing;
    typed = t.typed;
    left = t.left;
    again = λ wants.
        ap (λ (o : model.State). record o { mode = Searching f.direction f.failing; input = f.pattern; old = []; count = 0; pattern = last; keys = [] }) (t.again wants)
        ∙ ap (λ (p : List ℕ). record (refused_state (state_of w.state)) { pattern = p }) same;
    search = λ wants. refl;
    fit = t.fit;
    further = t.further;
    begins = λ h. cc;
  }
  key_left (Acts _) keyed t = cc
  key_left k keyed t =
      step_without_act (SeesNames d ks y.user) (λ v. state_turn v left_one.state byte) (λ v. state_turn v w.state byte) y.state.player.playing y.state.player.playing (IsLeft y.state.player) (IsLeft y.state.player) left_one.state w new befores.Plain (befores.Search was last)
      key_comes refl (λ todo left. left) left_stays k (λ byte_act e. cc) t

pub search_leaves : (d : Directory) (ks : List MarkedBuffer) (y left new : Session) (place : SearchPlace) (f : Sought) (last : List ℕ) (byte : ℕ) (k : ByteStep) → last ≡ y.state.pattern → is_character_byte y.state.keyboard.keys byte ≡ false → read_byte y.state.pattern f byte ≡ (f, step.Leaves) → left ≡ search_left f.pattern (unsearched y) → is_keyed k ≡ true → IsByteStep d ks left new byte befores.Plain k → IsByteStep d ks (searching (search_for place (Find f)) (unsearched y)) new byte (befores.Search (search_for place (Find f)) last) k
search_leaves d ks y left new place f last byte k same ascii read is keyed t = key_left d ks y new place f last byte same ascii read k keyed (subst (λ (g : Session). IsByteStep d ks g new byte befores.Plain k) is t)

-- what was read with the search string, as the session has it
pub read_at : (pattern last : List ℕ) (s r : Sought) (byte : ℕ) (k e : SearchStep) → last ≡ pattern → read_byte last s byte ≡ (r, k) → k ≡ e → read_byte pattern s byte ≡ (r, e)
read_at pattern last s r byte k e same read is = sym (ap (λ (l : List ℕ). read_byte l s byte) same) ∙ read ∙ ap (λ (f : SearchStep). (r, f)) is

-- a byte that is none of a search's own is none of it afterwards
pub read_again : (pattern : List ℕ) (s r : Sought) (byte : ℕ) → read_byte pattern s byte ≡ (r, step.Leaves) → read_byte pattern r byte ≡ (r, step.Leaves)
read_again pattern s r byte read = ap (λ (q : Sought). read_byte pattern q byte) (sought_over pattern s r byte step.Leaves read tt) ∙ read

-- such a byte leaves the search as it was
pub foreign_step : (d : Directory) (ks : List MarkedBuffer) (y new : Session) (place : SearchPlace) (f g : Sought) (byte : ℕ) (b : ModeBefore) (k : ByteStep) → read_byte y.state.pattern f byte ≡ (g, step.Leaves) → IsByteStep d ks (searching (search_for place (Find g)) y) new byte b k → IsByteStep d ks (searching (search_for place (Find f)) y) new byte b k
foreign_step d ks y new place f g byte b k read t =
    subst (λ (h : Sought). IsByteStep d ks (searching (search_for place (Find h)) y) new byte b k) (sought_over y.state.pattern f g byte step.Leaves read tt) t

-- a search by its parts
pub aimed : (d : Directory) (ks : List MarkedBuffer) (y new : Session) (s : Search) (a : Aim) (byte : ℕ) (b : ModeBefore) (k : ByteStep) → s.aim ≡ a → IsByteStep d ks (searching (record s { aim = a }) y) new byte b k → IsByteStep d ks (searching s y) new byte b k
aimed d ks y new s a byte b k is t = subst (λ (c : Aim). IsByteStep d ks (searching (record s { aim = c }) y) new byte b k) (sym is) t
