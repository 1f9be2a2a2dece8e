-- Where an act of a search fails before anything is planned.
use Rattle.std.proofs.Common.{◌≡◌, ℕ, Bool, true, false, List, Option, Some, None, refl, ap, ◌∙◌}
use Rattle.std.specs.Prelude.{Result, Err}
use Rattle.mgs_model.specs.Access.{Directory}
use Rattle.mgs_model.specs.Acts.{fails, is_sought_in, permitted, sought_by}
use Rattle.mgs_model.specs.Outcome.{Outcome}
use Rattle.mgs_model.specs.SearchCommands.{AroundSearch, SearchFinish, replace, seek}
use Rattle.mgs_model.specs.View.{search_seen}
use Rattle.mgs_model.specs.World.{State}
use Rattle.mgs_model.specs.declared.echo_text.Message.{Message}
use Rattle.mgs_model.specs.declared.echo_text.Message.TheVariants.{Says}
use Rattle.mgs_model.specs.declared.echo_text.Notice.TheVariants.{NoBuffer}
use Rattle.mgs_model.specs.declared.session.Seeking.{Seeking}
use Rattle.mgs_buffers.specs.MarkedBuffer.{HasBuffer, MarkedBuffer}
use Rattle.mgs_windows.specs.declared.WindowMarks.{WindowMarks}
use Rattle.mgs_session.specs.Seeking.{is_search_in}
use Rattle.mgs_session.specs.Sessions.{window_marks_of}
use Rattle.mgs_session.specs.declared.Session.{Session}
use Rattle.mgs_session.specs.declared.search.Search.{Search}
use Rattle.mgs_plan.specs.Actions.{replaced_outcome}
use Rattle.mgs_plan.specs.Inserting.{rights_decision}
use Rattle.mgs_world.specs.Worlds.{buffers_of, state_of, search_of, session_of}
use Rattle.mgs_world.proofs.Soundness.{mark_is_kept}
use Rattle.mgs_seek.specs.Acting.{Fails, IsTarget, SearchFails, text_mask}
use Rattle.mgs_seek.specs.Replacing.{replacement}
use Rattle.mgs_seek.proofs.Comes.{come_denied, come_elsewhere, come_off, comes_of}

pub off_fails : (d : Directory) (ks : List MarkedBuffer) (h : Session) (writes : Bool) → window_marks_of h ≡ None → Fails d ks h writes (Says NoBuffer)
off_fails d ks h writes none = λ c k xs next state search n typed. come_off d ks xs next h state n typed writes c k search none

pub denied_fails : (d : Directory) (ks : List MarkedBuffer) (h : Session) (writes : Bool) (x : WindowMarks) (message : Message) → window_marks_of h ≡ Some x → HasBuffer x.name ks → ((state : State) (o : Outcome) → permitted state (rights_decision d ks h.user x.name (text_mask writes)) o ≡ fails state message) → Fails d ks h writes message
denied_fails d ks h writes x message sel kept told = λ c k xs next state search n typed. come_denied d ks xs next h state n typed writes c k x sel kept search message told

pub each_fails : (d : Directory) (ks : List MarkedBuffer) (h : Session) (writes : Bool) (message : Message) → Fails d ks h writes message → SearchFails d ks h writes message
each_fails d ks h writes message all = λ c last xs next typed none. all c (replacement last) xs next (state_of h.state) (session_of ks h).search None typed

-- nothing is replaced where the search is elsewhere
none_replaced : (last : Bool) (text : List ℕ) (a : AroundSearch) → replace (replacement last) text (record a { sought_here = false }) ≡ Err (Says NoBuffer)
none_replaced true text a = refl
none_replaced false text a = refl

none_found : (writes : Bool) (c : Seeking) (last : Bool) (state : State) (name : List ℕ) (size serial : ℕ) → ((text : List ℕ) (a : AroundSearch) → Path (Result SearchFinish Message) (seek c text (record a { sought_here = false })) (Err (Says NoBuffer)))
    → (text : List ℕ) (a : AroundSearch) → comes_of writes c (replacement last) state name size serial text (record a { sought_here = false }) ≡ fails state (Says NoBuffer)
none_found false c last state name size serial none text a = ap (sought_by state) (none text a)
none_found true c last state name size serial none text a = ap (replaced_outcome state name size serial) (none_replaced last text a)

-- the search that is seen is where the session's is
seen_there : (ks : List MarkedBuffer) (can : List ℕ → Bool) (name : List ℕ) (o : Option Search) → is_sought_in name (search_seen can (search_of (buffers_of ks) o)) ≡ is_search_in name o
seen_there ks can name None = refl
seen_there ks can name (Some s) = refl

pub away_fails : (d : Directory) (ks : List MarkedBuffer) (h : Session) (writes : Bool) (x : WindowMarks) → IsTarget d ks h writes x → is_search_in x.name h.state.search ≡ false → SearchFails d ks h writes (Says NoBuffer)
away_fails d ks h writes x t away = λ c last xs next typed none.
    come_elsewhere d ks xs next h (state_of h.state) None typed writes c (replacement last) x t.sel (mark_is_kept x.name x.point ks t.marks.point) t.granted (session_of ks h).search
    (seen_there ks _ x.name h.state.search ∙ away) (none_found writes c last (state_of h.state) x.name _ _ none)
