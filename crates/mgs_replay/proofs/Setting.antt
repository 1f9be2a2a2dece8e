-- The lines before the first open, and the engine of what they set.
use Rattle.std.proofs.Common.{◌≡◌, ℕ, Bool, true, false, List, [], ◌∷◌, map, Option, Some, None, Result, Ok, Err, refl, sym, ap, ◌∙◌}
use Rattle.std.specs.Prelude.{IfOk, IfSome, not}
use Rattle.mgs_model.specs.World.{World, Session}
use Rattle.mgs_world.specs.declared.size.Size.{Size}
use Rattle.mgs_world.specs.Worlds.{session_size, sizes}
use Rattle.mgs_engine.specs.Serving.{Serving, queue_ids}
use Rattle.mgs_engine.specs.Queues.{Queue, queue_id}
use Rattle.mgs_script.specs.declared.line.LineFault.{LineFault}
use Rattle.mgs_script.specs.declared.line.LineFault.TheVariants.{Bad, Short}
use Rattle.mgs_script.specs.Lines.{Said, needs_memory, label_typed}
use Rattle.mgs_script.specs.Lines as said
use Rattle.mgs_replay.specs.Setups.{Sets}
use Rattle.mgs_replay.specs.Players.{Label, setting, playing, standing_of, had_session}
use Rattle.mgs_replay.specs.Replayed.{did}
use Rattle.mgs_replay.specs.Turns.{LineDoes, MayBeShort, IsDue}

-- a line that was set does what it says
pub set_does : (w v : World) (l : Said) → Sets (Ok tt) l w v → LineDoes (Some l) (setting w) (setting v) []
set_does w v said.Nothing h = (refl, ([], ap (λ (p : World). did (setting p) []) h.1))
set_does w v (said.User name) h = (h.0, ([], ap (λ (p : World). did (setting p) []) h.1))
set_does w v (said.Group name members) h = (h.0, ([], ap (λ (p : World). did (setting p) []) h.1))
set_does w v (said.Buffer name owner) h = (h.0, ([], ap (λ (p : World). did (setting p) []) h.1))
set_does w v (said.OwnGroup buffer group) h = (h.0, ([], ap (λ (p : World). did (setting p) []) h.1))
set_does w v (said.Entry buffer entry) h = (h.0, ([], ap (λ (p : World). did (setting p) []) h.1))
set_does w v (said.Text buffer cs) h = (h.0, ([], ap (λ (p : World). did (setting p) []) h.1))
set_does w v (said.Open name user rows cols) h = let e : true ≡ false = h.0 in absurd cc
set_does w v (said.Keys name keys) h = let e : true ≡ false = h.0 in absurd cc
set_does w v (said.Show name) h = let e : true ≡ false = h.0 in absurd cc
set_does w v (said.Close name) h = let e : true ≡ false = h.0 in absurd cc

-- a line for which memory was refused was not refused
pub set_short : (w v : World) (l : Said) → Sets (Err Short) l w v → MayBeShort (Some l) (setting w)
set_short w v said.Nothing h = refl
set_short w v (said.User name) h = ap not h.0
set_short w v (said.Group name members) h = refl
set_short w v (said.Buffer name owner) h = ap not h.0
set_short w v (said.OwnGroup buffer group) h = ap not h.0
set_short w v (said.Entry buffer entry) h = ap not h.0
set_short w v (said.Text buffer cs) h = refl
set_short w v (said.Open name user rows cols) h = let e : true ≡ false = h.0 in absurd cc
set_short w v (said.Keys name keys) h = let e : true ≡ false = h.0 in absurd cc
set_short w v (said.Show name) h = let e : true ≡ false = h.0 in absurd cc
set_short w v (said.Close name) h = let e : true ≡ false = h.0 in absurd cc

-- LINES THAT MEMORY WAS REFUSED TO READ

-- before the first open keys are refused
pub unread_keys : (o : Option Said) (label : List ℕ) (w : World) → needs_memory o ≡ true → IfSome o (λ (x : Said). Some label ≡ label_typed x) → IsDue Bad o (setting w)
unread_keys None label w h is = absurd cc
unread_keys (Some said.Nothing) label w h is = absurd cc
unread_keys (Some (said.User name)) label w h is = absurd cc
unread_keys (Some (said.Group name members)) label w h is = absurd cc
unread_keys (Some (said.Buffer name owner)) label w h is = absurd cc
unread_keys (Some (said.OwnGroup buffer group)) label w h is = absurd cc
unread_keys (Some (said.Entry buffer entry)) label w h is = absurd cc
unread_keys (Some (said.Text buffer cs)) label w h is = absurd cc
unread_keys (Some (said.Open name user rows cols)) label w h is = absurd cc
unread_keys (Some (said.Keys name keys)) label w h is = refl
unread_keys (Some (said.Show name)) label w h is = absurd cc
unread_keys (Some (said.Close name)) label w h is = absurd cc

-- before the first open a group and a text may be out of memory, and from then on they are refused
pub unread_setting : (o : Option Said) (w : World) → needs_memory o ≡ true → IfSome o (λ (x : Said). None ≡ label_typed x) → IsDue Short o (setting w)
unread_setting None w h is = absurd cc
unread_setting (Some said.Nothing) w h is = absurd cc
unread_setting (Some (said.User name)) w h is = absurd cc
unread_setting (Some (said.Group name members)) w h is = refl
unread_setting (Some (said.Buffer name owner)) w h is = absurd cc
unread_setting (Some (said.OwnGroup buffer group)) w h is = absurd cc
unread_setting (Some (said.Entry buffer entry)) w h is = absurd cc
unread_setting (Some (said.Text buffer cs)) w h is = refl
unread_setting (Some (said.Open name user rows cols)) w h is = absurd cc
unread_setting (Some (said.Keys name keys)) w h is = absurd cc
unread_setting (Some (said.Show name)) w h is = absurd cc
unread_setting (Some (said.Close name)) w h is = absurd cc

pub unread_late : (o : Option Said) (w : World) (ls : List Label) → needs_memory o ≡ true → IfSome o (λ (x : Said). None ≡ label_typed x) → IsDue Bad o (playing w ls)
unread_late None w ls h is = absurd cc
unread_late (Some said.Nothing) w ls h is = absurd cc
unread_late (Some (said.User name)) w ls h is = absurd cc
unread_late (Some (said.Group name members)) w ls h is = refl
unread_late (Some (said.Buffer name owner)) w ls h is = absurd cc
unread_late (Some (said.OwnGroup buffer group)) w ls h is = absurd cc
unread_late (Some (said.Entry buffer entry)) w ls h is = absurd cc
unread_late (Some (said.Text buffer cs)) w ls h is = refl
unread_late (Some (said.Open name user rows cols)) w ls h is = absurd cc
unread_late (Some (said.Keys name keys)) w ls h is = absurd cc
unread_late (Some (said.Show name)) w ls h is = absurd cc
unread_late (Some (said.Close name)) w ls h is = absurd cc

-- from the first open on keys of a label that had a session may be out of memory, and those of another are refused
fault_typed : Bool → LineFault
fault_typed true = Short
fault_typed false = Bad

typed_due : (b : Bool) (o : Option Said) (label : List ℕ) (w : World) (ls : List Label) → b ≡ had_session (standing_of label ls) → needs_memory o ≡ true → IfSome o (λ (x : Said). Some label ≡ label_typed x) → IsDue (fault_typed b) o (playing w ls)
unfolding fault_typed
typed_due b None label w ls had h is = absurd cc
typed_due b (Some said.Nothing) label w ls had h is = absurd cc
typed_due b (Some (said.User name)) label w ls had h is = absurd cc
typed_due b (Some (said.Group name members)) label w ls had h is = absurd cc
typed_due b (Some (said.Buffer name owner)) label w ls had h is = absurd cc
typed_due b (Some (said.OwnGroup buffer group)) label w ls had h is = absurd cc
typed_due b (Some (said.Entry buffer entry)) label w ls had h is = absurd cc
typed_due b (Some (said.Text buffer cs)) label w ls had h is = absurd cc
typed_due b (Some (said.Open name user rows cols)) label w ls had h is = absurd cc
typed_due true (Some (said.Keys name keys)) label w ls had h is =
    let same : label ≡ name = cc in
    ap (λ x. not (not x)) (ap (λ (n : List ℕ). had_session (standing_of n ls)) (sym same) ∙ sym had)
typed_due false (Some (said.Keys name keys)) label w ls had h is =
    let same : label ≡ name = cc in
    ap not (ap (λ (n : List ℕ). had_session (standing_of n ls)) (sym same) ∙ sym had)
typed_due b (Some (said.Show name)) label w ls had h is = absurd cc
typed_due b (Some (said.Close name)) label w ls had h is = absurd cc

pub unread_typed : (o : Option Said) (label : List ℕ) (w : World) (ls : List Label) → true ≡ had_session (standing_of label ls) → needs_memory o ≡ true → IfSome o (λ (x : Said). Some label ≡ label_typed x) → IsDue Short o (playing w ls)
unfolding fault_typed
unread_typed o label w ls had h is = typed_due true o label w ls had h is

pub unread_unknown : (o : Option Said) (label : List ℕ) (w : World) (ls : List Label) → false ≡ had_session (standing_of label ls) → needs_memory o ≡ true → IfSome o (λ (x : Said). Some label ≡ label_typed x) → IsDue Bad o (playing w ls)
unfolding fault_typed
unread_unknown o label w ls had h is = typed_due false o label w ls had h is

-- THE ENGINE OF WHAT WAS SET

empty : (qs : List Queue) → map queue_id qs ≡ [] → qs ≡ []
empty [] h = refl
empty (q ∷ qs) h = absurd cc

-- no session is open, so nothing waits
pub no_queues : {F : Type 0} (r : Result Serving F) (core : World) → IfOk r (λ e. queue_ids e ≡ map (λ (z : Size). z.id) (sizes core)) → core.sessions ≡ [] → IfOk r (λ e. e.queues ≡ [])
no_queues (Ok e) core h none = empty e.queues (h ∙ ap (λ (xs : List Session). map (λ (z : Size). z.id) (map session_size xs)) none)
no_queues (Err f) core h none = tt
