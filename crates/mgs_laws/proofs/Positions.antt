-- Worked positions: where those of others go by an edit, and what a window leaves behind.
use Rattle.std.proofs.Common.{◌≡◌, ℕ, false, List, [], ◌∷◌, map, Some, None, refl}
use Rattle.std.specs.Prelude.{codes}
use Rattle.mgs_model.specs.World.{World, Session, Window, Place, Buffer_of, first_state}
use Rattle.mgs_model.specs.Outcome.{Run}
use Rattle.mgs_model.specs.Acts.{outcome}
use Rattle.mgs_model.specs.Apply.{act}
use Rattle.mgs_model.specs.declared.entry.EntryType.TheVariants.{Allow}
use Rattle.mgs_model.specs.declared.entry.Who.TheVariants.{Everyone}
use Rattle.mgs_model.specs.declared.session.Insertion.TheVariants.{SelfInsert}
use Rattle.mgs_model.specs.declared.session.Arrangement.TheVariants.{ListBuffers}
use Rattle.mgs_model.specs.declared.session.Command.TheVariants.{Insert, Rearrange}

abbrev window_at : ℕ → Window
window_at point = record { shows = Buffer_of (codes "notes"); point = point; mark = Some 2; top = 0; row = 0; height = 4 }

abbrev session : ℕ → List Window → Session
session id windows = record { id = id; user = codes "ann"; rows = 6; cols = 20; windows = windows; selected = 0; places = []; search = None; kill = []; state = first_state }

abbrev world_of : List Session → World
world_of sessions =
    record {
      directory = record { users = codes "ann" ∷ []; groups = [] };
      buffers = record { name = codes "notes"; owners = record { owner = codes "ann"; group = None }; entries = record { entry_type = Allow; who = Everyone; mask = 135 } ∷ []; text = codes "abc"; items = []; serial = 0; modified = false; file = false } ∷ [];
      sessions = sessions;
      next_id = 5;
    }

abbrev points : World → List (List ℕ)
points w = map (λ (x : Session). map (λ (y : Window). y.point) x.windows) w.sessions

-- an insertion at 1 by the first: a point of others before it or exactly there stays, one behind it goes on
inserted_at : points (act (world_of (session 1 (window_at 1 ∷ []) ∷ session 2 (window_at 0 ∷ []) ∷ session 3 (window_at 1 ∷ []) ∷ session 4 (window_at 2 ∷ []) ∷ [])) 1 (Run (Insert (SelfInsert 120)) None []) false)
    ≡ (2 ∷ []) ∷ (0 ∷ []) ∷ (1 ∷ []) ∷ (3 ∷ []) ∷ []
unfolding outcome
inserted_at = refl

abbrev places : World → List (List Place)
places w = map (λ (x : Session). x.places) w.sessions

-- a window that comes to the list of buffers leaves its point and mark as the session's place
left_behind : places (act (world_of (session 1 (window_at 3 ∷ []) ∷ [])) 1 (Run (Rearrange ListBuffers) None []) false) ≡ (record { name = codes "notes"; point = 3; mark = Some 2 } ∷ []) ∷ []
unfolding outcome
left_behind = refl
