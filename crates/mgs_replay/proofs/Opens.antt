-- An open that was made, and its label.
use Rattle.std.proofs.Common.{◌≡◌, ℕ, false, List, [], ◌∷◌, ◌++◌, Result, Ok}
use Rattle.std.specs.Prelude.{is_some}
use Rattle.mgs_model.specs.declared.errors.OpenFault.{OpenFault}
use Rattle.mgs_wire.specs.Calls as wire
use Rattle.mgs_engine.specs.Does.{Does}
use Rattle.mgs_engine.specs.Serving.{Serving}
use Rattle.mgs_engine.proofs.Prompt.{admits_opens}
use Rattle.mgs_replay.specs.declared.client.Labelled.{Labelled}
use Rattle.mgs_replay.specs.Players.{standing_of}
use Rattle.mgs_replay.specs.Served.{SizeAdded, client_opened, labels_in, IsReady, IsWaiting}
use Rattle.mgs_replay.proofs.Events.{waiting_opened}
use Rattle.mgs_replay.proofs.Opening.{fresh, sized}

pub record MakesOpen (old new : Serving) (user : List ℕ) (rows cols : ℕ) (answer : Result ℕ OpenFault) : Type 0 where
  pub does : Does old (wire.Open user rows cols answer) new
  pub sizes : SizeAdded rows cols answer old.world new.world

-- the label of a session that opened waits for its first bytes
pub opens_waiting : (old new : Serving) (xs : List Labelled) (name user : List ℕ) (id rows cols : ℕ) → is_some (standing_of name (labels_in xs)) ≡ false → IsReady old xs → MakesOpen old new user rows cols (Ok id)
    → IsWaiting new (xs ++ client_opened name id rows cols ∷ [])
opens_waiting old new xs name user id rows cols free ready made =
    let can = made.does.0.ok.1 in
    waiting_opened old new xs name user id rows cols made.does.2.0 free ready (sized old.world id user rows cols can) (admits_opens old new user rows cols (Ok id) made.does.0 ready.told) made.sizes
    (fresh old.world id user rows cols can) made.does.1 made.does.2.1 made.does.2.2
