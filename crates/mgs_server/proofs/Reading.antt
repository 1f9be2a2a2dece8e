-- What is read where that is reported.
use Rattle.std.proofs.Common.{◌≡◌, ℕ, Bool, false, List, Option, Some, None, refl, sym, subst}
use Rattle.mgs_wire.specs.declared.pump.PumpedIn.{PumpedIn}
use Rattle.mgs_wire.specs.declared.pump.PumpedIn.TheVariants.{Took, Idle, Finished, Failed}
use Rattle.mgs_wire.specs.Calls.{Call}
use Rattle.mgs_wire.specs.Connections.{Connection}
use Rattle.mgs_wire.specs.Pumps.{PumpsIn, Finishes}
use Rattle.mgs_server.specs.Peers.{ServerState, IsChanged, GoesOn, ReadsConn, ReadsSlot, is_taking}

module _ {E : Type 0} (does : E → Call → E → Type 0) (live : ℕ → E → Bool) (tickets : List (List ℕ × List ℕ)) where
  -- one of which nothing was read goes on
  pub goes_on : (answer : PumpedIn) (conn : Connection) (s : E) → is_taking answer ≡ false → GoesOn does live tickets answer conn s conn s
  goes_on (Took n) conn s e = absurd cc
  goes_on Idle conn s e = (refl, refl)
  goes_on Finished conn s e = (refl, refl)
  goes_on Failed conn s e = (refl, refl)

  pub read_ended : (answer : PumpedIn) (left rest : Option (List ℕ)) (conn next : Connection) (old new : E) → PumpsIn does live tickets answer left rest conn old next new → Finishes live answer conn old next new → is_taking answer ≡ false → ReadsConn does live tickets conn old next new
  read_ended answer left rest conn next old new p f e = record { answer = answer; left = left; rest = rest; mid = next; between = new; read = p; finished = f; goes_on = goes_on answer next new e }

  pub read_on : (answer : PumpedIn) (left rest : Option (List ℕ)) (conn mid next : Connection) (old between new : E) → PumpsIn does live tickets answer left rest conn old mid between → Finishes live answer conn old mid between → GoesOn does live tickets answer mid between next new → ReadsConn does live tickets conn old next new
  read_on answer left rest conn mid next old between new p f g = record { answer = answer; left = left; rest = rest; mid = mid; between = between; read = p; finished = f; goes_on = g }

  -- what was found is read
  pub read_at : (slot : Option Connection) (conn next : Connection) (key : ℕ) (old new : ServerState E) → slot ≡ Some conn → ReadsConn does live tickets conn old.served next new.served → IsChanged key (Some next) old.peers new.peers → ReadsSlot does live tickets slot key old new
  read_at None conn next key old new e r c = absurd cc
  read_at (Some x) conn next key old new e r c =
      let same : x ≡ conn = cc in
      (next, subst (λ (y : Connection). ReadsConn does live tickets y old.served next new.served) (sym same) r, c)
