use Rattle.std.proofs.Common.{drop}
use Rattle.mgs_wire.specs.Calls.{Typed}
use Rattle.mgs_wire.proofs.conn.type_all.Given as goal

-- what the bytes left may do from here, all may do from the start
abbrev pub invariant-loop-byte : goal.invariant-loop-byte
invariant-loop-byte g l =
    let s = g.E.Sessions in
    (new : _) → Typed s.does s.live l.id (drop l.byte-index l.bytes) l.engine new → Typed s.does s.live l.id l.bytes l.fn.engine new
