-- A reference to the row reaches each character.
use denote.Struct.Field.{RawPtr-field}
use denote.Struct.Laws.{RawPtr-copy}
use denote.Param.Shared.{copy_shared}
use denote.Struct.Lending.{of_Lends}
use Rattle.mgs_gap.specs.contracts.cells.Cells as C
use Rattle.mgs_gap.proofs.cells.Cells.TheLaw.Statement.{statement}
use Rattle.mgs_gap.proofs.Sharing.{cells_lent_laws, Lends-cells}

pub shares : statement
shares = of_Lends C.struct C.the_codes C.the_heap C.the_lent (λ d p. cells_lent_laws d.at d.slots) (copy_shared RawPtr-field RawPtr-copy, tt) (λ M 𝓤 𝓛 d p. Lends-cells 𝓛 C.the_row.lives (λ k m. m) d.at d.slots)
