use Rattle.std.proofs.Common.{sym, ap, ◌∙◌}
use Rattle.std.specs.Prelude.{is_some}
use Rattle.std.proofs.lemmas.Map.Made.{lookup_key_same}
use Rattle.std.proofs.lemmas.Slice.Eq.{bytes_eq-Decides}
use Rattle.mgs_model.specs.Names.{same_name}
use Rattle.mgs_buffers.proofs.MarkedLemmas.{has_buffer-lookup, kept-found, place_kept}
use Rattle.mgs_buffers.proofs.Places.{index_place}
use Rattle.mgs_buffers.specs.MarkedBuffer.{marked_named}
use Rattle.std.specs.List.{position_or_len}
use Rattle.std.specs.Map.{keys_of}
use Rattle.mgs_buffers.proofs.Judged.{mapped_one, ruled_at, some_holds, some_mapped}
use Rattle.mgs_buffers.proofs.buffers.Buffers.placed.Goals as goal

pub unwrap-requires : goal.unwrap-requires
unwrap-requires g c =
    some_mapped _ c.get_full.result ∙ ap is_some c.get_full.ensures.value
    ∙ has_buffer-lookup g.T.Text.text g.T.Text.marks c.args.name.now c.self.inside.all.entries c.args.self.now c.self.view_is ∙ c.requires

pub returns-clause-name : goal.returns-clause-name
returns-clause-name g c =
    sym (lookup_key_same {eq = same_name} bytes_eq-Decides c.args.name.now c.self.inside.all.entries c.unwrap.result.1.now
    (sym (mapped_one _ c.get_full.result c.unwrap.result _ c.unwrap.ensures c.get_full.ensures.key)))

pub returns-clause-buffer : goal.returns-clause-buffer
returns-clause-buffer g c =
    kept-found g.T.Text.text g.T.Text.marks c.args.name.now c.self.inside.all.entries c.args.self.now c.unwrap.result.2.now c.self.view_is
    (mapped_one _ c.get_full.result c.unwrap.result _ c.unwrap.ensures c.get_full.ensures.value)

pub returns-clause-at : goal.returns-clause-at
returns-clause-at g c =
    index_place (same_name c.args.name.now) (keys_of c.self.inside.all.entries) c.unwrap.result.0
    (sym (mapped_one (λ p. p.0) c.get_full.result c.unwrap.result _ c.unwrap.ensures c.get_full.ensures.index))
    ∙ place_kept g.T.Text.text g.T.Text.marks c.args.name.now c.self.inside.all.entries ∙ ap (position_or_len (marked_named c.args.name.now)) c.self.view_is

pub returns-clause-place : goal.returns-clause-place
returns-clause-place g c =
    ruled_at g.T.Text.text g.T.Text.marks c.self.inside.all.entries c.args.self.now c.unwrap.result.0 c.unwrap.result.1.now c.unwrap.result.2.now c.self.view_is
    (some_holds _ c.get_full.result c.unwrap.result c.unwrap.ensures c.get_full.ensures.entry)
