use Rattle.std.proofs.Common.{◌≡◌, ℕ, Option, List, to_z, of_z, w64, rules, subst, sym, ap, ◌∙◌}
use Rattle.std.specs.Prelude.{None, get_or, slice_get, string_bytes}
use Rattle.std.specs.Str.{encode_utf8_all}
use Rattle.mgs_model.specs.World.{Buffer}
use Rattle.mgs_laws.specs.Apart.{Rules, rules_in}
use Rattle.mgs_buffers.specs.MarkedBuffer.{HasBuffer, marked_at}
use Rattle.mgs_journal.specs.Acts.{Put}
use Rattle.mgs_journal.specs.Texts.{KeptText}
use Rattle.mgs_keep.specs.Keeping.{HasPut, file_sum}
use Rattle.mgs_keep.proofs.Asking.{one_put, took}
use Rattle.mgs_keep.proofs.Bodies.{has_at, snapshot_by, within_rows}
use Rattle.mgs_keep.proofs.kept_texts.keep_text.Goals as goal

pub find-found-requires : goal.find-found-requires
find-found-requires g c =
    subst (λ (r : Rules). HasBuffer r.name c.buffers-buffers.result.now) (sym c.rights-2.view_is) (has_at c.buffers-buffers.result.now c.args.i c.in-Some.rights c.in-Some.ensures)

pub set_text-requires : goal.set_text-requires
set_text-requires g c =
    within_rows c.args.engine.now (g.J.Journal.rows c.args.journal.now) c.args.i c.in-Some.rights
    (c.in-Some.ensures ∙ ap (λ (bs : List Buffer). slice_get (rules_in bs) c.args.i) c.buffers-buffers.ensures) (c.requires c.if-failed.false)

pub returns-in-Ok-set_text-clause-journal : goal.returns-in-Ok-set_text-clause-journal
returns-in-Ok-set_text-clause-journal g c =
    let inside = c.rights-2.inside in
    let fits : to_z w64 (of_z w64 c.file_sum-file.result) ≡ c.file_sum-file.result = search rules in
    let kept : KeptText = record { body = string_bytes c.in-Ok.body; modified = c.is_modified-modified.result; file = to_z w64 (of_z w64 c.file_sum-file.result) } in
    let rights : Rules = record { name = inside.name.now; owners = inside.owners.now; entries = inside.list.now } in
    took g.J.Journal.fails (HasPut g.J.Journal.texts g.J.Journal.does c.args.engine.now) c.args.failed.now c.args.journal.now c.set_text.new.self c.if-failed.false
    (one_put g.J.Journal.does g.J.Journal.texts c.args.engine.now (Put c.args.i kept) c.args.journal.now c.set_text.new.self
    (snapshot_by c.buffers-buffers.result.now c.args.engine.now.world.buffers c.args.i c.in-Some.rights rights c.find-found.result (get_or (g.J.Journal.texts c.args.journal.now) c.args.i None) kept c.buffers-buffers.ensures c.in-Some.ensures c.rights-2.view_is c.find-found.ensures
    (c.in-Ok.ensures ∙ ap encode_utf8_all c.text.ensures.text) c.is_modified-modified.ensures
    (fits ∙ c.file_sum-file.ensures ∙ ap (λ (xs : List ℕ). file_sum c.is_modified-modified.result xs c.text-3.result) c.text-4.ensures.text ∙ ap (λ (k : Option KeptText). file_sum c.is_modified-modified.result (marked_at c.find-found.result.name c.find-found.result.all).buffer.text k) c.text-3.ensures))
    c.in-Ok-set_text.ensures.done)
