use Rattle.std.proofs.Common.{◌≡◌, List, length, sym, ap, subst, arith}
use Rattle.std.specs.Vec.{with_items}
use Rattle.std.proofs.lemmas.List.{with_items_is}
use Rattle.mgs_acl.specs.Spelling.{entry_in}
use Rattle.mgs_model.specs.World.{World}
use Rattle.mgs_script.specs.Lines as lines
use Rattle.mgs_replay.specs.declared.setup.Draft.{Draft}
use Rattle.mgs_replay.specs.Setups.{setup_world, buffers_in, AreFit, Sets}
use Rattle.mgs_replay.proofs.Drafts.{sets_entry, sets_group}
use Rattle.mgs_replay.proofs.Fits.{entry_fits, group_fits, text_fits}
use Rattle.mgs_replay.proofs.setup.Setup.run.Goals as goal

pub invariant_of-self : goal.invariant_of-self
invariant_of-self c =
    let s = c.self.inside in
    let h = rw c.deref_mut.ensures.value at c.owngroup_line.ensures in
    let e : (with_items s.drafts c.owngroup_line.new.drafts).items ≡ c.owngroup_line.new.drafts = with_items_is s.drafts c.owngroup_line.new.drafts (omega (arith, c.owngroup_line.auto.drafts, ap length c.deref_mut.ensures.value, s.drafts.ok.0)) in
    subst (λ (ds : List Draft). AreFit (buffers_in ds)) (sym e)
    (group_fits c.owngroup_line.result c.in-OwnGroup.buffer c.in-OwnGroup.group.now s.directory (buffers_in s.drafts.items) (buffers_in c.owngroup_line.new.drafts) h c.self.invariant)

pub returns-in-OwnGroup : goal.returns-in-OwnGroup
returns-in-OwnGroup c =
    let s = c.self.inside in
    let w = setup_world s.directory (buffers_in s.drafts.items) in
    let h = rw c.deref_mut.ensures.value at c.owngroup_line.ensures in
    let e : (with_items s.drafts c.owngroup_line.new.drafts).items ≡ c.owngroup_line.new.drafts = with_items_is s.drafts c.owngroup_line.new.drafts (omega (arith, c.owngroup_line.auto.drafts, ap length c.deref_mut.ensures.value, s.drafts.ok.0)) in
    rw c.in-OwnGroup.is
    (subst (λ (v : World). Sets c.owngroup_line.result (lines.OwnGroup c.in-OwnGroup.buffer c.in-OwnGroup.group.now) v (setup_world s.directory (buffers_in (with_items s.drafts c.owngroup_line.new.drafts).items))) c.self.view_is
    (subst (λ (ds : List Draft). Sets c.owngroup_line.result (lines.OwnGroup c.in-OwnGroup.buffer c.in-OwnGroup.group.now) w (setup_world s.directory (buffers_in ds))) (sym e)
    (sets_group c.owngroup_line.result w c.in-OwnGroup.buffer c.in-OwnGroup.group.now (buffers_in c.owngroup_line.new.drafts) h)))

pub invariant_of-self-in-Entry : goal.invariant_of-self-in-Entry
invariant_of-self-in-Entry c =
    let s = c.self-in-Entry.inside in
    let h = rw c.deref_mut-in-Entry.ensures.value at c.entry_line.ensures in
    let e : (with_items s.drafts c.entry_line.new.drafts).items ≡ c.entry_line.new.drafts = with_items_is s.drafts c.entry_line.new.drafts (omega (arith, c.entry_line.auto.drafts, ap length c.deref_mut-in-Entry.ensures.value, s.drafts.ok.0)) in
    subst (λ (ds : List Draft). AreFit (buffers_in ds)) (sym e)
    (entry_fits c.entry_line.result (entry_in c.in-Entry.entry.now) c.in-Entry.buffer (buffers_in s.drafts.items) (buffers_in c.entry_line.new.drafts) h c.self-in-Entry.invariant)

pub returns-in-Entry : goal.returns-in-Entry
returns-in-Entry c =
    let s = c.self-in-Entry.inside in
    let w = setup_world s.directory (buffers_in s.drafts.items) in
    let h = rw c.deref_mut-in-Entry.ensures.value at c.entry_line.ensures in
    let e : (with_items s.drafts c.entry_line.new.drafts).items ≡ c.entry_line.new.drafts = with_items_is s.drafts c.entry_line.new.drafts (omega (arith, c.entry_line.auto.drafts, ap length c.deref_mut-in-Entry.ensures.value, s.drafts.ok.0)) in
    rw c.in-Entry.is
    (subst (λ (v : World). Sets c.entry_line.result (lines.Entry c.in-Entry.buffer c.in-Entry.entry.now) v (setup_world s.directory (buffers_in (with_items s.drafts c.entry_line.new.drafts).items))) c.self-in-Entry.view_is
    (subst (λ (ds : List Draft). Sets c.entry_line.result (lines.Entry c.in-Entry.buffer c.in-Entry.entry.now) w (setup_world s.directory (buffers_in ds))) (sym e)
    (sets_entry c.entry_line.result w c.in-Entry.buffer c.in-Entry.entry.now (buffers_in c.entry_line.new.drafts) h)))

pub invariant_of-self-in-Text : goal.invariant_of-self-in-Text
invariant_of-self-in-Text c =
    let s = c.self-in-Text.inside in
    let h = rw c.deref_mut-in-Text.ensures.value at c.text_line.ensures in
    let e : (with_items s.drafts c.text_line.new.drafts).items ≡ c.text_line.new.drafts = with_items_is s.drafts c.text_line.new.drafts (omega (arith, c.text_line.auto.drafts, ap length c.deref_mut-in-Text.ensures.value, s.drafts.ok.0)) in
    subst (λ (ds : List Draft). AreFit (buffers_in ds)) (sym e)
    (text_fits c.text_line.result c.in-Text.buffer c.in-Text.text.items (buffers_in s.drafts.items) (buffers_in c.text_line.new.drafts) (rw c.deref-in-Text.ensures.value at h) c.self-in-Text.invariant)
