use Rattle.std.proofs.Common.{◌≡◌, List, None, false, sym, ap, subst, refl, ◌∙◌}
use Rattle.mgs_model.specs.World.{World, Buffer}
use Rattle.mgs_replay.specs.declared.setup.Draft.{Draft}
use Rattle.mgs_replay.specs.Settings.{buffer_refused}
use Rattle.mgs_replay.specs.Setups.{setup_world, buffers_in, AreFit}
use Rattle.mgs_replay.proofs.Drafts.{pushed}
use Rattle.mgs_replay.proofs.Fits.{buffer_fits}
use Rattle.mgs_replay.proofs.setup.Setup.add_buffer.Goals.{in-Ok, in-Err}
use Rattle.mgs_replay.proofs.setup.Setup.add_buffer.Goals as goal

pub invariant_of-self : goal.invariant_of-self
invariant_of-self c = elim c.match-push.branch [
  | in-Ok w ↦
      let s = c.self.inside in
      let free : buffer_refused (setup_world s.directory (buffers_in s.drafts.items)) c.args.name.now c.args.owner.now ≡ false = ap (λ (v : World). buffer_refused v c.args.name.now c.args.owner.now) c.self.view_is ∙ sym c.refuses.ensures ∙ c.if-refuses.false in
      subst (λ (bs : List Buffer). AreFit bs)
      (sym (pushed c.args.name.now c.args.owner.now s.drafts.items c.push.new.self.items (record { name = c.args.name; owner = c.args.owner; group = None; list = c.new.result; text = c.new-2.result })
      w.in-Ok.ensures.items refl refl refl c.new.ensures c.new-2.ensures.items))
      (buffer_fits (setup_world s.directory (buffers_in s.drafts.items)) c.args.name.now c.args.owner.now free c.self.invariant)
  | in-Err w ↦ subst (λ (ds : List Draft). AreFit (buffers_in ds)) (sym w.in-Err.ensures.items) c.self.invariant
]
