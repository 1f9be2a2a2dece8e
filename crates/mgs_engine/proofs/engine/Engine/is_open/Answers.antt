use Rattle.std.proofs.Common.{◌≡◌, map, ap, ◌∙◌, arith}
use Rattle.std.proofs.lemmas.Bool.{ltb-true, lt-ltb}
use Rattle.std.specs.List.{position_or_len}
use Rattle.mgs_world.specs.Worlds.{sizes}
use Rattle.mgs_engine.specs.Screens.{screen_id, shown_size}
use Rattle.mgs_engine.specs.Serving.{Serving}
use Rattle.std.proofs.lemmas.Bool.Decides.{same_from_decides}
use Rattle.mgs_model.specs.Events.{is_open}
use Rattle.mgs_engine.proofs.Screens.{open_place, open_tells}
use Rattle.mgs_engine.proofs.engine.Engine.is_open.Goals as goal

pub returns : goal.returns
returns g c =
    let v : map shown_size c.self.inside.screens.items ≡ sizes c.args.self.now.world =
    c.self.invariant.0.sizes_are ∙ ap (λ (s : Serving). sizes s.world) c.self.view_is in
    let e : c.find_place.result ≡ position_or_len (screen_id c.args.id) c.self.inside.screens.items =
    c.find_place.ensures.value ∙ ap (position_or_len (screen_id c.args.id)) c.deref.ensures.value in
    let o = open_place c.args.id (sizes c.args.self.now.world) c.self.inside.screens.items c.find_place.result v e in
    same_from_decides _ (is_open c.args.id c.args.self.now.world) (
      λ h. o.0 (omega (arith, ltb-true c.find_place.result c.len.result h, c.len.ensures, c.self.inside.screens.ok.0)),
      λ h. lt-ltb c.find_place.result c.len.result (omega (arith, o.1 h, c.len.ensures, c.self.inside.screens.ok.0)),
    ) (open_tells c.args.id c.args.self.now.world)
