use Rattle.std.proofs.Common.{◌∷◌, sym, ap, subst, ◌∙◌}
use Rattle.mgs_world.specs.Worlds.{IsUnique}
use Rattle.mgs_engine.specs.declared.session_end.Cause.TheVariants.{Slow}
use Rattle.mgs_engine.specs.Screens.{late_ids, screen_id}
use Rattle.std.specs.Prelude.{find}
use Rattle.mgs_engine.proofs.Late.{late_goes}
use Rattle.mgs_engine.proofs.Painted.{found_kept}
use Rattle.mgs_engine.proofs.Quits.{screen_less}
use Rattle.mgs_engine.proofs.Stays.{closed_in_time}
use Rattle.mgs_engine.proofs.end.end_slow.Goals as goal

pub returns-clause-served : goal.returns-clause-served
returns-clause-served g c =
    closed_in_time c.args.core.now.world c.close.new.self.world c.args.id c.args.screens.now.items c.end_screen.new.screens.items c.requires.served c.close.ensures.rest c.close.ensures.sizes c.end_screen.ensures.screens

pub returns-clause-ended : goal.returns-clause-ended
returns-clause-ended g c =
    screen_less c.args.core.now c.close.new.self Slow c.args.id c.args.screens.now.items c.end_screen.new.screens.items c.args.ended.now.items c.end_screen.new.ended.items
    c.close.ensures.rest c.close.ensures.store c.end_screen.ensures.screens c.end_screen.ensures.ended

pub returns-clause-late : goal.returns-clause-late
returns-clause-late g c =
    late_goes c.args.screens.now.items c.args.id (subst IsUnique (sym c.requires.served.sizes_are) c.requires.served.unique) c.requires.late
    ∙ ap (λ xs. c.args.id ∷ late_ids xs) (sym c.end_screen.ensures.screens)

pub returns-clause-kept : goal.returns-clause-kept
returns-clause-kept g c id x f =
    found_kept c.args.id id c.args.screens.now.items x (subst IsUnique (sym c.requires.served.sizes_are) c.requires.served.unique)
    (ap (find (screen_id id)) (sym c.end_screen.ensures.screens) ∙ f)
