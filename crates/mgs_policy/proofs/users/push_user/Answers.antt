use Rattle.std.proofs.Common.{List, ℕ, ◌∙◌, ap, sym, ◌++◌, ◌∷◌, []}
use Rattle.mgs_policy.proofs.UserLemmas.{found_same, never_absent}
use Rattle.mgs_policy.proofs.users.push_user.Goals as goal

pub unreachable-requires : goal.unreachable-requires
unreachable-requires c = never_absent c.args.user.now c.args.users.now c.requires (sym c.named.ensures ∙ c.in-None.is)

pub returns : goal.returns
returns c =
    c.in_ok-push-in-Some.ensures.items
    ∙ ap (λ (x : List ℕ). c.args.names.now.items ++ x ∷ []) (found_same c.args.user.now c.in-Some.name c.args.users.now c.requires (sym c.named.ensures ∙ c.in-Some.is))
