use Rattle.std.proofs.Common.{rules, arith, ◌≡◌, ◌∙◌, sym, length, subst}
use Rattle.std.proofs.lemmas.Bool.{false≢true, and_parts}
use Rattle.mgs_tables.specs.LogCheck.{IsFirst}
use Rattle.mgs_tables.proofs.CarriedOver.{not_log, log_again}
use Rattle.mgs_tables.proofs.log_check.test_log.Goals.{else-len-le1-via-then-len-le1+else-not-is_first, else-len-le1-via-else-len-le1}
use Rattle.mgs_tables.proofs.log_check.test_log.Goals as goal

pub returns-then-not-branch-clause-damaged : goal.returns-then-not-branch-clause-damaged
returns-then-not-branch-clause-damaged g c = λ _ clean is.
    let both = and_parts _ _ clean in
    let read : c.in_ok-bytes.bytes.items ≡ g.D.Disk.seen c.args.log.now = c.in_ok-bytes.ensures.read both.0 in
    let file : c.in_ok-file.file.items ≡ g.D.Disk.seen c.args.db.now = c.in_ok-file.ensures.read both.1 ∙ c.in-Ok.ensures.seen in
    not_log (g.D.Disk.seen c.args.log.now) (g.D.Disk.seen c.args.db.now) c.deref-2.result.now c.deref-else-is_begun.result.now c.in_ok-bytes.bytes.items c.deref-3.result.now
    (c.deref-2.ensures.value ∙ read) (c.deref-else-is_begun.ensures.value ∙ read) read (c.deref-3.ensures.value ∙ file)
    (λ begun. false≢true (sym c.if-is_begun.false ∙ c.is_begun.ensures.1 begun))
    (c.use_of.ensures.none (search rules))
    (λ again. false≢true (sym c.if-not-branch.true ∙ c.in_ok-is_begun_again.ensures.again.1 again)) is

pub returns-clause-whole : goal.returns-clause-whole
returns-clause-whole g c clean =
    let both = and_parts _ _ clean in
    let read : c.in_ok-bytes.bytes.items ≡ g.D.Disk.seen c.args.log.now = c.in_ok-bytes.ensures.read both.0 in
    let file : c.in_ok-file.file.items ≡ g.D.Disk.seen c.args.db.now = c.in_ok-file.ensures.read both.1 ∙ c.in-Ok.ensures.seen in
    let len : c.in-Ok.len ≡ length (g.D.Disk.seen c.args.db.now) = c.in-Ok.ensures.len (c.in_ok-file.ensures.reads.clean both.1) in (
      log_again (g.D.Disk.seen c.args.log.now) (g.D.Disk.seen c.args.db.now) c.in_ok-bytes.bytes.items c.deref-3.result.now read (c.deref-3.ensures.value ∙ file)
          (c.in_ok-is_begun_again.ensures.again.0 c.if-not-branch.false),
      λ short. elim (c.else-len-le1.branch) [
        | else-len-le1-via-then-len-le1+else-not-is_first w ↦ subst IsFirst read (search rules)
        | else-len-le1-via-else-len-le1 w ↦ absurd (omega (arith, w.if-len-le1.false, len, short))
      ],
    )
