-- The code's table has the text of each notice.
use Rattle.std.proofs.Common.{◌≡◌, Some, refl}
use Rattle.mgs_model.specs.Messages.{notice_text, text_in}
use Rattle.mgs_model.specs.declared.echo_text.TheConstants.{NOTICES}
use Rattle.mgs_model.specs.declared.echo_text.Notice.{Notice}
use Rattle.mgs_model.specs.declared.echo_text.Notice.TheVariants.{Silent}

pub has_text : (notice : Notice) → text_in (λ text. text.now) NOTICES.now notice ≡ Some (notice_text notice)
has_text Silent = refl
has_text _ = refl
