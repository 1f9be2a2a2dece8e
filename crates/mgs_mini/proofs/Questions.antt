-- No question but the second one has a first answer.
use Rattle.std.specs.Prelude.{[]}
use Rattle.std.proofs.Common.{refl}
use Rattle.mgs_model.specs.declared.session.Question.{Question}
use Rattle.mgs_model.specs.declared.session.Question.TheVariants.{ReplaceWith}
use Rattle.mgs_mini.specs.Typing.{IsFirst}

pub none_first : (c : Question) → IsFirst c []
none_first ReplaceWith = tt
none_first _ = refl
