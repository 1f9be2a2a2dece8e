use Rattle.std.proofs.Common.{◌≡◌, Some, rules}
use Rattle.mgs_keys.specs.Words.{words_of}
use Rattle.mgs_keys.specs.Tokens.{spelled_by}
use Rattle.mgs_script.specs.Words.{token_characters}
use Rattle.mgs_script.proofs.Utf8Words.{spelled_utf8}
use Rattle.mgs_script.proofs.text.read_text.Goals as goal

pub characters_of-requires : goal.characters_of-requires
characters_of-requires c =
    let spelled : spelled_by token_characters (words_of c.args.tokens.now) ≡ Some c.deref.result.now = search rules in
    spelled_utf8 c.args.tokens.now c.deref.result.now c.utf8.tokens spelled
