-- `strings::crypt` meets its contract.
use Rattle.strings.proofs.Writing.{crypts-on}
use Rattle.strings.proofs.crypt.Goals as goal

pub returns : goal.returns
returns c = crypts-on c.args.e _ _ c.crypt_words-words.ensures c.crypt_rest.ensures
