-- Without authentication, the call applied twice gives the message back (document 02, C-16).
use Rattle.std.specs.Prelude.{List, ℕ}
use Rattle.untagged.specs.Crypting as untagged
use Rattle.grain128a.specs.Calls.{crypted}

abbrev pub Twice : Type 0
Twice = (key nonce : List ℕ) → untagged.Twice (crypted key nonce)
