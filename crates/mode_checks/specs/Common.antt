-- What the calls of a mode ask of key and nonce (document 02, C-16 and C-18).
use Rattle.std.specs.Prelude.{◌≡◌, ◌≢◌, Bool, List, ℕ, length}
use Rattle.key.specs.Sizes.{key_size, nonce_size}
use Rattle.key.specs.BlankKey.{blank_key}
use Rattle.mode_checks.specs.Modes.{mode_bit}

pub record Common (key nonce : List ℕ) (mode : Bool) : Type 0 where
  pub key_sized : length key ≡ key_size
  pub nonce_sized : length nonce ≡ nonce_size
  pub key_not_blank : key ≢ blank_key
  pub nonce_mode : mode_bit nonce ≡ mode
