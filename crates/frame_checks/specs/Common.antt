-- What a frame asks of key, nonce and identifier (document 02, C-11 and C-18).
use Rattle.std.specs.Prelude.{◌≡◌, ◌≢◌, List, ℕ, ◌<◌, length}
use Rattle.key.specs.Sizes.{key_size, nonce_size}
use Rattle.key.specs.BlankKey.{blank_key}
use Rattle.frame_checks.specs.Layout.{identifier_limit}

pub record Common (key nonce : List ℕ) (identifier : ℕ) : Type 0 where
  pub key_sized : length key ≡ key_size
  pub nonce_sized : length nonce ≡ nonce_size
  pub key_not_blank : key ≢ blank_key
  pub identifier_fits : identifier < identifier_limit
