-- The sizes of Grain v1, in bytes (document 02, C-24).
use Rattle.std.specs.Prelude.{ℕ}

abbrev pub key_size : ℕ
key_size = 10

abbrev pub nonce_size : ℕ
nonce_size = 8
