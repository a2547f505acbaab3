-- The sizes of key and nonce in bytes (document 01, "Bits, bytes and sizes").
use Rattle.std.specs.Prelude.{ℕ}

abbrev pub key_size : ℕ
key_size = 16

abbrev pub nonce_size : ℕ
nonce_size = 12
