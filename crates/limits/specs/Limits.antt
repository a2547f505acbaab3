-- The limit on messages of every cipher, in bytes (document 02, C-14).
use Rattle.std.specs.Prelude.{ℕ}

unfoldable pub message_limit : ℕ
message_limit = 61440
