-- The size of a tag in bytes (document 01, "Bits, bytes and sizes").
use Rattle.std.specs.Prelude.{ℕ}

abbrev pub tag_size : ℕ
tag_size = 8
