-- A register's windows: 32 of its places from place k on, at the lower end of a word. Bits above these 32 are others of the register's.
use Rattle.std.specs.Prelude.{cond, ℕ, ◌-◌, ◌/◌, ◌^◌, ltb}

-- The words hold places 0 to 63, 32 to 95 and 64 to 127; k is 96 at most.
abbrev pub window : (word0 word32 word64 : ℕ) → (k : ℕ) → ℕ
window word0 word32 word64 k = cond (ltb k 32) (word0 / 2 ^ (32 - k)) (cond (ltb k 64) (word32 / 2 ^ (64 - k)) (word64 / 2 ^ (96 - k)))
