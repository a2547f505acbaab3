-- The limit of ADs in bytes (document 02, C-14).
use Rattle.std.specs.Prelude.{ℕ, ◌^◌, ◌≤◌, ◌<◌}
use Rattle.lengths.specs.CodedLength.{coded_length, Distinguished}

unfoldable pub ad_limit : ℕ
ad_limit = 65535

-- Two bytes hold the length of every legal AD, so that 0x82 and two bytes is the longest form in which it is coded.
abbrev pub TwoBytes : Type 0
TwoBytes = ad_limit < 2 ^ 16

-- The coded length of every legal AD is its distinguished form.
abbrev pub LegalLengths : Type 0
LegalLengths = (n : ℕ) → n ≤ ad_limit → Distinguished n (coded_length n)
