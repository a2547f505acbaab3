-- The orders of the calls on streams are those of their rows.
-- Assumes nothing.
use mathlib.Core.Path.{refl}
use Rattle.stream_checks.specs.Order.{beginning, before_tag, others, Numbered}
use Rattle.stream_checks.specs.Rows.{begin_rows, rows, Tabled}

pub numbered : Numbered
unfolding beginning others before_tag
numbered = record { of_beginning = refl; of_others = refl }

pub tabled : Tabled
unfolding beginning others before_tag begin_rows rows
tabled = record {
  of_beginning = λ unknown key nonce announced limit size. refl;
  of_others = λ unsound out_of_turn too_long wrong_size no_room wrong_tag. refl;
}
