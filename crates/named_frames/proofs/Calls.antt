-- Making and reading a frame in the edition that a number names: refusal 23, or what that edition does.
-- Assumes nothing.
use mathlib.Core.Path.{◌≡◌, refl, ap}
use mathlib.Core.Bool.{true, false}
use mathlib.Core.List.{List, ◌∷◌}
use Prim.Native.Nat.{ℕ}
use lib.ListN.{length}
use Rattle.bits.specs.Bytes.{Bytes}
use Rattle.refusals.specs.declared.Refusal.{Refusal}
use Rattle.refusals.specs.declared.Refusal.TheVariants.{UnknownEdition}
use Rattle.refusals.specs.Refusals.{among}
use Rattle.refusals.specs.Outcome.{refused}
use Rattle.startup.specs.Naming.{known, named}
use Rattle.checks.specs.Demand1.{Demand1}
use Rattle.checks.proofs.Demand1.{demand1}
use Rattle.named_edition.specs.Calls.{InNamed}
use Rattle.named_edition.proofs.NamedRows.{without23, unknown, goes_on, in_named}
use Rattle.frame_checks.specs.Order as order
use Rattle.frame_checks.proofs.Rows.{tabled}
use Rattle.frames.specs.Field.{data_field}
use Rattle.frames.specs.Calls as calls
use Rattle.frames.specs.Demand2.{Making}
use Rattle.frames.specs.Promises.{Reading}
use Rattle.frames.proofs.Demand2 as each
use Rattle.frames.proofs.Promises as each_reading
use Rattle.named_frames.specs.Calls.{making, reading, making_rows, made, reading_rows, read, Numbered}

pub numbered : Numbered
unfolding order.making order.reading order.before_tag order.common
numbered = record { of_making = refl; of_reading = refl }

making-others : without23 order.making ≡ true
unfolding order.making order.common
making-others = refl

reading-others : without23 order.reading ≡ true
unfolding order.reading order.before_tag order.common
reading-others = refl

module _ (n : ℕ) (key nonce : List ℕ) (identifier : ℕ) (message out : List ℕ) where
  pub made_unknown : known n ≡ false → refused UnknownEdition out ≡ made n key nonce identifier message out
  unfolding made
  made_unknown = unknown order.making making-others n (calls.making_rows key nonce identifier message out) (data_field (named n) key nonce identifier message) out

  pub made-known : known n ≡ true → calls.made (named n) key nonce identifier message out ≡ made n key nonce identifier message out
  unfolding made calls.made
  made-known = goes_on order.making making-others n (calls.making_rows key nonce identifier message out) (data_field (named n) key nonce identifier message) out

  pub demand1_making : Demand1 making (among (making_rows n key nonce identifier message out)) (data_field (named n) key nonce identifier message) out (made n key nonce identifier message out)
  unfolding made
  demand1_making =
      demand1 making (making_rows n key nonce identifier message out) (ap (λ (rs : List Refusal). UnknownEdition ∷ rs) (tabled.of_making key nonce identifier (length message) (length out)))
      (data_field (named n) key nonce identifier message) out

  pub makes : InNamed n (λ e. Making e key nonce identifier message out (made n key nonce identifier message out))
  unfolding made calls.made
  makes =
      in_named order.making making-others n (calls.making_rows key nonce identifier message out) (data_field (named n) key nonce identifier message) out
      (λ e. calls.made e key nonce identifier message out) refl (λ e. Making e key nonce identifier message out) (λ e. each.making e key nonce identifier message out)

module _ (n : ℕ) (key nonce : List ℕ) (identifier code : ℕ) (field out : List ℕ) where
  pub read_unknown : known n ≡ false → refused UnknownEdition out ≡ read n key nonce identifier code field out
  unfolding read
  read_unknown = unknown order.reading reading-others n (calls.reading_rows (named n) key nonce identifier code field out) (calls.recovered (named n) key nonce identifier code field) out

  pub read_known : known n ≡ true → calls.read (named n) key nonce identifier code field out ≡ read n key nonce identifier code field out
  unfolding read calls.read
  read_known = goes_on order.reading reading-others n (calls.reading_rows (named n) key nonce identifier code field out) (calls.recovered (named n) key nonce identifier code field) out

  pub demand1_reading : Demand1 reading (among (reading_rows n key nonce identifier code field out)) (calls.recovered (named n) key nonce identifier code field) out (read n key nonce identifier code field out)
  unfolding read
  demand1_reading =
      demand1 reading (reading_rows n key nonce identifier code field out)
      (ap (λ (rs : List Refusal). UnknownEdition ∷ rs) (tabled.of_reading key nonce identifier code field (length out) (calls.wrong_tag (named n) key nonce identifier code field)))
      (calls.recovered (named n) key nonce identifier code field) out

  pub reads : Bytes field → InNamed n (λ e. Reading e key nonce identifier code field out (read n key nonce identifier code field out))
  unfolding read calls.read
  reads b =
      in_named order.reading reading-others n (calls.reading_rows (named n) key nonce identifier code field out) (calls.recovered (named n) key nonce identifier code field) out
      (λ e. calls.read e key nonce identifier code field out) refl (λ e. Reading e key nonce identifier code field out) (λ e. each_reading.reading e key nonce identifier code field out b)
