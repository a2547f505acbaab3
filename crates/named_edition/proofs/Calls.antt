-- Sealing and opening in the edition that a number names: refusal 23, or what that edition does.
-- Assumes nothing.
use mathlib.Core.Path.{◌≡◌, refl, ap}
use mathlib.Core.Bool.{true, false}
use mathlib.Core.List.{List, ◌∷◌}
use Prim.Native.Nat.{ℕ}
use Rattle.bits.specs.Bytes.{Bytes}
use Rattle.refusals.specs.declared.Refusal.{Refusal}
use Rattle.refusals.specs.declared.Refusal.TheVariants.{UnknownEdition}
use Rattle.refusals.specs.Refusals.{among}
use Rattle.refusals.specs.Outcome.{Outcome, refused}
use Rattle.machine.specs.declared.edition.Edition.{Edition}
use Rattle.startup.specs.Naming.{known, named}
use Rattle.payload.specs.Payload.{payload}
use Rattle.checks.specs.Order as any_edition
use Rattle.grain128aead.specs.Sizes.{ad_limit}
use Rattle.grain128aead.specs.Calls as calls
use Rattle.checks.specs.Demand1.{Demand1}
use Rattle.grain128aead.specs.Demand2.{Sealing, Demand2}
use Rattle.grain128aead.specs.Demand3.{Demand3}
use Rattle.grain128aead.specs.Substitution.{Substitution}
use Rattle.checks.proofs.Demand1.{tabled, demand1}
use Rattle.grain128aead.proofs.Demand2 as each2
use Rattle.grain128aead.proofs.Demand3 as each3
use Rattle.grain128aead.proofs.Substitution as each_s
use Rattle.named_edition.specs.Calls.{order, sealing_rows, sealed, opening_rows, opened, Numbered, InNamed}
use Rattle.named_edition.proofs.NamedRows.{without23, unknown, goes_on, in_named}

pub numbered : Numbered
unfolding any_edition.order any_edition.before_tag
numbered = refl

others : without23 any_edition.order ≡ true
unfolding any_edition.order any_edition.before_tag
others = refl

module _ (n : ℕ) (key nonce ad message out : List ℕ) where
  pub sealed_unknown : known n ≡ false → refused UnknownEdition out ≡ sealed n key nonce ad message out
  unfolding sealed
  sealed_unknown = unknown any_edition.order others n (calls.sealing_table key nonce ad message out) (payload (named n) key nonce ad message) out

  pub sealed-known : known n ≡ true → calls.sealed (named n) key nonce ad message out ≡ sealed n key nonce ad message out
  unfolding sealed calls.sealed
  sealed-known = goes_on any_edition.order others n (calls.sealing_table key nonce ad message out) (payload (named n) key nonce ad message) out

  pub demand1_sealing : Demand1 order (among (sealing_rows n key nonce ad message out)) (payload (named n) key nonce ad message) out (sealed n key nonce ad message out)
  unfolding sealed
  demand1_sealing =
      demand1 order (sealing_rows n key nonce ad message out) (ap (λ (rs : List Refusal). UnknownEdition ∷ rs) (tabled ad_limit key nonce ad _ _ _ _)) (payload (named n) key nonce ad message) out

  pub sealing : InNamed n (λ e. Sealing e key nonce ad message out (sealed n key nonce ad message out))
  unfolding sealed calls.sealed
  sealing =
      in_named any_edition.order others n (calls.sealing_table key nonce ad message out) (payload (named n) key nonce ad message) out (λ e. calls.sealed e key nonce ad message out) refl
      (λ e. Sealing e key nonce ad message out) (λ e. each2.sealing e key nonce ad message out)

module _ (n : ℕ) (key nonce ad input out : List ℕ) where
  pub opened_unknown : known n ≡ false → refused UnknownEdition out ≡ opened n key nonce ad input out
  unfolding opened
  opened_unknown = unknown any_edition.order others n (calls.opening_table (named n) key nonce ad input out) (calls.recovered (named n) key nonce ad input) out

  pub opened-known : known n ≡ true → calls.opened (named n) key nonce ad input out ≡ opened n key nonce ad input out
  unfolding opened calls.opened
  opened-known = goes_on any_edition.order others n (calls.opening_table (named n) key nonce ad input out) (calls.recovered (named n) key nonce ad input) out

  pub demand1_opening : Demand1 order (among (opening_rows n key nonce ad input out)) (calls.recovered (named n) key nonce ad input) out (opened n key nonce ad input out)
  unfolding opened
  demand1_opening =
      demand1 order (opening_rows n key nonce ad input out) (ap (λ (rs : List Refusal). UnknownEdition ∷ rs) (tabled ad_limit key nonce ad _ _ _ _)) (calls.recovered (named n) key nonce ad input) out

  -- What holds of opening in each edition.
  opening : (P : Edition → Outcome → Type 0) → ((e : Edition) → P e (calls.opened e key nonce ad input out)) → InNamed n (λ e. P e (opened n key nonce ad input out))
  unfolding opened calls.opened
  opening =
      in_named any_edition.order others n (calls.opening_table (named n) key nonce ad input out) (calls.recovered (named n) key nonce ad input) out (λ e. calls.opened e key nonce ad input out) refl

  pub demand2 : Bytes input → InNamed n (λ e. Demand2 e key nonce ad input out (opened n key nonce ad input out))
  demand2 b = opening (λ e. Demand2 e key nonce ad input out) (λ e. each2.demand2 e key nonce ad input out b)

  pub demand3 : InNamed n (λ e. Demand3 e key nonce ad input out (opened n key nonce ad input out))
  demand3 = opening (λ e. Demand3 e key nonce ad input out) (λ e. each3.demand3 e key nonce ad input out)

  pub substitution : Bytes input → InNamed n (λ e. Substitution e key nonce ad input out (opened n key nonce ad input out))
  substitution b = opening (λ e. Substitution e key nonce ad input out) (λ e. each_s.substitution e key nonce ad input out b)
