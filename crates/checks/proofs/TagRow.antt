-- Rows of which the last is the tag's: those before it do not look at the tag.
-- Assumes nothing.
use mathlib.Core.Path.{◌≡◌, sym, ap, ap₂, ◌∙◌}
use mathlib.Core.Bool.{Bool, false}
use mathlib.Core.List.{List, [], ◌∷◌, ◌++◌, map}
use Rattle.refusals.specs.declared.Refusal.{Refusal}
use Rattle.refusals.specs.declared.Refusal.TheVariants.{TagDiffers}
use Rattle.refusals.specs.Refusals.{Check, Row, among, after, check, passed}
use Rattle.refusals.proofs.LastRow.{after_false, check-last}
use Rattle.refusals.proofs.Rows.{Quiet}
use Rattle.checks.proofs.Demand1 as rows_of

-- The rows by whether the tag differs, the refusals of those before it, and what these come to.
pub record TagLast (before order : List Refusal) (rows : Bool → List Row) (judgement : Check) : Type 0 where
  pub ordered : order ≡ before ++ (TagDiffers ∷ [])
  pub listed : (differs : Bool) → map (λ row. row.refusal) (rows differs) ≡ order
  pub front : (differs : Bool) → check before (among (rows differs)) ≡ judgement
  pub last : (differs : Bool) → among (rows differs) TagDiffers ≡ differs

module _ {before order : List Refusal} {rows : Bool → List Row} {judgement : Check} (t : TagLast before order rows judgement) where
  pub check-rows : (differs : Bool) → check order (among (rows differs)) ≡ after judgement TagDiffers differs
  check-rows differs =
      ap (λ (rs : List Refusal). check rs (among (rows differs))) t.ordered
      ∙ check-last before TagDiffers (among (rows differs))
      ∙ ap₂ (λ (c : Check) (b : Bool). after c TagDiffers b) (t.front differs) (t.last differs)

  pub all-rows : check order (among (rows false)) ≡ judgement
  all-rows = check-rows false ∙ after_false judgement TagDiffers

  -- Those before the tag's pass exactly when none of them applies.
  pub passed_quiet : judgement ≡ passed → Quiet (rows false)
  passed_quiet e = rows_of.passed_quiet order (rows false) (t.listed false) (all-rows ∙ e)

  pub quiet_passed : Quiet (rows false) → judgement ≡ passed
  quiet_passed quiet = sym all-rows ∙ rows_of.quiet_passed order (rows false) (t.listed false) quiet
