-- Words in an edition's order, and clocks whose pre-outputs fill a word.
use Rattle.std.specs.Prelude.{◌≡◌, Bool, List, ℕ, ◌*◌, ◌≤◌}
use Rattle.bits.specs.Bytes.{word, bytes}
use Rattle.preoutput.specs.declared.Registers.{Registers}
use Rattle.preoutput.specs.declared.Run.{Run}
use Rattle.preoutput.specs.Words.{generator_of}
use Rattle.machine.specs.declared.edition.Edition.{Edition}
use Rattle.startup.specs.StartUp.{rekeyed, preoutputs}
use Rattle.startup.specs.Editions.{bytes_in}

-- The k lowest bytes of r are those of w in the edition's order; k is any number up to eight.
abbrev pub Orders : Edition → (w r : ℕ) → Type 0
Orders e w r = (k : ℕ) → k ≤ 8 → bytes k (word (8 * k) r) ≡ bytes_in e k (word (8 * k) w)

-- After the clocks that add some bits: the generator, and the pre-outputs of those clocks.
pub record Fills (g : Registers) (added : List Bool) (r : Run) : Type 0 where
  pub generator : generator_of r.registers ≡ rekeyed (generator_of g) added
  pub outputs : word 64 r.outputs ≡ preoutputs (generator_of g) added
