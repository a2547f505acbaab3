-- The authenticated string (document 01, "Running and the tag"); its order of bits is the edition's.
use Rattle.std.specs.Prelude.{Bool, true, List, [], ◌∷◌, ◌++◌, ℕ, length}
use Rattle.machine.specs.declared.edition.Edition.{Edition}
use Rattle.startup.specs.Editions.{bits_in}
use Rattle.lengths.specs.CodedLength.{coded_length}

-- What stands before the message: the coded length of the AD, and the AD.
unfoldable pub header : Edition → (ad : List ℕ) → List Bool
header e ad = bits_in e (coded_length (length ad)) ++ bits_in e ad

-- The coded AD length, the AD, the message, a single 1 bit.
unfoldable pub authenticated : Edition → (ad message : List ℕ) → List Bool
authenticated e ad message = header e ad ++ bits_in e message ++ (true ∷ [])
