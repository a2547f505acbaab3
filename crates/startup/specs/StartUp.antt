-- What the start-ups of both editions are made of (source document 000, section 2.2; document 01, "Start-up"), over the bits of key and nonce.
use Rattle.std.specs.Prelude.{Bool, true, false, replicate}
use mathlib.Core.List.{List, [], ◌∷◌, ◌++◌, foldl}
use Rattle.generators.specs.Generator.{Generator, preoutput, keyed}
use Rattle.preoutput.specs.Functions.{grain128}

-- The NFSR is the key. LFSR places 0 to 95 are the nonce, 96 to 126 are ones, 127 is zero.
unfoldable pub loaded : (key nonce : List Bool) → Generator Bool
loaded key nonce = record { lfsr = nonce ++ replicate 31 true ++ (false ∷ []); nfsr = key }

-- A clock for each bit of a string, which is added to the new LFSR bit only. With a zero it is a plain clock.
unfoldable pub rekeyed : Generator Bool → (added : List Bool) → Generator Bool
rekeyed = foldl (keyed grain128)

-- The pre-outputs of those clocks.
unfoldable pub preoutputs : Generator Bool → (added : List Bool) → List Bool
preoutputs g [] = []
preoutputs g (k ∷ ks) = preoutput grain128 g ∷ preoutputs (keyed grain128 g k) ks
