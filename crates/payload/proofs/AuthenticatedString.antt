-- The authenticated string: its length, and that it tells the AD and the message apart.
-- Assumes nothing.
use mathlib.Core.Path.{◌≡◌, refl, sym, ap, ◌∙◌}
use mathlib.Core.Bool.{true}
use mathlib.Core.List.{List, [], ◌∷◌, ◌++◌, append_assoc, append_cancel_right}
use Prim.Native.Nat.{ℕ, ◌<◌}
use native.Mathlib.Omega.{arith}
use lib.ListN.{length, take, drop, length-append}
use lib.Seq.{take_at, drop_at}
use Rattle.bits.specs.Bytes.{Bytes}
use Rattle.bits.proofs.Packing.{Bytes-append}
use Rattle.machine.specs.declared.edition.Edition.{Edition}
use Rattle.startup.specs.Editions.{bits_in}
use Rattle.startup.proofs.Order.{bits_in-append, length-bits_in, bits_in_injective}
use Rattle.lengths.specs.CodedLength.{coded_length}
use Rattle.payload.specs.AuthenticatedString.{header, authenticated}
use Rattle.payload.specs.Job.{string_bits}
use Rattle.payload.specs.Laws.{Unambiguous}
use Rattle.lengths.proofs.CodedLength.{distinguished, coded_prefix}

-- Equal joins whose first parts are equally long have equal parts.
append_split : (s t u v : List ℕ) → length s ≡ length u → s ++ t ≡ u ++ v → (s ≡ u) × (t ≡ v)
append_split s t u v l e = (
  sym (take_at s t (length u) l) ∙ ap (take (length u)) e ∙ take_at u v (length u) refl,
  sym (drop_at s t (length u) l) ∙ ap (drop (length u)) e ∙ drop_at u v (length u) refl,
)

-- The string is the bits of its bytes, and the 1.
authenticated-bits : (ed : Edition) (ad message : List ℕ) → authenticated ed ad message ≡ bits_in ed (coded_length (length ad) ++ (ad ++ message)) ++ (true ∷ [])
unfolding authenticated header
authenticated-bits ed ad message = simp (bits_in-append ed, append_assoc)

pub length-authenticated : (ed : Edition) (ad message : List ℕ) → length (authenticated ed ad message) ≡ string_bits (length ad) (length message)
unfolding string_bits
length-authenticated ed ad message =
    ap length (authenticated-bits ed ad message)
    ∙ omega (arith, length-append (bits_in ed all) (true ∷ []), length-bits_in ed all, length-append (coded_length (length ad)) (ad ++ message), length-append ad message)
  where
    all : List ℕ
    all = coded_length (length ad) ++ (ad ++ message)

pub unambiguous : Unambiguous
unambiguous ed ad message ad' message' had hm had' hm' l l' e = append_split ad message ad' message' coded.0 coded.1
  where
    joined : (ad message : List ℕ) → Bytes ad → Bytes message → length ad < 65536 → Bytes (coded_length (length ad) ++ (ad ++ message))
    joined ad message h k fits = Bytes-append (coded_length (length ad)) (ad ++ message) (distinguished (length ad) fits).bytes (Bytes-append ad message h k)

    whole : coded_length (length ad) ++ (ad ++ message) ≡ coded_length (length ad') ++ (ad' ++ message')
    whole =
        bits_in_injective ed _ _ (joined ad message had hm l) (joined ad' message' had' hm' l')
        (append_cancel_right _ _ (true ∷ []) (sym (authenticated-bits ed ad message) ∙ e ∙ authenticated-bits ed ad' message'))

    coded : (length ad ≡ length ad') × (ad ++ message ≡ ad' ++ message')
    coded = coded_prefix (length ad) (length ad') (ad ++ message) (ad' ++ message') l l' whole
