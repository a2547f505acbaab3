-- What an entry that was read tells of its kind and its size.
-- Assumes nothing.
use Rattle.std.proofs.Common.{◌≡◌, ℕ, zero, suc, ◌<◌, ◌≤◌, refl, sym, arith}
use Rattle.std.specs.Prelude.{Some, None}
use Rattle.captures.specs.declared.entries.Kind.TheVariants.{Frame, Group}
use Rattle.captures.specs.declared.entries.Entry.{Entry}
use Rattle.captures.specs.Reading.{entry_of}

-- Of a kind that is neither none is read, and where none was read the kind is neither.
pub other : (n m : ℕ) → 1 < n → entry_of n m ≡ None
other zero m h = absurd (omega (arith, h))
other (suc zero) m h = absurd (omega (arith, h))
other (suc (suc n)) m h = refl

pub unknown : (n m : ℕ) → entry_of n m ≡ None → 1 < n
unknown zero m r = cc
unknown (suc zero) m r = cc
unknown (suc (suc n)) m r = omega arith

-- The kind's number and the size, of an entry that was read.
pub record Told (n m : ℕ) (e : Entry) : Type 0 where
  pub size : e.size ≡ m
  pub known : n ≤ 1
  pub frame : e.kind ≡ Frame → n ≡ 0
  pub group : e.kind ≡ Group → n ≡ 0 → ⊥

pub told : (n m : ℕ) (e : Entry) → entry_of n m ≡ Some e → Told n m e
told zero m e r =
    let same : record { kind = Frame; size = m } ≡ e = cc in
    rw (sym same) record { size = refl; known = omega arith; frame = λ f. refl; group = λ g z. cc }
told (suc zero) m e r =
    let same : record { kind = Group; size = m } ≡ e = cc in
    rw (sym same) record { size = refl; known = omega arith; frame = λ f. cc; group = λ g z. omega arith }
told (suc (suc n)) m e r = cc
