-- What an entry of a section says of its body, where its kind is one of the two.
use Rattle.std.specs.Prelude.{ℕ, zero, suc, ◌*◌, List, Option, Some, None}
use Rattle.std.specs.Simd.{first_chunks}
use Rattle.captures.specs.declared.entries.Kind.TheVariants.{Frame, Group}
use Rattle.captures.specs.declared.entries.Entry.{Entry}
use Rattle.captures.specs.Layout.{part, entry_count}

abbrev pub entry_of : (kind size : ℕ) → Option Entry
entry_of zero size = Some (record { kind = Frame; size = size })
entry_of (suc zero) size = Some (record { kind = Group; size = size })
entry_of (suc (suc n)) size = None

-- The entries of a section, of eight bytes each.
abbrev pub entries_of : List ℕ → List (List ℕ)
entries_of s = first_chunks 8 (entry_count s) (part 2 (8 * entry_count s) s)
