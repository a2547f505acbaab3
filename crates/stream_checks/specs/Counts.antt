-- What a stream counts, which counts can occur, and what is out of turn (document 02, C-13).
use Rattle.std.specs.Prelude.{Bool, not, ◌&&◌, ◌||◌, ℕ, ◌+◌, eqb, leb, ltb}
use Rattle.stream_checks.specs.declared.counts.Kind.{Kind}
use Rattle.stream_checks.specs.declared.counts.Kind.TheVariants.{Sealing, Checking}
use Rattle.stream_checks.specs.declared.counts.Counts.{Counts}

-- The number of a kind: 1 sealing, 2 checking.
abbrev pub number : Kind → ℕ
number Sealing = 1
number Checking = 2

-- All of the announced AD has been taken.
abbrev pub complete : Counts → Bool
complete c = eqb c.ad c.announced

-- Kind, phase and counts that can occur: the kind is 1 or 2, the phase 0 (open) or 1 (finished); AD taken at most the announced length; message taken
-- only with the AD complete, and at most the limit; finished only with the AD complete.
abbrev pub can_occur : (limit : ℕ) → Counts → Bool
can_occur limit c =
    (eqb c.kind (number Sealing) || eqb c.kind (number Checking))
    && ((eqb c.phase 0 || eqb c.phase 1)
    && (leb c.ad c.announced
    && ((eqb c.message 0 || complete c)
    && (leb c.message limit
    && (eqb c.phase 0 || complete c)))))

-- A call of one kind on a stream of the other, or any call on a finished stream.
abbrev pub other_or_finished : Kind → Counts → Bool
other_or_finished kind c = not (eqb c.kind (number kind)) || not (eqb c.phase 0)

-- A piece of n bytes of AD is out of turn on such a stream, or where it goes beyond the announced length.
abbrev pub ad_out_of_turn : Kind → Counts → (n : ℕ) → Bool
ad_out_of_turn kind c n = other_or_finished kind c || ltb c.announced (c.ad + n)

-- Message, ciphertext and finish are out of turn on such a stream, or before the AD is complete.
abbrev pub out_of_turn : Kind → Counts → Bool
out_of_turn kind c = other_or_finished kind c || not (complete c)

-- A piece of n bytes makes the message longer than the limit.
abbrev pub too_long : (limit : ℕ) → Counts → (n : ℕ) → Bool
too_long limit c n = ltb limit (c.message + n)
