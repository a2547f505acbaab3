-- Demands 1 and 2 for frames: the rows decide, and reading accepts exactly what some message makes.
-- Assumes nothing.
use mathlib.Core.Path.{◌≡◌, refl, sym, ap, ap₂, ◌∙◌, subst}
use mathlib.Core.Bool.{false}
use mathlib.Core.List.{List}
use Prim.Native.Nat.{ℕ, ◌+◌, ◌-◌, ◌≤◌}
use native.Mathlib.Omega.{arith}
use lib.ListN.{length, drop, replicate, length-drop}
use Rattle.bits.specs.Bytes.{Bytes}
use Rattle.bits.proofs.Packing.{Bytes-take, Bytes-drop}
use Rattle.refusals.specs.Refusals.{among}
use Rattle.refusals.specs.Outcome.{Outcome, success}
use Rattle.refusals.specs.Demand1.{Accepts}
use Rattle.checks.specs.Demand1.{Demand1}
use Rattle.checks.proofs.Demand1.{demand1}
use Rattle.machine.specs.declared.edition.Edition.{Edition}
use Rattle.payload.specs.Payload.{payload}
use Rattle.payload.proofs.Payload.{length-payload}
use Rattle.grain128aead.specs.Calls.{opened}
use Rattle.grain128aead.specs.Demand2 as cipher
use Rattle.grain128aead.proofs.Demand2 as cipher_proofs
use Rattle.length_codes.specs.LengthCodes.{coded_length}
use Rattle.frame_checks.specs.Layout.{overhead, field_code, field_size, announced, sealed_part, filler, zero_bytes}
use Rattle.frame_checks.specs.Order as order
use Rattle.frame_checks.proofs.Rows.{making_clear, clear_making, ReadingClear, reading_clear, tabled}
use Rattle.frame_checks.proofs.ZeroBytes.{zero_bytes_lem, zeros_are}
use Rattle.frames.specs.Field.{frame_ad, data_field}
use Rattle.frames.specs.Calls.{making_rows, made, recovered, wrong_tag, reading_rows, read}
use Rattle.frames.specs.Demand2.{Legal, Makes, Making, Demand2}
use Rattle.frames.proofs.Parts.{joined, parted}
use Rattle.frames.proofs.Field.{made-announced, made-filler, made-payload, like_coded, like_announces}
use Rattle.frames.proofs.Settled.{length-sealed_part, read_opened}

module _ (e : Edition) (key nonce : List ℕ) (identifier : ℕ) (message out : List ℕ) where
  pub demand1_making : Demand1 order.making (among (making_rows key nonce identifier message out)) (data_field e key nonce identifier message) out (made e key nonce identifier message out)
  unfolding made
  demand1_making = demand1 order.making (making_rows key nonce identifier message out) (tabled.of_making key nonce identifier (length message) (length out)) (data_field e key nonce identifier message) out

  accepted : Legal key nonce identifier message → field_size (length message) ≤ length out → Accepts (made e key nonce identifier message out)
  accepted l room =
      demand1_making.accepts.1 (clear_making key nonce identifier (length message) (length out) (record { common = l.common; message_fits = l.message_fits; fits = room }))

  pub making : Making e key nonce identifier message out (made e key nonce identifier message out)
  making = record {
    accepts = (
      λ a. let c = making_clear key nonce identifier (length message) (length out) (demand1_making.accepts.0 a) in (record { common = c.common; message_fits = c.message_fits }, c.fits),
      λ h. accepted h.0 h.1,
    );
    makes = λ l room. demand1_making.ordered.writes (accepted l room);
  }

module _ (e : Edition) (key nonce : List ℕ) (identifier code : ℕ) (field out : List ℕ) where
  pub demand1_reading : Demand1 order.reading (among (reading_rows e key nonce identifier code field out)) (recovered e key nonce identifier code field) out (read e key nonce identifier code field out)
  unfolding read
  demand1_reading =
      demand1 order.reading (reading_rows e key nonce identifier code field out) (tabled.of_reading key nonce identifier code field (length out) (wrong_tag e key nonce identifier code field))
      (recovered e key nonce identifier code field) out

  -- Where reading accepts, no row before the tag's applies.
  pub accepted_clear : Accepts (read e key nonce identifier code field out) → ReadingClear key nonce identifier code field (length out) false
  accepted_clear a =
      let c = reading_clear key nonce identifier code field (length out) _ (demand1_reading.accepts.0 a) in
      rw c.authentic at c

  -- So it is for a field that a message makes, given room.
  pub makes_clear : (m : List ℕ) → Makes e key nonce identifier code m field → length m ≤ length out → ReadingClear key nonce identifier code field (length out) false
  makes_clear m makes room = record {
    common = makes.legal.common;
    coded = like_coded makes refl;
    announces = like_announces makes refl (made-announced makes);
    zeros = ap zero_bytes (made-filler makes) ∙ zeros_are (field_size (length m) - (length m + overhead));
    fits = omega (arith, made-announced makes, room);
    authentic = refl;
  }

  -- What the cipher makes from a message is, with its M and its filler, what the message makes.
  pub clear_makes : ReadingClear key nonce identifier code field (length out) false → (m : List ℕ) → cipher.Makes e key nonce (frame_ad identifier code) m (sealed_part field) → Makes e key nonce identifier code m field
  unfolding data_field
  clear_makes c m sealed = record {
    is_bytes = sealed.is_bytes;
    legal = record { common = c.common; message_fits = omega (arith, its, c.announces.message_fits) };
    its_code = ap field_code its ∙ sym c.announces.smallest;
    made =
        ap₂ (λ (n k : ℕ). joined n (payload e key nonce (frame_ad identifier k) m) (replicate (field_size n - (n + overhead)) 0)) its (ap field_code its ∙ sym c.announces.smallest)
        ∙ ap₂ (joined (announced field)) sealed.made (ap (λ (n : ℕ). replicate n 0) rest ∙ sym (zero_bytes_lem (filler field) c.zeros))
        ∙ sym (parted field c.announces.some);
  }
    where
      its : length m ≡ announced field
      its = omega (arith, length-payload e key nonce (frame_ad identifier code) m, ap length sealed.made, length-sealed_part key nonce identifier code field (length out) c)

      rest : field_size (announced field) - (announced field + overhead) ≡ length (filler field)
      rest = omega (arith, length-drop (announced field + overhead) field, c.coded.coded, ap coded_length c.announces.smallest)

  sealed-bytes : Bytes field → Bytes (sealed_part field)
  sealed-bytes b = Bytes-take (announced field + 8) (drop 1 field) (Bytes-drop 1 field b)

  -- The cipher's own demand 2 for the sealed part.
  opened2 : Bytes field → cipher.Demand2 e key nonce (frame_ad identifier code) (sealed_part field) out (opened e key nonce (frame_ad identifier code) (sealed_part field) out)
  opened2 b = cipher_proofs.demand2 e key nonce (frame_ad identifier code) (sealed_part field) out (sealed-bytes b)

  accepted-makes : Bytes field → Accepts (read e key nonce identifier code field out) → (m : List ℕ) × Makes e key nonce identifier code m field × (length m ≤ length out)
  accepted-makes b a =
      let c = accepted_clear a in
      let h = (opened2 b).accepts.0 (subst Accepts (read_opened e key nonce identifier code field out c) a) in
      (h.0, clear_makes c h.0 h.1, h.2)

  makes-read : Bytes field → (m : List ℕ) → Makes e key nonce identifier code m field → length m ≤ length out → read e key nonce identifier code field out ≡ success m out
  makes-read b m makes room = read_opened e key nonce identifier code field out (makes_clear m makes room) ∙ (opened2 b).returns m (made-payload makes) room

  pub demand2 : Bytes field → Demand2 e key nonce identifier code field out (read e key nonce identifier code field out)
  demand2 b = record {
    accepts = (accepted-makes b, λ h. (length h.0, ap (λ (o : Outcome). o.answer) (makes-read b h.0 h.1 h.2)));
    returns = makes-read b;
    unique = λ m n hm hn. (opened2 b).unique m n (made-payload hm) (made-payload hn);
  }
