-- `grain128aead::by_edition::open` meets its contract.
use mathlib.Core.Path.{◌≡◌, refl, ap, ◌∙◌}
use mathlib.Core.List.{List}
use Prim.Native.Nat.{ℕ, ◌+◌}
use native.Mathlib.Omega.{arith}
use lib.Dec.{ltb}
use lib.ListN.{length}
use Rattle.bits.specs.Bytes.{Bytes}
use Rattle.bits.proofs.Arrays.{unwrapped_same}
use Rattle.refusals.specs.Refusals.{Check}
use Rattle.refusals.proofs.Returned.{handed_outcome}
use Rattle.tagged.proofs.Entry.{no_room}
use Rattle.payload.specs.Sizes.{tag_size}
use Rattle.limits.specs.Limits.{message_limit}
use Rattle.grain128aead.specs.Sizes.{ad_limit}
use Rattle.grain128aead.proofs.Demand2.{demand1_opening, demand2}
use Rattle.grain128aead.proofs.Demand3.{demand3}
use Rattle.grain128aead.proofs.Substitution.{substitution}
use Rattle.grain128aead.proofs.Entry.{OpenChecked, Compared, open_failed, open_clear, open_reaches, open_passed, open_differs}
use Rattle.grain128aead.proofs.Settled.{judgement, opening_judgement}
use Rattle.grain128aead.proofs.by_edition.open.Goals.{After-judge, After-number}
use Rattle.grain128aead.proofs.by_edition.open.Goals as goal

sized : (key nonce ad input lent : List ℕ) {c : Check} → c ≡ judgement key nonce ad (ltb (message_limit + tag_size) (length input)) (ltb (length input) tag_size) (ltb (length lent + 8) (length input)) → c ≡ opening_judgement key nonce ad input lent
sized key nonce ad input lent e = e ∙ ap (judgement key nonce ad (ltb (message_limit + tag_size) (length input)) (ltb (length input) tag_size)) (no_room tag_size (length lent) (length input))

checked : (j : After-judge) →
    let a = j.args in
    OpenChecked a.key.now a.nonce.now a.ad.now a.input.now a.out.now j.judge.result
unfolding ad_limit message_limit
checked j =
    let a = j.args in
    record { checked = sized a.key.now a.nonce.now a.ad.now a.input.now a.out.now j.judge.ensures }

is-bytes : (j : After-judge) → Bytes j.args.input.now
is-bytes j i = omega (arith, j.type_inv.input i)

compared : (n : After-number) →
    let a = n.args in
    Compared a.edition a.key.now a.nonce.now a.ad.now a.input.now n.begin-begun.result n.decipher_all-done.result n.finish.result n.number.result
compared n =
    let key_same = unwrapped_same n.try_into.ensures n.unwrap.ensures in
    let nonce_same = unwrapped_same n.try_into-2.ensures n.unwrap-2.ensures in
    record {
      is_bytes = λ i. omega (arith, n.type_inv.input i);
      began = rw (key_same, nonce_same) at n.begin-begun.ensures;
      ran = rw n.ciphertext_part-ciphertext.ensures at n.decipher_all-done.ensures;
      tagged = n.finish.ensures;
      small = omega (arith, n.finish.type_inv);
      spelled = rw n.tag_part.ensures at n.number.ensures;
    }

pub unwrap-requires : goal.unwrap-requires
unwrap-requires c =
    c.try_into.ensures.0 (open_clear (checked (goal.at.unwrap-requires c).After-judge) c.in_ok-judge.was).key_sized

pub unwrap-requires-2 : goal.unwrap-requires-2
unwrap-requires-2 c =
    c.try_into-2.ensures.0 (open_clear (checked (goal.at.unwrap-requires-2 c).After-judge) c.in_ok-judge.was).nonce_sized

pub overflow_sub-result : goal.overflow_sub-result
overflow_sub-result c =
    omega (arith, open_reaches (checked (goal.at.overflow_sub-result c).After-judge) c.in_ok-judge.was)

pub returns-in_err-judge : goal.returns-in_err-judge
returns-in_err-judge c =
    let a = c.args in
    let is_bytes = is-bytes (goal.at.returns-in_err-judge c).After-judge in
    let left = handed_outcome c.from_residual.result c.from_residual.ensures.1 (open_failed (checked (goal.at.returns-in_err-judge c).After-judge) a.edition c.in_err-judge.was) in
    rw left (record { opened = refl; demand1 = demand1_opening _ _ _ _ _ _; demand2 = demand2 _ _ _ _ _ _ is_bytes; demand3 = demand3 _ _ _ _ _ _; substitution = substitution _ _ _ _ _ _ is_bytes })

pub returns : goal.returns
returns c =
    let is_bytes = is-bytes (goal.at.returns c).After-judge in
    let left = open_passed (checked (goal.at.returns c).After-judge) c.in_ok-judge.was (compared (goal.at.returns c).After-number) c.if-finish-number.false (rw c.ciphertext_part-ciphertext.ensures at c.add_keystream.ensures) in
    rw left (record { opened = refl; demand1 = demand1_opening _ _ _ _ _ _; demand2 = demand2 _ _ _ _ _ _ is_bytes; demand3 = demand3 _ _ _ _ _ _; substitution = substitution _ _ _ _ _ _ is_bytes })

pub returns-then-finish-number : goal.returns-then-finish-number
returns-then-finish-number c =
    let is_bytes = is-bytes (goal.at.returns-then-finish-number c).After-judge in
    let left = open_differs (checked (goal.at.returns-then-finish-number c).After-judge) c.in_ok-judge.was (compared (goal.at.returns-then-finish-number c).After-number) c.if-finish-number.true in
    rw left (record { opened = refl; demand1 = demand1_opening _ _ _ _ _ _; demand2 = demand2 _ _ _ _ _ _ is_bytes; demand3 = demand3 _ _ _ _ _ _; substitution = substitution _ _ _ _ _ _ is_bytes })
