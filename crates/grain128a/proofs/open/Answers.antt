-- `grain128a::open` meets its contract.
use mathlib.Core.Path.{◌≡◌, refl, ap, ◌∙◌}
use mathlib.Core.List.{List}
use Prim.Native.Nat.{ℕ, ◌+◌, ◌-◌}
use native.Mathlib.Omega.{arith}
use lib.Dec.{ltb}
use lib.ListN.{length}
use Rattle.bits.specs.Bytes.{Bytes}
use Rattle.bits.proofs.Arrays.{unwrapped_same}
use Rattle.refusals.specs.Refusals.{Check}
use Rattle.refusals.proofs.Returned.{handed_outcome}
use Rattle.limits.specs.Limits.{message_limit}
use Rattle.tagged.proofs.Entry.{no_room}
use Rattle.grain128a.specs.Payload.{tag_size}
use Rattle.grain128a.proofs.Settled.{judgement, opening_judgement}
use Rattle.grain128a.proofs.Demand2.{demand1_opening, demand2}
use Rattle.grain128a.proofs.Demand3.{demand3, past-tag}
use Rattle.grain128a.proofs.Entry.{OpenChecked, Compared, open_failed, open_clear, open_reaches, open_passed, open_differs}
use Rattle.grain128a.proofs.open.Goals.{After-judge_authenticated, After-number}
use Rattle.grain128a.proofs.open.Goals as goal

sized : (w : ℕ) (key nonce input lent : List ℕ) (size : ℕ) {c : Check} → size ≡ tag_size w
    → c ≡ judgement w key nonce (ltb (message_limit + size) (length input)) (ltb (length input) size) (ltb (length lent + size) (length input)) → c ≡ opening_judgement w key nonce input lent
sized w key nonce input lent size s e =
    e ∙ ap (judgement w key nonce (ltb (message_limit + size) (length input)) (ltb (length input) size)) (no_room size (length lent) (length input))
    ∙ ap (λ (k : ℕ). judgement w key nonce (ltb (message_limit + k) (length input)) (ltb (length input) k) (ltb (length lent) (length input - k))) s

checked : (j : After-judge_authenticated) →
    let a = j.args in
    OpenChecked a.tag_bits a.key.now a.nonce.now a.input.now a.out.now j.judge_authenticated.result
unfolding message_limit
checked j =
    let a = j.args in
    record { checked = sized a.tag_bits a.key.now a.nonce.now a.input.now a.out.now j.size-size.result j.size-size.ensures j.judge_authenticated.ensures }

is-bytes : (j : After-judge_authenticated) → Bytes j.args.input.now
is-bytes j i = omega (arith, j.type_inv.input i)

compared : (n : After-number) →
    let a = n.args in
    Compared a.tag_bits a.key.now a.nonce.now a.input.now n.begin-begun.result n.decipher_all-done.result n.finish.result n.number.result
compared n =
    let size = n.size-size.ensures in
    let key_same = unwrapped_same n.try_into.ensures n.unwrap.ensures in
    let nonce_same = unwrapped_same n.try_into-2.ensures n.unwrap-2.ensures in
    record {
      is_bytes = λ i. omega (arith, n.type_inv.input i);
      began = record { cuts = rw (key_same, nonce_same) at n.begin-begun.ensures };
      ran = rw size at (rw n.ciphertext_part-ciphertext.ensures at n.decipher_all-done.ensures);
      tagged = n.finish.ensures;
      spelled = rw size at (rw n.tag_part.ensures at n.number.ensures);
    }

pub unwrap-requires : goal.unwrap-requires
unwrap-requires c =
    c.try_into.ensures.0 (open_clear (checked (goal.at.unwrap-requires c).After-judge_authenticated) c.in_ok-judge_authenticated.was).common.key_sized

pub unwrap-requires-2 : goal.unwrap-requires-2
unwrap-requires-2 c =
    c.try_into-2.ensures.0 (open_clear (checked (goal.at.unwrap-requires-2 c).After-judge_authenticated) c.in_ok-judge_authenticated.was).common.nonce_sized

pub finish-requires : goal.finish-requires
finish-requires c =
    (open_clear (checked (goal.at.finish-requires c).After-judge_authenticated) c.in_ok-judge_authenticated.was).tag_fits

pub overflow_sub-result : goal.overflow_sub-result
overflow_sub-result c =
    omega (arith, open_reaches (checked (goal.at.overflow_sub-result c).After-judge_authenticated) c.in_ok-judge_authenticated.was, c.size-size.ensures)

pub returns-in_err-judge_authenticated : goal.returns-in_err-judge_authenticated
returns-in_err-judge_authenticated c =
    let left = handed_outcome c.from_residual.result c.from_residual.ensures.1 (open_failed (checked (goal.at.returns-in_err-judge_authenticated c).After-judge_authenticated) c.in_err-judge_authenticated.was) in
    rw left (record { opened = refl; demand1 = demand1_opening _ _ _ _ _; demand2 = demand2 _ _ _ _ _ (is-bytes (goal.at.returns-in_err-judge_authenticated c).After-judge_authenticated); demand3 = demand3 _ _ _ _ _; past = past-tag _ _ _ _ _ })

pub returns : goal.returns
returns c =
    let size = c.size-size.ensures in
    let left = open_passed (checked (goal.at.returns c).After-judge_authenticated) c.in_ok-judge_authenticated.was (compared (goal.at.returns c).After-number) c.if-finish-number.false
    (rw size at (rw c.ciphertext_part-ciphertext.ensures at c.add_keystream.ensures)) in
    rw (size, left) (record { opened = refl; demand1 = demand1_opening _ _ _ _ _; demand2 = demand2 _ _ _ _ _ (is-bytes (goal.at.returns c).After-judge_authenticated); demand3 = demand3 _ _ _ _ _; past = past-tag _ _ _ _ _ })

pub returns-then-finish-number : goal.returns-then-finish-number
returns-then-finish-number c =
    let left = open_differs (checked (goal.at.returns-then-finish-number c).After-judge_authenticated) c.in_ok-judge_authenticated.was (compared (goal.at.returns-then-finish-number c).After-number) c.if-finish-number.true in
    rw left (record { opened = refl; demand1 = demand1_opening _ _ _ _ _; demand2 = demand2 _ _ _ _ _ (is-bytes (goal.at.returns-then-finish-number c).After-judge_authenticated); demand3 = demand3 _ _ _ _ _; past = λ _ _ _ _ _ _. refl })
