-- `grainv1::crypt` meets its contract.
use mathlib.Core.Path.{refl, sym, ◌∙◌}
use Rattle.bits.proofs.Arrays.{unwrapped_same}
use Rattle.refusals.proofs.Returned.{handed_outcome}
use Rattle.grainv1.proofs.Calls.{passed_legal, demanded, crypting, crypt_failed, crypt_passed}
use Rattle.grainv1.proofs.crypt.Goals as goal

pub unwrap-requires : goal.unwrap-requires
unwrap-requires c = c.try_into.ensures.0 (passed_legal _ _ _ _ (sym c.judge.ensures ∙ c.in_ok-judge.was)).0.key_sized

pub unwrap-requires-2 : goal.unwrap-requires-2
unwrap-requires-2 c = c.try_into-2.ensures.0 (passed_legal _ _ _ _ (sym c.judge.ensures ∙ c.in_ok-judge.was)).0.nonce_sized

pub add-requires : goal.add-requires
add-requires c =
    let a = c.args in
    (passed_legal a.key.now a.nonce.now a.message.now a.out.now (sym c.judge.ensures ∙ c.in_ok-judge.was)).1

pub returns-in_err-judge : goal.returns-in_err-judge
returns-in_err-judge c =
    let a = c.args in
    let left = handed_outcome c.from_residual.result c.from_residual.ensures.1 (crypt_failed a.key.now a.nonce.now a.message.now a.out.now (sym c.judge.ensures ∙ c.in_err-judge.was)) in
    rw left (record { crypted = refl; demand1 = demanded _ _ _ _; crypting = crypting _ _ _ _ })

pub returns : goal.returns
returns c =
    let a = c.args in
    let key_same = unwrapped_same c.try_into.ensures c.unwrap.ensures in
    let nonce_same = unwrapped_same c.try_into-2.ensures c.unwrap-2.ensures in
    let left = crypt_passed a.key.now a.nonce.now a.message.now a.out.now (sym c.judge.ensures ∙ c.in_ok-judge.was) (rw (key_same, nonce_same) at c.begin-begun.ensures) c.add.ensures in
    rw left (record { crypted = refl; demand1 = demanded _ _ _ _; crypting = crypting _ _ _ _ })
