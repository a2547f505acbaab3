-- `grain128a::crypt` meets its contract.
use mathlib.Core.Path.{refl}
use Rattle.bits.proofs.Arrays.{unwrapped_same}
use Rattle.refusals.proofs.Returned.{handed_outcome}
use Rattle.limits.specs.Limits.{message_limit}
use Rattle.grain128a.proofs.Demand2.{demand1_crypting, crypting}
use Rattle.grain128a.proofs.Entry.{CryptChecked, crypt_failed, crypt-legal, crypt_passed}
use Rattle.grain128a.proofs.crypt.Goals.{After-judge_unauthenticated}
use Rattle.grain128a.proofs.crypt.Goals as goal

checked : (j : After-judge_unauthenticated) →
    let a = j.args in
    CryptChecked a.key.now a.nonce.now a.message.now a.out.now j.judge_unauthenticated.result
unfolding message_limit
checked j = record { checked = j.judge_unauthenticated.ensures }

pub unwrap-requires : goal.unwrap-requires
unwrap-requires c =
    c.try_into.ensures.0 (crypt-legal (checked (goal.at.unwrap-requires c).After-judge_unauthenticated) c.in_ok-judge_unauthenticated.was).0.common.key_sized

pub unwrap-requires-2 : goal.unwrap-requires-2
unwrap-requires-2 c =
    c.try_into-2.ensures.0 (crypt-legal (checked (goal.at.unwrap-requires-2 c).After-judge_unauthenticated) c.in_ok-judge_unauthenticated.was).0.common.nonce_sized

pub returns-in_err-judge_unauthenticated : goal.returns-in_err-judge_unauthenticated
returns-in_err-judge_unauthenticated c =
    let left = handed_outcome c.from_residual.result c.from_residual.ensures.1 (crypt_failed (checked (goal.at.returns-in_err-judge_unauthenticated c).After-judge_unauthenticated) c.in_err-judge_unauthenticated.was) in
    rw left (record { crypted = refl; demand1 = demand1_crypting _ _ _ _; crypting = crypting _ _ _ _ })

pub returns : goal.returns
returns c =
    let key_same = unwrapped_same c.try_into.ensures c.unwrap.ensures in
    let nonce_same = unwrapped_same c.try_into-2.ensures c.unwrap-2.ensures in
    let left = crypt_passed (checked (goal.at.returns c).After-judge_unauthenticated) c.in_ok-judge_unauthenticated.was (rw (key_same, nonce_same) at c.warm-warmed.ensures) c.add_keystream.ensures in
    rw left (record { crypted = refl; demand1 = demand1_crypting _ _ _ _; crypting = crypting _ _ _ _ })
