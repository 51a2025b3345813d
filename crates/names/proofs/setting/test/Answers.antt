use native.Mathlib.Omega.{arith}
use Rattle.names.proofs.SettingTests.{past_last, no_name, a_name}
use Rattle.names.proofs.setting.test.Goals as goal

pub returns-then-n-number : goal.returns-then-n-number
returns-then-n-number c = let a = c.args in past_last a.number a.n a.text.now (omega arith)

pub returns-then-not-is_name : goal.returns-then-not-is_name
returns-then-not-is_name c = let a = c.args in
    no_name a.number a.n a.text.now (omega arith) c.is_name.ensures (c.if-not-is_name.true)

pub returns : goal.returns
returns c = let a = c.args in
    a_name a.number a.n a.text.now (omega arith) c.is_name.ensures (c.if-not-is_name.false)
