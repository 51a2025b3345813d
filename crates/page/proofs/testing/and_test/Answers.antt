use Rattle.refusals.proofs.Stages.{slots_told, count_stopped, count_gone_on}
use Rattle.page.proofs.testing.and_test.Goals as goal

pub returns-in_default : goal.returns-in_default
returns-in_default g c = λ a rest n h q. count_stopped a n h (λ m. rest) c.in_default.is

pub returns : goal.returns
returns g c = λ a rest n h q.
    let e = slots_told a n h c.in-Ok.is in
    count_gone_on a n h (λ m. rest) c.in-Ok.is (q _ (rw e.1 at c.test.ensures)) c.and.ensures
