use Rattle.refusals.proofs.Stages.{slots_told, page_count_refused, page_count_passed}
use Rattle.page.proofs.testing.and_test_bytes.Goals as goal

pub returns-in_default : goal.returns-in_default
returns-in_default g c = λ a rest n h q. page_count_refused a n h (λ m. rest) c.in_default.is c.and.ensures c.of_page.ensures

pub returns : goal.returns
returns g c = λ a rest n h q.
    let e = slots_told a n h c.in-Ok.is in
    page_count_passed a n h (λ m. rest) c.in-Ok.is (q _ (rw e.1 at c.test.ensures))
