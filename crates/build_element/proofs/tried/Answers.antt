use Rattle.build_element.proofs.RequestBytes.{coded_is, uncoded_is}
use Rattle.build_element.proofs.tried.Goals as goal

pub returns-then-v-lt2 : goal.returns-then-v-lt2
returns-then-v-lt2 c = let s = c.args in uncoded_is s.kind s.wanted s.v c.of-w.ensures c.if-v-lt2.true c.request.ensures c.request_bytes.ensures

pub returns-else-v-lt2 : goal.returns-else-v-lt2
returns-else-v-lt2 c = let s = c.args in coded_is s.kind s.wanted s.v c.of-w.ensures c.if-v-lt2.false c.request-else-v-lt2.ensures c.request_bytes-else-v-lt2.ensures
