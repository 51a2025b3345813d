use Rattle.descriptor_record.proofs.Refusals.{frame_refused, said, length-refused, has_header, generation_last}
use Rattle.descriptor_record.proofs.reading.test_head.Goals as goal

pub returns-in_default : goal.returns-in_default
returns-in_default c = let s = c.args in
    frame_refused s.configuration.now s.page.now s.n c.test_frame-frame.ensures c.in_default.is

pub test_length-length-requires : goal.test_length-length-requires
test_length-length-requires c = let s = c.args in
    said s.configuration.now s.page.now s.n c.test_frame-frame.ensures c.in-Ok.is

pub returns-in_default-length : goal.returns-in_default-length
returns-in_default-length c = let s = c.args in
    length-refused s.configuration.now s.page.now s.n c.test_frame-frame.ensures c.in-Ok.is
    c.test_length-length.ensures c.in_default-length.is

pub test_generation-requires : goal.test_generation-requires
test_generation-requires c = let a = c.args in record {
  has_types = c.requires;
  in_bounds = has_header a.configuration.now a.page.now a.n c.test_frame-frame.ensures c.in-Ok.is
      c.test_length-length.ensures c.in-Ok-length.is;
}

pub returns : goal.returns
returns c = let s = c.args in
    generation_last s.configuration.now s.page.now s.n c.test_frame-frame.ensures c.in-Ok.is
    c.test_length-length.ensures c.in-Ok-length.is c.test_generation.ensures
