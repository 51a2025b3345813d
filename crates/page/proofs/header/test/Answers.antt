use Rattle.page.proofs.HeaderTests.{frame_refused, length-refused, has_header, generation_last}
use Rattle.page.proofs.header.test.Goals as goal

pub returns-in_default : goal.returns-in_default
returns-in_default c = let s = c.args in
    frame_refused s.configuration.now s.page.now s.code s.n c.test_frame-frame.ensures c.in_default.is

pub returns-in_default-length : goal.returns-in_default-length
returns-in_default-length c = let s = c.args in
    length-refused s.configuration.now s.page.now s.code s.n c.test_frame-frame.ensures
    c.in-Ok.is c.slot_place.ensures
    c.test_length-length.ensures c.in_default-length.is

pub test_generation-requires : goal.test_generation-requires
test_generation-requires c = let s = c.args in record { has_types = c.requires; in_bounds = has_header s.configuration.now s.page.now s.code s.n c.test_frame-frame.ensures c.in-Ok.is c.slot_place.ensures c.test_length-length.ensures c.in-Ok-length.is }

pub returns : goal.returns
returns c = let s = c.args in
    generation_last s.configuration.now s.page.now s.code s.n
    c.test_frame-frame.ensures c.in-Ok.is
    c.slot_place.ensures c.test_length-length.ensures c.in-Ok-length.is
    c.test_generation.ensures
