use Rattle.configuration_page.proofs.Refusals.{frame_refused, length-refused, length_known, bytes_last}
use Rattle.configuration_page.proofs.reading.test.Goals as goal

pub returns-in_default : goal.returns-in_default
returns-in_default c = frame_refused c.args.page.now c.test_frame-frame.ensures
    c.in_default.is c.of_page.ensures

pub returns-in_default-length : goal.returns-in_default-length
returns-in_default-length c = length-refused c.args.page.now
    c.test_frame-frame.ensures c.in-Ok.is
    c.test_length-length.ensures c.in_default-length.is c.of_page-in_default-length.ensures

pub test_bytes-requires : goal.test_bytes-requires
test_bytes-requires c = let all = length_known c.args.page.now
    c.test_frame-frame.ensures c.in-Ok.is
    c.test_length-length.ensures c.in-Ok-length.is in record { page_value = all.0; page_len = all.1 }

pub returns : goal.returns
returns c = bytes_last c.args.page.now
    c.test_frame-frame.ensures c.in-Ok.is
    c.test_length-length.ensures c.in-Ok-length.is c.test_bytes.ensures
