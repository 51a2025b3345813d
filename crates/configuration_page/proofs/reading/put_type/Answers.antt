use Rattle.configuration_page.proofs.AcceptedPage.{headers_in}
use Rattle.configuration_page.proofs.TextStarts.{head_length, told_short, told_in, text_done}
use Rattle.configuration_page.proofs.PartsPut.{type_put}
use Rattle.configuration_page.proofs.reading.put_type.Goals as goal

pub head_told-head-requires : goal.head_told-head-requires
head_told-head-requires c = headers_in c.args.page.now c.requires.page_value

pub padded-text-requires : goal.padded-text-requires
padded-text-requires c = let p = c.args.page.now in
    let n = head_length p c.args.t c.head_told-head.ensures in
    record { n_in_bounds = rw (n, c.requires.start_value) (told_in p c.requires.page_value c.args.t c.requires.t_lt_most_types); n_le_most_text = rw n (told_short p c.requires.page_value c.args.t) }

pub returns : goal.returns
returns c = let p = c.args.page.now in
    let h = c.head_told-head.ensures in
    let n = head_length p c.args.t h in
    let x = c.padded-text.ensures in
    let t = text_done p c.requires.page_value c.args.t c.requires.start_value n x in
    let o = type_put p c.args.t c.args.configuration.now c.requires.t_lt_most_types c.requires.has_types h t
    c.type_place.ensures
    c.put_four.ensures
    c.text_place.ensures c.copy.ensures in
    record { value = n; configuration_after = o }
