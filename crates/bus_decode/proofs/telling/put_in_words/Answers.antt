use Rattle.bus_decode.proofs.telling.put_in_words.Goals as goal

pub returns : goal.returns
returns c = rw (c.as_slice.ensures.value, c.in_ok-words.ensures, c.bytes.ensures.value) at c.put_frame.ensures
