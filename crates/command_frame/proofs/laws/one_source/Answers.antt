use Rattle.command_frame.proofs.OneReading.{one_source}
use Rattle.command_frame.proofs.laws.one_source.Goals as goal

pub returns : goal.returns
returns c =
    one_source c.one_reading.ensures.one_list c.one_reading.ensures.one_stop c.one_reading.ensures.never_both c.one_reading.ensures.always_one
    c.one_meaning.ensures.one_program c.one_meaning.ensures.one_fault c.one_meaning.ensures.never_both c.one_meaning.ensures.always_one
