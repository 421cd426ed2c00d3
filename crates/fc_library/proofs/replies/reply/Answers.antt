use Rattle.command_frame.specs.Code.{value_of}
use Rattle.fc_library.proofs.Replying.{is_reply}
use Rattle.fc_library.proofs.replies.reply.Goals as goal

pub returns-clause-replies : goal.returns-clause-replies
returns-clause-replies c =
    is_reply c.in_ok-asked.asked c.args.words.now c.args.input.now (value_of c.in_ok-answer.answer) c.answers_keep.ensures
    c.answer_statuses.ensures c.in_ok-asked.ensures c.in_ok-answer.ensures.answers
