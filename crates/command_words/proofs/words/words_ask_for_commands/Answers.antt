use Rattle.command_words.proofs.Enough.{words_ask}
use Rattle.command_words.proofs.words.words_ask_for_commands.Goals as goal

pub returns : goal.returns
returns c = words_ask
