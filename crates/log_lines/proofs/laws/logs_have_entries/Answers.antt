use Rattle.log_lines.proofs.EntriesOfLogs as proof
use Rattle.log_lines.proofs.laws.logs_have_entries.Goals as goal

pub returns : goal.returns
returns c = proof.logs_have_entries c.lists_have_exports.ensures
