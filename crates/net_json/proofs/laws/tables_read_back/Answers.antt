use Rattle.net_json.proofs.RowsBack.{table_back}
use Rattle.net_json.proofs.laws.tables_read_back.Goals as goal

pub returns : goal.returns
returns c = table_back
