-- A copy evaluates to one export.
use Rattle.std.proofs.Common.{◌≡◌, ap₂, []}
use Rattle.fc_values.specs.Values.{LocalValue}
use Rattle.fc_values.specs.Fields.{ValueLocal}
use Rattle.fc_values.specs.Trees.{Tree, TreeExport, Copy}
use Rattle.fc_nodes.specs.Program.{Unfolding}
use Rattle.device_eval.specs.Copies.{env_of, situation_of, EvaluatesCopy}
use Rattle.device_eval.proofs.Agree.{one_outcome}

abbrev export_with : LocalValue → Tree → TreeExport
export_with v t = record { value = v; tree = t }

same_export : (e f : TreeExport) → ValueLocal e.value ≡ ValueLocal f.value → e.tree ≡ f.tree → e ≡ f
same_export e f v t = let same : e.value ≡ f.value = cc in ap₂ export_with same t

pub one_evaluation : (U : Unfolding) (s : Copy) (e f : TreeExport) → EvaluatesCopy U s e → EvaluatesCopy U s f → e ≡ f
one_evaluation U s e f v w =
    let same = one_outcome (situation_of U.declared s) 0 U.main [] (env_of s) (ValueLocal e.value) (ValueLocal f.value)
    e.tree f.tree v.main w.main in
    same_export e f same.0 same.1
