use Rattle.std.proofs.Common.{◌⊎◌, inl, inr}
use Rattle.fc_values.specs.Types.{ValueType}
use Rattle.fc_syntax.specs.Terms.{SourceTerm}
use Rattle.fc_types.specs.declared.faults.TypeKind.{TypeKind}
use Rattle.fc_types.specs.Before.{Earlier, Scope}
use Rattle.fc_types.specs.Laws.{OneType, OneFaultIn, NoTypeWithFault}
use Rattle.fc_types.specs.Typing.{HasType}
use Rattle.fc_types.specs.Faults.{FirstFaultIn}
use Rattle.fc_types.specs.Judging.{JudgedType, TypeFound, FaultFound, judge}
use Rattle.fc_types.proofs.Judged.{JudgementHolds, judged, type_judged, fault_judged}
use Rattle.fc_types.proofs.laws.one_type.Goals as goal

same_type : OneType
same_type B scope e s t h h' = let i = type_judged h in let j = type_judged h' in cc

same_fault : OneFaultIn
same_fault B scope e k l h h' = let i = fault_judged h in let j = fault_judged h' in cc

one_of : (B : Earlier) (scope : Scope) (e : SourceTerm) (j : JudgedType) → JudgementHolds B scope e j → ((t : ValueType) × HasType B scope e t) ⊎ ((k : TypeKind) × FirstFaultIn B scope e k)
one_of B scope e (TypeFound t) h = inl (t, h)
one_of B scope e (FaultFound k) h = inr (k, h)

neither : NoTypeWithFault
neither B scope e t k h h' = let i = type_judged h in let j = fault_judged h' in cc

pub returns-clause-one_type : goal.returns-clause-one_type
returns-clause-one_type c = same_type

pub returns-clause-one_fault : goal.returns-clause-one_fault
returns-clause-one_fault c = same_fault

pub returns-clause-either : goal.returns-clause-either
returns-clause-either c = λ B scope e. one_of B scope e (judge B scope e) (judged B scope e)

pub returns-clause-not_both : goal.returns-clause-not_both
returns-clause-not_both c = neither
