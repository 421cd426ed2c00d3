use Rattle.std.proofs.Common.{◌≡◌, ◌∙◌, refl, sym, ap, List, Some, None}
use Rattle.std.specs.Prelude.{Option, option_map}
use Rattle.topology.specs.declared.types.NetFault.{NetFault}
use Rattle.topology.specs.Networks.{Network}
use Rattle.changes.specs.declared.types.ChangeFault.TheVariants as line
use Rattle.changes.specs.Changes.{ChangeValue}
use Rattle.changes.specs.Faults.{change_fault, fault_of_line}
use Rattle.changes.proofs.Lines.{says_at}
use Rattle.changes.proofs.judging.line_fault.Goals as goal

-- the fault of a line with the form of one
of_change : (n : Network) (all before : List ChangeValue) (o : Option ChangeValue) (c : ChangeValue) (f : Option NetFault) → o ≡ Some c → f ≡ change_fault n all before c → option_map line.Net f ≡ fault_of_line n all before o
of_change n all before o c f e h = ap (option_map line.Net) h ∙ ap (fault_of_line n all before) (sym e)

pub returns-in_default : goal.returns-in_default
returns-in_default g c = let e = says_at c.args.lines.now c.args.at c.index-lines-at.result None c.requires.0 c.in_default.is in rw e refl

pub returns-in_err-fault : goal.returns-in_err-fault
returns-in_err-fault g c =
    c.from_residual.ensures
    ∙ of_change c.args.network.now g.told.all g.told.before _ _ None (says_at c.args.lines.now c.args.at c.index-lines-at.result (Some c.in-Some.change) c.requires.0 c.in-Some.is) c.in_err-fault.ensures

pub returns : goal.returns
returns g c =
    of_change c.args.network.now g.told.all g.told.before _ _ (Some c.in_ok-fault.fault) (says_at c.args.lines.now c.args.at c.index-lines-at.result (Some c.in-Some.change) c.requires.0 c.in-Some.is) c.in_ok-fault.ensures
