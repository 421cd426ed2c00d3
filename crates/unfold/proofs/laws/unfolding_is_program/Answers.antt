use Rattle.unfold.specs.Unfolding.{main_term}
use Rattle.unfold.proofs.Listing.{read_back}
use Rattle.unfold.proofs.Whole.{is_program}
use Rattle.unfold.proofs.laws.unfolding_is_program.Goals as goal

pub returns-clause-program : goal.returns-clause-program
returns-clause-program c = is_program

pub returns-clause-main : goal.returns-clause-main
returns-clause-main c = λ ds ns e. read_back ns (main_term ds) e
