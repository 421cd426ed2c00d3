use Rattle.bound_texts.proofs.KnownTexts.{exact_text, known_text}
use Rattle.bound_texts.proofs.laws.known_bounds_read_as_values.Goals as goal

pub returns-clause-exact : goal.returns-clause-exact
returns-clause-exact c = exact_text

pub returns-clause-known : goal.returns-clause-known
returns-clause-known c = known_text
