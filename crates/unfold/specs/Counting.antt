-- How many nodes an unfolding has, without making it.
use Rattle.std.specs.Prelude.{ℕ, suc, ◌+◌, if◌then◌else◌, List, [], ◌∷◌, ◌++◌, bytes_eq}
use Rattle.fc_syntax.specs.Terms.{SourceTerm, IntTerm, TruthTerm, VarTerm, UidTerm, NbrLinkTerm, SenseTerm, ApplyTerm, NbrTerm, RepTerm, ShareTerm, IfTerm, LetTerm, CallTerm, SourceTerms, NoTerms, MoreTerms, Declaration}
use Rattle.fc_types.specs.Before.{Function, nothing_declared, with_declarations}
use Rattle.unfold.specs.Unfolding.{main_expression}

-- a function's name, and the number of nodes of its body
pub record Count : Type 0 where
  pub name : List ℕ
  pub size : ℕ

abbrev pub size_of : List ℕ → List Count → ℕ
size_of x [] = 1
size_of x (c ∷ cs) = if bytes_eq x c.name then c.size else size_of x cs

abbrev mutual
  pub count : List Count → SourceTerm → ℕ
  count cs (IntTerm n) = 1
  count cs (TruthTerm b) = 1
  count cs (VarTerm x) = 1
  count cs UidTerm = 1
  count cs NbrLinkTerm = 1
  count cs (SenseTerm x) = 1
  count cs (ApplyTerm b es) = suc (count_all cs es)
  count cs (NbrTerm e) = suc (count cs e)
  count cs (RepTerm e x b) = suc (count cs e + count cs b)
  count cs (ShareTerm e x b) = suc (count cs e + count cs b)
  count cs (IfTerm c a b) = suc (count cs c + count cs a + count cs b)
  count cs (LetTerm x a b) = suc (count cs a + count cs b)
  count cs (CallTerm f es) = count_arguments cs es + size_of f cs

  pub count_all : List Count → SourceTerms → ℕ
  count_all cs NoTerms = 0
  count_all cs (MoreTerms e es) = count cs e + count_all cs es

  -- each argument with its `let`
  pub count_arguments : List Count → SourceTerms → ℕ
  count_arguments cs NoTerms = 0
  count_arguments cs (MoreTerms e es) = suc (count cs e + count_arguments cs es)

abbrev pub counts : List Count → List Function → List Count
counts cs [] = cs
counts cs (f ∷ fs) = counts (cs ++ record { name = f.name; size = count cs f.body } ∷ []) fs

abbrev pub main_count : List Declaration → ℕ
main_count ds = count (counts [] (with_declarations nothing_declared ds).functions) (main_expression ds)
