-- Whole scripts, line by line.
use Rattle.std.proofs.Common.{ℕ, ◌≡◌, List, [], ◌∷◌, ◌++◌, length, map, refl, sym, ap, subst, ◌∙◌, append_assoc, append-nil}
use Rattle.fc_nodes.specs.Program.{Program, unfolding_of}
use Rattle.firing_core.specs.Cores.{Core, IsGood}
use Rattle.firing_core.specs.CoreViews.{CoreValue, core_of, program_of}
use Rattle.firing_core.specs.Laws.{PlainRunsKeepNet, RunsCut}
use Rattle.edit_commands.specs.declared.types.Line.{Line}
use Rattle.edit_commands.specs.JudgedCommands.{AreJudged, IsLeftBy, after_command}
use Rattle.edit_commands.specs.Scripts.{Progress, CommandValue, at_start, numbered}
use Rattle.session.specs.Conditions.{Allows}
use Rattle.session.specs.ScriptRuns.{DoesLine}
use Rattle.session.specs.declared.sessions.Session.{Session}
use Rattle.session.specs.Sessions.{AfterLine, HasRun}
use Rattle.session.proofs.Progress.{allowed, left_after}
use Rattle.session.proofs.Runs.{run_on}

-- a session that has done the first lines of a script, of which those that are left may come
pub record Upto (P : Program) (first : CoreValue) (all : List (ℕ × CommandValue)) (s : Session) (left : List Line) : Type 0 where
  pub done : List (ℕ × CommandValue)
  pub cut : all ≡ done ++ map numbered left
  pub run : HasRun P first done s
  pub progress : Progress
  pub stands : IsLeftBy (core_of first) progress (core_of s.book.core)
  pub judged : AreJudged (unfolding_of P) (core_of first) progress (map numbered left)

module _ (P : Program) (first : CoreValue) where
  pub upto_none : (all left : List Line) (s : Session) → left ≡ all → HasRun P first [] s
      → AreJudged (unfolding_of P) (core_of first) (at_start (core_of first).net) (map numbered all) → Upto P first (map numbered all) s left
  upto_none all left s e h j = record {
    done = [];
    cut = ap (map numbered) (sym e);
    run = h;
    progress = at_start (core_of first).net;
    stands = subst (λ (c : Core). IsLeftBy (core_of first) (at_start (core_of first).net) c) (sym h.run.does.1) (record { net = refl; flights = λ d. refl });
    judged = subst (λ (xs : List Line). AreJudged (unfolding_of P) (core_of first) (at_start (core_of first).net) (map numbered xs)) (sym e) j;
  }

  module _ (all : List (ℕ × CommandValue)) (s : Session) (left rest : List Line) (x : Line) (is : left ≡ x ∷ rest) (u : Upto P first all s left) where
    next : AreJudged (unfolding_of P) (core_of first) u.progress (numbered x ∷ map numbered rest)
    next = subst (λ (xs : List Line). AreJudged (unfolding_of P) (core_of first) u.progress (map numbered xs)) is u.judged

    pub may_do : Allows (unfolding_of s.book.program) (core_of s.book.core) (numbered x).1
    may_do =
        subst (λ (Q : Program). Allows (unfolding_of Q) (core_of s.book.core) (numbered x).1) (sym u.run.program)
        (allowed (unfolding_of P) (core_of first) u.progress (core_of s.book.core) u.stands (numbered x).1 next.0)

    pub one_done : PlainRunsKeepNet → RunsCut → IsGood (unfolding_of P) (core_of s.book.core) → (t : Session) → AfterLine (numbered x) s t → Upto P first all t rest
    one_done plain cut good t a =
        let row : DoesLine (unfolding_of P) (core_of s.book.core) (length s.book.log) (numbered x) a.added (core_of t.book.core) =
        subst (λ (Q : Program). DoesLine (unfolding_of Q) (core_of s.book.core) (length s.book.log) (numbered x) a.added (core_of t.book.core)) u.run.program a.does in
        record {
          done = u.done ++ numbered x ∷ [];
          cut = u.cut ∙ ap (λ (xs : List Line). u.done ++ map numbered xs) is ∙ sym (append_assoc u.done (numbered x ∷ []) (map numbered rest));
          run = run_on P first s t u.done (numbered x) u.run a;
          progress = after_command u.progress (numbered x).1;
          stands = left_after plain cut (unfolding_of P) (core_of first) u.progress (core_of s.book.core) (core_of t.book.core) (length s.book.log) (numbered x).0 a.added u.stands good (numbered x).1 next.0 row;
          judged = next.1;
        }

  pub all_done : (all : List (ℕ × CommandValue)) (s : Session) (left : List Line) → left ≡ [] → Upto P first all s left → HasRun P first all s
  all_done all s left e u =
      subst (λ l. HasRun P first l s) (sym (u.cut ∙ ap (λ (xs : List Line). u.done ++ map numbered xs) e ∙ append-nil u.done)) u.run

pub good_at : (P : Program) (k : CoreValue) (s : Session) → IsGood (program_of k) (core_of k) → k ≡ s.book.core → s.book.core.program ≡ s.book.program
    → s.book.program ≡ P → IsGood (unfolding_of P) (core_of s.book.core)
good_at P k s g e held program =
    subst (λ (Q : Program). IsGood (unfolding_of Q) (core_of s.book.core)) (held ∙ program)
    (subst (λ (c : CoreValue). IsGood (program_of c) (core_of c)) e g)
