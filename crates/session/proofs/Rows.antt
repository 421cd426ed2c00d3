-- What the code has made of a session, as the row of its line.
use Rattle.std.proofs.Common.{ℕ, ◌≡◌, ◌+◌, ◌-◌, List, [], ◌∷◌, ◌++◌, length, map, refl, sym, ap, ◌∙◌, arith, append-nil}
use Rattle.fc_nodes.specs.Program.{unfolding_of}
use Rattle.firing_core.specs.declared.entries.Part.{Part}
use Rattle.firing_core.specs.Books.{BookValue}
use Rattle.firing_core.specs.CoreViews.{core_of}
use Rattle.firing_core.specs.Entries.{EditValue, BeginEntry, EditEntry, entries_of}
use Rattle.firing_core.specs.Rounds.{after_edit}
use Rattle.firing_core.specs.Stretches.{IsMixed, RanRounds, MixedEdit}
use Rattle.edit_commands.specs.Scripts.{RunCommand, EditCommand, ScrambleCommand, ShowCommand, MixCommand}
use Rattle.session.specs.Growing.{GrewBy, Scrambled}
use Rattle.session.specs.ScriptRuns.{part_of, shown_after, poke}
use Rattle.session.specs.declared.sessions.Session.{Session}
use Rattle.session.specs.Sessions.{AfterLine}
use Rattle.session.specs.Shown.{ShowsValues, shown_text, all_shown}
use Rattle.session.proofs.Places.{end_of, mix_place}

unchanged : {X : Type 0} (old new : List X) → new ≡ old → new ≡ old ++ []
unchanged old new e = e ∙ sym (append-nil old)

same_part : (line rounds a b c d : ℕ) → a ≡ c → b ≡ d → part_of line rounds a b ≡ part_of line rounds c d
same_part line rounds a b c d e f = ap (λ n. part_of line rounds n b) e ∙ ap (part_of line rounds c) f

module _ (s t : Session) (line : ℕ) where
  pub after_run : (rounds first after : ℕ) → RanRounds s.book rounds t.book → first ≡ length s.book.log → after ≡ length t.book.log
      → t.parts.items ≡ s.parts.items ++ part_of line rounds first after ∷ [] → t.text.items ≡ s.text.items → AfterLine (line, RunCommand rounds) s t
  after_run rounds first after r f g parts text = record {
    program = r.program;
    start = r.start;
    added = record { stretch = r.part; parts = part_of line rounds first after ∷ []; shown = [] };
    log = r.log;
    parts = parts;
    text = unchanged s.text.items t.text.items text;
    does = record {
      runs = r.stretch;
      part = ap (λ p. p ∷ []) (same_part line rounds first after (length s.book.log) (length s.book.log + length r.part) f (g ∙ end_of s.book.log t.book.log r.part r.log));
      silent = refl;
    };
  }

  pub after_mix : (rounds first after : ℕ) (e : EditValue) → IsMixed e → MixedEdit s.book rounds e t.book
      → first ≡ after - length (after_edit (entries_of t.book.log)) → after ≡ length t.book.log
      → t.parts.items ≡ s.parts.items ++ part_of line rounds first after ∷ [] → t.text.items ≡ s.text.items → AfterLine (line, MixCommand rounds e) s t
  after_mix rounds first after e x r f g parts text =
      let m = r.stretch in
      let place = mix_place s.book.log t.book.log r.part (m.before ++ BeginEntry m.first ∷ m.among) m.after e r.log m.cut m.plain_after in
      let from : first ≡ length s.book.log + (length r.part - length m.after) =
      f ∙ ap (λ n. n - length (after_edit (entries_of t.book.log))) g ∙ place.place in
      record {
        program = r.program;
        start = r.start;
        added = record { stretch = r.part; parts = part_of line rounds first after ∷ []; shown = [] };
        log = r.log;
        parts = parts;
        text = unchanged s.text.items t.text.items text;
        does = record {
          mixed = x;
          mixes = m;
          place = length r.part - length m.after;
          behind = let short = place.short in omega arith;
          part = ap (λ p. p ∷ []) (same_part line rounds first after _ (length s.book.log + length r.part) from (g ∙ end_of s.book.log t.book.log r.part r.log));
          silent = refl;
        };
      }

  pub after_edit_line : (e : EditValue) → GrewBy s.book (EditEntry e ∷ []) t.book → t.parts.items ≡ s.parts.items
      → t.text.items ≡ s.text.items ++ all_shown (shown_after (unfolding_of s.book.program) line e (core_of t.book.core)) → AfterLine (line, EditCommand e) s t
  after_edit_line e g parts text = record {
    program = g.program;
    start = g.start;
    added = record { stretch = EditEntry e ∷ []; parts = []; shown = shown_after (unfolding_of s.book.program) line e (core_of t.book.core) };
    log = g.log;
    parts = unchanged s.parts.items t.parts.items parts;
    text = text;
    does = record { stretch = refl; leads = g.leads; none = refl; shows = refl };
  }

  pub after_scramble : (number : ℕ) → Scrambled number s.book t.book → t.parts.items ≡ s.parts.items → t.text.items ≡ s.text.items → AfterLine (line, ScrambleCommand number) s t
  after_scramble number g parts text = record {
    program = g.grew.program;
    start = g.grew.start;
    added = record { stretch = map poke g.rubbish; parts = []; shown = [] };
    log = g.grew.log;
    parts = unchanged s.parts.items t.parts.items parts;
    text = unchanged s.text.items t.text.items text;
    does = record { rubbish = g.rubbish; drawn = g.drawn; stretch = refl; leads = g.grew.leads; none = refl; silent = refl };
  }

  pub after_show : t.book ≡ s.book → t.parts.items ≡ s.parts.items → t.text.items ≡ s.text.items ++ shown_text (ShowsValues line (core_of s.book.core))
      → AfterLine (line, ShowCommand) s t
  after_show b parts text = record {
    program = ap (λ (k : BookValue). k.program) b;
    start = ap (λ (k : BookValue). k.start) b;
    added = record { stretch = []; parts = []; shown = ShowsValues line (core_of s.book.core) ∷ [] };
    log = ap (λ (k : BookValue). entries_of k.log) b ∙ sym (append-nil (entries_of s.book.log));
    parts = unchanged s.parts.items t.parts.items parts;
    text = text ∙ ap (λ l. s.text.items ++ l) (sym (append-nil (shown_text (ShowsValues line (core_of s.book.core)))));
    does = record { stretch = refl; same = ap (λ (k : BookValue). core_of k.core) b; none = refl; shows = refl };
  }
