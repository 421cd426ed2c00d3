-- The script run of a scenario's lines: pokes, and then a stretch of rounds.
use Rattle.std.proofs.Common.{ℕ, ◌≡◌, ◌+◌, ◌-◌, List, [], ◌∷◌, ◌++◌, length, map, take, drop, refl, sym, ap, ap₂, subst, ◌∙◌, arith, append-nil, cond}
use Rattle.std.specs.Prelude.{count_by}
use Rattle.std.proofs.lemmas.List.{length-append, take_all}
use Rattle.std.proofs.lemmas.List.Sums.{sum_by-cons, sum_by-append}
use Rattle.fc_values.specs.Exports.{FlatExport}
use Rattle.fc_nodes.specs.Program.{Unfolding}
use Rattle.firing_core.specs.declared.entries.Part.{Part}
use Rattle.firing_core.specs.Cores.{Core, Run}
use Rattle.firing_core.specs.Entries.{EntryValue}
use Rattle.firing_core.specs.Stretches.{RunStretch}
use Rattle.session.specs.ScriptRuns.{Added, DoesLines, RunsRounds, Scrambles, ScriptRun, nothing, both, part_of, poke}
use Rattle.session.specs.Shown.{Shown}
use Rattle.edit_commands.specs.Scripts.{RunCommand}
use Rattle.fc_gen.specs.Code.{FirstWithin}
use Rattle.fc_gen.specs.Gens.{scenario_lines}
use Rattle.fc_gen.specs.Summaries.{firings_in, is_end}

pub record Cut (U : Unfolding) (start : Core) (rounds : ℕ) (log : List EntryValue) (parts : List Part) (last : Core) : Type 0 where
  pub middle : Core
  pub rubbish : List (ℕ × FlatExport)
  pub run : List EntryValue
  pub cut : log ≡ map poke rubbish ++ run
  pub leads : Run U start (map poke rubbish) middle
  pub stretch : RunStretch U middle rounds run last
  pub part : parts ≡ part_of 2 rounds (length (map poke rubbish)) (length (map poke rubbish) + length run) ∷ []

abbrev made : List EntryValue → List Part → List Shown → Added
made s p l = record { stretch = s; parts = p; shown = l }

module _ (U : Unfolding) (start : Core) (number rounds : ℕ) where
  one_line : (middle last : Core) (at : ℕ) (a : Added) → DoesLines U middle at ((2, RunCommand rounds) ∷ []) a last
      → RunsRounds U middle at 2 rounds a last
  one_line middle last at a h =
      let same : a ≡ h.0 = h.3 ∙ ap (both h.0) h.5.0 ∙ all_of h.0 in
      subst (λ (b : Added). RunsRounds U middle at 2 rounds b last) (sym same)
      (subst (λ (c : Core). RunsRounds U middle at 2 rounds h.0 c) (sym h.5.1) h.4)
    where
      all_of : (b : Added) → both b nothing ≡ b
      all_of b =
          ap₂ (λ s p. made s p (b.shown ++ [])) (append-nil b.stretch) (append-nil b.parts)
          ∙ ap (made b.stretch b.parts) (append-nil b.shown)

  pub cut_of : (log : List EntryValue) (parts : List Part) (text : List ℕ) (last : Core)
      → ScriptRun U start (scenario_lines number rounds) log parts text last → Cut U start rounds log parts last
  cut_of log parts text last r =
      let d = r.does in
      let scrambles : Scrambles U start number d.0 d.2 = d.4 in
      let runs = one_line d.2 last (0 + length d.0.stretch) d.1 d.5 in
      let pokes = scrambles.stretch in
      let from : 0 + length d.0.stretch ≡ length (map poke scrambles.rubbish) = omega (arith, ap length pokes) in
      let to : (0 + length d.0.stretch) + length d.1.stretch ≡ length (map poke scrambles.rubbish) + length d.1.stretch = omega (arith, from) in
      record {
        middle = d.2;
        rubbish = scrambles.rubbish;
        run = d.1.stretch;
        cut = ap (λ (a : Added). a.stretch) d.3 ∙ ap (λ l. l ++ d.1.stretch) pokes;
        leads = subst (λ l. Run U start l d.2) pokes scrambles.leads;
        stretch = runs.runs;
        part = ap (λ (a : Added). a.parts) d.3 ∙ ap (λ l. l ++ d.1.parts) scrambles.none ∙ runs.part
            ∙ ap₂ (λ m n. part_of 2 rounds m n ∷ []) from to;
      }

-- ---- the part, and what ends in it
poked : (xs : List (ℕ × FlatExport)) → count_by is_end (map poke xs) ≡ 0
poked [] = refl
poked (x ∷ xs) = let ih = poked xs in sum_by-cons (λ e. cond (is_end e) 1 0) (poke x) (map poke xs) ∙ omega (arith, ih)

behind : (xs ys : List EntryValue) → drop (length xs) (xs ++ ys) ≡ ys
behind [] ys = refl
behind (x ∷ xs) ys = behind xs ys

module _ (U : Unfolding) (start last : Core) (rounds : ℕ) (log : List EntryValue) (parts : List Part) (c : Cut U start rounds log parts last) where
  abbrev pokes : List EntryValue
  pokes = map poke c.rubbish

  pub within : FirstWithin (length log) parts
  within =
      let long : length log ≡ length pokes + length c.run = ap length c.cut ∙ length-append pokes c.run in
      subst (FirstWithin (length log)) (sym c.part) (record { order = omega arith; end = omega (arith, long) })

  pub run_firings : firings_in log parts ≡ count_by is_end c.run
  run_firings =
      let n : (length pokes + length c.run) - length pokes ≡ length c.run = omega arith in
      ap₂ firings_in c.cut c.part
      ∙ ap₂ (λ m l. count_by is_end (take m l)) n (behind pokes c.run)
      ∙ ap (count_by is_end) (take_all (length c.run) c.run (omega arith))

  -- nothing else ends in the log
  pub firings : firings_in log parts ≡ count_by is_end log
  firings =
      let none : count_by is_end (map poke c.rubbish) ≡ 0 = poked c.rubbish in
      let both = sum_by-append (λ e. cond (is_end e) 1 0) pokes c.run in
      let whole : count_by is_end log ≡ count_by is_end (pokes ++ c.run) = ap (count_by is_end) c.cut in
      run_firings ∙ omega (arith, none, both, whole)
