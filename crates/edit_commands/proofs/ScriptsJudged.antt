-- The commands of a script are judged.
use Rattle.std.proofs.Common.{ℕ, ◌≡◌, ◌+◌, ◌<◌, ◌≤◌, nat_le, nat_lt, not, Bool, true, false, List, [], ◌∷◌, length, refl, sym, ap, subst, ◌∙◌, arith, Some, None, Option, if◌then◌else◌}
use Rattle.std.proofs.lemmas.Bool.Decides.{nat_tests}
use Rattle.std.specs.Prelude.{option_map, option_and_then, IfSome}
use Rattle.std.specs.Option.{option_or}
use Rattle.fc_values.specs.Types.{Input}
use Rattle.fc_nodes.specs.Program.{Unfolding}
use Rattle.topology.specs.Networks.{Network, lives}
use Rattle.topology.specs.Changes.{first_fault, link_fault, unlink_fault, set_fault, join_fault}
use Rattle.topology.specs.declared.types.NetFault.TheVariants as net
use Rattle.firing_core.specs.Entries.{EditValue, LinkEdit, UnlinkEdit, SetEdit, PokeEdit, JoinEdit, LeaveEdit}
use Rattle.firing_core.specs.Cores.{Core, edit_fault as core_fault}
use Rattle.firing_core.specs.Stretches.{IsMixed}
use Rattle.fc_values.specs.Numbers.{number_of}
use Rattle.edit_commands.specs.declared.scripts.ScriptWord.{ScriptWord}
use Rattle.edit_commands.specs.declared.scripts.ScriptWord.TheVariants as first
use Rattle.edit_commands.specs.declared.scripts.TheConstants.{MOST_LINES, MOST_SCRAMBLES, MOST_FIRINGS}
use Rattle.edit_commands.specs.declared.types.Fault.{Fault}
use Rattle.fc_io.specs.Lines.{lines_of, is_empty, line_text}
use Rattle.edit_commands.specs.Lines.{words_of}
use Rattle.edit_commands.specs.EditLines.{EditLine, LinkLine, UnlinkLine, SetLine, PokeLine, JoinLine, LeaveLine, with_two, edit_line}
use Rattle.edit_commands.specs.LineByLine.{unless_fault, Lines, AllLines, StopsAt, onto, and_lines, lines_from, SaidBy}
use Rattle.edit_commands.specs.Judging.{edit_line_fault, edited_network, IsEdit, fits_kept}
use Rattle.edit_commands.specs.Scripts.{ScriptLine, RunLine, DoLine, ScrambleLine, ShowLine, MixLine, Progress, at_start, flies, firings_after, ScriptLineFault, OfLine, OfFirings, OfScrambles, firings_fault, script_line_fault, progress_after, script_line_judged, script_text_judged, if_some, written_rounds, if_mixed, mixed_edit, script_word, script_line_by, script_line, lines_in, Within, TooManyLines, CommandValue, RunCommand, EditCommand, ScrambleCommand, ShowCommand, MixCommand, IsCommand, CommandFits, AllCommandsFit, SaidByScript}
use Rattle.edit_commands.specs.JudgedCommands.{net_after, IsLeftBy, MayCome, with_net, after_command, AreJudged, ScriptsAreJudged}

-- ---- what a line that is read may be

-- at least one round, and no join or leave among firings
abbrev MayBe : ScriptLine → Type 0
MayBe (RunLine r) = 1 ≤ r
MayBe (DoLine l) = Unit {0}
MayBe (ScrambleLine n) = Unit {0}
MayBe ShowLine = Unit {0}
MayBe (MixLine r l) = (1 ≤ r) × (if_mixed l ≡ Some l)

some_rounds : (o : Option ℕ) → IfSome (option_and_then if_some o) (λ r. 1 ≤ r)
some_rounds None = tt
some_rounds (Some n) = by_test (nat_le 1 n) refl
  where
    by_test : (b : Bool) → nat_le 1 n ≡ b → IfSome (if b then Some n else None) (λ r. 1 ≤ r)
    by_test true e = grind (arith, nat_tests)
    by_test false e = tt

run_may : (o : Option ℕ) → IfSome o (λ r. 1 ≤ r) → IfSome (option_map RunLine o) MayBe
run_may None h = tt
run_may (Some r) h = h

do_may : (o : Option EditLine) → IfSome (option_map DoLine o) MayBe
do_may None = tt
do_may (Some l) = tt

scramble_may : (o : Option ℕ) → IfSome (option_map ScrambleLine o) MayBe
scramble_may None = tt
scramble_may (Some n) = tt

mixed_is : (o : Option EditLine) → IfSome (option_and_then if_mixed o) (λ l. if_mixed l ≡ Some l)
mixed_is None = tt
mixed_is (Some (LinkLine a b w)) = refl
mixed_is (Some (UnlinkLine a b)) = refl
mixed_is (Some (SetLine d i v)) = refl
mixed_is (Some (PokeLine d v ks)) = refl
mixed_is (Some (JoinLine x)) = tt
mixed_is (Some (LeaveLine d)) = tt

mix_may : (o : Option ℕ) (l : Option EditLine) → IfSome o (λ r. 1 ≤ r) → IfSome l (λ m. if_mixed m ≡ Some m) → IfSome (with_two MixLine o l) MayBe
mix_may None l h k = tt
mix_may (Some r) None h k = tt
mix_may (Some r) (Some l) h k = (h, k)

line_may : (is : List Input) (o : Option ScriptWord) (word : List ℕ) (words : List (List ℕ)) → IfSome (script_line_by is o word words) MayBe
line_may is None word words = do_may (edit_line is (word ∷ words))
line_may is (Some first.Run) word [] = tt
line_may is (Some first.Run) word (r ∷ []) = run_may (written_rounds r) (some_rounds (number_of r))
line_may is (Some first.Run) word (r ∷ s ∷ words) = tt
line_may is (Some first.Mix) word [] = tt
line_may is (Some first.Mix) word (r ∷ words) = mix_may (written_rounds r) (mixed_edit is words) (some_rounds (number_of r)) (mixed_is (edit_line is words))
line_may is (Some first.Scramble) word [] = tt
line_may is (Some first.Scramble) word (n ∷ []) = scramble_may (number_of n)
line_may is (Some first.Scramble) word (n ∷ m ∷ words) = tt
line_may is (Some first.Show) word [] = tt
line_may is (Some first.Show) word (w ∷ words) = tt

script_may : (is : List Input) (words : List (List ℕ)) → IfSome (script_line is words) MayBe
script_may is [] = tt
script_may is (word ∷ words) = line_may is (script_word word) word words

-- ---- edits

no_fault : {A B : Type 0} (f : A → B) (o : Option A) → option_map f o ≡ None → o ≡ None
no_fault f None h = refl
no_fault f (Some x) h = absurd cc

poke_there : (b k : Bool) (f g : Fault) → (if b then (if k then None else Some f) else Some g) ≡ None → b ≡ true
poke_there true k f g h = refl
poke_there false k f g h = absurd cc

-- the edit of a line without a fault is allowed
allowed : (U : Unfolding) (start : Core) (p : Progress) (l : EditLine) (e : EditValue) → IsEdit U l e → edit_line_fault U p.net (flies start p.quiet) l ≡ None → (c : Core) → IsLeftBy start p c → core_fault c e ≡ None
allowed U start p (LinkLine a b w) e i h c s = ap (core_fault c) i ∙ ap (λ (n : Network). link_fault n a b w) s.net ∙ no_fault _ _ h
allowed U start p (UnlinkLine a b) e i h c s = ap (core_fault c) i ∙ ap (λ (n : Network). unlink_fault n a b) s.net ∙ no_fault _ _ h
allowed U start p (SetLine d j v) e i h c s = ap (core_fault c) i ∙ ap (λ (n : Network). set_fault n d j v) s.net ∙ no_fault _ _ h
allowed U start p (JoinLine x) e i h c s = ap (core_fault c) i ∙ ap (λ (n : Network). join_fault n x) s.net ∙ no_fault _ _ h
allowed U start p (LeaveLine d) e i h c s =
    ap (core_fault c) i
    ∙ ap (λ (f : Bool). first_fault ((not (lives c.net d), net.NoDevice) ∷ (f, net.InFlight) ∷ (nat_le (length c.net.devices) 1, net.Last) ∷ [])) (s.flights d)
    ∙ ap (λ (n : Network). first_fault ((not (lives n d), net.NoDevice) ∷ (flies start p.quiet d, net.InFlight) ∷ (nat_le (length n.devices) 1, net.Last) ∷ [])) s.net
    ∙ no_fault _ _ h
allowed U start p (PokeLine d v ks) (LinkEdit a b w) i h c s = absurd i
allowed U start p (PokeLine d v ks) (UnlinkEdit a b) i h c s = absurd i
allowed U start p (PokeLine d v ks) (SetEdit e j w) i h c s = absurd i
allowed U start p (PokeLine d v ks) (JoinEdit x) i h c s = absurd i
allowed U start p (PokeLine d v ks) (LeaveEdit e) i h c s = absurd i
allowed U start p (PokeLine d v ks) (PokeEdit e x) i h c s =
    let there : lives c.net e ≡ true = ap (lives c.net) i.0 ∙ ap (λ (n : Network). lives n d) s.net ∙ poke_there (lives p.net d) (fits_kept U v ks) _ _ h in
    ap (λ b. first_fault ((not b, net.NoDevice) ∷ [])) there

net_is : (U : Unfolding) (n : Network) (l : EditLine) (e : EditValue) → IsEdit U l e → net_after n e ≡ edited_network n l
net_is U n (LinkLine a b w) e i = ap (net_after n) i
net_is U n (UnlinkLine a b) e i = ap (net_after n) i
net_is U n (SetLine d j v) e i = ap (net_after n) i
net_is U n (JoinLine x) e i = ap (net_after n) i
net_is U n (LeaveLine d) e i = ap (net_after n) i
net_is U n (PokeLine d v ks) (LinkEdit a b w) i = absurd i
net_is U n (PokeLine d v ks) (UnlinkEdit a b) i = absurd i
net_is U n (PokeLine d v ks) (SetEdit e j w) i = absurd i
net_is U n (PokeLine d v ks) (JoinEdit x) i = absurd i
net_is U n (PokeLine d v ks) (LeaveEdit e) i = absurd i
net_is U n (PokeLine d v ks) (PokeEdit e x) i = refl

-- an edit among firings, whose fault no flight decides
mixed : (U : Unfolding) (l : EditLine) (e : EditValue) → if_mixed l ≡ Some l → IsEdit U l e → IsMixed e
mixed U (LinkLine a b w) e m i = subst IsMixed (sym i) tt
mixed U (UnlinkLine a b) e m i = subst IsMixed (sym i) tt
mixed U (SetLine d j v) e m i = subst IsMixed (sym i) tt
mixed U (JoinLine x) e m i = absurd cc
mixed U (LeaveLine d) e m i = absurd cc
mixed U (PokeLine d v ks) (LinkEdit a b w) m i = absurd i
mixed U (PokeLine d v ks) (UnlinkEdit a b) m i = absurd i
mixed U (PokeLine d v ks) (SetEdit e j w) m i = absurd i
mixed U (PokeLine d v ks) (JoinEdit x) m i = absurd i
mixed U (PokeLine d v ks) (LeaveEdit e) m i = absurd i
mixed U (PokeLine d v ks) (PokeEdit e x) m i = tt

any_flights : (U : Unfolding) (n : Network) (f g : ℕ → Bool) (l : EditLine) → if_mixed l ≡ Some l → edit_line_fault U n f l ≡ edit_line_fault U n g l
any_flights U n f g (LinkLine a b w) m = refl
any_flights U n f g (UnlinkLine a b) m = refl
any_flights U n f g (SetLine d i v) m = refl
any_flights U n f g (PokeLine d v ks) m = refl
any_flights U n f g (JoinLine x) m = refl
any_flights U n f g (LeaveLine d) m = absurd cc

-- ---- commands

within : (p : Progress) (rounds : ℕ) → firings_fault p rounds ≡ None → firings_after p rounds ≤ MOST_FIRINGS
within p rounds h = by_test (nat_lt MOST_FIRINGS (firings_after p rounds)) refl h
  where
    by_test : (b : Bool) → nat_lt MOST_FIRINGS (firings_after p rounds) ≡ b → (if b then Some (OfFirings (firings_after p rounds)) else None) ≡ None → firings_after p rounds ≤ MOST_FIRINGS
    by_test true e g = absurd cc
    by_test false e g = grind (arith, nat_tests)

scrambled : (p : Progress) → (if nat_le MOST_SCRAMBLES p.scrambles then Some (OfScrambles (p.scrambles + 1)) else None) ≡ None → p.scrambles < MOST_SCRAMBLES
scrambled p h = by_test (nat_le MOST_SCRAMBLES p.scrambles) refl h
  where
    by_test : (b : Bool) → nat_le MOST_SCRAMBLES p.scrambles ≡ b → (if b then Some (OfScrambles (p.scrambles + 1)) else None) ≡ None → p.scrambles < MOST_SCRAMBLES
    by_test true e g = absurd cc
    by_test false e g = grind (arith, nat_tests)

first_none : {A : Type 0} (a b : Option A) → option_or a b ≡ None → a ≡ None
first_none None b h = refl
first_none (Some x) b h = absurd cc

second_none : {A : Type 0} (a b : Option A) → option_or a b ≡ None → b ≡ None
second_none None b h = h
second_none (Some x) b h = absurd cc

module _ (U : Unfolding) (start : Core) (p : Progress) where
  -- the command of a line without a fault may come
  may_come : (l : ScriptLine) (c : CommandValue) → MayBe l → script_line_fault U start p l ≡ None → IsCommand U l c → CommandFits U c → MayCome U start p c
  may_come (RunLine r) c m h i f = subst (MayCome U start p) (sym i) (record { some = m; within = within p r h })
  may_come (ScrambleLine n) c m h i f = subst (MayCome U start p) (sym i) (scrambled p h)
  may_come ShowLine c m h i f = subst (MayCome U start p) (sym i) tt
  may_come (DoLine l) (RunCommand r) m h i f = absurd i
  may_come (DoLine l) (ScrambleCommand n) m h i f = absurd i
  may_come (DoLine l) ShowCommand m h i f = absurd i
  may_come (DoLine l) (MixCommand r e) m h i f = absurd i
  may_come (DoLine l) (EditCommand e) m h i f = record { fits = f; allowed = allowed U start p l e i (no_fault OfLine (edit_line_fault U p.net (flies start p.quiet) l) h) }
  may_come (MixLine q l) (RunCommand r) m h i f = absurd i
  may_come (MixLine q l) (EditCommand e) m h i f = absurd i
  may_come (MixLine q l) (ScrambleCommand n) m h i f = absurd i
  may_come (MixLine q l) ShowCommand m h i f = absurd i
  may_come (MixLine q l) (MixCommand r e) m h i f =
      let none : edit_line_fault U p.net (λ d. false) l ≡ None = no_fault OfLine (edit_line_fault U p.net (λ d. false) l) (second_none (firings_fault p (q + 1)) (option_map OfLine (edit_line_fault U p.net (λ d. false) l)) h) in
      let few : firings_after p (q + 1) ≤ MOST_FIRINGS = within p (q + 1) (first_none (firings_fault p (q + 1)) (option_map OfLine (edit_line_fault U p.net (λ d. false) l)) h) in
      record {
        some = subst (λ n. 1 ≤ n) (sym i.0) m.0;
        within = subst (λ n. firings_after p (n + 1) ≤ MOST_FIRINGS) (sym i.0) few;
        mixed = mixed U l e m.1 i.1;
        edit = record { fits = f; allowed = allowed U start p l e i.1 (any_flights U p.net (flies start p.quiet) (λ d. false) l m.1 ∙ none) };
      }

-- what a command leaves is what its line leaves
same_after : (U : Unfolding) (p : Progress) (l : ScriptLine) (c : CommandValue) → IsCommand U l c → progress_after p l ≡ after_command p c
same_after U p (RunLine r) c i = ap (after_command p) (sym i)
same_after U p (ScrambleLine n) c i = ap (after_command p) (sym i)
same_after U p ShowLine c i = ap (after_command p) (sym i)
same_after U p (DoLine l) (RunCommand r) i = absurd i
same_after U p (DoLine l) (ScrambleCommand n) i = absurd i
same_after U p (DoLine l) ShowCommand i = absurd i
same_after U p (DoLine l) (MixCommand r e) i = absurd i
same_after U p (DoLine l) (EditCommand e) i = ap (with_net p) (sym (net_is U p.net l e i))
same_after U p (MixLine q l) (RunCommand r) i = absurd i
same_after U p (MixLine q l) (EditCommand e) i = absurd i
same_after U p (MixLine q l) (ScrambleCommand n) i = absurd i
same_after U p (MixLine q l) ShowCommand i = absurd i
same_after U p (MixLine q l) (MixCommand r e) i =
    ap (λ n. progress_after p (MixLine n l)) (sym i.0) ∙ ap (with_net (after_command p (RunCommand (r + 1)))) (sym (net_is U p.net l e i.1))

-- ---- lines

module _ (U : Unfolding) (start : Core) where
  -- a line, where those after it are judged so
  one_line : (p : Progress) (k : ℕ) (o : Option ScriptLine) (rest : ScriptLine → Lines ScriptLineFault ScriptLine) → IfSome o MayBe
      → ((l : ScriptLine) (cs : List (ℕ × CommandValue)) → SaidBy (IsCommand U) cs (rest l) → AllCommandsFit U cs → AreJudged U start (progress_after p l) cs)
      → (cs : List (ℕ × CommandValue)) → SaidBy (IsCommand U) cs (and_lines k (script_line_judged U start p o) rest) → AllCommandsFit U cs → AreJudged U start p cs
  one_line p k None rest m ih cs s f = absurd s
  one_line p k (Some l) rest m ih cs s f = by_fault (script_line_fault U start p l) refl s
    where
      by_lines : script_line_fault U start p l ≡ None → (r : Lines ScriptLineFault ScriptLine) → rest l ≡ r → (ds : List (ℕ × CommandValue)) → SaidBy (IsCommand U) ds (onto (k, l) r) → AllCommandsFit U ds → AreJudged U start p ds
      by_lines none (StopsAt n x) e ds t g = absurd t
      by_lines none (AllLines ls) e [] t g = absurd t
      by_lines none (AllLines ls) e (d ∷ ds) t g = (
        may_come U start p l d.1 m none t.1 g.0,
        subst (λ q. AreJudged U start q ds) (same_after U p l d.1 t.1) (ih l ds (subst (SaidBy (IsCommand U) ds) (sym e) t.2) g.1),
      )

      by_fault : (r : Option ScriptLineFault) → script_line_fault U start p l ≡ r → SaidBy (IsCommand U) cs (and_lines k (unless_fault r l) rest) → AreJudged U start p cs
      by_fault (Some x) e t = absurd t
      by_fault None e t = by_lines e (rest l) refl cs t f

  judged_lines : (p : Progress) (k : ℕ) (lines : List (List ℕ)) (cs : List (ℕ × CommandValue)) → SaidBy (IsCommand U) cs (lines_from (script_text_judged U start) progress_after p k lines) → AllCommandsFit U cs → AreJudged U start p cs
  judged_lines p k [] [] s f = tt
  judged_lines p k [] (c ∷ cs) s f = absurd s
  judged_lines p k (line ∷ lines) cs s f = by_test (is_empty line) (judged_lines p (k + 1) lines cs) (λ l. judged_lines (progress_after p l) (k + 1) lines) s
    where
      by_test : (b : Bool) → (SaidBy (IsCommand U) cs (lines_from (script_text_judged U start) progress_after p (k + 1) lines) → AllCommandsFit U cs → AreJudged U start p cs)
          → ((l : ScriptLine) (ds : List (ℕ × CommandValue)) → SaidBy (IsCommand U) ds (lines_from (script_text_judged U start) progress_after (progress_after p l) (k + 1) lines) → AllCommandsFit U ds → AreJudged U start (progress_after p l) ds)
          → SaidBy (IsCommand U) cs (if b then lines_from (script_text_judged U start) progress_after p (k + 1) lines else and_lines k (script_text_judged U start p (line_text line)) (λ l. lines_from (script_text_judged U start) progress_after (progress_after p l) (k + 1) lines))
          → AreJudged U start p cs
      by_test true ih ihs t = ih t f
      by_test false ih ihs t =
          one_line p k (script_line p.net.declared.inputs (words_of (line_text line))) (λ l. lines_from (script_text_judged U start) progress_after (progress_after p l) (k + 1) lines) (script_may p.net.declared.inputs (words_of (line_text line))) ihs cs t f

pub scripts_judged : ScriptsAreJudged
unfolding lines_in
scripts_judged U start text cs s f = by_test (nat_lt MOST_LINES (length (lines_of text))) s
  where
    by_test : (b : Bool) → SaidByScript U cs (if b then TooManyLines (length (lines_of text)) else Within (lines_in U start text)) → AreJudged U start (at_start start.net) cs
    by_test true t = absurd t
    by_test false t = judged_lines U start (at_start start.net) 1 (lines_of text) cs t f
