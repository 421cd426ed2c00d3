-- Lines that are cut and joined.
use Rattle.std.proofs.Common.{ℕ, ◌≡◌, ◌+◌, List, [], ◌∷◌, ◌++◌, length, refl, sym, ap, subst, ◌∙◌, arith, append_assoc, append-nil, add-zero, length-append}
use Rattle.fc_nodes.specs.Program.{Unfolding}
use Rattle.firing_core.specs.declared.entries.Part.{Part}
use Rattle.firing_core.specs.Cores.{Core}
use Rattle.firing_core.specs.Entries.{EntryValue}
use Rattle.edit_commands.specs.Scripts.{CommandValue}
use Rattle.session.specs.ScriptRuns.{Added, nothing, both, DoesLine, DoesLines}
use Rattle.session.specs.Shown.{Shown}
use Rattle.session.specs.Laws.{InTwo, LinesCut}

both_assoc : (a b c : Added) → both (both a b) c ≡ both a (both b c)
both_assoc a b c =
    let e = append_assoc a.stretch b.stretch c.stretch in
    let f = append_assoc a.parts b.parts c.parts in
    let g = append_assoc a.shown b.shown c.shown in
    cc

abbrev added : List EntryValue → List Part → List Shown → Added
added s p t = record { stretch = s; parts = p; shown = t }

both_nothing : (a : Added) → both a nothing ≡ a
both_nothing a =
    ap (λ l. added l (a.parts ++ []) (a.shown ++ [])) (append-nil a.stretch)
    ∙ ap (λ l. added a.stretch l (a.shown ++ [])) (append-nil a.parts)
    ∙ ap (λ l. added a.stretch a.parts l) (append-nil a.shown)

-- the position after two stretches
behind_both : (at : ℕ) (a b : Added) → at + length (both a b).stretch ≡ at + length a.stretch + length b.stretch
behind_both at a b = omega (arith, length-append a.stretch b.stretch)

module _ (U : Unfolding) where
  moved : (c last : Core) (m n : ℕ) (lines : List (ℕ × CommandValue)) (a : Added) → m ≡ n → DoesLines U c m lines a last → DoesLines U c n lines a last
  moved c last m n lines a e d = subst (λ (i : ℕ). DoesLines U c i lines a last) e d

  pub cut : (c last : Core) (at : ℕ) (front rest : List (ℕ × CommandValue)) (a : Added) → DoesLines U c at (front ++ rest) a last → InTwo U c at front rest a last
  cut c last at [] rest a d = (nothing, a, c, refl, (refl, refl), moved c last at (at + 0) rest a (sym (add-zero at)) d)
  cut c last at (line ∷ lines) rest a d =
      let k = cut d.2 last (at + length d.0.stretch) lines rest d.1 d.5 in (
        both d.0 k.0,
        k.1,
        k.2,
        d.3 ∙ ap (both d.0) k.3 ∙ sym (both_assoc d.0 k.0 k.1),
        (d.0, k.0, d.2, refl, d.4, k.4),
        moved k.2 last _ _ rest k.1 (sym (behind_both at d.0 k.0)) k.5,
      )

  pub join : (c middle last : Core) (at : ℕ) (front rest : List (ℕ × CommandValue)) (x y : Added) → DoesLines U c at front x middle
      → DoesLines U middle (at + length x.stretch) rest y last → DoesLines U c at (front ++ rest) (both x y) last
  join c middle last at [] rest x y f r =
      let first : DoesLines U c (at + length x.stretch) rest y last = subst (λ (k : Core). DoesLines U k (at + length x.stretch) rest y last) f.1 r in
      let here : DoesLines U c at rest y last = moved c last _ _ rest y (ap (λ (a : Added). at + length a.stretch) f.0 ∙ add-zero at) first in
      subst (λ (a : Added). DoesLines U c at rest a last) (ap (λ (a : Added). both a y) (sym f.0)) here
  join c middle last at (line ∷ lines) rest x y f r =
      let after = moved middle last _ _ rest y (ap (λ (a : Added). at + length a.stretch) f.3 ∙ behind_both at f.0 f.1) r in
      (f.0, both f.1 y, f.2, ap (λ (a : Added). both a y) f.3 ∙ both_assoc f.0 f.1 y, f.4, join f.2 middle last (at + length f.0.stretch) lines rest f.1 y f.5 after)

  -- one more line
  pub one_more : (c middle last : Core) (lines : List (ℕ × CommandValue)) (line : ℕ × CommandValue) (x y : Added) → DoesLines U c 0 lines x middle
      → DoesLine U middle (0 + length x.stretch) line y last → DoesLines U c 0 (lines ++ line ∷ []) (both x y) last
  one_more c middle last lines line x y f d = join c middle last 0 lines (line ∷ []) x y f (y, nothing, last, sym (both_nothing y), d, (refl, refl))

pub lines_cut : LinesCut
lines_cut U c last at front rest a = (
  cut U c last at front rest a,
  λ t. subst (λ (b : Added). DoesLines U c at (front ++ rest) b last) (sym t.3) (join U c t.2 last at front rest t.0 t.1 t.4 t.5),
)
