-- What passes to a lock of notes do.
use Rattle.std.specs.Prelude.{ℕ, ◌≡◌, ◌⊎◌, ◌+◌, ◌<◌, ◌≤◌, List, length, Option, Some, None}
use Rattle.std.proofs.lemmas.Option.{none-some}
use Rattle.turn_lock.specs.Logs.{StartsWith, In}
use Rattle.turn_lock.specs.Passes.{PassView, wrote}

-- no note answers another one
abbrev pub nothing : List ℕ → ℕ → Option ℕ
nothing log j = None

pub not_answered : (p j : ℕ) → None ≡ Some p → p < j
not_answered p j e = absurd (none-some p e)

-- there is room for all turns of the lock
abbrev pub HasRoom : PassView ℕ → Type 0
HasRoom v = v.start + v.turns ≤ 16

-- one turn wrote the note x
abbrev pub Noted : PassView ℕ → PassView ℕ → ℕ → Type 0
Noted v w x = (before : List ℕ) × StartsWith before v.seen × (w ≡ wrote v before x)

-- the note x was written n times, and every pass that was split off came back
pub record Went (v w : PassView ℕ) (n x : ℕ) : Type 0 where
  pub lock : w.lock ≡ v.lock
  pub name : w.name ≡ v.name
  pub out : w.out ≡ v.out
  pub begins : StartsWith w.seen v.seen
  pub left : w.left + n ≡ v.left
  pub mine : length w.mine ≡ length v.mine + n
  -- what was written is this note
  pub only : (p e : ℕ) → In (p, e) w.mine → In (p, e) v.mine ⊎ (e ≡ x)
  pub same : (w.turns ≡ v.turns) × (w.start ≡ v.start)
