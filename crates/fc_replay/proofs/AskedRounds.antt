-- Where the number of rounds is asked for.
use Rattle.std.proofs.Common.{ℕ, ◌≡◌, Bool, true, false, List, [], subst, sym}
use Rattle.firing_core.specs.Entries.{EntryValue}
use Rattle.fc_replay.specs.Replays.{RoundsAsked}

pub asked : (b : Bool) (live : List ℕ) (log : List EntryValue) (text : List ℕ) → b ≡ true
    → RoundsAsked true live log text → RoundsAsked b live log text
asked b live log text e h = subst (λ c. RoundsAsked c live log text) (sym e) h

pub not_asked : (b : Bool) (live : List ℕ) (log : List EntryValue) (text : List ℕ) → b ≡ false → text ≡ []
    → RoundsAsked b live log text
not_asked b live log text e h = subst (λ c. RoundsAsked c live log text) (sym e) h
