-- What words ask for is a command: there is at least one worker, and `gen` has at least three devices.
use Rattle.std.proofs.Common.{ℕ, ◌≡◌, ◌≤◌, Bool, true, false, ◌&&◌, ◌||◌, not, if◌then◌else◌, List, [], ◌∷◌}
use Rattle.std.proofs.Common.{refl, ap, subst, ◌∙◌, arith, Option, Some, None, option_and_then}
use Rattle.std.specs.Prelude.{IfSome, unwrap_or}
use Rattle.std.specs.List.{list_all}
use Rattle.std.specs.Str.{bytes_eq}
use Rattle.std.proofs.lemmas.Bool.Decides.{nat_tests}
use Rattle.command_words.specs.declared.choices.CommandName.{CommandName}
use Rattle.command_words.specs.declared.choices.CommandName.TheVariants.{Check, Stable, Run, Replay, Format, Gen}
use Rattle.command_words.specs.declared.choices.CommandName.TheVariants.{Trace, Mail}
use Rattle.command_words.specs.declared.commands.Command.TheVariants as command
use Rattle.command_words.specs.declared.commands.Quiet.TheVariants as quiet
use Rattle.command_words.specs.declared.settings.Flag.TheVariants.{Facts, Settle, FromTable, Changes}
use Rattle.command_words.specs.declared.settings.Kind.{Kind}
use Rattle.command_words.specs.declared.settings.Kind.TheVariants as kind
use Rattle.command_words.specs.declared.settings.Numbered.{Numbered}
use Rattle.command_words.specs.declared.settings.Numbered.TheVariants.{Workers, Devices}
use Rattle.command_words.specs.declared.settings.Setting.{Setting}
use Rattle.command_words.specs.declared.settings.Setting.TheVariants as set
use Rattle.command_words.specs.Commands.{IsCommand, start_asked, start_from}
use Rattle.command_words.specs.Settings.{are_once, found, id_of, kind_of, number_in, settings_of}
use Rattle.command_words.specs.Words.{allows, asked, command_from, WordsAskForCommands, command_with, is_enough, is_set}
use Rattle.command_words.specs.Words.{gen_with, name_of, number, takes}
use Rattle.command_words.proofs.ClapWalk.{both}
use Rattle.command_words.proofs.AllKinds.{found_kind}

module _ (name : CommandName) where
  -- what is found among settings that are allowed is great enough
  found_enough : (settings : List Setting) (k : Kind) (s : Setting) → list_all (allows name) settings ≡ true
      → found k settings ≡ Some s → is_enough s ≡ true
  found_enough [] k s allowed e = absurd cc
  found_enough (t ∷ ts) k s allowed e =
      let parts = both (allows name t) (list_all (allows name) ts) allowed in
      go (found_enough ts k s parts.1) (both (takes name (kind_of t)) (is_enough t) parts.0).1
      (bytes_eq (id_of (kind_of t)) (id_of k)) e
    where
      go : (found k ts ≡ Some s → is_enough s ≡ true) → is_enough t ≡ true → (b : Bool)
          → (if b then Some t else found k ts) ≡ Some s → is_enough s ≡ true
      go further here true h = ap is_enough (same h) ∙ here
        where
          same : Some t ≡ Some s → s ≡ t
          same g = cc
      go further here false h = further h

  module _ (settings : List Setting) (allowed : list_all (allows name) settings ≡ true) where
    abbrev look : Kind → Option Setting
    look k = found k settings

    option_enough : (p : Numbered) (least : ℕ) → ((n : ℕ) → is_enough (set.Option p n) ≡ true → least ≤ n)
        → IfSome (number look (kind.Option p)) (λ n. least ≤ n)
    option_enough p least great = go (look (kind.Option p)) (found_kind (kind.Option p) settings)
        (λ s e. found_enough settings (kind.Option p) s allowed e)
      where
        go : (o : Option Setting) → ((s : Setting) → o ≡ Some s → kind_of s ≡ kind.Option p)
            → ((s : Setting) → o ≡ Some s → is_enough s ≡ true)
            → IfSome (option_and_then number_in o) (λ n. least ≤ n)
        go None is enough = tt
        go (Some (set.Flag f)) is enough = absurd (cc (is (set.Flag f) refl))
        go (Some (set.Option q n)) is enough =
            great n (subst (λ r. is_enough (set.Option r n) ≡ true) (same (is (set.Option q n) refl))
            (enough (set.Option q n) refl))
          where
            same : kind.Option q ≡ kind.Option p → q ≡ p
            same h = cc
        go (Some (set.Alone n)) is enough = absurd (cc (is (set.Alone n) refl))

    some_workers : IfSome (number look (kind.Option Workers)) (λ n. 1 ≤ n)
    some_workers = option_enough Workers 1 (λ n e. grind (arith, nat_tests))

    some_devices : IfSome (number look (kind.Option Devices)) (λ n. 3 ≤ n)
    some_devices = option_enough Devices 3 (λ n e. grind (arith, nat_tests))

-- the number that is chosen, or one that is great enough
least : (m other : ℕ) (o : Option ℕ) → m ≤ other → IfSome o (λ n. m ≤ n) → m ≤ unwrap_or o other
least m other None h k = h
least m other (Some n) h k = k

checked : (facts settle from_table b d : Bool) → IfSome (if b then None else (if d
    then Some (command.Quiet (quiet.Changes (record { facts = facts; start = start_from from_table })))
    else Some (command.Quiet (quiet.Check (record { facts = facts; settle = start_asked settle from_table })))))
    IsCommand
checked facts settle from_table true d = tt
checked facts settle from_table false true = tt
checked facts settle from_table false false = tt

chosen_enough : (n : CommandName) (settings : List Setting) → list_all (allows n) settings ≡ true
    → IfSome (command_with n (λ k. found k settings)) IsCommand
chosen_enough Check settings allowed =
    let look : Kind → Option Setting = λ k. found k settings in
    checked (is_set look Facts) (is_set look Settle) (is_set look FromTable)
    ((is_set look FromTable || is_set look Changes) && not (is_set look Settle)) (is_set look Changes)
chosen_enough Stable settings allowed = tt
chosen_enough Run settings allowed =
    record { some = least 1 4 _ (omega (arith)) (some_workers Run settings allowed); work = tt }
chosen_enough Replay settings allowed = tt
chosen_enough Format settings allowed = tt
chosen_enough Trace settings allowed = tt
chosen_enough Mail settings allowed = tt
chosen_enough Gen settings allowed = by_number (number (λ k. found k settings) kind.Alone)
  where
    by_number : (o : Option ℕ) → IfSome (gen_with o (number (λ k. found k settings) (kind.Option Devices))
        (number (λ k. found k settings) (kind.Option Workers))) IsCommand
    by_number None = tt
    by_number (Some n) = record {
      some = least 1 4 _ (omega (arith)) (some_workers Gen settings allowed);
      work = least 3 64 _ (omega (arith)) (some_devices Gen settings allowed);
    }

from_enough : (n : CommandName) (ss : List Setting) → IfSome (command_from n ss) IsCommand
from_enough n ss = by_allowed (list_all (allows n) ss) (are_once ss) refl
  where
    by_allowed : (a b : Bool) → list_all (allows n) ss ≡ a
        → IfSome (if a && b then command_with n (λ k. found k ss) else None) IsCommand
    by_allowed false b refused = tt
    by_allowed true false all = tt
    by_allowed true true all = chosen_enough n ss all

asked_enough : (n : Option CommandName) (ss : Option (List Setting)) → IfSome (asked n ss) IsCommand
asked_enough None ss = tt
asked_enough (Some n) None = tt
asked_enough (Some n) (Some ss) = from_enough n ss

pub words_ask : WordsAskForCommands
words_ask [] = tt
words_ask (program ∷ []) = tt
words_ask (program ∷ name ∷ words) = asked_enough (name_of name) (settings_of words)
