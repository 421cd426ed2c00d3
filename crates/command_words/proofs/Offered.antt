-- The arguments of a command, one for each kind that it takes.
use Rattle.std.proofs.Common.{◌≡◌, Bool, true, false, if◌then◌else◌, List, map, Option, Some, None}
use Rattle.std.specs.List.{list_all}
use Rattle.clap.specs.Simple.{App, built, filled, is_simple, with_index}
use Rattle.clap.specs.Takes.{default_passes, is_valid}
use Rattle.clap.specs.Walk.{Row, Rule, arg_by_id, arg_by_index, arg_by_long}
use Rattle.command_words.specs.declared.choices.CommandName.{CommandName}
use Rattle.command_words.specs.declared.settings.Kind.{Kind}
use Rattle.command_words.specs.declared.settings.Kind.TheVariants as kind
use Rattle.command_words.specs.Options.{rule_for}
use Rattle.command_words.specs.Settings.{id_of}
use Rattle.command_words.specs.Words.{takes}
use Rattle.command_words.proofs.ClapWalk.{IsNamed}
use Rattle.command_words.proofs.AllKinds.{all_kinds, for_all}
use Rattle.command_words.proofs.Rows.{default_in, default_row}

-- the argument of a kind, as `clap` builds it
abbrev pub built_for : Kind → Rule
built_for k = with_index 1 (filled (rule_for k))

-- what a command has for a kind: the argument of its first word, that of its id, and the default
abbrev pub Entry : Type 0
Entry = Option Rule × Option Rule × Option Row

abbrev pub first_by : List Rule → Kind → Option Rule
first_by rules kind.Alone = arg_by_index rules 1
first_by rules k = arg_by_long rules (id_of k)

abbrev pub offered : List Rule → Kind → Entry
offered rules k = (first_by rules k, arg_by_id rules (id_of k), default_in (id_of k) rules)

abbrev pub wanted : Bool → Kind → Entry
wanted taken k = (
  if taken then Some (built_for k) else None,
  if taken then Some (built_for k) else None,
  if taken then default_row (built_for k) else None,
)

-- the command has what it needs for each kind that it takes
pub record Offers (app : App) (name : CommandName) : Type 0 where
  pub named : IsNamed app
  pub simple : is_simple app ≡ true
  pub kinds : map (offered (built app).top.rules) all_kinds ≡ map (λ k. wanted (takes name k) k) all_kinds
  pub defaults : list_all default_passes (built app).top.rules ≡ true
  pub valid : (rows : List Row) → is_valid (built app).top rows false ≡ true

pub kind_offered : (app : App) (name : CommandName) → Offers app name → (k : Kind)
    → offered (built app).top.rules k ≡ wanted (takes name k) k
kind_offered app name is = for_all (offered (built app).top.rules) (λ k. wanted (takes name k) k) is.kinds
