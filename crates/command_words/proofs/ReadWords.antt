-- `clap` reads the words of each command.
use Rattle.std.proofs.Common.{ℕ, ◌≡◌, true, false, is_some, List, [], ◌∷◌, map, refl}
use Rattle.std.specs.List.{list_all}
use Rattle.clap.specs.Simple.{App, built, names_of}
use Rattle.clap.specs.Takes.{default_passes, is_valid}
use Rattle.clap.specs.Walk.{Row}
use Rattle.clap.specs.Words.{is_simple}
use Rattle.clap.proofs.OnLiterals.{clap_on_literals}
use Rattle.command_words.specs.declared.choices.CommandName.{CommandName}
use Rattle.command_words.specs.declared.choices.CommandName.TheVariants.{Check, Stable, Run, Replay, Format, Gen}
use Rattle.command_words.specs.declared.choices.CommandName.TheVariants.{Trace, Mail}
use Rattle.command_words.specs.Options.{asked_of, options_of, plain_app}
use Rattle.command_words.specs.Words.{takes}
use Rattle.command_words.proofs.AllKinds.{all_kinds}
use Rattle.command_words.proofs.Listed.{Reads, reads_words}
use Rattle.command_words.proofs.Offered.{Offers, offered, wanted}

abbrev offers : {app : App} {n : CommandName} → names_of (built app) ≡ [] → app.top.no_binary_name ≡ false
    → is_simple app ≡ true
    → map (offered (built app).top.rules) all_kinds ≡ map (λ k. wanted (takes n k) k) all_kinds
    → list_all default_passes (built app).top.rules ≡ true
    → ((rows : List Row) → is_valid (built app).top rows false ≡ true) → Offers app n
offers names named simple kinds defaults valid = record {
  named = record { names = names; named = named };
  simple = simple;
  kinds = kinds;
  defaults = defaults;
  valid = valid;
}

all_offered : (n : CommandName) (name : List ℕ) → Offers (options_of n name) n
unfolding clap_on_literals options_of plain_app
all_offered Check name = offers refl refl refl refl refl (λ rows. refl)
all_offered Stable name = offers refl refl refl refl refl (λ rows. refl)
all_offered Run name = offers refl refl refl refl refl (λ rows. refl)
all_offered Replay name = offers refl refl refl refl refl (λ rows. refl)
all_offered Format name = offers refl refl refl refl refl (λ rows. refl)
all_offered Gen name = offers refl refl refl refl refl (λ rows. refl)
all_offered Trace name = offers refl refl refl refl refl (λ rows. refl)
all_offered Mail name = offers refl refl refl refl refl (λ rows. refl)

pub are_simple : (n : CommandName) (name : List ℕ) → is_simple (options_of n name) ≡ true
are_simple n name = (all_offered n name).simple

-- words that are inside are read as the choices that they ask for
pub read_words : (n : CommandName) (name : List ℕ) (words : List (List ℕ)) → is_some (asked_of n words) ≡ true
    → Reads n (options_of n name) words (asked_of n words)
read_words n name [] e = cc
read_words n name (word ∷ words) e = reads_words (options_of n name) n (all_offered n name) word words e
