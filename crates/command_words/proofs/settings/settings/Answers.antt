use Rattle.std.proofs.Common.{◌≡◌, ◌+◌, ◌∷◌, map, drop, string_bytes, sym, ap, ◌∙◌, Some, None}
use Rattle.fc_values.specs.Numbers.{number_of}
use Rattle.command_words.specs.Settings.{option_of, setting_of}
use Rattle.command_words.proofs.Taken.{all_from, front, numbered, sets, sets_nothing, waits}
use Rattle.command_words.proofs.settings.settings.Goals as goal
use Rattle.command_words.proofs.settings.settings.Goals.{in-Some+in-Some-number+in_ok-push, in_default+in-Some-named_option, in_default+in_default-named_option+in-Some-set_by+in_ok-push-2}

pub returns-in_default-set_by : goal.returns-in_default-set_by
returns-in_default-set_by c =
    let read = c.words.settings.items in
    let word = string_bytes c.word-item.result in
    let left = map string_bytes (drop c.words.word-index c.args.words.now) in
    let rest = map string_bytes (drop (c.words.word-index + 1) c.args.words.now) in
    let e : left ≡ word ∷ rest = front string_bytes c.args.words.now c.words.word-index c.word-item.result c.words-test.true c.word-item.is in
    let quiet : c.words.waiting ≡ None = cc in
    let unnamed : None ≡ option_of word = cc in
    let nothing : None ≡ setting_of word = cc in
    sym (sets_nothing read word left rest e unnamed nothing) ∙ ap (λ o. all_from read o left) (sym quiet) ∙ c.words.invariant

pub words-preserved : goal.words-preserved
words-preserved c =
    let read = c.words.settings.items in
    let pushed = c.match-waiting.settings.items in
    let word = string_bytes c.word-item.result in
    let left = map string_bytes (drop c.words.word-index c.args.words.now) in
    let rest = map string_bytes (drop (c.words.word-index + 1) c.args.words.now) in
    let e : left ≡ word ∷ rest = front string_bytes c.args.words.now c.words.word-index c.word-item.result c.words-test.true c.word-item.is in
    elim c.match-waiting.branch [
      | in-Some+in-Some-number+in_ok-push w ↦
          let n : Some w.in-Some-number.value ≡ number_of word = cc in
          ap (λ o. all_from pushed o rest) w.waiting-is
          ∙ numbered read pushed w.in-Some.option w.in-Some-number.value word left rest e n (ap (λ v. v.items) w.settings-is ∙ w.in_ok-push.ensures.items)
          ∙ ap (λ o. all_from read o left) (sym w.in-Some.is) ∙ c.words.invariant
      | in_default+in-Some-named_option w ↦
          let quiet : c.words.waiting ≡ None = cc in
          let n : Some w.in-Some-named_option.option ≡ option_of word = cc in
          ap (λ o. all_from pushed o rest) w.waiting-is ∙ ap (λ v. all_from v.items (Some w.in-Some-named_option.option) rest) w.settings-is
          ∙ waits read w.in-Some-named_option.option word left rest e n ∙ ap (λ o. all_from read o left) (sym quiet) ∙ c.words.invariant
      | in_default+in_default-named_option+in-Some-set_by+in_ok-push-2 w ↦
          let quiet : c.words.waiting ≡ None = cc in
          let unnamed : None ≡ option_of word = cc in
          let n : Some w.in-Some-set_by.setting ≡ setting_of word = cc in
          ap (λ o. all_from pushed o rest) (w.waiting-is ∙ quiet)
          ∙ sets read pushed w.in-Some-set_by.setting word left rest e unnamed n (ap (λ v. v.items) w.settings-is ∙ w.in_ok-push-2.ensures.items)
          ∙ ap (λ o. all_from read o left) (sym quiet) ∙ c.words.invariant
    ]
