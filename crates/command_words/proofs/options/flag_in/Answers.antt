use Rattle.std.proofs.Common.{ℕ, ◌≡◌, Bool, true, false, if◌then◌else◌, List, codes}
use Rattle.std.proofs.Common.{refl, sym, ap, subst, ◌∙◌, Option, Some, None}
use Rattle.clap.specs.Words.{found_of, one_text}
use Rattle.clap.proofs.WalkLemmas.{one_text-rows}
use Rattle.command_words.specs.declared.settings.Flag.{Flag}
use Rattle.command_words.specs.declared.settings.Setting.{Setting}
use Rattle.command_words.specs.declared.settings.Setting.TheVariants as set
use Rattle.command_words.specs.Options.{IsFlag}
use Rattle.command_words.specs.Settings.{flag_name}
use Rattle.command_words.proofs.options.flag_in.Goals as goal

abbrev if_read : Flag → Bool → Option Setting
if_read f b = if b then Some (set.Flag f) else None

read : (text : Option (List ℕ)) (f : Flag) (s : Option Setting) (b : Bool) → IsFlag text f s
    → (text ≡ None → b ≡ false) → (text ≡ Some (codes "true") → b ≡ true) → (text ≡ Some (codes "false") → b ≡ false)
    → if_read f b ≡ s
read None f s b h none yet other = ap (if_read f) (none refl) ∙ sym h
read (Some text) f None b h none yet other = ap (if_read f) (other (ap Some h))
read (Some text) f (Some s) b h none yet other = ap (if_read f) (yet (ap Some h.0)) ∙ ap Some (sym h.1)

pub returns-then-get_flag : goal.returns-then-get_flag
returns-then-get_flag c = λ s h.
    let found = found_of c.args.matches.now in
    let text = ap (one_text found) c.name.ensures ∙ one_text-rows found (flag_name c.args.flag) in
    ap (if_read c.args.flag) (sym c.if-get_flag.true)
    ∙ read _ c.args.flag s c.get_flag.result (subst (λ o. IsFlag o c.args.flag s) (sym text) h)
    c.get_flag.ensures.none c.get_flag.ensures.value c.get_flag.ensures.other

pub returns-else-get_flag : goal.returns-else-get_flag
returns-else-get_flag c = λ s h.
    let found = found_of c.args.matches.now in
    let text = ap (one_text found) c.name.ensures ∙ one_text-rows found (flag_name c.args.flag) in
    ap (if_read c.args.flag) (sym c.if-get_flag.false)
    ∙ read _ c.args.flag s c.get_flag.result (subst (λ o. IsFlag o c.args.flag s) (sym text) h)
    c.get_flag.ensures.none c.get_flag.ensures.value c.get_flag.ensures.other
